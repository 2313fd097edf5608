use Rattle.std.proofs.Common.{◌≡◌, ℕ, List, ◌++◌, ap, sym, ◌∙◌, arith}
use Rattle.std.specs.List.{range_with_len, flat_map}
use Rattle.std.specs.Int.{w64, to_le_bytes}
use Rattle.zo_layout.specs.Layout.{coffer_entry, coffer_path_length, coffer_path_word}
use Rattle.kern_model.specs.KernelTables.{path_length}
use Rattle.kern_model.specs.KernelView.{pages_of}
use Rattle.kern_model.specs.Journal.{kernel_word}
use Rattle.kern_view.proofs.ReadLemmas.{flat_more, path_end}
use Rattle.kern_view.proofs.tables.read_path.Goals as goal

pub loop-i-preserved : goal.loop-i-preserved
loop-i-preserved c =
    let words = c.args.view.now in
    let f = λ (i : ℕ). to_le_bytes w64 (kernel_word words (coffer_path_word (coffer_entry (pages_of words) c.args.id) i)) in
    let addr : c.coffer_path_word.result ≡ coffer_path_word (coffer_entry (pages_of words) c.args.id) c.loop-i.i =
    c.coffer_path_word.ensures
    ∙ ap (λ (entry : ℕ). coffer_path_word entry c.loop-i.i) (c.coffer_entry-entry.ensures ∙ ap (λ (pages : ℕ). coffer_entry pages c.args.id) c.pages.ensures.pages) in
    let word : c.word.result ≡ kernel_word words (coffer_path_word (coffer_entry (pages_of words) c.args.id) c.loop-i.i) =
    c.word.ensures ∙ ap (kernel_word words) addr in
    c.in_ok-extend_from_slice.ensures.items
    ∙ ap (λ (bytes : List ℕ). bytes ++ c.to_le_bytes.result) c.loop-i.invariant
    ∙ ap (λ (more : List ℕ). flat_map f (range_with_len 0 c.loop-i.i) ++ more) (c.to_le_bytes.ensures ∙ ap (to_le_bytes w64) word)
    ∙ sym (flat_more f c.loop-i.i)

pub returns : goal.returns
returns c =
    let words = c.args.view.now in
    let end : c.loop-i.i ≡ 55 = omega arith in
    let entry : c.coffer_entry-entry.result ≡ coffer_entry (pages_of words) c.args.id =
    c.coffer_entry-entry.ensures ∙ ap (λ (pages : ℕ). coffer_entry pages c.args.id) c.pages.ensures.pages in
    let long : c.word-length.result ≡ path_length (pages_of words) (kernel_word words) c.args.id =
    c.word-length.ensures ∙ ap (kernel_word words) (c.coffer_path_length.ensures ∙ ap coffer_path_length entry) in
    c.new-2.ensures ∙ c.truncate.ensures.items
    ∙ path_end (pages_of words) (kernel_word words) c.args.id c.loop-i.i c.word-length.result c.loop-i.bytes.items c.loop-i.invariant end long (omega arith)
