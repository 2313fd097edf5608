-- What a row leaves by which a coffer comes or goes, over the words as the kernel reads them.
use Rattle.std.proofs.Common.{◌≡◌, ◌⊎◌, inl, inr, ℕ, ◌+◌, ◌<◌, ◌≤◌, true, false, not, List, [], ◌++◌, length, filter, get_or, Option, refl, sym, ap, ◌∙◌, arith, nat_eq}
use Rattle.std.specs.Prelude.{All}
use Rattle.std.proofs.lemmas.Bool.{not-true, eqb-false, and_parts, true≢false}
use Rattle.std.proofs.lemmas.List.{length-append, length-map}
use Rattle.std.proofs.lemmas.List.Elements.{All-nil, All-filter, filter_passes}
use Rattle.zo_layout.specs.Layout.{kernel_pages, owner_word, word_of, coffer_entry, coffer_state}
use Rattle.pm_words.specs.Word.{Word}
use Rattle.kern_model.specs.KernelView.{pages_of}
use Rattle.kern_model.specs.Journal.{kernel_word}
use Rattle.kern_model.specs.KernelRules.{IsSoundKernel}
use Rattle.kern_model.specs.KernelTables.{Coffer, is_id, is_there, stands_in}
use Rattle.kern_model.specs.PathMap.{added_pairs, dropped_pairs}
use Rattle.kern_model.specs.KernelCalls.{Row, without_coffer}
use Rattle.kern_model.specs.Commits.{IsWorking}
use Rattle.tr_types.specs.declared.kernel_call.KernAnswer.{KernAnswer}
use Rattle.tr_types.specs.declared.kernel_call.Holder.{Holder}
use Rattle.kern_owner.specs.Owners.{owner_pairs}
use Rattle.kern_owner.specs.Laws.{SameTables, TablesPass}
use Rattle.kern_roots.specs.Laws.{AddLaw, DropLaw}
use Rattle.kern_owner.proofs.LawLemmas.{pass_keeps}
use Rattle.kern_roots.proofs.ReadingSound.{root_is_there}
use Rattle.kern_laws.specs.Rows.{KeepsTables}
use Rattle.kern_laws.proofs.MoveReads.{AreParts, entry_placed, in_tables}
use Rattle.kern_laws.proofs.MoveOwners.{id_bounds, used_has, owners_placed}
use Rattle.kern_laws.proofs.MoveEntries.{added_placed, dropped_placed, added_length, dropped_length}
use Rattle.kern_laws.proofs.MoveHomes.{IsPlace, all_placed, may_commit, all_spare}
use Rattle.kern_laws.proofs.MoveAdd.{IsComing, pairs_of, still_stands, come_passes}
use Rattle.kern_laws.proofs.MoveDrop.{IsGoing, others_stand, go_passes}

pub tables_pass : (words : List Word) → IsSoundKernel words → TablesPass (pages_of words) (kernel_word words)
tables_pass words sound = record { owners = sound.owners; entries = sound.entries; buckets = sound.buckets }

-- a row with these pages and pairs, and these holders after
abbrev pub row_with : List (Option KernAnswer) → KernAnswer → List ℕ → List (ℕ × ℕ) → List Holder → Row
row_with refusals reply granted pairs holders = record { refusals = refusals; answer = reply; granted = granted; pairs = pairs; holders = holders }

-- A coffer comes.

coming_parts : (pages : ℕ) (at : ℕ → ℕ) (c : Coffer) (list : List ℕ) (linking : List (ℕ × ℕ)) → IsComing pages at c list linking → AreParts pages (owner_pairs pages c.id list) (added_pairs pages at c) linking
coming_parts pages at c list linking comes =
    let bounds = id_bounds c.id comes.number in
    record { owners = owners_placed pages c.id list comes.inside; entries = added_placed pages at c bounds.0 bounds.1; others = comes.links }

coming_length : (pages : ℕ) (at : ℕ → ℕ) (c : Coffer) (list : List ℕ) (linking : List (ℕ × ℕ)) → length (pairs_of pages at c list linking) ≡ length list + (65 + length linking)
coming_length pages at c list linking =
    let owners : length (owner_pairs pages c.id list) ≡ length list = length-map list (λ (page : ℕ). (owner_word pages page, c.id)) in
    let entries = added_length pages at c in
    let later = length-append (added_pairs pages at c) linking in
    let whole = length-append (owner_pairs pages c.id list) (added_pairs pages at c ++ linking) in
    omega arith

pub coming_keeps : AddLaw → (words : List Word) (holders : List Holder) → IsWorking words holders → (c : Coffer) (list : List ℕ) (linking : List (ℕ × ℕ)) → IsComing (pages_of words) (kernel_word words) c list linking
    → (granted : List ℕ) → All (λ page. kernel_pages (pages_of words) ≤ page) granted → All (λ page. page < pages_of words) granted → length list + length linking ≤ pages_of words + 400
    → (refusals : List (Option KernAnswer)) (reply : KernAnswer) → KeepsTables words (row_with refusals reply granted (pairs_of (pages_of words) (kernel_word words) c list linking) holders)
coming_keeps add words holders works c list linking comes granted behind inside count refusals reply = record {
  may = may_commit words granted pairs works.size works.idle behind inside places few;
  spares = all_spare (pages_of words) pairs places;
  tables = λ after same. come_passes add (pages_of words) (kernel_word words) after c list linking comes same;
  ids = works.ids;
  held = λ after same k d lt. still_stands add (pages_of words) (kernel_word words) after c list linking comes same (get_or holders k d).id (works.ids k d lt) (works.held k d lt);
}
  where
    pairs : List (ℕ × ℕ)
    pairs = pairs_of (pages_of words) (kernel_word words) c list linking

    places : All (λ (p : ℕ × ℕ). IsPlace (pages_of words) p.0) pairs
    places =
        all_placed (pages_of words) (owner_pairs (pages_of words) c.id list) (added_pairs (pages_of words) (kernel_word words) c) linking works.size.least
        (coming_parts (pages_of words) (kernel_word words) c list linking comes)

    few : length pairs ≤ pages_of words + 512
    few = let long = coming_length (pages_of words) (kernel_word words) c list linking in omega arith

-- A coffer goes.

going_parts : (pages : ℕ) (at : ℕ → ℕ) (id : ℕ) (owning linking : List (ℕ × ℕ)) → IsGoing pages at id owning linking → AreParts pages owning (dropped_pairs pages at id) linking
going_parts pages at id owning linking goes =
    let bounds = id_bounds id (and_parts (is_id id) (stands_in pages at id) (used_has pages at id goes.used)).0 in
    record { owners = goes.owners; entries = dropped_placed pages at id bounds.0 bounds.1 goes.passes.buckets; others = goes.links }

going_length : (pages : ℕ) (at : ℕ → ℕ) (id : ℕ) (owning linking : List (ℕ × ℕ)) → length (owning ++ (dropped_pairs pages at id ++ linking)) ≡ length owning + (65 + length linking)
going_length pages at id owning linking =
    let entries = dropped_length pages at id in
    let later = length-append (dropped_pairs pages at id) linking in
    let whole = length-append owning (dropped_pairs pages at id ++ linking) in
    omega arith

pub going_keeps : DropLaw → (words : List Word) (holders : List Holder) → IsWorking words holders → (id : ℕ) (owning linking : List (ℕ × ℕ)) → IsGoing (pages_of words) (kernel_word words) id owning linking
    → length owning + length linking ≤ pages_of words + 400 → (refusals : List (Option KernAnswer)) (reply : KernAnswer)
    → KeepsTables words (row_with refusals reply [] (owning ++ (dropped_pairs (pages_of words) (kernel_word words) id ++ linking)) (without_coffer id holders))
going_keeps drop words holders works id owning linking goes count refusals reply = record {
  may = may_commit words [] pairs works.size works.idle (All-nil (λ page. kernel_pages (pages_of words) ≤ page)) (All-nil (λ page. page < pages_of words)) places few;
  spares = all_spare (pages_of words) pairs places;
  tables = λ after same. go_passes drop (pages_of words) (kernel_word words) after id owning linking goes same;
  ids = ids;
  held = λ after same k d lt. others_stand drop (pages_of words) (kernel_word words) after id owning linking goes same (get_or rest k d).id (ids k d lt)
      (eqb-false (get_or rest k d).id id (not-true (nat_eq (get_or rest k d).id id) (filter_passes (λ (h : Holder). not (nat_eq h.id id)) holders k d lt)))
      (All-filter (λ (h : Holder). not (nat_eq h.id id)) (λ (h : Holder). stands_in (pages_of words) (kernel_word words) h.id ≡ true) holders works.held k d lt);
}
  where
    pairs : List (ℕ × ℕ)
    pairs = owning ++ (dropped_pairs (pages_of words) (kernel_word words) id ++ linking)

    rest : List Holder
    rest = filter (λ (h : Holder). not (nat_eq h.id id)) holders

    ids : All (λ (h : Holder). is_id h.id ≡ true) rest
    ids = All-filter (λ (h : Holder). not (nat_eq h.id id)) (λ (h : Holder). is_id h.id ≡ true) holders works.ids

    places : All (λ (p : ℕ × ℕ). IsPlace (pages_of words) p.0) pairs
    places =
        all_placed (pages_of words) owning (dropped_pairs (pages_of words) (kernel_word words) id) linking works.size.least
        (going_parts (pages_of words) (kernel_word words) id owning linking goes)

    few : length pairs ≤ pages_of words + 512
    few = let long = going_length (pages_of words) (kernel_word words) id owning linking in omega arith

-- Nothing changes.

stands_same : (pages : ℕ) (at after : ℕ → ℕ) (id : ℕ) → SameTables pages at after → is_id id ≡ true → stands_in pages after id ≡ stands_in pages at id
stands_same pages at after id same number =
    let bounds = id_bounds id number in
    let first : word_of (coffer_entry pages id) 0 ≡ coffer_state (coffer_entry pages id) = omega arith in
    ap is_there (ap after (sym first) ∙ in_tables pages (word_of (coffer_entry pages id) 0) at after same (entry_placed pages id 0 bounds.0 bounds.1 (omega arith)) ∙ ap at first)

same_pass : (pages : ℕ) (at after : ℕ → ℕ) → SameTables pages at after → TablesPass pages at → TablesPass pages after
same_pass pages at after same passes =
    pass_keeps pages 1 [] at after same (All-nil (λ page. page < pages)) (All-nil (λ page. kernel_pages pages ≤ page)) (λ id low high ne takes. none (takes.taken)) refl
    (and_parts (is_id 1) (stands_in pages at 1) (root_is_there pages at (passes.entries 1 (omega arith) (omega arith)))).1 passes
  where
    none : (false ≡ true) ⊎ (false ≡ true) → ⊥
    none (inl is) = true≢false (sym is)
    none (inr is) = true≢false (sym is)

pub unchanged_keeps : (words : List Word) (holders : List Holder) → IsWorking words holders → (refusals : List (Option KernAnswer)) (reply : KernAnswer) → KeepsTables words (row_with refusals reply [] [] holders)
unchanged_keeps words holders works refusals reply = record {
  may = may_commit words [] [] works.size works.idle (All-nil (λ page. kernel_pages (pages_of words) ≤ page)) (All-nil (λ page. page < pages_of words)) (All-nil (λ (p : ℕ × ℕ). IsPlace (pages_of words) p.0)) (omega arith);
  spares = all_spare (pages_of words) [] (All-nil (λ (p : ℕ × ℕ). IsPlace (pages_of words) p.0));
  tables = λ after same. same_pass (pages_of words) (kernel_word words) after same (tables_pass words works.sound);
  ids = works.ids;
  held = λ after same k d lt. stands_same (pages_of words) (kernel_word words) after (get_or holders k d).id same (works.ids k d lt) ∙ works.held k d lt;
}
