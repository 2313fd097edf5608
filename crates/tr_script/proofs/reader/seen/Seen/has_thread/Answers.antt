use Rattle.std.proofs.Common.{◌≡◌, ◌∙◌, ap, sym, ◌==◌}
use Rattle.std.specs.List.{list_any}
use Rattle.tr_script.proofs.WordLemmas.{found_among, among_found}
use Rattle.tr_script.proofs.reader.seen.Seen.has_thread.Goals as goal

pub returns : goal.returns
returns c =
    let threads : c.self.inside.threads.items ≡ c.args.self.now.threads = λ i. (c.self.view_is i).threads in
    let items = c.deref.ensures.value ∙ threads in
    let is = c.is_among.ensures ∙ ap (list_any (λ t. t.0 == c.args.thread)) items in
    ((λ found. found_among c.args.self.now.threads c.args.thread (sym is ∙ found)), (λ there. is ∙ among_found c.args.self.now.threads c.args.thread there))
