use Rattle.std.proofs.Common.{◌≡◌, ◌∙◌}
use Rattle.zo_hash_dir.proofs.Lettering.{has_letters_is}
use Rattle.zo_hash_dir.proofs.name.Name.has_letters.Goals as goal

pub returns-in-Some : goal.returns-in-Some
returns-in-Some c =
    let bytes : c.deref.result.now ≡ c.args.self.now = c.deref.ensures.value ∙ c.self.view_is in
    rw (← bytes)
    (has_letters_is c.deref.result.now c.in-Some.letters.now c.args.i c.args.word c.begins_with.result c.in-Some.ensures.letters c.in-Some.ensures.some
    c.begins_with.ensures.0 c.begins_with.ensures.1)
