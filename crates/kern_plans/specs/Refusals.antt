-- What refuses a call, by parts of its row.
use Rattle.std.specs.Prelude.{◌≡◌, ℕ, List, [], ◌∷◌, Option, Some, None, is_some, Result, Ok, Err, ⊤, ◌==◌}
use Rattle.pm_words.specs.Word.{Word}
use Rattle.kern_model.specs.Kernel.{coffers}
use Rattle.kern_model.specs.PathMap.{coffer_at_path}
use Rattle.tr_types.specs.Permission.{refuses, own_right}
use Rattle.kern_model.specs.KernelCalls.{Callers, cred_of, first_due, refused_where, next_id, is_bad_new_path, pages_refused, guard_refused, link_refused}
use Rattle.tr_types.specs.declared.permission.Perm.{Perm}
use Rattle.tr_types.specs.declared.kernel_call.KernAnswer.{KernAnswer}
use Rattle.tr_types.specs.declared.kernel_call.KernAnswer.TheVariants.{Denied, BadPath, Taken, TooMany, NoCoffer, NoMemory}
use Rattle.kern_roots.specs.declared.types.RootsFault.{RootsFault}
use Rattle.kern_roots.specs.declared.types.RootsFault.TheVariants as roots
use Rattle.kern_plans.specs.declared.linking.Linking.{Linking}
use Rattle.kern_plans.specs.Links.{link_of, guard_of}

-- some of a row's refusals: none is due, or the first that is is answered; memory may run out
abbrev pub TellsFirstDue : {X : Type 0} → List (Option KernAnswer) → Result X KernAnswer → Type 0
TellsFirstDue refusals (Ok x) = first_due refusals ≡ None
TellsFirstDue refusals (Err NoMemory) = ⊤
TellsFirstDue refusals (Err refusal) = first_due refusals ≡ Some refusal

-- the right Own is refused
abbrev pub own_refused : Callers → ℕ → Perm → Option KernAnswer
own_refused callers thread perm = refused_where (refuses perm (cred_of callers thread) own_right) (Denied own_right 0 0)

-- what refuses a link and a guard, and pages that are listed with them
abbrev pub linking_refusals : List Word → ℕ → ℕ → Linking → ℕ → List ℕ → List ℕ → List (Option KernAnswer)
linking_refusals words now parent linking id kept pages =
    pages_refused words parent (linking.link.addr ∷ linking.guard.addr ∷ []) id kept pages
    ∷ guard_refused words now (guard_of linking.guard)
    ∷ link_refused words (link_of linking.link)
    ∷ []

-- what refuses an entry of the coffer table to a new coffer
abbrev pub entry_refusals : List Word → List ℕ → List (Option KernAnswer)
entry_refusals words path = refused_where (is_some (coffer_at_path (coffers words) path)) Taken ∷ refused_where (next_id words == 0) TooMany ∷ []

-- what refuses that a coffer is split off, before it is tried whether there is room for it
abbrev pub piece_refusals : List Word → ℕ → ℕ → List ℕ → List ℕ → List ℕ → Linking → List (Option KernAnswer)
piece_refusals words now id path kept pages linking = refused_where (is_bad_new_path words id path) BadPath ∷ linking_refusals words now id linking id kept pages

-- what is answered where the coffer table gives none
abbrev pub refusal_of : RootsFault → KernAnswer
refusal_of roots.Taken = Taken
refusal_of roots.TooMany = TooMany
refusal_of roots.NoCoffer = NoCoffer
refusal_of roots.NoMemory = NoMemory
