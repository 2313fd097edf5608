-- What the text of a kernel's answer shows: not whose a coffer is, nor which coffer a refusal is about.
use Rattle.std.specs.Prelude.{Option, Some, None}
use Rattle.tr_types.specs.declared.kernel_call.KernAnswer.{KernAnswer}
use Rattle.tr_types.specs.declared.kernel_call.KernAnswer.TheVariants as answer
use Rattle.tr_types.specs.declared.kernel_call.FoundAt.{FoundAt}
use Rattle.tr_types.specs.declared.kernel_call.Mapped.{Mapped}
use Rattle.tr_types.specs.declared.permission.Perm.{Perm}

-- what stands in the place of a permission that isn't shown
abbrev pub no_perm : Perm
no_perm = record { uid = 0; gid = 0; mode = 0 }

abbrev pub shown_found : FoundAt → FoundAt
shown_found f = record { id = f.id; exact = f.exact; path_len = f.path_len; perm = no_perm }

abbrev pub shown_second : Option FoundAt → Option FoundAt
shown_second None = None
shown_second (Some f) = Some (shown_found f)

abbrev pub shown_mapped : Mapped → Mapped
shown_mapped m = record { id = m.id; key = m.key; control = m.control; root = m.root; pages = m.pages; path_len = m.path_len; perm = no_perm }

-- the answer with zeros in all that its text doesn't show; two answers have one text exactly where these are equal
abbrev pub shown : KernAnswer → KernAnswer
shown (answer.Found first second) = answer.Found (shown_found first) (shown_second second)
shown (answer.Mapped m) = answer.Mapped (shown_mapped m)
shown (answer.Denied right id path_len) = answer.Denied right 0 0
shown (answer.Quarantined id path_len) = answer.Quarantined 0 0
shown (answer.InUse thread id path_len) = answer.InUse thread 0 0
shown (answer.NoKey id path_len) = answer.NoKey 0 0
shown answer = answer
