-- What the actions of a call are for. A register PKRU that enables a key other than 0 is marked `Open`, and the register
-- with which a thread starts `Close`. A change comes about by the store that is marked `Commit`. All other actions that
-- calls make now are `Plain`.
use Rattle.std.specs.Prelude.{◌≡◌, ◌⊎◌, ℕ, List, [], ◌∷◌, filter, if◌then◌else◌, ◌==◌}
use Rattle.std.specs.List.{range_with_len}
use Rattle.tr_types.specs.declared.action.Action.{Action}
use Rattle.tr_types.specs.declared.action.Action.TheVariants.{Store, Pkru}
use Rattle.tr_types.specs.declared.entry.Mark.{Mark}
use Rattle.tr_types.specs.declared.entry.Mark.TheVariants.{Plain, Open, Close, Commit}
use Rattle.tr_types.specs.declared.entry.Entry.{Entry}
use Rattle.tr_types.specs.declared.entry.Entry.TheVariants as entry
use Rattle.kern_model.specs.Rights.{may_read, closed_pkru}

-- the keys other than 0 that a register enables
abbrev pub keys_enabled : ℕ → List ℕ
keys_enabled pkru = filter (may_read pkru) (range_with_len 1 15)

abbrev pub mark_by : List ℕ → Mark
mark_by [] = Plain
mark_by (key ∷ keys) = Open

abbrev pub pkru_mark : ℕ → Mark
pkru_mark pkru = if pkru == closed_pkru then Close else mark_by (keys_enabled pkru)

-- The action has its mark. Which of a call's stores is its commit is told by what users see: the words denote it before and
-- after.
abbrev pub IsMarked : Mark → Action → Type 0
IsMarked mark (Pkru pkru) = mark ≡ pkru_mark pkru
IsMarked mark (Store addr word) = (mark ≡ Plain) ⊎ (mark ≡ Commit)
IsMarked mark action = mark ≡ Plain

-- the same of an entry
abbrev pub IsMarkedEntry : Entry → Type 0
IsMarkedEntry (entry.Act thread now mark action answer) = IsMarked mark action
IsMarkedEntry e = Unit {0}
