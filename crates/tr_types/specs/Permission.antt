-- What a coffer's permission gives to whom.
use Rattle.std.specs.Prelude.{ℕ, ◌-◌, ◌/◌, ◌%◌, ◌^◌, List, ◌++◌, length, take, replicate, Bool, not, if◌then◌else◌, ◌==◌, ◌&&◌, ◌||◌}
use Rattle.std.specs.List.{list_any}
use Rattle.tr_types.specs.declared.permission.Cred.{Cred}
use Rattle.tr_types.specs.declared.permission.Groups.{Groups}
use Rattle.tr_types.specs.declared.permission.Perm.{Perm}
use Rattle.tr_types.specs.declared.permission.Right.{Right}

-- bit i of a word
abbrev pub has_bit : ℕ → ℕ → Bool
has_bit word i = word / 2 ^ i % 2 == 1

-- the numbers of a process's further groups
abbrev pub group_ids : Groups → List ℕ
group_ids groups = take groups.count groups.ids

-- the further groups with these numbers, of which there are at most 16
abbrev pub groups_of : List ℕ → Groups
groups_of ids = record { count = length ids; ids = ids ++ replicate (16 - length ids) 0 }

-- no further groups
abbrev pub no_groups : Groups
no_groups = record { count = 0; ids = replicate 16 0 }

-- the group is the caller's own, or one of its further groups
abbrev pub is_in_group : Cred → ℕ → Bool
is_in_group cred gid = cred.gid == gid || list_any (λ id. id == gid) (group_ids cred.groups)

-- the octal digit of a mode that counts for a caller: the owner's, else that of its groups, else the third
abbrev pub digit_for : Perm → Cred → ℕ
digit_for perm cred =
    if cred.uid == perm.uid then perm.mode / 64 % 8 else (if is_in_group cred perm.gid then perm.mode / 8 % 8 else perm.mode % 8)

-- A right of the set isn't given: Read (bit 0) needs 4 in the digit, Write (bit 1) needs 2, Own (bit 2) the owner's uid. Uid 0 is refused
-- nothing.
abbrev pub refuses : Perm → Cred → Right → Bool
refuses perm cred right =
    not (cred.uid == 0)
    && ((has_bit right.0 0 && not (has_bit (digit_for perm cred) 2)) || (has_bit right.0 1 && not (has_bit (digit_for perm cred) 1)) || (has_bit right.0 2 && not (cred.uid == perm.uid)))

abbrev pub own_right : Right
own_right = record { 0 = 4 }
