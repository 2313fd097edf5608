use Rattle.std.proofs.Common.{◌≡◌, ℕ, ◌<◌, get_or, length, None}
use Rattle.page_rights.proofs.mapping.drop_all.Given as goal

abbrev pub invariant-loop-place : goal.invariant-loop-place
invariant-loop-place l =
    (length l.mappings ≡ length l.initial.mappings)
    × ((k : ℕ) → k < l.place → get_or l.mappings k None ≡ None)
