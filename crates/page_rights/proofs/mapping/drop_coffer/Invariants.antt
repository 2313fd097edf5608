use Rattle.std.proofs.Common.{◌≡◌, ◌≢◌, ℕ, ◌<◌, ◌/◌, ◌%◌, get_or, length, None}
use Rattle.page_rights.proofs.mapping.drop_coffer.Given as goal

abbrev pub invariant-loop-process : goal.invariant-loop-process
invariant-loop-process l =
    (length l.mappings ≡ length l.initial.mappings)
    × ((k : ℕ) → k / 257 < l.process → k % 257 ≡ l.id → get_or l.mappings k None ≡ None)
    × ((k : ℕ) → k % 257 ≢ l.id → get_or l.mappings k None ≡ get_or l.initial.mappings k None)
