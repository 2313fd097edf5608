use Rattle.std.proofs.Common.{◌≡◌, ◌≢◌, ℕ, ◌<◌, ◌/◌, ◌%◌, get_or, length, None}
use Rattle.page_rights.proofs.mapping.drop_process.Given as goal

abbrev pub invariant-loop-id : goal.invariant-loop-id
invariant-loop-id l =
    (length l.mappings ≡ length l.initial.mappings)
    × ((k : ℕ) → k % 257 < l.id → k / 257 ≡ l.process → get_or l.mappings k None ≡ None)
    × ((k : ℕ) → k / 257 ≢ l.process → get_or l.mappings k None ≡ get_or l.initial.mappings k None)
