use Rattle.std.proofs.Common.{◌≡◌, ◌∷◌, []}
use Rattle.page_rights.proofs.tests.a_process_has_fifteen_keys.Given as goal

abbrev pub invariant-loop-id : goal.invariant-loop-id
invariant-loop-id g l = l.tables.threads ≡ (0, 0) ∷ (1, 0) ∷ (2, 1) ∷ []
