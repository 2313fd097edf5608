use Rattle.std.proofs.Common.{◌≡◌, ℕ, take, unwrap_or, nat_eq}
use Rattle.std.specs.Map.{lookup}
use Rattle.kern_model.specs.Journal.{laid_over}
use Rattle.kern_view.proofs.overlay.Overlay.of.Given as goal

abbrev pub invariant-loop-addr : goal.invariant-loop-addr
invariant-loop-addr l =
    (addr default : ℕ) → unwrap_or (lookup (nat_eq addr) l.values.entries) default ≡ laid_over (take l.addr-index l.pairs) addr default
