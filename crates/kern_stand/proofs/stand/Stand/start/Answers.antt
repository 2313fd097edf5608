use Rattle.std.proofs.Common.{◌≡◌, ℕ, suc, List, [], ◌∷◌, ◌++◌, map, refl, sym, subst, arith}
use Rattle.std.specs.Prelude.{Contains}
use Rattle.tr_types.specs.declared.permission.Cred.{Cred}
use Rattle.kern_calls.specs.Calls.{KernelView, with_process}
use Rattle.kern_stand.proofs.stand.Stand.start.Goals as goal

-- the process that was started last is among them
last_among : (processes : List (ℕ × Cred)) (process : ℕ) (cred : Cred) → Contains (map (λ p. p.0) (processes ++ (process, cred) ∷ [])) process
last_among [] process cred = (0, (omega arith), refl)
last_among (p ∷ processes) process cred = later (last_among processes process cred)
  where
    later : Contains (map (λ q. q.0) (processes ++ (process, cred) ∷ [])) process → Contains (map (λ q. q.0) (p ∷ (processes ++ (process, cred) ∷ []))) process
    later (k, lt, at) = (suc k, (omega arith), at)

-- it is, of a kernel with that process
started : (old new : KernelView) (process : ℕ) (cred : Cred) → new ≡ with_process process cred old → Contains (map (λ p. p.0) new.callers.processes) process
started old new process cred after =
    subst (λ (k : KernelView). Contains (map (λ (p : ℕ × Cred). p.0) k.callers.processes) process) (sym after) (last_among old.callers.processes process cred)

pub start_thread-requires-clause-process : goal.start_thread-requires-clause-process
start_thread-requires-clause-process c = started c.args.self.now.kernel _ c.args.process _ c.in_ok-start_process.ensures.ok

pub start_thread-requires-2-clause-process : goal.start_thread-requires-2-clause-process
start_thread-requires-2-clause-process c =
    let among = started c.args.self.now.kernel _ c.args.process _ c.in_ok-start_process.ensures.ok in
    subst (λ (ps : List (ℕ × Cred)). Contains (map (λ (p : ℕ × Cred). p.0) ps) c.args.process) (sym c.start_thread.ensures.processes) among
