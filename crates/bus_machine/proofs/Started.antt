-- Who was started.
use Rattle.std.proofs.Common.{◌≡◌, ℕ, ◌<◌, ◌↔◌, List, [], ◌∷◌, ◌++◌, length, map, Bool, true, false, cond, refl, sym, ap, ◌∙◌, subst, ◌⊎◌, inl, inr, Option, Some, None, nat_eq, arith, suc, zero, slice_index_or}
use Rattle.std.specs.Prelude.{Contains, is_some}
use Rattle.std.specs.List.{list_any}
use Rattle.std.proofs.lemmas.List.{map-append}
use Rattle.std.proofs.lemmas.List.Elements.{Contains-push_cases}
use Rattle.std.proofs.lemmas.Bool.{eq-eqb, eqb-true, or_cases, or_left, or_right}
use Rattle.kern_model.specs.Rights.{process_of}
use Rattle.kern_model.specs.KernelCalls.{Callers}
use Rattle.tr_types.specs.declared.permission.Cred.{Cred}
use Rattle.kern_calls.specs.Calls.{has_process}

-- the numbers of the threads
abbrev pub numbers : List (ℕ × ℕ) → List ℕ
numbers threads = map (λ t. t.0) threads

-- a thread with a process was started
pub started : (threads : List (ℕ × ℕ)) (thread : ℕ) → is_some (process_of threads thread) ≡ true → Contains (numbers threads) thread
started [] thread some = absurd cc
started ((t, p) ∷ threads) thread some = by (λ e. started threads thread e) (nat_eq t thread) refl some
  where
    later : Contains (numbers threads) thread → Contains (numbers ((t, p) ∷ threads)) thread
    later (k, lt, at) = (suc k, (omega arith), at)

    by : (is_some (process_of threads thread) ≡ true → Contains (numbers threads) thread) → (b : Bool) → nat_eq t thread ≡ b → is_some (cond b (Some p) (process_of threads thread)) ≡ true → Contains (numbers ((t, p) ∷ threads)) thread
    by rest true is some = (0, (omega arith), eqb-true t thread is)
    by rest false is some = later (rest some)

-- and each one that was started has a process
is_among : (threads : List (ℕ × ℕ)) (thread k : ℕ) → k < length (numbers threads) → slice_index_or (numbers threads) k thread ≡ thread → is_some (process_of threads thread) ≡ true
is_among [] thread k lt at = absurd (omega arith)
is_among ((t, p) ∷ threads) thread k lt at = by (λ j below is. is_among threads thread j below is) (nat_eq t thread) refl k lt at
  where
    by : ((j : ℕ) → j < length (numbers threads) → slice_index_or (numbers threads) j thread ≡ thread → is_some (process_of threads thread) ≡ true) → (b : Bool) → nat_eq t thread ≡ b → (k : ℕ) → k < length (numbers ((t, p) ∷ threads)) → slice_index_or (numbers ((t, p) ∷ threads)) k thread ≡ thread → is_some (cond b (Some p) (process_of threads thread)) ≡ true
    by rest true is k lt at = refl
    by rest false is zero lt at = absurd (let yes = eq-eqb t thread at in cc)
    by rest false is (suc k) lt at = rest k (omega arith) at

pub has_number : (threads : List (ℕ × ℕ)) (thread : ℕ) → Contains (numbers threads) thread → is_some (process_of threads thread) ≡ true
has_number threads thread (k, lt, at) = is_among threads thread k lt at

pub thread_iff : (threads : List (ℕ × ℕ)) (thread : ℕ) (b : Bool) → b ≡ is_some (process_of threads thread) → (b ≡ true) ↔ Contains (numbers threads) thread
thread_iff threads thread b is = (λ yes. started threads thread (sym is ∙ yes), λ among. is ∙ has_number threads thread among)

pub none_started : (threads : List (ℕ × ℕ)) (thread : ℕ) → (Contains (numbers threads) thread → ⊥) → process_of threads thread ≡ None
none_started threads thread fresh = by (process_of threads thread) refl
  where
    by : (o : Option ℕ) → process_of threads thread ≡ o → process_of threads thread ≡ None
    by None is = is
    by (Some p) is = absurd (fresh (started threads thread (ap (λ (o : Option ℕ). is_some o) is)))

-- Processes by their numbers.

pub among_processes : (processes : List (ℕ × Cred)) (process : ℕ) → list_any (λ p. nat_eq p.0 process) processes ≡ true → Contains (map (λ p. p.0) processes) process
among_processes [] process any = absurd cc
among_processes (p ∷ processes) process any = by (or_cases (nat_eq p.0 process) (list_any (λ q. nat_eq q.0 process) processes) any) (among_processes processes process)
  where
    later : Contains (map (λ q. q.0) processes) process → Contains (map (λ q. q.0) (p ∷ processes)) process
    later (k, lt, at) = (suc k, (omega arith), at)

    by : (nat_eq p.0 process ≡ true) ⊎ (list_any (λ q. nat_eq q.0 process) processes ≡ true) → (list_any (λ q. nat_eq q.0 process) processes ≡ true → Contains (map (λ q. q.0) processes) process) → Contains (map (λ q. q.0) (p ∷ processes)) process
    by (inl here) rest = (0, (omega arith), eqb-true p.0 process here)
    by (inr there) rest = later (rest there)

pub processes_among : (processes : List (ℕ × Cred)) (process : ℕ) → Contains (map (λ p. p.0) processes) process → list_any (λ p. nat_eq p.0 process) processes ≡ true
processes_among [] process (k, lt, at) = absurd (omega arith)
processes_among (p ∷ processes) process (zero, lt, at) = or_left (nat_eq p.0 process) (list_any (λ q. nat_eq q.0 process) processes) (eq-eqb p.0 process at)
processes_among (p ∷ processes) process (suc k, lt, at) = or_right (nat_eq p.0 process) (list_any (λ q. nat_eq q.0 process) processes) (processes_among processes process (k, (omega arith), at))

pub process_iff : (callers : Callers) (process : ℕ) (b : Bool) → b ≡ has_process callers process → (b ≡ true) ↔ Contains (map (λ p. p.0) callers.processes) process
process_iff callers process b is = (λ yes. among_processes callers.processes process (sym is ∙ yes), λ among. is ∙ processes_among callers.processes process among)

-- with one more process
pub small_more : (processes : List (ℕ × Cred)) (process : ℕ) (cred : Cred) → ((p : ℕ) → Contains (map (λ q. q.0) processes) p → p < 64) → process < 64
    → (p : ℕ) → Contains (map (λ q. q.0) (processes ++ (process, cred) ∷ [])) p → p < 64
small_more processes process cred small lt p among =
    by (Contains-push_cases (map (λ (q : ℕ × Cred). q.0) processes) process p (subst (λ (l : List ℕ). Contains l p) (map-append (λ (q : ℕ × Cred). q.0) processes ((process, cred) ∷ [])) among))
  where
    by : Contains (map (λ (q : ℕ × Cred). q.0) processes) p ⊎ (process ≡ p) → p < 64
    by (inl before) = small p before
    by (inr same) = omega arith
