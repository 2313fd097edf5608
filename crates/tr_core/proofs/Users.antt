-- Who was started, and for whom they act.
use Rattle.std.proofs.Common.{◌≡◌, ◌⊎◌, ◌≢◌, inl, inr, ℕ, List, [], ◌∷◌, ◌++◌, map, Bool, cond, Contains, Option, Some, None, refl, sym, ap, subst, ◌∙◌}
use Rattle.std.proofs.lemmas.Bool.{cases_eq, eq-eqb, ne_eqb}
use Rattle.std.proofs.lemmas.List.{map-append}
use Rattle.std.proofs.lemmas.List.Elements.{Contains-append_left, Contains-append_cases}
use Rattle.bus_model.specs.Machine.{Bus, ProcessWasStarted, ThreadWasStarted, with_process, with_thread}
use Rattle.tr_types.specs.declared.permission.Cred.{Cred}
use Rattle.zo_hash_dir.proofs.Members.{contains_here, contains_there, contains_cases, contains_none}
use Rattle.zo_model.specs.Alone.{root_cred}
use Rattle.tr_model.specs.Worlds.{cred_of, cred_at, cred_in}
use Rattle.tr_core.specs.Standing.{AreRoots}

last_is : {X : Type 0} (xs : List X) (x y : X) → Contains (xs ++ x ∷ []) y → Contains xs y ⊎ (x ≡ y)
last_is xs x y among = by (Contains-append_cases xs (x ∷ []) y among)
  where
    one : (x ≡ y) ⊎ Contains [] y → Contains xs y ⊎ (x ≡ y)
    one (inl same) = inr same
    one (inr none) = absurd (contains_none y none)

    by : Contains xs y ⊎ Contains (x ∷ []) y → Contains xs y ⊎ (x ≡ y)
    by (inl before) = inl before
    by (inr last) = one (contains_cases x [] y last)

pub process_stays : (bus : Bus) (process : ℕ) (cred : Cred) (p : ℕ) → ProcessWasStarted bus p → ProcessWasStarted (with_process process cred bus) p
process_stays bus process cred p was = subst (λ (ps : List ℕ). Contains ps p) (sym (map-append (λ (x : ℕ × Cred). x.0) bus.processes ((process, cred) ∷ []))) (Contains-append_left (map (λ (x : ℕ × Cred). x.0) bus.processes) (process ∷ []) p was)

pub thread_stays : (bus : Bus) (thread process t : ℕ) → ThreadWasStarted bus t → ThreadWasStarted (with_thread thread process bus) t
thread_stays bus thread process t was = subst (λ (ts : List ℕ). Contains ts t) (sym (map-append (λ (x : ℕ × ℕ). x.0) bus.threads ((thread, process) ∷ []))) (Contains-append_left (map (λ (x : ℕ × ℕ). x.0) bus.threads) (thread ∷ []) t was)

pub roots_process : (bus : Bus) (process : ℕ) (cred : Cred) → cred ≡ root_cred → AreRoots bus → AreRoots (with_process process cred bus)
roots_process bus process cred is k = record {
  creds = λ p c among. by (process, cred) (p, c) is (last_is bus.processes (process, cred) (p, c) among);
  housed = λ thread p among. process_stays bus process cred p (k.housed thread p among);
}
  where
    by : (x y : ℕ × Cred) → x.1 ≡ root_cred → Contains bus.processes y ⊎ (x ≡ y) → y.1 ≡ root_cred
    by x y root (inl before) = k.creds y.0 y.1 before
    by x y root (inr same) = ap (λ (z : ℕ × Cred). z.1) (sym same) ∙ root

pub roots_thread : (bus : Bus) (thread process : ℕ) → ProcessWasStarted bus process → AreRoots bus → AreRoots (with_thread thread process bus)
roots_thread bus thread process was k = record {
  creds = k.creds;
  housed = λ t p among. by (thread, process) (t, p) was (last_is bus.threads (thread, process) (t, p) among);
}
  where
    by : (x y : ℕ × ℕ) → ProcessWasStarted bus x.1 → Contains bus.threads y ⊎ (x ≡ y) → ProcessWasStarted bus y.1
    by x y started (inl before) = k.housed y.0 y.1 before
    by x y started (inr same) = subst (λ (z : ℕ × ℕ). ProcessWasStarted bus z.1) same started

-- the user of a process that was started
cred_found : (ps : List (ℕ × Cred)) → ((p : ℕ) (c : Cred) → Contains ps (p, c) → c ≡ root_cred) → (process : ℕ) → Contains (map (λ p. p.0) ps) process → cred_in ps process ≡ Some root_cred
cred_found [] all process was = absurd (contains_none process was)
cred_found ((p, c) ∷ ps) all process was =
    by (cases_eq p process) (contains_cases p (map (λ p. p.0) ps) process was) (cred_found ps (λ q d among. all q d (contains_there (p, c) ps (q, d) among)) process)
  where
    by : (p ≡ process) ⊎ (p ≢ process) → (p ≡ process) ⊎ Contains (map (λ p. p.0) ps) process → (Contains (map (λ p. p.0) ps) process → cred_in ps process ≡ Some root_cred) → cred_in ((p, c) ∷ ps) process ≡ Some root_cred
    by (inl same) among rest = ap (λ (b : Bool). cond b (Some c) (cred_in ps process)) (eq-eqb p process same) ∙ ap Some (all p c (contains_here (p, c) ps))
    by (inr other) (inl same) rest = absurd (other same)
    by (inr other) (inr among) rest = ap (λ (b : Bool). cond b (Some c) (cred_in ps process)) (ne_eqb p process other) ∙ rest among

-- and of a thread
module _ (processes : List (ℕ × Cred)) where
  cred_of_thread : (threads : List (ℕ × ℕ)) → ((t p : ℕ) → Contains threads (t, p) → cred_in processes p ≡ Some root_cred) → (thread : ℕ) → Contains (map (λ t. t.0) threads) thread → cred_at processes threads thread ≡ Some root_cred
  cred_of_thread [] all thread was = absurd (contains_none thread was)
  cred_of_thread ((t, p) ∷ threads) all thread was =
      by (cases_eq t thread) (contains_cases t (map (λ t. t.0) threads) thread was) (cred_of_thread threads (λ u q among. all u q (contains_there (t, p) threads (u, q) among)) thread)
    where
      by : (t ≡ thread) ⊎ (t ≢ thread) → (t ≡ thread) ⊎ Contains (map (λ t. t.0) threads) thread → (Contains (map (λ t. t.0) threads) thread → cred_at processes threads thread ≡ Some root_cred) → cred_at processes ((t, p) ∷ threads) thread ≡ Some root_cred
      by (inl same) among rest = ap (λ (b : Bool). cond b (cred_in processes p) (cred_at processes threads thread)) (eq-eqb t thread same) ∙ all t p (contains_here (t, p) threads)
      by (inr other) (inl same) rest = absurd (other same)
      by (inr other) (inr among) rest = ap (λ (b : Bool). cond b (cred_in processes p) (cred_at processes threads thread)) (ne_eqb t thread other) ∙ rest among

pub user_is : (bus : Bus) (thread : ℕ) → AreRoots bus → ThreadWasStarted bus thread → cred_of bus thread ≡ Some root_cred
user_is bus thread k was = cred_of_thread bus.processes bus.threads (λ t p among. cred_found bus.processes k.creds p (k.housed t p among)) thread was
