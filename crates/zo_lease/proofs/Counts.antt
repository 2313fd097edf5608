-- Runs of machines, and how failed tries count.
use Rattle.std.proofs.Common.{◌≡◌, ℕ, suc, ◌+◌, ◌*◌, ◌<◌, ◌≤◌, Bool, true, false, List, [], ◌∷◌, length, ap, refl, arith}
use Rattle.std.specs.Prelude.{Some, if◌then◌else◌, ◌==◌}
use Rattle.std.proofs.lemmas.Bool.{eq-eqb}
use Rattle.tr_types.specs.declared.action.Action.{Action}
use Rattle.tr_types.specs.declared.entry.Mark.{Mark}
use Rattle.zo_lease.specs.declared.step.Heard.{Heard}
use Rattle.zo_lease.specs.declared.step.LeaseStep.{LeaseStep}
use Rattle.zo_lease.specs.Turns.{Told, Turn, Failing, ran, turns_of, with_turn, fails_in, failed_tries, last_failure, stands_in}
use Rattle.zo_lease.specs.Laws.{IsShort}

-- what each step keeps, a run keeps
pub kept_on : {M : Type 0} (after : M → Heard → ℕ → M) (gives : M → LeaseStep) (K : M → List Turn → Type 0)
    → ((m : M) (turns : List Turn) (heard : Heard) (now : ℕ) → K m turns → K (after m heard now) (with_turn (gives m) heard now turns))
    → (m : M) → K m [] → (told : List Told) → K (ran after m told) (turns_of after gives m told)
kept_on after gives K step m k [] = k
kept_on after gives K step m k (t ∷ earlier) =
    step (ran after m earlier) (turns_of after gives m earlier) t.heard t.now (kept_on after gives K step m k earlier)

-- So many tries have failed, the earlier ones of the call among them, and few actions were made: so many since the last failure.
pub record Counts (fails : Failing) (addr began failed most : ℕ) (turns : List Turn) : Type 0 where
  pub tries : began + failed_tries fails addr turns ≡ failed
  pub few : length turns ≤ 4 * failed_tries fails addr turns + most

pub count_more : (fails : Failing) (addr began failed most more : ℕ) (turns : List Turn) → most ≤ more → Counts fails addr began failed most turns → Counts fails addr began failed more turns
count_more fails addr began failed most more turns le c = record { tries = c.tries; few = let few : length turns ≤ 4 * failed_tries fails addr turns + most = c.few in omega arith }

tries_on : (fails : Failing) (addr : ℕ) (t : Turn) (turns : List Turn) → fails_in fails addr t turns ≡ false → failed_tries fails addr (t ∷ turns) ≡ 0 + failed_tries fails addr turns
tries_on fails addr t turns on = ap (λ (b : Bool). (if b then 1 else 0) + failed_tries fails addr turns) on

tries_failure : (fails : Failing) (addr : ℕ) (t : Turn) (turns : List Turn) → fails_in fails addr t turns ≡ true → failed_tries fails addr (t ∷ turns) ≡ 1 + failed_tries fails addr turns
tries_failure fails addr t turns failure = ap (λ (b : Bool). (if b then 1 else 0) + failed_tries fails addr turns) failure

pub short_of : (fails : Failing) (addr began failed most : ℕ) (turns : List Turn) → most ≤ 20 → Counts fails addr began failed most turns → IsShort fails addr turns
short_of fails addr began failed most turns le c =
    let few : length turns ≤ 4 * failed_tries fails addr turns + most = c.few in
    omega arith

-- a turn that is no failure
pub count_on : (fails : Failing) (addr began failed most : ℕ) (t : Turn) (turns : List Turn) → fails_in fails addr t turns ≡ false
    → Counts fails addr began failed most turns → Counts fails addr began failed (most + 1) (t ∷ turns)
count_on fails addr began failed most t turns on c =
    let is : failed_tries fails addr (t ∷ turns) ≡ 0 + failed_tries fails addr turns = tries_on fails addr t turns on in
    let few : length turns ≤ 4 * failed_tries fails addr turns + most = c.few in
    let tries : began + failed_tries fails addr turns ≡ failed = c.tries in
    record { tries = by (failed_tries fails addr (t ∷ turns)) (failed_tries fails addr turns) is tries; few = fewer (length turns) (failed_tries fails addr (t ∷ turns)) (failed_tries fails addr turns) is few }
  where
    by : (n m : ℕ) → n ≡ 0 + m → began + m ≡ failed → began + n ≡ failed
    by n m is tries = omega arith

    fewer : (l n m : ℕ) → n ≡ 0 + m → l ≤ 4 * m + most → suc l ≤ 4 * n + (most + 1)
    fewer l n m is few = omega arith

-- a turn that is one
pub count_failure : (fails : Failing) (addr began failed most more : ℕ) (t : Turn) (turns : List Turn) → fails_in fails addr t turns ≡ true → most ≤ more + 3
    → Counts fails addr began failed most turns → Counts fails addr began (failed + 1) more (t ∷ turns)
count_failure fails addr began failed most more t turns failure le c =
    let is : failed_tries fails addr (t ∷ turns) ≡ 1 + failed_tries fails addr turns = tries_failure fails addr t turns failure in
    let few : length turns ≤ 4 * failed_tries fails addr turns + most = c.few in
    let tries : began + failed_tries fails addr turns ≡ failed = c.tries in
    record { tries = by (failed_tries fails addr (t ∷ turns)) (failed_tries fails addr turns) is tries; few = fewer (length turns) (failed_tries fails addr (t ∷ turns)) (failed_tries fails addr turns) is few }
  where
    by : (n m : ℕ) → n ≡ 1 + m → began + m ≡ failed → began + n ≡ failed + 1
    by n m is tries = omega arith

    fewer : (l n m : ℕ) → n ≡ 1 + m → l ≤ 4 * m + most → suc l ≤ 4 * n + more
    fewer l n m is few = omega (arith, le)

pub failure_is : (fails : Failing) (addr : ℕ) (t : Turn) (turns : List Turn) → fails_in fails addr t turns ≡ true
    → last_failure fails addr (t ∷ turns) ≡ Some (record { word = t.heard; now = t.now })
failure_is fails addr t turns failure =
    ap (λ (b : Bool). if b then Some (record { word = t.heard; now = t.now }) else last_failure fails addr turns) failure

pub same : (addr : ℕ) → (addr == addr) ≡ true
same addr = eq-eqb addr addr refl

-- the actions stay few behind one more that is no failure
pub short_on : (fails : Failing) (addr began failed most : ℕ) (action : Action) (mark : Mark) (heard : Heard) (now : ℕ) (turns : List Turn) → most < 20
    → fails addr action heard now (stands_in addr turns) ≡ false → Counts fails addr began failed most turns
    → IsShort fails addr (record { action = action; mark = mark; heard = heard; now = now } ∷ turns)
short_on fails addr began failed most action mark heard now turns le on c =
    let t : Turn = record { action = action; mark = mark; heard = heard; now = now } in
    short_of fails addr began failed (most + 1) (t ∷ turns) (omega arith) (count_on fails addr began failed most t turns on c)
