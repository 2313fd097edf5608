-- Calls that change no word: what their rows say.
use Rattle.std.proofs.Common.{◌≡◌, ◌≢◌, ◌⊎◌, inl, inr, ℕ, zero, suc, ◌+◌, ◌<◌, ◌≤◌, List, [], ◌∷◌, ◌||◌, Bool, true, false, not, cond, length, map, get_or, drop, Contains, Option, Some, None, refl, ap, sym, subst, ◌∙◌, arith, eqb}
use Rattle.std.specs.Prelude.{fold, nat_lt, nat_le, is_some, option_map, IsSome}
use Rattle.std.specs.List.{list_any}
use Rattle.std.proofs.lemmas.Bool.{cases_lt, or_parts, or_cases, and_parts, leb-true, ne_eqb, lt-ltb, le-ltb}
use Rattle.std.proofs.lemmas.List.{drop_more}
use Rattle.std.proofs.lemmas.List.Elements.{Contains-append_cases, Contains-append_right}
use Rattle.pm_words.specs.Word.{Word}
use Rattle.kern_model.specs.Rights.{is_row_of, with_row, without_row, key_for, those_against, IsLeastOf}
use Rattle.kern_model.specs.KernelView.{pages_of}
use Rattle.kern_model.specs.Journal.{kernel_word}
use Rattle.kern_model.specs.Kernel.{coffers}
use Rattle.kern_model.specs.KernelTables.{Coffer, is_id, stands_in}
use Rattle.kern_model.specs.KernelRules.{IsSoundKernel}
use Rattle.kern_model.specs.PathMap.{coffer_of_path, coffer_with}
use Rattle.tr_types.specs.Permission.{refuses}
use Rattle.kern_model.specs.KernelCalls.{Row, cred_in, cred_of, first_due, refused_where, row_of_maps, row_answer, answer_by, unless_refused, holds_any, or_none, located, is_bad_look, is_bad_second, find_row, found_for, least_of, key_or_none, mapped_as, map_row, unmap_row}
use Rattle.tr_types.specs.declared.kernel_call.KernAnswer.{KernAnswer}
use Rattle.tr_types.specs.declared.kernel_call.KernAnswer.TheVariants as answer
use Rattle.tr_types.specs.declared.kernel_call.FoundAt.{FoundAt}
use Rattle.tr_types.specs.declared.kernel_call.Holder.{Holder}
use Rattle.tr_types.specs.declared.kernel_call.Mapped.{Mapped}
use Rattle.tr_types.specs.declared.permission.Cred.{Cred}
use Rattle.tr_types.specs.declared.permission.Right.{Right}
use Rattle.kern_roots.specs.Entries.{has_id}
use Rattle.kern_roots.specs.Reading.{root_of, state_named}
use Rattle.kern_roots.specs.declared.types.Root.{Root}
use Rattle.kern_roots.specs.declared.types.RootState.TheVariants.{Standing, Quarantined}
use Rattle.kern_plans.proofs.RowLemmas.{skips, stops, lets_pass, refuses_so}
use Rattle.kern_plans.proofs.LookLemmas.{coffer_by_id}
use Rattle.kern_laws.proofs.LocatedLemmas.{located_there}
use Rattle.kern_calls.specs.Calls.{KernelView}
use Rattle.kern_calls.specs.Steps.{FollowsRow, hold_row, with_holders, with_key}

-- The credentials of a process.

pub past_one : (processes : List (ℕ × Cred)) (i process : ℕ) (d : ℕ × Cred) (cred : Cred) → i < length processes → (get_or processes i d).0 ≢ process
    → cred_in (drop i processes) (Some process) ≡ cred → Contains (map (λ p. p.0) (drop i processes)) process
    → (cred_in (drop (i + 1) processes) (Some process) ≡ cred) × Contains (map (λ p. p.0) (drop (i + 1) processes)) process
past_one processes i process d cred inside other reads there = (
  sym (ap (λ (b : Bool). cond b (get_or processes i d).1 (cred_in (drop (i + 1) processes) (Some process))) (ne_eqb (get_or processes i d).0 process other))
      ∙ sym (ap (λ (ps : List (ℕ × Cred)). cred_in ps (Some process)) (drop_more processes i d inside)) ∙ reads,
  rest (Contains-append_cases ((get_or processes i d).0 ∷ []) (map (λ p. p.0) (drop (i + 1) processes)) process
      (subst (λ (ps : List (ℕ × Cred)). Contains (map (λ p. p.0) ps) process) (drop_more processes i d inside) there)),
)
  where
    rest : Contains ((get_or processes i d).0 ∷ []) process ⊎ Contains (map (λ p. p.0) (drop (i + 1) processes)) process → Contains (map (λ p. p.0) (drop (i + 1) processes)) process
    rest (inr later) = later
    rest (inl (zero, lt, e)) = absurd (other e)
    rest (inl (suc k, lt, e)) = absurd (omega arith)

-- The answer of a row.

pub follows : (row : Row) (old new : KernelView) (result : KernAnswer) → result ≡ row_answer row → new ≡ with_holders (unless_refused row old.holders row.holders) old → FollowsRow row old result new
follows row old new answer.NoMemory is left = tt
follows row old new answer.Done is left = (is, left)
follows row old new answer.Same is left = (is, left)
follows row old new (answer.Found first second) is left = (is, left)
follows row old new (answer.Mapped m) is left = (is, left)
follows row old new (answer.Made id) is left = (is, left)
follows row old new (answer.Pages pages) is left = (is, left)
follows row old new answer.NotHeld is left = (is, left)
follows row old new answer.BadPath is left = (is, left)
follows row old new (answer.Denied right id path_len) is left = (is, left)
follows row old new (answer.Quarantined id path_len) is left = (is, left)
follows row old new (answer.InUse thread id path_len) is left = (is, left)
follows row old new (answer.NoKey id path_len) is left = (is, left)
follows row old new (answer.NotYours page) is left = (is, left)
follows row old new (answer.GuardFailed addr word) is left = (is, left)
follows row old new (answer.LinkDiffers addr word) is left = (is, left)
follows row old new answer.Taken is left = (is, left)
follows row old new answer.TooMany is left = (is, left)
follows row old new (answer.NoPages asked free) is left = (is, left)
follows row old new answer.NoCoffer is left = (is, left)
follows row old new answer.NotEmptyList is left = (is, left)
follows row old new answer.BadCount is left = (is, left)

-- what is said of an answer, or that memory ran out
pub said : (row : Row) (old new : KernelView) (result : KernAnswer) → FollowsRow row old result new
    → (result ≡ answer.NoMemory) ⊎ ((result ≡ row_answer row) × (new ≡ with_holders (unless_refused row old.holders row.holders) old))
said row old new answer.NoMemory so = inl refl
said row old new answer.Done so = inr so
said row old new answer.Same so = inr so
said row old new (answer.Found first second) so = inr so
said row old new (answer.Mapped m) so = inr so
said row old new (answer.Made id) so = inr so
said row old new (answer.Pages pages) so = inr so
said row old new answer.NotHeld so = inr so
said row old new answer.BadPath so = inr so
said row old new (answer.Denied right id path_len) so = inr so
said row old new (answer.Quarantined id path_len) so = inr so
said row old new (answer.InUse thread id path_len) so = inr so
said row old new (answer.NoKey id path_len) so = inr so
said row old new (answer.NotYours page) so = inr so
said row old new (answer.GuardFailed addr word) so = inr so
said row old new (answer.LinkDiffers addr word) so = inr so
said row old new answer.Taken so = inr so
said row old new answer.TooMany so = inr so
said row old new (answer.NoPages asked free) so = inr so
said row old new answer.NoCoffer so = inr so
said row old new answer.NotEmptyList so = inr so
said row old new answer.BadCount so = inr so

pub follows_passed : (row : Row) (old new : KernelView) (result : KernAnswer) → first_due row.refusals ≡ None → result ≡ row.answer → new ≡ with_holders row.holders old → FollowsRow row old result new
follows_passed row old new result due is left =
    follows row old new result (is ∙ sym (ap (λ (d : Option KernAnswer). answer_by d row.answer) due))
    (left ∙ sym (ap (λ (d : Option KernAnswer). with_holders (cond (is_some d) old.holders row.holders) old) due))

pub follows_refused : (row : Row) (old new : KernelView) (result : KernAnswer) → first_due row.refusals ≡ Some result → new ≡ old → FollowsRow row old result new
follows_refused row old new result due left =
    follows row old new result (sym (ap (λ (d : Option KernAnswer). answer_by d row.answer) due))
    (left ∙ sym (ap (λ (d : Option KernAnswer). with_holders (cond (is_some d) old.holders row.holders) old) due))

-- a row with refusals before these, none of which is due
pub follows_later : (refusals later : List (Option KernAnswer)) (given : KernAnswer) (holders : List Holder) (old new : KernelView) (result : KernAnswer) → first_due refusals ≡ first_due later
    → FollowsRow (row_of_maps later given holders) old result new → FollowsRow (row_of_maps refusals given holders) old result new
follows_later refusals later given holders old new result same so = by (said (row_of_maps later given holders) old new result so)
  where
    by : (result ≡ answer.NoMemory) ⊎ ((result ≡ answer_by (first_due later) given) × (new ≡ with_holders (cond (is_some (first_due later)) old.holders holders) old)) → FollowsRow (row_of_maps refusals given holders) old result new
    by (inl none) = subst (λ (r : KernAnswer). FollowsRow (row_of_maps refusals given holders) old r new) (sym none) tt
    by (inr (is, left)) =
        follows (row_of_maps refusals given holders) old new result (is ∙ sym (ap (λ (d : Option KernAnswer). answer_by d given) same))
        (left ∙ sym (ap (λ (d : Option KernAnswer). with_holders (cond (is_some d) old.holders holders) old) same))

-- Unmap.

none_left : (thread id : ℕ) (holders : List Holder) → holds_any thread id holders ≡ false → without_row thread id holders ≡ holders
none_left thread id [] none = refl
none_left thread id (h ∷ holders) none =
    let parts = or_parts (is_row_of thread id h) (list_any (is_row_of thread id) holders) none in
    ap (λ (b : Bool). cond (not b) (h ∷ without_row thread id holders) (without_row thread id holders)) parts.0
    ∙ ap (λ (rest : List Holder). h ∷ rest) (none_left thread id holders parts.1)

pub unmapped_one : (kernel : KernelView) (thread id : ℕ) → holds_any thread id kernel.holders ≡ true
    → FollowsRow (unmap_row kernel.holders thread id) kernel answer.Done (with_holders (without_row thread id kernel.holders) kernel)
unmapped_one kernel thread id holds =
    follows_passed (unmap_row kernel.holders thread id) kernel (with_holders (without_row thread id kernel.holders) kernel) answer.Done (skips _ _ (lets_pass _ answer.NotHeld (ap not holds))) refl refl

pub unmapped_none : (kernel : KernelView) (thread id : ℕ) → holds_any thread id kernel.holders ≡ false
    → FollowsRow (unmap_row kernel.holders thread id) kernel answer.NotHeld (with_holders (without_row thread id kernel.holders) kernel)
unmapped_none kernel thread id none =
    follows_refused (unmap_row kernel.holders thread id) kernel (with_holders (without_row thread id kernel.holders) kernel) answer.NotHeld (stops _ _ answer.NotHeld (refuses_so _ answer.NotHeld (ap not none)))
    (ap (λ (hs : List Holder). with_holders hs kernel) (none_left thread id kernel.holders none))

-- The least thread.

lesser : ℕ → ℕ → ℕ
lesser least u = cond (nat_lt u least) u least

record IsLesser (least u : ℕ) : Type 0 where
  first : lesser least u ≤ least
  second : lesser least u ≤ u
  either : (lesser least u ≡ least) ⊎ (lesser least u ≡ u)

lesser_is : (least u : ℕ) → IsLesser least u
unfolding lesser
lesser_is least u = by (cases_lt u least)
  where
    by : (u < least) ⊎ (least ≤ u) → IsLesser least u
    by (inl lt) = let e : lesser least u ≡ u = ap (λ (b : Bool). cond b u least) (lt-ltb u least lt) in record { first = omega arith; second = omega arith; either = inr e }
    by (inr le) = let e : lesser least u ≡ least = ap (λ (b : Bool). cond b u least) (le-ltb u least le) in record { first = omega arith; second = omega arith; either = inl e }

head_of : (t : ℕ) (ts : List ℕ) (u : ℕ) → Contains (t ∷ ts) u → (u ≡ t) ⊎ Contains ts u
head_of t ts u has = by (Contains-append_cases (t ∷ []) ts u has)
  where
    by : Contains (t ∷ []) u ⊎ Contains ts u → (u ≡ t) ⊎ Contains ts u
    by (inr later) = inr later
    by (inl (zero, lt, e)) = inl (sym e)
    by (inl (suc k, lt, e)) = absurd (omega arith)

record IsLeastFrom (first : ℕ) (ts : List ℕ) (least : ℕ) : Type 0 where
  start : least ≤ first
  all : (u : ℕ) → Contains ts u → least ≤ u
  either : (least ≡ first) ⊎ Contains ts least

least_from : (first : ℕ) (ts : List ℕ) → IsLeastFrom first ts (fold (λ least u. cond (nat_lt u least) u least) first ts)
unfolding lesser
least_from first [] = record { start = omega arith; all = λ u (k, lt, e). absurd (omega arith); either = inl refl }
least_from first (t ∷ ts) = by (least_from (lesser first t) ts)
  where
    step : IsLesser first t
    step = lesser_is first t

    by : IsLeastFrom (lesser first t) ts (fold (λ least u. cond (nat_lt u least) u least) (lesser first t) ts)
        → IsLeastFrom first (t ∷ ts) (fold (λ least u. cond (nat_lt u least) u least) (lesser first t) ts)
    by rest = record {
      start = let a = rest.start in let b = step.first in omega arith;
      all = λ u has. bound u (head_of t ts u has);
      either = among rest.either step.either;
    }
      where
        bound : (u : ℕ) → (u ≡ t) ⊎ Contains ts u → fold (λ least u. cond (nat_lt u least) u least) (lesser first t) ts ≤ u
        bound u (inl e) = let a = rest.start in let b = step.second in omega arith
        bound u (inr later) = rest.all u later

        among : (fold (λ least u. cond (nat_lt u least) u least) (lesser first t) ts ≡ lesser first t) ⊎ Contains ts (fold (λ least u. cond (nat_lt u least) u least) (lesser first t) ts)
            → (lesser first t ≡ first) ⊎ (lesser first t ≡ t)
            → (fold (λ least u. cond (nat_lt u least) u least) (lesser first t) ts ≡ first) ⊎ Contains (t ∷ ts) (fold (λ least u. cond (nat_lt u least) u least) (lesser first t) ts)
        among (inr later) either = inr (Contains-append_right (t ∷ []) ts _ later)
        among (inl e) (inl old) = inl (e ∙ old)
        among (inl e) (inr new) = inr (zero, omega arith, sym (e ∙ new))

least_is : (ts : List ℕ) (thread : ℕ) → IsLeastOf ts thread → thread ≡ least_of ts
least_is [] thread is = let (k, lt, e) = is.among in absurd (omega arith)
least_is (t ∷ ts) thread is =
    let from = least_from t ts in
    let below = upper from is.among in
    let above = is.least (least_of (t ∷ ts)) (reached from.either) in
    omega arith
  where
    upper : IsLeastFrom t ts (least_of (t ∷ ts)) → Contains (t ∷ ts) thread → least_of (t ∷ ts) ≤ thread
    upper from has = by (head_of t ts thread has)
      where
        by : (thread ≡ t) ⊎ Contains ts thread → least_of (t ∷ ts) ≤ thread
        by (inl e) = let a = from.start in omega arith
        by (inr later) = from.all thread later

    reached : (least_of (t ∷ ts) ≡ t) ⊎ Contains ts (least_of (t ∷ ts)) → Contains (t ∷ ts) (least_of (t ∷ ts))
    reached (inl e) = (zero, omega arith, sym e)
    reached (inr later) = Contains-append_right (t ∷ []) ts _ later

some_of : (ts : List ℕ) (thread : ℕ) → IsLeastOf ts thread → not (eqb (length ts) 0) ≡ true
some_of [] thread is = let (k, lt, e) = is.among in absurd (omega arith)
some_of (t ∷ ts) thread is = ap not (ne_eqb (length (t ∷ ts)) 0 (λ e. absurd (omega arith)))

-- The last part of a map's row.

module _ (kernel : KernelView) (thread : ℕ) (right : Right) (exclusive : Bool) (m : Mapped) where
  pub held_now : (key : ℕ) → those_against thread m.id exclusive kernel.holders ≡ [] → key_for kernel.callers.threads kernel.holders thread m.id ≡ Some key
      → FollowsRow (hold_row kernel.callers kernel.holders thread right exclusive m) kernel (answer.Mapped (with_key key m))
      (with_holders (with_row (record { thread = thread; id = m.id; key = key; right = right; exclusive = exclusive }) kernel.holders) kernel)
  held_now key free is =
      follows_passed (hold_row kernel.callers kernel.holders thread right exclusive m) kernel _ (answer.Mapped (with_key key m))
      (skips _ _ (lets_pass _ _ (ap (λ (ts : List ℕ). not (eqb (length ts) 0)) free)) ∙ skips _ _ (lets_pass _ _ (ap (λ (k : Option ℕ). not (is_some k)) is)))
      (sym (ap (λ (k : Option ℕ). answer.Mapped (with_key (key_or_none k) m)) is))
      (sym (ap (λ (k : Option ℕ). with_holders (with_row (record { thread = thread; id = m.id; key = key_or_none k; right = right; exclusive = exclusive }) kernel.holders) kernel) is))

  pub held_by_another : (other : ℕ) → IsLeastOf (those_against thread m.id exclusive kernel.holders) other
      → FollowsRow (hold_row kernel.callers kernel.holders thread right exclusive m) kernel (answer.InUse other m.id m.path_len) kernel
  held_by_another other is =
      follows_refused (hold_row kernel.callers kernel.holders thread right exclusive m) kernel kernel (answer.InUse other m.id m.path_len)
      (stops _ _ (answer.InUse other m.id m.path_len)
      (refuses_so _ _ (some_of (those_against thread m.id exclusive kernel.holders) other is)
      ∙ ap (λ (t : ℕ). Some (answer.InUse t m.id m.path_len)) (sym (least_is (those_against thread m.id exclusive kernel.holders) other is))))
      refl

  pub no_key_left : those_against thread m.id exclusive kernel.holders ≡ [] → key_for kernel.callers.threads kernel.holders thread m.id ≡ None
      → FollowsRow (hold_row kernel.callers kernel.holders thread right exclusive m) kernel (answer.NoKey m.id m.path_len) kernel
  no_key_left free none =
      follows_refused (hold_row kernel.callers kernel.holders thread right exclusive m) kernel kernel (answer.NoKey m.id m.path_len)
      (skips _ _ (lets_pass _ _ (ap (λ (ts : List ℕ). not (eqb (length ts) 0)) free))
      ∙ stops _ _ (answer.NoKey m.id m.path_len) (refuses_so _ (answer.NoKey m.id m.path_len) (ap (λ (k : Option ℕ). not (is_some k)) none)))
      refl

-- The coffer that a path lies in.

or_left_only : (b : Bool) → (b || false) ≡ false → b ≡ false
or_left_only b none = (or_parts b false none).0

located_by_id : (words : List Word) (path : List ℕ) → IsSoundKernel words → coffer_with (coffers words) (located words path).id ≡ Some (located words path)
located_by_id words path sound =
    by (coffer_of_path (coffers words) path) refl
    (located_there words path (record { owners = sound.owners; entries = sound.entries; buckets = sound.buckets }))
  where
    by : (o : Option Coffer) → coffer_of_path (coffers words) path ≡ o → has_id (pages_of words) (kernel_word words) (located words path).id ≡ true
        → coffer_with (coffers words) (located words path).id ≡ Some (located words path)
    by None at there =
        let none : has_id (pages_of words) (kernel_word words) 0 ≡ true = sym (ap (λ (o : Option Coffer). has_id (pages_of words) (kernel_word words) (or_none o).id) at) ∙ there in
        let no : 1 ≤ 0 = leb-true 1 0 (and_parts (nat_le 1 0) (nat_le 0 256) (and_parts (is_id 0) (stands_in (pages_of words) (kernel_word words) 0) none).0).0 in
        absurd (omega arith)
    by (Some c) at there =
        ap (λ (o : Option Coffer). coffer_with (coffers words) (or_none o).id) at ∙ coffer_by_id words path c at
        ∙ sym (ap (λ (o : Option Coffer). Some (or_none o)) at)

-- what a look for a path has answered
pub found_first : (words : List Word) (path : List ℕ) (first : FoundAt) (second : Option FoundAt) → answer.Found first second ≡ row_answer (find_row words [] path None)
    → (is_bad_look path ≡ false) × (first ≡ found_for words path)
found_first words path first second is = by (is_bad_look path || is_bad_second None) refl is
  where
    by : (b : Bool) → (is_bad_look path || is_bad_second None) ≡ b → answer.Found first second ≡ answer_by (first_due (refused_where b answer.BadPath ∷ [])) (answer.Found (found_for words path) None)
        → (is_bad_look path ≡ false) × (first ≡ found_for words path)
    by true bad is = absurd (cc)
    by false good is = let same : first ≡ found_for words path = cc in (or_left_only (is_bad_look path) good, same)

pub found_not : (words : List Word) (path : List ℕ) (result : KernAnswer) → result ≡ row_answer (find_row words [] path None)
    → ((first : FoundAt) (second : Option FoundAt) → result ≡ answer.Found first second → ⊥) → (is_bad_look path ≡ true) × (result ≡ answer.BadPath)
found_not words path result is other = by (is_bad_look path || is_bad_second None) refl is
  where
    bad_only : (x : (is_bad_look path ≡ true) ⊎ (false ≡ true)) → is_bad_look path ≡ true
    bad_only (inl bad) = bad
    bad_only (inr never) = absurd (cc)

    by : (b : Bool) → (is_bad_look path || is_bad_second None) ≡ b → result ≡ answer_by (first_due (refused_where b answer.BadPath ∷ [])) (answer.Found (found_for words path) None)
        → (is_bad_look path ≡ true) × (result ≡ answer.BadPath)
    by true bad is = (bad_only (or_cases (is_bad_look path) false bad), is)
    by false good is = absurd (other (found_for words path) None is)

module _ (words : List Word) (path : List ℕ) (sound : IsSoundKernel words) (first : FoundAt) (found : first ≡ found_for words path) where
  pub entry_there : (entry : Option Root) → entry ≡ option_map root_of (coffer_with (coffers words) first.id) → IsSome entry
  entry_there entry is = subst (λ (e : Option Root). IsSome e) (sym (told entry is)) refl
    where
      told : (entry : Option Root) → entry ≡ option_map root_of (coffer_with (coffers words) first.id) → entry ≡ Some (root_of (located words path))
      told entry is =
          is ∙ ap (λ (f : FoundAt). option_map root_of (coffer_with (coffers words) f.id)) found
          ∙ ap (λ (o : Option Coffer). option_map root_of o) (located_by_id words path sound)

  pub entry_is : (entry : Option Root) (root : Root) → entry ≡ option_map root_of (coffer_with (coffers words) first.id) → entry ≡ Some root → root ≡ root_of (located words path)
  entry_is entry root is some =
      let both : Some root ≡ Some (root_of (located words path)) =
      sym some ∙ is ∙ ap (λ (f : FoundAt). option_map root_of (coffer_with (coffers words) f.id)) found
      ∙ ap (λ (o : Option Coffer). option_map root_of o) (located_by_id words path sound) in
      cc

  pub number_is : (1 ≤ first.id) × (first.id ≤ 256)
  number_is =
      let there = located_there words path (record { owners = sound.owners; entries = sound.entries; buckets = sound.buckets }) in
      let parts = and_parts (nat_le 1 (located words path).id) (nat_le (located words path).id 256) (and_parts (is_id (located words path).id) (stands_in (pages_of words) (kernel_word words) (located words path).id) there).0 in
      let least = leb-true 1 (located words path).id parts.0 in
      let most = leb-true (located words path).id 256 parts.1 in
      let same : first.id ≡ (located words path).id = ap (λ (f : FoundAt). f.id) found in
      (omega arith, omega arith)

-- Map.

quarantined_by : (word : ℕ) → state_named word ≡ Quarantined → eqb word 2 ≡ true
quarantined_by word is = by (eqb word 2) refl is
  where
    by : (b : Bool) → eqb word 2 ≡ b → cond b Quarantined Standing ≡ Quarantined → eqb word 2 ≡ true
    by true e is = e
    by false e is = cc

standing_by : (word : ℕ) → (state_named word ≡ Quarantined → ⊥) → eqb word 2 ≡ false
standing_by word other = ne_eqb word 2 (λ two. other (ap state_named two))

module _ (kernel : KernelView) (words : List Word) (thread : ℕ) (path : List ℕ) (right : Right) (exclusive : Bool) where
  pub map_bad_path : is_bad_look path ≡ true → FollowsRow (map_row kernel.callers words kernel.holders thread path right exclusive) kernel answer.BadPath kernel
  map_bad_path bad =
      follows_refused (map_row kernel.callers words kernel.holders thread path right exclusive) kernel kernel answer.BadPath (stops _ _ answer.BadPath (refuses_so _ answer.BadPath bad)) refl

  module _ (good : is_bad_look path ≡ false) (first : FoundAt) (found : first ≡ found_for words path) (root : Root) (is : root ≡ root_of (located words path)) (cred : Cred) (who : cred ≡ cred_of kernel.callers thread) where
    asked : (answered : Bool) → refuses root.perm cred right ≡ answered → refuses (located words path).perm (cred_of kernel.callers thread) right ≡ answered
    asked answered e = sym (ap (λ (r : Root). refuses r.perm (cred_of kernel.callers thread) right) is) ∙ sym (ap (λ (c : Cred). refuses root.perm c right) who) ∙ e

    pub map_denied : refuses root.perm cred right ≡ true → FollowsRow (map_row kernel.callers words kernel.holders thread path right exclusive) kernel (answer.Denied right first.id first.path_len) kernel
    map_denied denied =
        follows_refused (map_row kernel.callers words kernel.holders thread path right exclusive) kernel kernel (answer.Denied right first.id first.path_len)
        (skips _ _ (lets_pass _ answer.BadPath good)
        ∙ stops _ _ (answer.Denied right first.id first.path_len)
        (refuses_so _ _ (asked true denied) ∙ ap (λ (f : FoundAt). Some (answer.Denied right f.id f.path_len)) (sym found)))
        refl

    pub map_quarantined : refuses root.perm cred right ≡ false → root.state ≡ Quarantined
        → FollowsRow (map_row kernel.callers words kernel.holders thread path right exclusive) kernel (answer.Quarantined first.id first.path_len) kernel
    map_quarantined allowed state =
        follows_refused (map_row kernel.callers words kernel.holders thread path right exclusive) kernel kernel (answer.Quarantined first.id first.path_len)
        (skips _ _ (lets_pass _ answer.BadPath good)
        ∙ (skips _ _ (lets_pass _ _ (asked false allowed))
        ∙ stops _ _ (answer.Quarantined first.id first.path_len)
        (refuses_so _ _ (quarantined_by (located words path).state (sym (ap (λ (r : Root). r.state) is) ∙ state)) ∙ ap (λ (f : FoundAt). Some (answer.Quarantined f.id f.path_len)) (sym found))))
        refl

    pub map_held : (m : Mapped) (result : KernAnswer) (new : KernelView) → refuses root.perm cred right ≡ false → (root.state ≡ Quarantined → ⊥) → m ≡ mapped_as words (located words path) 0
        → FollowsRow (hold_row kernel.callers kernel.holders thread right exclusive m) kernel result new → FollowsRow (map_row kernel.callers words kernel.holders thread path right exclusive) kernel result new
    map_held m result new allowed state same so =
        let last : FollowsRow (hold_row kernel.callers kernel.holders thread right exclusive (mapped_as words (located words path) 0)) kernel result new =
        subst (λ (n : Mapped). FollowsRow (hold_row kernel.callers kernel.holders thread right exclusive n) kernel result new) same so in
        let due : first_due (map_row kernel.callers words kernel.holders thread path right exclusive).refusals ≡ first_due (hold_row kernel.callers kernel.holders thread right exclusive (mapped_as words (located words path) 0)).refusals =
        skips _ _ (lets_pass _ answer.BadPath good)
        ∙ (skips _ _ (lets_pass _ _ (asked false allowed))
        ∙ skips _ _ (lets_pass _ _ (standing_by (located words path).state (λ e. state (ap (λ (r : Root). r.state) is ∙ e))))) in
        follows_later (map_row kernel.callers words kernel.holders thread path right exclusive).refusals
        (hold_row kernel.callers kernel.holders thread right exclusive (mapped_as words (located words path) 0)).refusals
        (map_row kernel.callers words kernel.holders thread path right exclusive).answer
        (map_row kernel.callers words kernel.holders thread path right exclusive).holders
        kernel new result due last
