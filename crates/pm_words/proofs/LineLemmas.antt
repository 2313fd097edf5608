-- The lines that each thread has marked.
use Rattle.std.proofs.Common.{◌≡◌, ◌≢◌, ℕ, ◌-◌, ◌<◌, ◌≤◌, Bool, true, false, cond, Option, Some, None, unwrap_or, List, [], ◌∷◌, nat_eq, refl, sym, ap, subst, ◌∙◌, inl, inr, ◌⊎◌, arith, Contains, Result, Ok, Err, OnOk, OnErr}
use Rattle.std.proofs.lemmas.Bool.{cases_eq, cases_lt, eqb-true}
use Rattle.std.specs.Option.{IfSome}
use Rattle.std.specs.Map.{lookup, set_value}
use Rattle.pm_words.specs.View.{Held, held_at, look, lines_at, IsFlushed, IsFenced, IsLine, IsPendingAt, ArePending, IsSound}
use Rattle.pm_words.proofs.PlaceLemmas.{held_same}

-- what is kept where a thread's lines may be more, and no mark is another
pub same_sound : (count : ℕ) (marked noted : List (ℕ × List ℕ)) (old new : List (ℕ × Held)) (thread : ℕ) → IsSound count marked old → ArePending count new
    → ((l : ℕ) → Contains (lines_at marked thread) l → Contains (lines_at noted thread) l)
    → ((t : ℕ) → t ≢ thread → lines_at noted t ≡ lines_at marked t)
    → ((l t : ℕ) → look (held_at new l).marks t ≡ look (held_at old l).marks t) → IsSound count noted new
same_sound count marked noted old new thread sound pending kept others same =
    record { pages = sound.pages; pending = pending; noted = λ t l some. let e = same l t in carried t l (cases_eq t thread) (sound.noted t l (omega (arith, e, some))) }
  where
    carried : (t l : ℕ) → (t ≡ thread) ⊎ (t ≡ thread → ⊥) → Contains (lines_at marked t) l → Contains (lines_at noted t) l
    carried t l (inl e) there =
        subst (λ (u : ℕ). Contains (lines_at noted u) l) (sym e) (kept l (subst (λ (u : ℕ). Contains (lines_at marked u) l) e there))
    carried t l (inr ne) there = subst (λ (ls : List ℕ). Contains ls l) (sym (others t ne)) there

-- what is kept after a line was marked by a thread, and noted where it wasn't marked by it
pub flushed_sound : (count : ℕ) (marked noted : List (ℕ × List ℕ)) (old new : List (ℕ × Held)) (thread line : ℕ) → IsSound count marked old → ArePending count new
    → ((l : ℕ) → Contains (lines_at marked thread) l → Contains (lines_at noted thread) l)
    → ((t : ℕ) → t ≢ thread → lines_at noted t ≡ lines_at marked t)
    → (0 < look (held_at new line).marks thread → look (held_at old line).marks thread ≡ 0 → Contains (lines_at noted thread) line)
    → IsFlushed thread (held_at old line) (held_at new line)
    → ((l : ℕ) → l ≢ line → held_at new l ≡ held_at old l)
    → IsSound count noted new
flushed_sound count marked noted old new thread line sound pending kept rest has flushed others =
    record { pages = sound.pages; pending = pending; noted = λ t l some. all t l some (cases_eq t thread) (cases_eq l line) }
  where
    carried : (t l : ℕ) → (t ≡ thread) ⊎ (t ≡ thread → ⊥) → Contains (lines_at marked t) l → Contains (lines_at noted t) l
    carried t l (inl e) there =
        subst (λ (u : ℕ). Contains (lines_at noted u) l) (sym e) (kept l (subst (λ (u : ℕ). Contains (lines_at marked u) l) e there))
    carried t l (inr ne) there = subst (λ (ls : List ℕ). Contains ls l) (sym (rest t ne)) there

    own : 0 < look (held_at new line).marks thread → (0 < look (held_at old line).marks thread) ⊎ (look (held_at old line).marks thread ≤ 0) → Contains (lines_at noted thread) line
    own some (inl was) = kept line (sound.noted thread line was)
    own some (inr none) = has some (omega arith)

    all : (t l : ℕ) → 0 < look (held_at new l).marks t → (t ≡ thread) ⊎ (t ≡ thread → ⊥) → (l ≡ line) ⊎ (l ≡ line → ⊥) → Contains (lines_at noted t) l
    all t l some which (inr apart) =
        let e = ap (λ (h : Held). look h.marks t) (others l apart) in
        carried t l which (sound.noted t l (omega (arith, e, some)))
    all t l some (inr ne) (inl at) =
        let e = subst (λ (j : ℕ). look (held_at new j).marks t ≡ look (held_at old j).marks t) (sym at) (flushed.others t ne) in
        carried t l (inr ne) (sound.noted t l (omega (arith, e, some)))
    all t l some (inl e) (inl at) =
        let here = subst (λ (j : ℕ). 0 < look (held_at new j).marks thread) at (subst (λ (u : ℕ). 0 < look (held_at new l).marks u) e some) in
        subst (λ (u : ℕ). Contains (lines_at noted u) l) (sym e) (subst (λ (j : ℕ). Contains (lines_at noted thread) j) (sym at) (own here (cases_lt 0 (look (held_at old line).marks thread))))

-- what is kept after a fence, once the thread's lines are gone
pub fenced_sound : (count : ℕ) (marked left : List (ℕ × List ℕ)) (old new : List (ℕ × Held)) (thread : ℕ) → IsSound count marked old → ArePending count new
    → ((t : ℕ) → t ≢ thread → lines_at left t ≡ lines_at marked t)
    → ((l : ℕ) → IsFenced thread (held_at old l) (held_at new l)) → IsSound count left new
fenced_sound count marked left old new thread sound pending others fenced =
    record { pages = sound.pages; pending = pending; noted = λ t l some. at t l some (cases_eq t thread) }
  where
    at : (t l : ℕ) → 0 < look (held_at new l).marks t → (t ≡ thread) ⊎ (t ≡ thread → ⊥) → Contains (lines_at left t) l
    at t l some (inl e) =
        let own = subst (λ (u : ℕ). look (held_at new l).marks u ≡ look (held_at old l).marks u - look (held_at old l).marks thread) e ((fenced l).marks t) in
        let more = subst (λ (u : ℕ). 0 < look (held_at new l).marks u) e some in
        absurd (omega (arith, own, more))
    at t l some (inr ne) =
        let e = (fenced l).marks t in
        subst (λ (ls : List ℕ). Contains ls l) (sym (others t ne)) (sound.noted t l (omega (arith, e, some)))

-- what a look-up finds after a value was written over
lookup_set : {V : Type 0} (test : ℕ → Bool) (es : List (ℕ × V)) (old new : V) → lookup test es ≡ Some old → lookup test (set_value test es new) ≡ Some new
lookup_set test [] old new found = absurd (none found)
  where
    none : None ≡ Some old → ⊥
    none e = cc
lookup_set {V} test (e ∷ es) old new found = by (test e.0) refl (lookup_set test es old new)
  where
    by : (b : Bool) → test e.0 ≡ b → (lookup test es ≡ Some old → lookup test (set_value test es new) ≡ Some new)
        → lookup test (set_value test (e ∷ es) new) ≡ Some new
    by true is rest = ap (λ (b : Bool). lookup test (cond b ((e.0, new) ∷ es) (e ∷ set_value test es new))) is ∙ ap (λ (b : Bool). cond b (Some new) (lookup test es)) is
    by false is rest =
        ap (λ (b : Bool). lookup test (cond b ((e.0, new) ∷ es) (e ∷ set_value test es new))) is
        ∙ ap (λ (b : Bool). cond b (Some e.1) (lookup test (set_value test es new))) is
        ∙ rest (sym (ap (λ (b : Bool). cond b (Some e.1) (lookup test es)) is) ∙ found)

-- lines that were there stay there
pub kept_some : (old new : List (ℕ × List ℕ)) (thread : ℕ) (lines lines' : List ℕ) → lookup (nat_eq thread) old ≡ Some lines → new ≡ set_value (nat_eq thread) old lines'
    → ((l : ℕ) → Contains lines l → Contains lines' l) → (l : ℕ) → Contains (lines_at old thread) l → Contains (lines_at new thread) l
kept_some old new thread lines lines' found is kept l there =
    let now : lookup (nat_eq thread) new ≡ Some lines' = ap (λ (es : List (ℕ × List ℕ)). lookup (nat_eq thread) es) is ∙ lookup_set (nat_eq thread) old lines lines' found in
    subst (λ (o : Option (List ℕ)). Contains (unwrap_or o []) l) (sym now)
    (kept l (subst (λ (o : Option (List ℕ)). Contains (unwrap_or o []) l) found there))

-- and entries of pending lines, where one of them was written over and all others are as they were
pub pending_written : (count : ℕ) (old new : List (ℕ × Held)) (line : ℕ) (h h' : Held) → lookup (nat_eq line) old ≡ Some h → lookup (nat_eq line) new ≡ Some h'
    → ((l : ℕ) → l ≢ line → lookup (nat_eq l) new ≡ lookup (nat_eq l) old)
    → (IsLine count line h → IsLine count line h') → ArePending count old → ArePending count new
pending_written count old new line h h' found now others stays pending l = at (cases_eq l line)
  where
    at : (l ≡ line) ⊎ (l ≡ line → ⊥) → IsPendingAt count new l
    at (inl e) =
        subst (λ (j : ℕ). IsPendingAt count new j) (sym e) (subst (λ (o : Option Held). IfSome o (IsLine count line)) (sym now)
        (stays (subst (λ (o : Option Held). IfSome o (IsLine count line)) found (pending line))))
    at (inr ne) = subst (λ (o : Option Held). IfSome o (IsLine count l)) (sym (others l ne)) (pending l)

pub pending_set : (count : ℕ) (old new : List (ℕ × Held)) (line : ℕ) (h h' : Held) → lookup (nat_eq line) old ≡ Some h → new ≡ set_value (nat_eq line) old h'
    → ((l : ℕ) → l ≢ line → lookup (nat_eq l) new ≡ lookup (nat_eq l) old)
    → (IsLine count line h → IsLine count line h') → ArePending count old → ArePending count new
pending_set count old new line h h' found is others stays pending =
    pending_written count old new line h h' found (ap (λ (es : List (ℕ × Held)). lookup (nat_eq line) es) is ∙ lookup_set (nat_eq line) old h h' found) others stays pending

lookup_set_other : (test wanted : ℕ → Bool) (es : List (ℕ × Held)) (h : Held) → ((k : ℕ) → wanted k ≡ true → test k ≡ true → ⊥) → lookup wanted (set_value test es h) ≡ lookup wanted es
lookup_set_other test wanted [] h apart = refl
lookup_set_other test wanted (e ∷ es) h apart = by (test e.0) (wanted e.0) refl refl (lookup_set_other test wanted es h apart)
  where
    by : (b w : Bool) → test e.0 ≡ b → wanted e.0 ≡ w → lookup wanted (set_value test es h) ≡ lookup wanted es
        → lookup wanted (set_value test (e ∷ es) h) ≡ lookup wanted (e ∷ es)
    by true true is want rest = absurd (apart e.0 want is)
    by true false is want rest =
        ap (λ (b : Bool). lookup wanted (cond b ((e.0, h) ∷ es) (e ∷ set_value test es h))) is
        ∙ ap (λ (w : Bool). cond w (Some h) (lookup wanted es)) want
        ∙ sym (ap (λ (w : Bool). cond w (Some e.1) (lookup wanted es)) want)
    by false w is want rest =
        ap (λ (b : Bool). lookup wanted (cond b ((e.0, h) ∷ es) (e ∷ set_value test es h))) is
        ∙ ap (λ (o : Option Held). cond (wanted e.0) (Some e.1) o) rest

-- so all others are, after a value was written over
pub others_set : (old new : List (ℕ × Held)) (line : ℕ) (h : Held) → new ≡ set_value (nat_eq line) old h → (l : ℕ) → l ≢ line → lookup (nat_eq l) new ≡ lookup (nat_eq l) old
others_set old new line h is l ne =
    ap (λ (es : List (ℕ × Held)). lookup (nat_eq l) es) is
    ∙ lookup_set_other (nat_eq line) (nat_eq l) old h (λ k one two. ne (eqb-true l k one ∙ sym (eqb-true line k two)))

-- whether or not a flush was done
pub flush_sound : {T E : Type 0} (r : Result T E) (count : ℕ) (marked noted : List (ℕ × List ℕ)) (old new : List (ℕ × Held)) (thread line : ℕ) → IsSound count marked old → ArePending count new
    → ((l : ℕ) → Contains (lines_at marked thread) l → Contains (lines_at noted thread) l)
    → ((t : ℕ) → t ≢ thread → lines_at noted t ≡ lines_at marked t)
    → OnOk r (0 < look (held_at new line).marks thread → look (held_at old line).marks thread ≡ 0 → Contains (lines_at noted thread) line)
    → OnOk r (IsFlushed thread (held_at old line) (held_at new line))
    → OnErr r (held_at new line ≡ held_at old line)
    → ((l : ℕ) → l ≢ line → held_at new l ≡ held_at old l)
    → IsSound count noted new
flush_sound (Ok v) count marked noted old new thread line sound pending kept rest has flushed same others =
    flushed_sound count marked noted old new thread line sound pending kept rest has flushed others
flush_sound (Err e) count marked noted old new thread line sound pending kept rest has flushed same others =
    same_sound count marked noted old new thread sound pending kept rest (λ l t. ap (λ (h : Held). look h.marks t) (held_same old new line same others l))

-- a line is noted where it wasn't marked
pub noted_once : {P : Type 0} (is : Bool) (n : ℕ) → (is ≡ true → 0 < n) → (is ≡ false → P) → n ≡ 0 → P
noted_once true n marked noted none = let some = marked refl in absurd (omega (arith, some, none))
noted_once false n marked noted none = noted refl
