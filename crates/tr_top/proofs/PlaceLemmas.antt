-- How a script's place passes lines.
use Rattle.std.proofs.Common.{◌≡◌, ◌≢◌, ℕ, List, [], ◌∷◌, Bool, true, false, cond, refl, sym, ap, subst, ◌∙◌, eq-eqb, ne_eqb}
use Rattle.tr_types.specs.declared.entry.Entry.{Entry}
use Rattle.tr_types.specs.declared.entry.Mark.{Mark}
use Rattle.tr_model.specs.Worlds.{put}
use Rattle.tr_script.specs.declared.script.Line.{Line}
use Rattle.tr_script.specs.declared.script.Line.TheVariants.{Mkfs, Process, Thread, Call, Do, Finish, Open, Stray}
use Rattle.tr_top.specs.Along.{Place, Turns, Resting, ToTheEnd, ToAnOpening, IsAtEnd, IsNext, MayFollow, place_at, before, behind_call, after_action, opens}

-- Passing lines leaves the calls.
calls_kept : (lines : List Line) (calls : ℕ → Bool) → (before lines calls).calls ≡ calls
calls_kept [] calls = refl
calls_kept (Mkfs pages ∷ lines) calls = refl
calls_kept (Process process cred ∷ lines) calls = refl
calls_kept (Thread thread process ∷ lines) calls = refl
calls_kept (Call thread command ∷ lines) calls = refl
calls_kept (Do thread command ∷ lines) calls = refl
calls_kept (Stray thread addr word ∷ lines) calls = refl
calls_kept (Finish thread ∷ lines) calls = by (calls thread) (calls_kept lines calls)
  where
    by : (b : Bool) → (before lines calls).calls ≡ calls → (cond b (place_at lines (ToTheEnd thread) calls) (before lines calls)).calls ≡ calls
    by true later = refl
    by false later = later
calls_kept (Open thread ∷ lines) calls = by (calls thread) (calls_kept lines calls)
  where
    by : (b : Bool) → (before lines calls).calls ≡ calls → (cond b (place_at lines (ToAnOpening thread) calls) (before lines calls)).calls ≡ calls
    by true later = refl
    by false later = later

pub before_calls : (lines : List Line) (calls : ℕ → Bool) → (before lines calls).calls ≡ calls
before_calls lines calls = calls_kept lines calls

-- a call's line leaves its call
pub behind_calls : (lines : List Line) (calls : ℕ → Bool) → (behind_call lines calls).calls ≡ calls
behind_calls [] calls = before_calls [] calls
behind_calls (Mkfs pages ∷ lines) calls = before_calls lines calls
behind_calls (Process process cred ∷ lines) calls = before_calls lines calls
behind_calls (Thread thread process ∷ lines) calls = before_calls lines calls
behind_calls (Call thread command ∷ lines) calls = before_calls lines calls
behind_calls (Do thread command ∷ lines) calls = refl
behind_calls (Finish thread ∷ lines) calls = before_calls lines calls
behind_calls (Open thread ∷ lines) calls = before_calls lines calls
behind_calls (Stray thread addr word ∷ lines) calls = before_calls lines calls

-- so does an action
pub action_calls : (turns : Turns) (m : Mark) (p : Place) → (after_action turns m p).calls ≡ p.calls
action_calls Resting m p = refl
action_calls (ToTheEnd thread) m p = refl
action_calls (ToAnOpening thread) m p = by (opens m)
  where
    by : (b : Bool) → (cond b (before p.left p.calls) p).calls ≡ p.calls
    by true = before_calls p.left p.calls
    by false = refl

-- a place before lines, said of itself
pub stands_before : (lines : List Line) (p : Place) (calls : ℕ → Bool) → p ≡ before lines calls → p ≡ before lines p.calls
stands_before lines p calls is =
    let same : p.calls ≡ calls = ap (λ (x : Place). x.calls) is ∙ before_calls lines calls in
    is ∙ ap (λ (c : ℕ → Bool). before lines c) (sym same)

-- Lines that make turns.
pub finish_here : (thread : ℕ) (lines : List Line) (calls : ℕ → Bool) → calls thread ≡ true → before (Finish thread ∷ lines) calls ≡ place_at lines (ToTheEnd thread) calls
finish_here thread lines calls its = ap (λ (b : Bool). cond b (place_at lines (ToTheEnd thread) calls) (before lines calls)) its

pub finish_past : (thread : ℕ) (lines : List Line) (calls : ℕ → Bool) → calls thread ≡ false → before (Finish thread ∷ lines) calls ≡ before lines calls
finish_past thread lines calls past = ap (λ (b : Bool). cond b (place_at lines (ToTheEnd thread) calls) (before lines calls)) past

pub open_here : (thread : ℕ) (lines : List Line) (calls : ℕ → Bool) → calls thread ≡ true → before (Open thread ∷ lines) calls ≡ place_at lines (ToAnOpening thread) calls
open_here thread lines calls its = ap (λ (b : Bool). cond b (place_at lines (ToAnOpening thread) calls) (before lines calls)) its

pub open_past : (thread : ℕ) (lines : List Line) (calls : ℕ → Bool) → calls thread ≡ false → before (Open thread ∷ lines) calls ≡ before lines calls
open_past thread lines calls past = ap (λ (b : Bool). cond b (place_at lines (ToAnOpening thread) calls) (before lines calls)) past

-- One of many.
pub put_same : {X : Type 0} (at : ℕ → X) (thread : ℕ) (x : X) → put at thread x thread ≡ x
put_same at thread x = ap (λ (b : Bool). cond b x (at thread)) (eq-eqb thread thread refl)

pub put_other : {X : Type 0} (at : ℕ → X) (thread : ℕ) (x : X) (t : ℕ) → t ≢ thread → put at thread x t ≡ at t
put_other at thread x t ne = ap (λ (b : Bool). cond b x (at t)) (ne_eqb t thread ne)

-- where an entry may follow, the end isn't reached
pub not_at_end : (p : Place) (e : Entry) → MayFollow p e → IsAtEnd p → ⊥
not_at_end p e may end = subst (λ (x : List Line). IsNext Resting x e) end.lines (subst (λ (x : Turns). IsNext x p.left e) end.turns may)
