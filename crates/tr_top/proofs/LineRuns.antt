-- What holds between two lines of a script that runs.
use Rattle.std.proofs.Common.{◌≡◌, ℕ, ◌+◌, ◌<◌, ◌≤◌, List, [], ◌∷◌, length, take, drop, get_or, map, Option, Ok, Bool, true, false, zero, suc, refl, sym, ap, subst, ◌∙◌, arith}
use Rattle.std.proofs.lemmas.List.{take_more, drop_more, drop_all}
use Rattle.tr_types.specs.Fold.{Each, state_after}
use Rattle.tr_types.proofs.FoldLemmas.{state_after_more}
use Rattle.tr_types.specs.declared.entry.Entry.{Entry}
use Rattle.tr_script.specs.declared.script.Line.{Line}
use Rattle.tr_script.specs.declared.script.Line.TheVariants.{Mkfs, Process, Thread, Call, Do, Finish, Open, Stray}
use Rattle.tr_script.specs.Grammar.{Declared, declared, nothing_declared, MayStand}
use Rattle.tr_core.specs.Traces.{world_after}
use Rattle.tr_top.specs.Along.{Place, IsAtEnd, before, start_of}
use Rattle.tr_top.specs.Run.{place_after, pages_made}
use Rattle.tr_top.specs.Running.{RunnerView, Goes, IsBefore, IsLike, IsNextLine, Passes, place_of}
use Rattle.tr_top.proofs.PlaceLemmas.{before_calls, stands_before}
use Rattle.tr_top.proofs.AlongLemmas.{clash}
use Rattle.tr_top.proofs.RunLemmas.{goes_then, goes_still}

-- what lines declare
abbrev pub declared_by : List Line → Declared
declared_by lines = state_after declared nothing_declared lines

-- the first i lines are done
pub record LineRuns (old now : RunnerView) (i : ℕ) (taken told : Option (List ℕ)) (before_faults after_faults : ℕ) : Type 0 where
  pub goes : Goes {T = Unit {0}} old now taken told before_faults after_faults (Ok tt)
  pub place : IsBefore now (drop i old.lines)
  pub like : IsLike now (declared_by (take i old.lines))

declares : (d : Declared) (line : Line) → (declared d line).begun ≡ true
declares d (Mkfs pages) = refl
declares d (Process process cred) = refl
declares d (Thread thread process) = refl
declares d (Call thread command) = refl
declares d (Do thread command) = refl
declares d (Finish thread) = refl
declares d (Open thread) = refl
declares d (Stray thread addr word) = refl

stays_begun : (d : Declared) (lines : List Line) → d.begun ≡ true → (state_after declared d lines).begun ≡ true
stays_begun d [] b = b
stays_begun d (line ∷ lines) b = stays_begun (declared d line) lines (declares d line)

-- no line is done where nothing has begun
none_done : (lines : List Line) (i : ℕ) → i < length lines → (declared_by (take i lines)).begun ≡ false → i ≡ 0
none_done lines zero lt none = refl
none_done (line ∷ lines) (suc i) lt none = clash (sym (stays_begun (declared nothing_declared line) (take i lines) (declares nothing_declared line)) ∙ none)
none_done [] (suc i) lt none = absurd (omega arith)

each_at : (d : Declared) (lines : List Line) (i : ℕ) (line : Line) → Each declared MayStand d lines → i < length lines → MayStand (state_after declared d (take i lines)) (get_or lines i line)
each_at d [] i line each lt = absurd (omega arith)
each_at d (x ∷ lines) zero line each lt = each.0
each_at d (x ∷ lines) (suc i) line each lt = each_at (declared d x) lines i line each.1 (omega arith)

first_made : (lines : List Line) (line : Line) (pages : ℕ) → 0 < length lines → line ≡ get_or lines 0 line → line ≡ Mkfs pages → pages ≡ pages_made lines
first_made [] line pages lt at is = absurd (omega arith)
first_made (x ∷ lines) line pages lt at is = ap (λ l. pages_made (l ∷ lines)) (sym is ∙ at)

-- a run begins before all lines
pub first_line : (r : RunnerView) (taken : Option (List ℕ)) (faults : ℕ) → r.core.failed ≡ false → r.core.trace ≡ [] → LineRuns r r 0 taken taken faults faults
first_line r taken faults works none =
    let place : place_of r ≡ start_of r.lines = ap (place_after r.lines) none in
    record {
      goes = goes_still tt r taken faults works;
      place = record { place = stands_before r.lines (place_of r) (λ _. false) place };
      like = record {
        processes = ap (λ (t : List Entry). map (λ p. p.0) (world_after r.core.opening t).base.machine.bus.processes) none;
        threads = ap (λ (t : List Entry). (world_after r.core.opening t).base.machine.bus.threads) none;
        fresh = λ _. none;
        calling = λ t is. clash (sym is ∙ ap (λ (p : Place). p.calls t) place ∙ ap (λ (c : ℕ → Bool). c t) (before_calls r.lines (λ _. false)));
      };
    }

-- the next line, and where it stands
pub next_line : (old now : RunnerView) (i : ℕ) (taken told : Option (List ℕ)) (before_faults after_faults : ℕ) (line : Line) → Each declared MayStand nothing_declared old.lines → LineRuns old now i taken told before_faults after_faults → i < length old.lines → line ≡ get_or old.lines i line
    → IsNextLine now line (drop (i + 1) old.lines) (declared_by (take i old.lines))
next_line old now i taken told before_faults after_faults line orderly runs lt at =
    let stands : MayStand (declared_by (take i old.lines)) line = subst (MayStand (declared_by (take i old.lines))) (sym at) (each_at nothing_declared old.lines i line orderly lt) in
    record {
      place = record {
        place = runs.place.place ∙ ap (λ (l : List Line). before l (place_of now).calls) (drop_more old.lines i line lt ∙ ap (λ x. x ∷ drop (i + 1) old.lines) (sym at));
      };
      like = runs.like;
      stands = stands;
      first = λ pages is.
          let begun : (declared_by (take i old.lines)).begun ≡ false = (subst (MayStand (declared_by (take i old.lines))) is stands).0 in
          first_made old.lines line pages (omega arith) (at ∙ ap (λ n. get_or old.lines n line) (none_done old.lines i lt begun)) is ∙ ap pages_made (sym runs.goes.lines);
    }

-- the line is done
pub line_done : (old now new : RunnerView) (i : ℕ) (taken mid told : Option (List ℕ)) (before_faults between after_faults : ℕ) (line : Line) → LineRuns old now i taken mid before_faults between → i < length old.lines → line ≡ get_or old.lines i line → Passes new line (drop (i + 1) old.lines) (declared_by (take i old.lines))
    → Goes {T = Unit {0}} now new mid told between after_faults (Ok tt) → LineRuns old new (i + 1) taken told before_faults after_faults
line_done old now new i taken mid told before_faults between after_faults line runs lt at passes goes = record {
  goes = goes_then (Ok tt) old now new taken mid told before_faults between after_faults runs.goes goes;
  place = passes.place;
  like = subst (IsLike new)
      (ap (λ l. declared (declared_by (take i old.lines)) l) at ∙ sym (ap (state_after declared nothing_declared) (take_more old.lines i line lt) ∙ state_after_more declared nothing_declared (take i old.lines) (get_or old.lines i line)))
      passes.like;
}

-- all lines are done
pub lines_done : (old now : RunnerView) (i : ℕ) (taken told : Option (List ℕ)) (before_faults after_faults : ℕ) → LineRuns old now i taken told before_faults after_faults → length old.lines ≤ i → IsAtEnd (place_of now)
lines_done old now i taken told before_faults after_faults runs all =
    let at : place_of now ≡ before [] (place_of now).calls = runs.place.place ∙ ap (λ (l : List Line). before l (place_of now).calls) (drop_all i old.lines all) in
    record { lines = ap (λ (p : Place). p.left) at; turns = ap (λ (p : Place). p.turns) at }
