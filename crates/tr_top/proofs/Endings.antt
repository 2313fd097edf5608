-- How a run ends, from how its parts ended.
use Rattle.std.proofs.Common.{◌≡◌, ℕ, ◌+◌, List, [], ◌∷◌, length, get_or, refl, sym, ap, subst, ◌∙◌, arith, inl, inr, Option, Result, ◌++◌, Ok, Err, Bool, IsTrue, ◌↔◌, eqb}
use Rattle.std.specs.Cmp.Lexicographic.{pointwise}
use Rattle.std.proofs.lemmas.Slice.Eq.{slice_eq-Decides}
use Rattle.std.proofs.lemmas.Bool.Decides.{Decides-eqb}
use Rattle.tr_types.specs.declared.entry.Entry.{Entry}
use Rattle.tr_outside.specs.ImageBytes.{image_bytes}
use Rattle.tr_outside.specs.Whole.{ReadsUpTo}
use Rattle.tr_script.specs.declared.script.Line.{Line}
use Rattle.tr_script.specs.declared.status.Status.{Status}
use Rattle.tr_script.specs.declared.status.Status.TheVariants.{Done, Usage, BadScript, ReadFault, WriteFault, NoMemory, Full}
use Rattle.tr_script.specs.declared.reader.ScriptFault.{ScriptFault}
use Rattle.tr_script.specs.declared.reader.ScriptFault.TheVariants.{BadLine}
use Rattle.tr_script.specs.Grammar.{IsScript, text_limit}
use Rattle.tr_script.specs.Places.{IsFirstBad}
use Rattle.tr_script.specs.Reading.{OnBadLine}
use Rattle.tr_top.specs.declared.stop.Stop.{Stop}
use Rattle.tr_top.specs.declared.stop.Stop.TheVariants as stop
use Rattle.tr_top.specs.Along.{IsAtEnd}
use Rattle.tr_top.specs.Telling.{texts}
use Rattle.tr_top.specs.Run.{IsRun, last_words, place_after}
use Rattle.tr_top.specs.Running.{RunnerView, Goes, Told, place_of}
use Rattle.tr_top.specs.Top.{RunEnds, ReadsNoScript, sinks_of}
use Rattle.tr_top.specs.Ending.{IsSaved, stop_status}

-- all of a run that began with no entry
module _ {T : Type 0} (old new : RunnerView) (out out' : Option (List ℕ)) (f f' : ℕ) where
  trace_is : {r : Result T Stop} → old.core.trace ≡ [] → (goes : Goes old new out out' f f' r) → goes.more ≡ new.core.trace
  trace_is none goes = sym (goes.gained ∙ ap (λ (t : List Entry). t ++ goes.more) none)

  told_all : {r : Result T Stop} → old.core.trace ≡ [] → (goes : Goes old new out out' f f' r) → Told r out out' (texts old.detail new.core.trace)
  told_all {r} none goes = subst (λ (t : List Entry). Told r out out' (texts old.detail t)) (trace_is none goes) goes.told

-- the script was run to its end, and saving has ended so
ends_saved_at : (status : Status) (old new : RunnerView) (out out' saved saved' : Option (List ℕ)) (f f' s s' : ℕ) → old.core.trace ≡ [] → IsRun old.lines new.core.trace → IsAtEnd (place_after old.lines new.core.trace) → Goes {T = Unit {0}} old new out out' f f' (Ok tt)
    → IsSaved status saved saved' s s' (image_bytes (last_words old.lines new.core.trace)) → RunEnds old.detail (sinks_of out f saved s) (sinks_of out' f' saved' s') old.lines status new.core.trace
ends_saved_at Done old new out out' saved saved' f f' s s' none run ended goes is = record {
  run = run;
  ended = ended;
  out = told_all old new out out' f f' none goes;
  saved = is;
}
ends_saved_at WriteFault old new out out' saved saved' f f' s s' none run ended goes is = inr (record {
  run = run;
  ended = ended;
  cause = is.1;
  out = told_all old new out out' f f' none goes;
  saved = is.0;
})
ends_saved_at NoMemory old new out out' saved saved' f f' s s' none run ended goes is = absurd is
ends_saved_at Full old new out out' saved saved' f f' s s' none run ended goes is = absurd is
ends_saved_at Usage old new out out' saved saved' f f' s s' none run ended goes is = absurd is
ends_saved_at (BadScript line column) old new out out' saved saved' f f' s s' none run ended goes is = absurd is
ends_saved_at ReadFault old new out out' saved saved' f f' s s' none run ended goes is = absurd is

pub ends_saved : (status : Status) (old new : RunnerView) (out out' saved saved' : Option (List ℕ)) (f f' s s' : ℕ) → old.core.trace ≡ [] → IsRun new.lines new.core.trace → IsAtEnd (place_of new) → Goes {T = Unit {0}} old new out out' f f' (Ok tt)
    → IsSaved status saved saved' s s' (image_bytes (last_words new.lines new.core.trace)) → RunEnds old.detail (sinks_of out f saved s) (sinks_of out' f' saved' s') old.lines status new.core.trace
ends_saved status old new out out' saved saved' f f' s s' none run ended goes is =
    ends_saved_at status old new out out' saved saved' f f' s s' none
    (subst (λ (l : List Line). IsRun l new.core.trace) goes.lines run)
    (subst (λ (l : List Line). IsAtEnd (place_after l new.core.trace)) goes.lines ended) goes
    (subst (λ (l : List Line). IsSaved status saved saved' s s' (image_bytes (last_words l new.core.trace))) goes.lines is)

-- the same, where this is the image that was saved
pub ends_saved_image : (status : Status) (old new : RunnerView) (image : List ℕ) (out out' saved saved' : Option (List ℕ)) (f f' s s' : ℕ) → old.core.trace ≡ [] → IsRun new.lines new.core.trace → IsAtEnd (place_of new) → Goes {T = Unit {0}} old new out out' f f' (Ok tt)
    → image ≡ last_words new.lines new.core.trace → IsSaved status saved saved' s s' (image_bytes image) → RunEnds old.detail (sinks_of out f saved s) (sinks_of out' f' saved' s') old.lines status new.core.trace
ends_saved_image status old new image out out' saved saved' f f' s s' none run ended goes last is =
    ends_saved status old new out out' saved saved' f f' s s' none run ended goes (subst (λ (i : List ℕ). IsSaved status saved saved' s s' (image_bytes i)) last is)

-- the run stopped before its end
ends_stopped_at : (why : Stop) (old new : RunnerView) (out out' saved : Option (List ℕ)) (f f' s : ℕ) → old.core.trace ≡ [] → IsRun old.lines new.core.trace → Goes {T = Unit {0}} old new out out' f f' (Err why)
    → RunEnds old.detail (sinks_of out f saved s) (sinks_of out' f' saved s) old.lines (stop_status why) new.core.trace
ends_stopped_at stop.Full old new out out' saved f f' s none run goes = record {
  run = run;
  full = (goes.full refl).full;
  due = subst (λ (l : List Line). IsAtEnd (place_after l new.core.trace) → ⊥) goes.lines (goes.full refl).due;
  out = told_all old new out out' f f' none goes;
  saved = (refl, refl);
}
ends_stopped_at stop.NoMemory old new out out' saved f f' s none run goes = record {
  run = run;
  out = told_all old new out out' f f' none goes;
  saved = (refl, refl);
}
ends_stopped_at stop.OutFailed old new out out' saved f f' s none run goes = inl (record {
  run = run;
  cause = goes.cause refl;
  out = told_all old new out out' f f' none goes;
  saved = (refl, refl);
})

pub ends_stopped : (why : Stop) (old new : RunnerView) (out out' saved : Option (List ℕ)) (f f' s : ℕ) → old.core.trace ≡ [] → IsRun new.lines new.core.trace → Goes {T = Unit {0}} old new out out' f f' (Err why)
    → RunEnds old.detail (sinks_of out f saved s) (sinks_of out' f' saved s) old.lines (stop_status why) new.core.trace
ends_stopped why old new out out' saved f f' s none run goes =
    ends_stopped_at why old new out out' saved f f' s none (subst (λ (l : List Line). IsRun l new.core.trace) goes.lines run) goes

-- one word of the command line
pub one_item : {A : Type 0} (xs : List A) (x : A) → length xs ≡ 1 → x ≡ get_or xs 0 x → xs ≡ x ∷ []
one_item [] x len at = absurd (omega arith)
one_item (y ∷ []) x len at = ap (λ z. z ∷ []) (sym at)
one_item (y ∷ z ∷ xs) x len at = absurd (omega arith)

pub is_the_word : (words : List (List ℕ)) (text run : List ℕ) (r : Bool) → words ≡ text ∷ [] → r ≡ pointwise eqb text run → IsTrue r ↔ (words ≡ run ∷ [])
is_the_word words text run r one is =
    let d = slice_eq-Decides Decides-eqb text run r is in
    (λ t. one ∙ ap (λ (w : List ℕ). w ∷ []) (d.0 t), λ same. d.1 (first (sym one ∙ same)))
  where
    first : text ∷ [] ≡ run ∷ [] → text ≡ run
    first e = cc

-- a text that was read and isn't a script, by its first bad place
pub no_script : (left rest : Option (List ℕ)) (text now : List ℕ) (fault : ScriptFault) (line column : ℕ) → now ≡ text → ReadsUpTo (text_limit + 1) left rest text → fault ≡ BadLine line column
    → OnBadLine {T = List Line} (Err fault) (λ _ _. (lines : List Line) → IsScript now lines → ⊥) → OnBadLine {T = List Line} (Err fault) (IsFirstBad now) → ReadsNoScript left rest line column
no_script left rest text now fault line column same read is refused place = record {
  text = text;
  read = read;
  none = subst (λ (t : List ℕ). (lines : List Line) → IsScript t lines → ⊥) same (subst (λ (f : ScriptFault). OnBadLine {T = List Line} (Err f) (λ _ _. (lines : List Line) → IsScript now lines → ⊥)) is refused);
  place = subst (λ (t : List ℕ). IsFirstBad t line column) same (subst (λ (f : ScriptFault). OnBadLine {T = List Line} (Err f) (IsFirstBad now)) is place);
}
