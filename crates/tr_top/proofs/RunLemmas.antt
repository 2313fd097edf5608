-- Parts of a run, and what each has told.
use Rattle.std.proofs.Common.{◌≡◌, ℕ, ◌≤◌, List, [], ◌∷◌, ◌++◌, length, Option, Some, None, Result, Ok, Err, OnOk, false, refl, sym, ap, subst, ◌∙◌, arith, append_assoc, append-nil}
use Rattle.std.specs.Io.KnownBytes.{Appends}
use Rattle.tr_types.specs.declared.entry.Entry.{Entry}
use Rattle.tr_outside.specs.Causes.{Rose}
use Rattle.tr_outside.specs.Whole.{AppendsFront}
use Rattle.tr_text.specs.Text.{brief_text, brief_texts, full_text, full_texts}
use Rattle.tr_script.specs.declared.script.Line.{Line}
use Rattle.tr_core.specs.declared.fault.CoreFault.{CoreFault}
use Rattle.tr_core.specs.declared.fault.CoreFault.TheVariants as fault
use Rattle.tr_top.specs.declared.stop.Stop.{Stop}
use Rattle.tr_top.specs.declared.stop.Stop.TheVariants.{Full, NoMemory, OutFailed}
use Rattle.tr_top.specs.declared.teller.Detail.{Detail}
use Rattle.tr_top.specs.declared.teller.Detail.TheVariants as detail
use Rattle.tr_top.specs.Ending.{stop_for}
use Rattle.tr_top.specs.Telling.{text, texts}
use Rattle.tr_types.specs.declared.command.Command.{Command}
use Rattle.tr_types.specs.declared.entry.Entry.TheVariants as entry
use Rattle.tr_core.specs.Core.{CoreView, Adds, IsOfEvent, GivesAs, TurnsAs, HappensAs}
use Rattle.tr_core.specs.declared.event.FaultEvent.{FaultEvent}
use Rattle.tr_core.specs.declared.limits.TheConstants.{TRACE_LIMIT}
use Rattle.tr_top.specs.Along.{MayFollow}
use Rattle.tr_top.specs.Running.{RunnerView, Told, TellsEntry, Goes, IsFullAt, IsTurning, place_of}
use Rattle.tr_top.proofs.PlaceLemmas.{not_at_end}
use Rattle.tr_top.proofs.AlongLemmas.{event_entry}

-- The texts of two parts.
brief_both : (a b : List Entry) → brief_texts (a ++ b) ≡ brief_texts a ++ brief_texts b
brief_both [] b = refl
brief_both (x ∷ a) b = ap (λ (l : List ℕ). brief_text x ++ l) (brief_both a b) ∙ sym (append_assoc (brief_text x) (brief_texts a) (brief_texts b))

full_both : (a b : List Entry) → full_texts (a ++ b) ≡ full_texts a ++ full_texts b
full_both [] b = refl
full_both (x ∷ a) b = ap (λ (l : List ℕ). full_text x ++ l) (full_both a b) ∙ sym (append_assoc (full_text x) (full_texts a) (full_texts b))

texts_both : (d : Detail) (a b : List Entry) → texts d (a ++ b) ≡ texts d a ++ texts d b
texts_both detail.Brief a b = brief_both a b
texts_both detail.Full a b = full_both a b

texts_one : (d : Detail) (e : Entry) → texts d (e ∷ []) ≡ text d e
texts_one detail.Brief e = append-nil (brief_text e)
texts_one detail.Full e = append-nil (full_text e)

texts_none : (d : Detail) → texts d [] ≡ []
texts_none detail.Brief = refl
texts_none detail.Full = refl

-- What a sink took.
pub appends_nothing : (taken : Option (List ℕ)) → Appends taken taken []
appends_nothing None = tt
appends_nothing (Some xs) = sym (append-nil xs)

appends_both : (start taken now : Option (List ℕ)) (xs ys : List ℕ) → Appends start taken xs → Appends taken now ys → Appends start now (xs ++ ys)
appends_both None taken now xs ys a b = tt
appends_both (Some s) (Some t) (Some n) xs ys a b = b ∙ ap (λ (l : List ℕ). l ++ ys) a ∙ append_assoc s xs ys
appends_both (Some s) (Some t) None xs ys a b = absurd b
appends_both (Some s) None now xs ys a b = absurd a

front_both : (start taken now : Option (List ℕ)) (xs ys : List ℕ) → Appends start taken xs → AppendsFront taken now ys → AppendsFront start now (xs ++ ys)
front_both start taken now xs ys a (front, rest, is, b) =
    (xs ++ front, rest, ap (λ (l : List ℕ). xs ++ l) is ∙ sym (append_assoc xs front rest), appends_both start taken now xs front a b)

whole_front : (start now : Option (List ℕ)) (text : List ℕ) → Appends start now text → AppendsFront start now text
whole_front start now text a = (text, [], sym (append-nil text), a)

-- a front of any text, where nothing was taken
front_none : (taken : Option (List ℕ)) (text : List ℕ) → AppendsFront taken taken text
front_none taken text = ([], text, refl, appends_nothing taken)

told_both : {T : Type 0} (r : Result T Stop) (start taken now : Option (List ℕ)) (xs ys : List ℕ) → Appends start taken xs → Told r taken now ys → Told r start now (xs ++ ys)
told_both (Ok v) start taken now xs ys a b = appends_both start taken now xs ys a b
told_both (Err Full) start taken now xs ys a b = appends_both start taken now xs ys a b
told_both (Err NoMemory) start taken now xs ys a b = front_both start taken now xs ys a b
told_both (Err OutFailed) start taken now xs ys a b = front_both start taken now xs ys a b

-- One entry was added, and its text told.
told_entry : (r : Result (Unit {0}) Stop) (d : Detail) (e : Entry) (taken now : Option (List ℕ)) (before after : ℕ) → TellsEntry d r e taken now before after → Told r taken now (texts d (e ∷ []))
told_entry (Ok v) d e taken now before after t = subst (Appends taken now) (sym (texts_one d e)) t
told_entry (Err Full) d e taken now before after t = absurd t
told_entry (Err NoMemory) d e taken now before after t = subst (λ (n : Option (List ℕ)). AppendsFront taken n (texts d (e ∷ []))) (sym t.0) (front_none taken (texts d (e ∷ [])))
told_entry (Err OutFailed) d e taken now before after t = subst (AppendsFront taken now) (sym (texts_one d e)) t.0

rose_entry : (r : Result (Unit {0}) Stop) (d : Detail) (e : Entry) (taken now : Option (List ℕ)) (before after : ℕ) → TellsEntry d r e taken now before after → r ≡ Err OutFailed → Rose before after
rose_entry (Ok v) d e taken now before after t is = absurd (cc)
rose_entry (Err Full) d e taken now before after t is = absurd t
rose_entry (Err NoMemory) d e taken now before after t is = absurd (cc)
rose_entry (Err OutFailed) d e taken now before after t is = t.1

full_entry : (r : Result (Unit {0}) Stop) (d : Detail) (e : Entry) (taken now : Option (List ℕ)) (before after : ℕ) {X : Type 0} → TellsEntry d r e taken now before after → r ≡ Err Full → X
full_entry (Ok v) d e taken now before after t is = absurd (cc)
full_entry (Err Full) d e taken now before after t is = absurd t
full_entry (Err NoMemory) d e taken now before after t is = absurd (cc)
full_entry (Err OutFailed) d e taken now before after t is = absurd (cc)

-- what holds at all answers holds at Ok
pub on_any : {T X : Type 0} (r : Result T Stop) → X → OnOk r X
on_any (Ok v) holds = holds
on_any (Err stop) holds = tt

-- what follows where a part of a run went well
pub on_ok : {T X Y : Type 0} (r : Result T Stop) → OnOk r X → (X → Y) → OnOk r Y
on_ok (Ok v) holds then = then holds
on_ok (Err stop) holds then = tt

pub goes_added : (r : Result (Unit {0}) Stop) (old new : RunnerView) (e : Entry) (taken now : Option (List ℕ)) (before after : ℕ) → new.lines ≡ old.lines → new.detail ≡ old.detail → new.core.trace ≡ old.core.trace ++ e ∷ [] → new.core.failed ≡ false
    → TellsEntry old.detail r e taken now before after → before ≤ after → Goes old new taken now before after r
goes_added r old new e taken now before after lines detail trace works tells later = record {
  lines = lines;
  more = e ∷ [];
  gained = trace;
  told = told_entry r old.detail e taken now before after tells;
  detail = detail;
  works = on_any r works;
  later = later;
  cause = rose_entry r old.detail e taken now before after tells;
  full = full_entry r old.detail e taken now before after tells;
}

-- nothing was added, and nothing told
told_none : {T : Type 0} (r : Result T Stop) (d : Detail) (taken : Option (List ℕ)) → Told r taken taken (texts d [])
told_none (Ok v) d taken = subst (Appends taken taken) (sym (texts_none d)) (appends_nothing taken)
told_none (Err Full) d taken = subst (Appends taken taken) (sym (texts_none d)) (appends_nothing taken)
told_none (Err NoMemory) d taken = front_none taken (texts d [])
told_none (Err OutFailed) d taken = front_none taken (texts d [])

pub goes_still : {T : Type 0} (v : T) (r : RunnerView) (taken : Option (List ℕ)) (faults : ℕ) → r.core.failed ≡ false → Goes r r taken taken faults faults (Ok v)
goes_still v r taken faults works = record {
  lines = refl;
  more = [];
  gained = sym (append-nil r.core.trace);
  told = told_none (Ok v) r.detail taken;
  detail = refl;
  works = works;
  later = omega arith;
  cause = λ x. absurd (cc);
  full = λ x. absurd (cc);
}

-- a core has refused
pub goes_refused : {T : Type 0} (why : CoreFault) (old new : RunnerView) (taken : Option (List ℕ)) (faults : ℕ) → new.lines ≡ old.lines → new.detail ≡ old.detail → new.core.trace ≡ old.core.trace → (why ≡ fault.Full → IsFullAt old.lines old.core.trace)
    → Goes {T = T} old new taken taken faults faults (Err (stop_for why))
goes_refused {T} why old new taken faults lines detail trace full = record {
  lines = lines;
  more = [];
  gained = trace ∙ sym (append-nil old.core.trace);
  told = told_none {T = T} (Err (stop_for why)) old.detail taken;
  detail = detail;
  works = tt;
  later = omega arith;
  cause = λ x. not_out why (Err (stop_for why)) refl x;
  full = λ x. is_full (full (was_full why (Err (stop_for why)) refl x));
}
  where
    not_out : (f : CoreFault) (r : Result T Stop) {X : Type 0} → r ≡ Err (stop_for f) → r ≡ Err OutFailed → X
    not_out fault.NoThread r is x = absurd (cc)
    not_out fault.Idle r is x = absurd (cc)
    not_out fault.Running r is x = absurd (cc)
    not_out fault.Full r is x = absurd (cc)
    not_out fault.NoMemory r is x = absurd (cc)

    was_full : (f : CoreFault) (r : Result T Stop) → r ≡ Err (stop_for f) → r ≡ Err Full → f ≡ fault.Full
    was_full fault.NoThread r is x = absurd (cc)
    was_full fault.Idle r is x = absurd (cc)
    was_full fault.Running r is x = absurd (cc)
    was_full fault.Full r is x = refl
    was_full fault.NoMemory r is x = absurd (cc)

    is_full : IsFullAt old.lines old.core.trace → IsFullAt new.lines new.core.trace
    is_full k = subst (λ (l : List Line). IsFullAt l new.core.trace) (sym lines) (subst (λ (t : List Entry). IsFullAt old.lines t) (sym trace) k)

-- memory ran out before the core was asked
pub goes_nowhere : {T : Type 0} (r : RunnerView) (taken : Option (List ℕ)) (faults : ℕ) → Goes {T = T} r r taken taken faults faults (Err NoMemory)
goes_nowhere {T} r taken faults = goes_refused {T = T} fault.NoMemory r r taken faults refl refl refl (λ x. absurd (cc))

-- two parts of a run, one behind the other
pub goes_then : {T : Type 0} (r : Result T Stop) (old middle new : RunnerView) (taken mid now : Option (List ℕ)) (before between after : ℕ) → Goes {T = Unit {0}} old middle taken mid before between (Ok tt) → Goes middle new mid now between after r → Goes old new taken now before after r
goes_then {T} r old middle new taken mid now before between after one two = record {
  lines = two.lines ∙ one.lines;
  more = one.more ++ two.more;
  gained = two.gained ∙ ap (λ (l : List Entry). l ++ two.more) one.gained ∙ append_assoc old.core.trace one.more two.more;
  told = subst (Told r taken now) (sym (texts_both old.detail one.more two.more))
      (told_both r taken mid now (texts old.detail one.more) (texts old.detail two.more) one.told (subst (λ (d : Detail). Told r mid now (texts d two.more)) one.detail two.told));
  detail = two.detail ∙ one.detail;
  works = two.works;
  later = omega (arith, one.later, two.later);
  cause = λ x. rose before between after one.later (two.cause x);
  full = two.full;
}
  where
    rose : (b m a : ℕ) → b ≤ m → Rose m a → Rose b a
    rose b m a low r = omega (arith, low, r)

-- A core was asked for an entry: it has added one, which was told, or it has refused.
pub goes_told : (r : Result (Unit {0}) Stop) (old new : RunnerView) (e : Entry) (taken now : Option (List ℕ)) (before after : ℕ) → new.lines ≡ old.lines → new.detail ≡ old.detail → Adds old.core new.core e
    → ((xs : List Entry) (x : Entry) → new.core.trace ≡ xs ++ x ∷ [] → TellsEntry old.detail r x taken now before after) → before ≤ after → Goes old new taken now before after r
goes_told r old new e taken now before after lines detail adds tells later =
    goes_added r old new e taken now before after lines detail adds.trace adds.works (tells old.core.trace e adds.trace) later

is_full_at : (r : RunnerView) (e : Entry) → MayFollow (place_of r) e → TRACE_LIMIT ≤ length r.core.trace → IsFullAt r.lines r.core.trace
is_full_at r e may long = record { full = long; due = not_at_end (place_of r) e may }

module _ (old new : RunnerView) (taken : Option (List ℕ)) (faults : ℕ) (r : Result (Unit {0}) Stop) (why : CoreFault) (is : r ≡ Err (stop_for why)) (lines : new.lines ≡ old.lines) (detail : new.detail ≡ old.detail) where
  refused : new.core.trace ≡ old.core.trace → (why ≡ fault.Full → IsFullAt old.lines old.core.trace) → Goes old new taken taken faults faults r
  refused trace full = subst (λ (x : Result (Unit {0}) Stop). Goes old new taken taken faults faults x) (sym is) (goes_refused why old new taken faults lines detail trace full)

  pub happens_not : (ev : FaultEvent) → ((e : Entry) → IsOfEvent ev e → MayFollow (place_of old) e) → HappensAs old.core new.core ev (Err why) → Goes old new taken taken faults faults r
  happens_not ev may h = refused (trace why h) (full why h)
    where
      trace : (f : CoreFault) → HappensAs old.core new.core ev (Err f) → new.core.trace ≡ old.core.trace
      trace fault.NoThread k = ap (λ (c : CoreView). c.trace) k.0.1
      trace fault.Full k = ap (λ (c : CoreView). c.trace) k.0.1
      trace fault.NoMemory k = k.trace
      trace fault.Idle k = absurd k
      trace fault.Running k = absurd k

      full : (f : CoreFault) → HappensAs old.core new.core ev (Err f) → f ≡ fault.Full → IsFullAt old.lines old.core.trace
      full fault.Full k same = let (e, of) = event_entry ev in is_full_at old e (may e of) k.2
      full fault.NoThread k same = absurd (cc)
      full fault.NoMemory k same = absurd (cc)
      full fault.Idle k same = absurd (cc)
      full fault.Running k same = absurd (cc)

  pub gives_not : (thread : ℕ) (command : Command) → MayFollow (place_of old) (entry.Call thread command) → GivesAs old.core new.core thread command (Err why) → Goes old new taken taken faults faults r
  gives_not thread command may h = refused (trace why h) (full why h)
    where
      trace : (f : CoreFault) → GivesAs old.core new.core thread command (Err f) → new.core.trace ≡ old.core.trace
      trace fault.NoThread k = ap (λ (c : CoreView). c.trace) k.0.1
      trace fault.Running k = ap (λ (c : CoreView). c.trace) k.0.1
      trace fault.Full k = ap (λ (c : CoreView). c.trace) k.0.1
      trace fault.NoMemory k = k.trace
      trace fault.Idle k = absurd k

      full : (f : CoreFault) → GivesAs old.core new.core thread command (Err f) → f ≡ fault.Full → IsFullAt old.lines old.core.trace
      full fault.Full k same = is_full_at old (entry.Call thread command) may k.3
      full fault.NoThread k same = absurd (cc)
      full fault.NoMemory k same = absurd (cc)
      full fault.Idle k same = absurd (cc)
      full fault.Running k same = absurd (cc)

  pub turns_not : (thread : ℕ) → IsTurning thread (place_of old).turns → TurnsAs old.core new.core thread 0 (Err why) → Goes old new taken taken faults faults r
  turns_not thread turning h = refused (trace why h) (full why h)
    where
      trace : (f : CoreFault) → TurnsAs old.core new.core thread 0 (Err f) → new.core.trace ≡ old.core.trace
      trace fault.NoThread k = ap (λ (c : CoreView). c.trace) k.0.1
      trace fault.Idle k = ap (λ (c : CoreView). c.trace) k.0.1
      trace fault.Full k = ap (λ (c : CoreView). c.trace) k.0.1
      trace fault.NoMemory k = k.trace
      trace fault.Running k = absurd k

      full : (f : CoreFault) → TurnsAs old.core new.core thread 0 (Err f) → f ≡ fault.Full → IsFullAt old.lines old.core.trace
      full fault.Full k same = record { full = k.3; due = λ end. subst (IsTurning thread) end.turns turning }
      full fault.NoThread k same = absurd (cc)
      full fault.NoMemory k same = absurd (cc)
      full fault.Idle k same = absurd (cc)
      full fault.Running k same = absurd (cc)

-- a part of a run that stopped, behind one that went well
pub goes_on : (r : Result (Unit {0}) Stop) (why : Stop) (old middle new : RunnerView) (taken mid now : Option (List ℕ)) (before between after : ℕ) → r ≡ Err why → Goes {T = Unit {0}} old middle taken mid before between (Ok tt) → Goes {T = Unit {0}} middle new mid now between after (Err why) → Goes old new taken now before after r
goes_on r why old middle new taken mid now before between after is one two =
    goes_then r old middle new taken mid now before between after one (subst (λ (x : Result (Unit {0}) Stop). Goes middle new mid now between after x) (sym is) two)

pub goes_nowhere_at : (r : Result (Unit {0}) Stop) (why : Stop) (runner : RunnerView) (taken : Option (List ℕ)) (faults : ℕ) → r ≡ Err why → why ≡ NoMemory → Goes runner runner taken taken faults faults r
goes_nowhere_at r why runner taken faults is same = subst (λ (x : Result (Unit {0}) Stop). Goes runner runner taken taken faults faults x) (sym (is ∙ ap Err same)) (goes_nowhere runner taken faults)
