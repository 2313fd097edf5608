-- Each store outside the drawn pages comes directly after looks at all leases.
use Rattle.std.proofs.Common.{◌≡◌, ◌⊎◌, inl, inr, ℕ, ◌+◌, ◌*◌, ◌/◌, ◌<◌, ◌≤◌, List, [], ◌∷◌, ◌++◌, length, slice_index, Contains, All, Bool, true, false, not, cond, ◌==◌, nat_lt, refl, sym, ap, subst, ◌∙◌, arith}
use Rattle.std.specs.List.{AllByRecursion}
use Rattle.std.proofs.lemmas.Bool.{and_parts, eqb-true, ltb-false, false≢true}
use Rattle.std.proofs.lemmas.List.{append_assoc, append-nil, get_or_default}
use Rattle.std.proofs.lemmas.List.Elements.{recursion_from_All}
use Rattle.tr_types.specs.declared.action.Action.TheVariants as action
use Rattle.tr_types.specs.declared.action.Answer.{Answer}
use Rattle.tr_types.specs.declared.action.Answer.TheVariants.{Word, Done, Fault, Kern}
use Rattle.tr_types.specs.declared.entry.Mark.TheVariants as mark
use Rattle.zo_plan.specs.declared.deed.Deed.{Deed}
use Rattle.zo_plan.specs.declared.deed.Deed.TheVariants.{Store, Count, Raise, Look, Flush, Fence}
use Rattle.zo_plan.specs.declared.deed.Due.{Due}
use Rattle.zo_plan.specs.declared.deed.Verdict.{Verdict}
use Rattle.zo_plan.specs.declared.deed.Verdict.TheVariants.{GoesOn, Taken, Refused, Ends}
use Rattle.zo_plan.specs.declared.held.Held.{Held}
use Rattle.zo_plan.specs.declared.plan.Operand.{Operand}
use Rattle.zo_plan.specs.declared.plan.Operand.TheVariants.{Known, Drawn}
use Rattle.zo_plan.specs.declared.plan.Plan.{Plan}
use Rattle.zo_plan.specs.declared.plan.Put.{Put}
use Rattle.zo_plan.specs.Deeds.{action_of, mark_of, counted, judged_due, judged_early, judged_late}
use Rattle.zo_lease.specs.Words.{counter_word, expiry_of, is_kept}
use Rattle.zo_plan.specs.Leases.{is_shown}
use Rattle.zo_plan.specs.Laws.{Made, made_from, IsInPages, IsLook, AreLooks, EndsInLooks, LookLaw}
use Rattle.zo_plan.specs.Operands.{real}
use Rattle.zo_plan.specs.Runs.{early, late, looks, late_looks, looked_before, store_of, note_beside, line_of, flush_between, prepared, raises, notes, follows, dues_of, step_at, run_at}

-- what is due, in order

module _ (drawn : List ℕ) (leases : List Held) where
  -- a store goes to a drawn page, or these leases are all
  abbrev Behind : List Held → Deed → Type 0
  Behind done (Store addr word mark) = Contains drawn (addr / 4096) ⊎ (done ≡ leases)
  Behind done (Raise addr) = done ≡ leases
  Behind done deed = Unit {0}

  -- the leases that were looked at directly before the next one
  abbrev done_after : List Held → Deed → List Held
  done_after done (Look held) = done ++ held ∷ []
  done_after done deed = []

  abbrev Guarded : List Held → List Due → Type 0
  Guarded done [] = Unit {0}
  Guarded done (d ∷ left) = Behind done d.deed × Guarded (done_after done d.deed) left

  guarded_looks : (done first : List Held) (left : List Due) → done ++ first ≡ leases → Guarded leases left → Guarded done (looks first ++ left)
  guarded_looks done [] left all behind = subst (λ (hs : List Held). Guarded hs left) (sym (sym (append-nil done) ∙ all)) behind
  guarded_looks done (held ∷ first) left all behind = (tt, guarded_looks (done ++ held ∷ []) first left (append_assoc done (held ∷ []) first ∙ all) behind)

  guarded_late_looks : (done first : List Held) (left : List Due) → done ++ first ≡ leases → Guarded leases left → Guarded done (late_looks first ++ left)
  guarded_late_looks done [] left all behind = subst (λ (hs : List Held). Guarded hs left) (sym (sym (append-nil done) ∙ all)) behind
  guarded_late_looks done (held ∷ first) left all behind = (tt, guarded_late_looks (done ++ held ∷ []) first left (append_assoc done (held ∷ []) first ∙ all) behind)

  guarded_flush : (put : Put) (puts : List Put) (left : List Due) → Guarded [] left → Guarded [] (flush_between drawn put puts ++ left)
  guarded_flush put [] left rest = (tt, rest)
  guarded_flush put (next ∷ puts) left rest = by (line_of (real drawn next.at) == line_of (real drawn put.at))
    where
      by : (same : Bool) → Guarded [] (cond same [] (early (Flush (real drawn put.at)) ∷ []) ++ left)
      by true = rest
      by false = (tt, rest)

  drawn_page : (page byte : ℕ) → page < length drawn → byte < 4096 → Contains drawn ((4096 * slice_index drawn page + byte) / 4096)
  drawn_page page byte inside low = (page, inside, get_or_default drawn page _ 0 inside ∙ sym (quotient (slice_index drawn page)))
    where
      quotient : (n : ℕ) → (4096 * n + byte) / 4096 ≡ n
      quotient n = omega (arith, low)

  guarded_prepared : (puts : List Put) (left : List Due) → AllByRecursion (λ (put : Put). IsInPages drawn put.at) puts → Guarded [] left → Guarded [] (prepared drawn leases leases puts ++ left)
  guarded_prepared [] left inside rest = rest
  guarded_prepared (put ∷ puts) left (here, inside) rest =
      subst (λ (ds : List Due). Guarded [] ds) (sym (nested (looks (looked_before put.at leases)) (flush_between drawn put puts) (prepared drawn leases leases puts)))
      (by put.at here (guarded_flush put puts (prepared drawn leases leases puts ++ left) (guarded_prepared puts left inside rest)))
    where
      nested : (a b d : List Due) → ((a ++ early (store_of drawn mark.Plain put) ∷ b) ++ d) ++ left ≡ a ++ early (store_of drawn mark.Plain put) ∷ (b ++ (d ++ left))
      nested a b d =
          append_assoc (a ++ early (store_of drawn mark.Plain put) ∷ b) d left
          ∙ append_assoc a (early (store_of drawn mark.Plain put) ∷ b) (d ++ left)

      by : (at : Operand) → IsInPages drawn at → Guarded [] (flush_between drawn put puts ++ (prepared drawn leases leases puts ++ left))
          → Guarded [] (looks (looked_before at leases) ++ early (Store (real drawn at) (real drawn put.word) mark.Plain) ∷ (flush_between drawn put puts ++ (prepared drawn leases leases puts ++ left)))
      by (Known addr) here rest = guarded_looks [] leases _ refl (inr refl, rest)
      by (Drawn page byte) (inside, low) rest = (inl (drawn_page page byte inside low), rest)

  guarded_raises : (held : List Held) (left : List Due) → Guarded [] left → Guarded [] (raises leases held ++ left)
  guarded_raises [] left rest = rest
  guarded_raises (held ∷ others) left rest = (
    tt,
    subst (λ (ds : List Due). Guarded [] ds) (sym (append_assoc (looks leases) (early (Raise (counter_word held.lease)) ∷ raises leases others) left))
        (guarded_looks [] leases _ refl (refl, guarded_raises others left rest)),
  )

  guarded_notes : (plan : Plan) (held : List Held) (left : List Due) → Guarded [] left → Guarded [] (notes drawn plan leases leases held ++ left)
  guarded_notes plan [] left rest = rest
  guarded_notes plan (held ∷ others) left rest =
      subst (λ (ds : List Due). Guarded [] ds) (sym (append_assoc (looks leases) (early (note_beside drawn plan held) ∷ notes drawn plan leases leases others) left))
      (guarded_looks [] leases _ refl (inr refl, guarded_notes plan others left rest))

  guarded_follows : (puts : List Put) → Guarded [] (follows drawn leases leases puts)
  guarded_follows [] = tt
  guarded_follows (put ∷ puts) = guarded_late_looks [] leases _ refl (inr refl, guarded_follows puts)

  guarded_dues : (plan : Plan) → All (λ (put : Put). IsInPages drawn put.at) plan.prepares.items → Guarded [] (dues_of drawn leases plan)
  guarded_dues plan inside =
      guarded_prepared plan.prepares.items _ (recursion_from_All (λ (put : Put). IsInPages drawn put.at) plan.prepares.items inside) (
        tt,
        guarded_raises leases _ (guarded_notes plan leases _
            (guarded_looks [] leases _ refl (inr refl, (tt, (tt, guarded_follows plan.after.items))))),
      )

-- what is made

are_looks : (leases : List Held) (made : List Made) (held : Held) (look : Made) → AreLooks leases made → IsLook held look → AreLooks (leases ++ held ∷ []) (made ++ look ∷ [])
are_looks [] [] held look all one = (one, tt)
are_looks [] (m ∷ made) held look all one = absurd all
are_looks (h ∷ leases) [] held look all one = absurd all
are_looks (h ∷ leases) (m ∷ made) held look (this, all) one = (this, are_looks leases made held look all one)

-- an own word is shown
own_word : (held : Held) (word now : ℕ) → is_kept held.own word now ≡ true → (word ≡ held.own) × (now ≤ expiry_of word)
own_word held word now e =
    let both = and_parts (word == held.own) (not (nat_lt (expiry_of word) now)) e in
    (eqb-true word held.own both.0, ltb-false (expiry_of word) now (not_is (nat_lt (expiry_of word) now) both.1))
  where
    not_is : (b : Bool) → not b ≡ true → b ≡ false
    not_is true e = sym e
    not_is false e = refl

shown_look : (held : Held) (answer : Answer) (now : ℕ) → is_shown held answer now ≡ true → (answer ≡ Word held.own) × (now ≤ expiry_of held.own)
shown_look held (Word word) now e =
    let own = own_word held word now e in
    (ap (λ (w : ℕ). Word w) own.0, subst (λ (w : ℕ). now ≤ expiry_of w) own.0 own.1)
shown_look held Done now e = absurd (false≢true e)
shown_look held (Fault kind) now e = absurd (false≢true e)
shown_look held (Kern answer) now e = absurd (false≢true e)

goes_not : (shown : Bool) (v : Verdict) → (v ≡ GoesOn → ⊥) → cond shown GoesOn v ≡ GoesOn → shown ≡ true
goes_not true v other e = refl
goes_not false v other e = absurd (other e)

-- where a run goes on behind a look, it was such a look
look_goes : (held : Held) (late : Bool) (answer : Answer) (now : ℕ) → cond late (judged_late (Look held) answer now) (judged_early (Look held) answer now) ≡ GoesOn → is_shown held answer now ≡ true
look_goes held true answer now e = goes_not (is_shown held answer now) Ends (λ e. cc) e
look_goes held false (Word word) now e = goes_not (is_shown held (Word word) now) (Taken held.lease word) (λ e. cc) e
look_goes held false Done now e = absurd (no e)
  where
    no : Taken held.lease 0 ≡ GoesOn → ⊥
    no e = cc
look_goes held false (Kern answer) now e = absurd (no e)
  where
    no : Taken held.lease 0 ≡ GoesOn → ⊥
    no e = cc
look_goes held false (Fault kind) now e = absurd (no e)
  where
    no : Refused held.lease ≡ GoesOn → ⊥
    no e = cc

no_made : (before after : List Made) (m : Made) → [] ≡ before ++ m ∷ after → ⊥
no_made [] after m e = cc
no_made (b ∷ before) after m e = cc

module _ (drawn : List ℕ) (leases : List Held) (addr word : ℕ) (outside : Contains drawn (addr / 4096) → ⊥) where
  -- a store outside the drawn pages is made behind looks at all leases
  all_looked : (deed : Deed) (seen : ℕ) (done : List Held) → Behind drawn leases done deed → action_of seen deed ≡ action.Store addr word → done ≡ leases
  all_looked (Store a w m) seen done (inl inside) e = absurd (outside (subst (λ (n : ℕ). Contains drawn (n / 4096)) (address e) inside))
    where
      address : action.Store a w ≡ action.Store addr word → a ≡ addr
      address e = cc
  all_looked (Store a w m) seen done (inr all) e = all
  all_looked (Raise a) seen done all e = all
  all_looked (Count a) seen done all e = cc
  all_looked (Look held) seen done all e = cc
  all_looked (Flush a) seen done all e = cc
  all_looked Fence seen done all e = cc

  abbrev made_by : Due → ℕ → Answer × ℕ → Made
  made_by d seen reply = record { action = action_of seen d.deed; mark = mark_of d.deed; answer = reply.0; now = reply.1 }

  -- the looks that end what was made go on with a look that has shown the lease, and begin anew behind any other action
  looks_after : (d : Due) (seen : ℕ) (reply : Answer × ℕ) (done : List Held) (before : List Made) → EndsInLooks done before → judged_due d reply.0 reply.1 ≡ GoesOn
      → EndsInLooks (done_after drawn leases done d.deed) (before ++ made_by d seen reply ∷ [])
  looks_after d seen reply done before ends goes = by d.deed d.late goes
    where
      anew : (m : Made) → EndsInLooks [] (before ++ m ∷ [])
      anew m = record { earlier = before ++ m ∷ []; looks = []; made_are = sym (append-nil (before ++ m ∷ [])); shown = tt }

      by : (deed : Deed) (late : Bool) → cond late (judged_late deed reply.0 reply.1) (judged_early deed reply.0 reply.1) ≡ GoesOn
          → EndsInLooks (done_after drawn leases done deed) (before ++ made_by (record { deed = deed; late = late }) seen reply ∷ [])
      by (Look held) late goes =
          let shown = shown_look held reply.0 reply.1 (look_goes held late reply.0 reply.1 goes) in
          let look : Made = made_by (record { deed = Look held; late = late }) seen reply in
          record {
            earlier = ends.earlier;
            looks = ends.looks ++ look ∷ [];
            made_are = ap (λ (ms : List Made). ms ++ look ∷ []) ends.made_are ∙ append_assoc ends.earlier ends.looks (look ∷ []);
            shown = are_looks done ends.looks held look ends.shown (record { action = refl; mark = refl; own = shown.0; fresh = shown.1 });
          }
      by (Store a w m) late goes = anew _
      by (Count a) late goes = anew _
      by (Raise a) late goes = anew _
      by (Flush a) late goes = anew _
      by Fence late goes = anew _

  -- the actions from this one on, behind those that were made before
  from_here : (d : Due) (seen : ℕ) (cut : Bool) (left : List Due) (replies : List (Answer × ℕ)) (done : List Held) (before : List Made)
      → Guarded drawn leases done (d ∷ left) → EndsInLooks done before
      → (mid after : List Made) (m : Made) → made_from (step_at GoesOn seen (d ∷ left)) (run_at GoesOn seen cut (d ∷ left)) replies ≡ mid ++ m ∷ after
      → m.action ≡ action.Store addr word → EndsInLooks leases (before ++ mid)
  from_here d seen cut left [] done before guarded ends mid after m made stores = absurd (no_made mid after m made)
  from_here d seen cut left (reply ∷ replies) done before (this, rest) ends [] after m made stores =
      let same : made_by d seen reply ≡ m = head_of made in
      let all : done ≡ leases = all_looked d.deed seen done this (ap (λ (x : Made). x.action) same ∙ stores) in
      subst (λ (ms : List Made). EndsInLooks leases ms) (sym (append-nil before)) (subst (λ (hs : List Held). EndsInLooks hs before) all ends)
    where
      head_of : {tail : List Made} → made_by d seen reply ∷ tail ≡ m ∷ after → made_by d seen reply ≡ m
      head_of e = cc
  from_here d seen cut left (reply ∷ replies) done before (this, rest) ends (first ∷ mid) after m made stores =
      subst (λ (ms : List Made). EndsInLooks leases ms) (append_assoc before (made_by d seen reply ∷ []) mid ∙ ap (λ (x : Made). before ++ x ∷ mid) (head_of made))
      (by (judged_due d reply.0 reply.1) refl left rest (tail_of made)
      (λ next ds rest ends tail. from_here next (counted d.deed reply.0 seen) cut ds replies (done_after drawn leases done d.deed) (before ++ made_by d seen reply ∷ []) rest ends mid after m tail stores))
    where
      head_of : {tail : List Made} → made_by d seen reply ∷ tail ≡ first ∷ (mid ++ m ∷ after) → made_by d seen reply ≡ first
      head_of e = cc

      tail_of : {tail : List Made} → made_by d seen reply ∷ tail ≡ first ∷ (mid ++ m ∷ after) → tail ≡ mid ++ m ∷ after
      tail_of e = cc

      by : (v : Verdict) → judged_due d reply.0 reply.1 ≡ v → (ds : List Due) → Guarded drawn leases (done_after drawn leases done d.deed) ds
          → made_from (step_at v (counted d.deed reply.0 seen) ds) (run_at v (counted d.deed reply.0 seen) cut ds) replies ≡ mid ++ m ∷ after
          → ((next : Due) (ds : List Due) → Guarded drawn leases (done_after drawn leases done d.deed) (next ∷ ds) → EndsInLooks (done_after drawn leases done d.deed) (before ++ made_by d seen reply ∷ [])
          → made_from (step_at GoesOn (counted d.deed reply.0 seen) (next ∷ ds)) (run_at GoesOn (counted d.deed reply.0 seen) cut (next ∷ ds)) replies ≡ mid ++ m ∷ after
          → EndsInLooks leases ((before ++ made_by d seen reply ∷ []) ++ mid))
          → EndsInLooks leases ((before ++ made_by d seen reply ∷ []) ++ mid)
      by GoesOn goes [] rest tail go_on = absurd (no_made mid after m tail)
      by GoesOn goes (next ∷ ds) rest tail go_on = go_on next ds rest (looks_after d seen reply done before ends goes) tail
      by (Taken a w) goes ds rest tail go_on = absurd (no_made mid after m tail)
      by (Refused a) goes ds rest tail go_on = absurd (no_made mid after m tail)
      by Ends goes ds rest tail go_on = absurd (no_made mid after m tail)

pub looked_law : LookLaw
looked_law drawn leases plan replies inside before after m addr word made stores outside = by (dues_of drawn leases plan) (guarded_dues drawn leases plan inside) made
  where
    by : (ds : List Due) → Guarded drawn leases [] ds → made_from (step_at GoesOn 0 ds) (run_at GoesOn 0 false ds) replies ≡ before ++ m ∷ after → EndsInLooks leases before
    by [] guarded made = absurd (no_made before after m made)
    by (d ∷ ds) guarded made =
        from_here drawn leases addr word outside d 0 false ds replies [] [] guarded (record { earlier = []; looks = []; made_are = refl; shown = tt }) before after m made stores
