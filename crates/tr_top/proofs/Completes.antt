-- Accepted words and an accepted script come to their end where no fault is counted and the trace has room.
use Rattle.std.proofs.Common.{◌≡◌, ℕ, ◌+◌, ◌-◌, ◌^◌, ◌<◌, ◌≤◌, List, ◌++◌, length, Option, Some, None, refl, sym, ap, subst, ◌∙◌, arith, inl, inr, append-nil}
use Rattle.std.proofs.lemmas.List.{length-append}
use Rattle.tr_types.specs.declared.entry.Entry.{Entry}
use Rattle.tr_outside.specs.Causes.{Rose}
use Rattle.tr_outside.specs.Whole.{ReadsUpTo}
use Rattle.tr_script.specs.declared.script.Line.{Line}
use Rattle.tr_script.specs.declared.status.Status.{Status}
use Rattle.tr_script.specs.declared.status.Status.TheVariants.{Done, Usage, BadScript, ReadFault, WriteFault, NoMemory, Full}
use Rattle.tr_script.specs.Grammar.{IsScript, text_limit}
use Rattle.tr_top.specs.declared.teller.Detail.{Detail}
use Rattle.tr_top.specs.Top.{Outside, IsForm, IsAnswered, ReadsNoScript, RunEnds}
use Rattle.tr_top.specs.Completes.{NoFault, EndsWell}

no_rise : (before after : ℕ) → after ≡ before → before < 2 ^ 64 - 1 → Rose before after → ⊥
no_rise before after same low rose = omega (arith, same, low, rose)

-- what was read of a known text that is no longer than a script may be is all of it
all_read : (text read : List ℕ) (rest : Option (List ℕ)) → length text ≤ text_limit → ReadsUpTo (text_limit + 1) (Some text) rest read → read ≡ text
all_read text read None short r = absurd r.taken
all_read text read (Some rest) short r =
    let few : length read < text_limit + 1 = omega (arith, ap length r.taken, length-append read rest) in
    sym (r.taken ∙ ap (λ (l : List ℕ). read ++ l) (r.end few) ∙ append-nil read)

no_refusal : (text : List ℕ) (lines : List Line) (left rest : Option (List ℕ)) (line column : ℕ) → left ≡ Some text → IsScript text lines → ReadsNoScript left rest line column → ⊥
no_refusal text lines left rest line column known script n =
    let read = all_read text n.text rest script.size (subst (λ l. ReadsUpTo (text_limit + 1) l rest n.text) known n.read) in
    n.none lines (subst (λ (t : List ℕ). IsScript t lines) (sym read) script)

pub completes : (words : List (List ℕ)) (detail : Detail) (before after : Outside) (status : Status) (trace : List Entry) (text : List ℕ) (lines : List Line) → IsAnswered words before after status trace → IsForm words detail → before.script_left ≡ Some text → IsScript text lines → NoFault before after → EndsWell before after status trace
completes words detail before after Done trace text lines a form known script none = tt
completes words detail before after NoMemory trace text lines a form known script none = tt
completes words detail before after Full trace text lines a form known script none = (a.ends.2, a.ends.3, a.ends.4.full, a.ends.4.due)
completes words detail before after Usage trace text lines a form known script none = absurd (a.usage.0 refl detail form)
completes words detail before after (BadScript line column) trace text lines a form known script none = absurd (no_refusal text lines before.script_left after.script_left line column known script a.ends.1)
completes words detail before after ReadFault trace text lines a form known script none = absurd (no_rise before.script_faults after.script_faults none.script.0 none.script.1 a.ends.1)
completes words detail before after WriteFault trace text lines a form known script none = by a.ends.4
  where
    by : RunEnds a.ends.0 before.sinks after.sinks a.ends.2 WriteFault trace → ⊥
    by (inl u) = no_rise before.sinks.out_faults after.sinks.out_faults none.out.0 none.out.1 u.cause
    by (inr u) = no_rise before.sinks.saved_faults after.sinks.saved_faults none.saved.0 none.saved.1 u.cause
