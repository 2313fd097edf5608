-- A pool whose lease is taken.
use Rattle.std.proofs.Common.{◌≡◌, ℕ, ◌+◌, ◌*◌, Bool, List, [], ◌∷◌, ◌++◌, ap, sym, ◌∙◌, refl, append_assoc, arith}
use Rattle.std.specs.Prelude.{Option, Some, if◌then◌else◌, ◌==◌}
use Rattle.std.proofs.lemmas.Bool.{ne_eqb}
use Rattle.tr_types.specs.declared.entry.Mark.TheVariants as mark
use Rattle.zo_lease.specs.declared.giving.Gift.{Gift}
use Rattle.zo_lease.specs.Words.{head_word}
use Rattle.zo_lease.specs.Turns.{Turn, stands_in, is_word, exchange_fails, Taken, Lost, shows}
use Rattle.zo_lease.specs.Laws.{LostLease}
use Rattle.zo_lease.proofs.Counts.{Counts, same}
use Rattle.zo_lease.proofs.GivingLemmas.{Trying, Exchanges}

-- the own word stands where it was put
pub taken_stands : (addr thread own found : ℕ) (turns : List Turn) → Taken addr thread own found turns → stands_in addr turns ≡ Some own
taken_stands addr thread own found turns k =
    ap (λ (ts : List Turn). stands_in addr ts) k.is
    ∙ ap (λ (b : Bool). if b then Some (if found == found then own else found) else stands_in addr (k.before ∷ k.earlier)) (same addr)
    ∙ ap (λ (b : Bool). Some (if b then own else found)) (same found)

-- and a load of the head shows nothing of it
pub head_aside : (addr word tick : ℕ) (turns : List Turn) → stands_in addr (shows (head_word addr) word tick ∷ turns) ≡ stands_in addr turns
head_aside addr word tick turns =
    ap (λ (b : Bool). if b then Some word else stands_in addr turns) (ne_eqb (head_word addr) addr (λ e. let is : addr + 8 * 1 ≡ addr = e in omega arith))

pub look_stands : (addr word tick : ℕ) (turns : List Turn) → stands_in addr (shows addr word tick ∷ turns) ≡ Some word
look_stands addr word tick turns = ap (λ (b : Bool). if b then Some word else stands_in addr turns) (same addr)

-- a give-back that begins where the own word stands
pub gives_first : (gift : Gift) (began failed most : ℕ) (turns : List Turn) → Counts exchange_fails gift.addr began failed (most + 1) turns
    → stands_in gift.addr turns ≡ Some gift.own → Exchanges gift began failed most turns turns
gives_first gift began failed most turns c stands = record {
  counts = c;
  other = λ word ne. ap (λ (s : Option ℕ). is_word s word) stands ∙ ne;
  trying = record { tries = []; is = refl; only = tt };
}

-- a lease that was tried for since
pub lost_since : (addr thread own found word : ℕ) (taken since drawn turns : List Turn) → Taken addr thread own found taken → drawn ≡ since ++ taken
    → Trying addr drawn turns → Lost addr own mark.Plain word turns → LostLease addr thread word turns
lost_since addr thread own found word taken since drawn turns won is k lost = record {
  own = own;
  holds = record { found = found; taken = taken; since = k.tries ++ since; won = won; is = k.is ∙ ap (λ (ts : List Turn). k.tries ++ ts) is ∙ sym (append_assoc k.tries since taken) };
  lost = lost;
}
