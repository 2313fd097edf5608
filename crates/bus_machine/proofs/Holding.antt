-- What the holders' rows say of a coffer.
use Rattle.std.proofs.Common.{◌≡◌, ℕ, List, [], ◌∷◌, Bool, true, false, cond, refl, sym, ap, subst, ◌∙◌, ◌⊎◌, inl, inr, Option, Some, None, nat_eq}
use Rattle.std.specs.Prelude.{All}
use Rattle.std.proofs.lemmas.Bool.{or_parts, or_cases, and_left, eqb-true}
use Rattle.std.proofs.lemmas.List.Elements.{All-head, All-tail}
use Rattle.kern_model.specs.KernelTables.{is_id}
use Rattle.tr_types.specs.declared.kernel_call.Holder.{Holder}
use Rattle.kern_model.specs.Rights.{key_in, is_writable, are_together, is_held, store_fault, store_fault_by}

-- Where nobody holds a coffer, no process has a key for it.
no_key : (threads : List (ℕ × ℕ)) (holders : List Holder) (thread id : ℕ) → is_held id holders ≡ false → key_in threads holders thread id ≡ None
no_key threads [] thread id none = refl
no_key threads (h ∷ holders) thread id none =
    let parts = or_parts (nat_eq h.id id) (is_held id holders) none in
    ap (λ (b : Bool). cond b (Some h.key) (key_in threads holders thread id)) (and_left (nat_eq h.id id) (are_together threads h.thread thread) parts.0)
    ∙ no_key threads holders thread id parts.1

-- a store is done only where somebody holds the coffer
held_key : (b : Bool) (threads : List (ℕ × ℕ)) (holders : List Holder) (thread pkru id : ℕ) → is_held id holders ≡ b → store_fault threads holders thread pkru id ≡ None → is_held id holders ≡ true
held_key true threads holders thread pkru id is done = is
held_key false threads holders thread pkru id is done =
    let no : store_fault_by None (is_writable threads holders thread id) pkru ≡ None = ap (λ (k : Option ℕ). store_fault_by k (is_writable threads holders thread id) pkru) (sym (no_key threads holders thread id is)) ∙ done in
    absurd (cc)

pub stored_is_held : (threads : List (ℕ × ℕ)) (holders : List Holder) (thread pkru id : ℕ) → store_fault threads holders thread pkru id ≡ None → is_held id holders ≡ true
stored_is_held threads holders thread pkru id done = held_key (is_held id holders) threads holders thread pkru id refl done

-- what is held has the number of a coffer, where all rows have one
pub held_has_id : (holders : List Holder) (id : ℕ) → All (λ h. is_id h.id ≡ true) holders → is_held id holders ≡ true → is_id id ≡ true
held_has_id [] id ids held = absurd cc
held_has_id (h ∷ holders) id ids held =
    by (or_cases (nat_eq h.id id) (is_held id holders) held) (held_has_id holders id (All-tail (λ (g : Holder). is_id g.id ≡ true) h holders ids))
  where
    by : (nat_eq h.id id ≡ true) ⊎ (is_held id holders ≡ true) → (is_held id holders ≡ true → is_id id ≡ true) → is_id id ≡ true
    by (inl here) rest = subst (λ (n : ℕ). is_id n ≡ true) (eqb-true h.id id here) (All-head (λ (g : Holder). is_id g.id ≡ true) h holders ids)
    by (inr there) rest = rest there
