-- What is known where no refusal of a row is due.
use Rattle.std.proofs.Common.{◌≡◌, ◌⊎◌, inl, inr, ℕ, ◌/◌, ◌%◌, ◌<◌, ◌≤◌, Bool, true, false, not, List, [], ◌∷◌, length, find, Option, Some, None, refl, sym, subst, ◌∙◌, arith, nat_eq}
use Rattle.std.specs.Prelude.{All, ◌&&◌, ◌||◌, nat_lt, codes}
use Rattle.std.specs.List.{list_any, AllByRecursion}
use Rattle.std.proofs.lemmas.Bool.{and_parts, or_cases, or_parts, eqb-true, ltb-true, ltb-false, true≢false, cond-false}
use Rattle.std.proofs.lemmas.List.Elements.{All-head, All-tail}
use Rattle.zo_layout.specs.Layout.{page_at, kernel_pages}
use Rattle.pm_words.specs.Word.{Word}
use Rattle.kern_model.specs.KernelView.{pages_of}
use Rattle.kern_model.specs.Journal.{kernel_word}
use Rattle.kern_model.specs.Kernel.{kernel_owner, coffers}
use Rattle.kern_model.specs.KernelTables.{owner_in, is_id}
use Rattle.tr_types.specs.Permission.{has_bit}
use Rattle.kern_model.specs.Rights.{is_row_of}
use Rattle.tr_types.specs.Paths.{is_path_text, same_text, directory_path}
use Rattle.kern_model.specs.PathMap.{coffer_of_path, is_coffer}
use Rattle.kern_model.specs.KernelCalls.{holds_for_writing, is_bad_new_path, refused_where, first_due, is_word_of, owns_page, is_bad_page, bad_address_page, not_yours, pages_refused}
use Rattle.tr_types.specs.declared.kernel_call.KernAnswer.{KernAnswer}
use Rattle.tr_types.specs.declared.kernel_call.Holder.{Holder}
use Rattle.kern_owner.specs.Laws.{OwnersPass}
use Rattle.kern_laws.proofs.MoveReads.{IsOuterPlace}
use Rattle.kern_laws.proofs.MoveOwners.{id_bounds, owned_behind}

-- Refusals one after another.

pub none_due : (refusals : List (Option KernAnswer)) → first_due refusals ≡ None → AllByRecursion (λ (r : Option KernAnswer). r ≡ None) refusals
none_due [] none = tt
none_due (None ∷ refusals) none = (refl, none_due refusals none)
none_due (Some due ∷ refusals) none = absurd (cc)

pub not_refused : (test : Bool) (refusal : KernAnswer) → refused_where test refusal ≡ None → test ≡ false
not_refused true refusal none = absurd (cc)
not_refused false refusal none = refl

-- Pages and addresses.

both_none : (one two : Option ℕ) → not_yours one two ≡ None → (one ≡ None) × (two ≡ None)
both_none (Some page) two none = absurd (cc)
both_none None (Some page) none = absurd (cc)
both_none None None none = (refl, refl)

pub pages_taken : (words : List Word) (parent : ℕ) (addrs : List ℕ) (id : ℕ) (kept pages : List ℕ) → pages_refused words parent addrs id kept pages ≡ None
    → (bad_address_page words parent addrs ≡ None) × (find (is_bad_page words id kept pages) pages ≡ None)
pages_taken words parent addrs id kept pages none = both_none (bad_address_page words parent addrs) (find (is_bad_page words id kept pages) pages) none

pub address_taken : (words : List Word) (id addr : ℕ) (addrs : List ℕ) → bad_address_page words id (addr ∷ addrs) ≡ None → is_word_of words id addr ≡ true
address_taken words id addr addrs none = by (is_word_of words id addr) refl
  where
    by : (b : Bool) → is_word_of words id addr ≡ b → is_word_of words id addr ≡ true
    by true is = is
    by false isnt =
        let found : Some (addr / 4096) ≡ None = sym (cond-false (is_word_of words id addr) (bad_address_page words id addrs) (Some (addr / 4096)) isnt) ∙ none in absurd (cc)

page_placed : (kernel pages addr : ℕ) → addr % 8 ≡ 0 → kernel ≤ addr / 4096 → addr / 4096 < pages → (page_at kernel ≤ addr) × (addr < page_at pages)
page_placed kernel pages addr whole least below = (omega arith, omega arith)

-- a word of a coffer's page isn't the kernel's
pub word_placed : (pages : ℕ) (at : ℕ → ℕ) (id addr : ℕ) → OwnersPass pages at → id ≤ 256 → addr % 8 ≡ 0 → addr / 4096 < pages → owner_in pages at (addr / 4096) ≡ id → IsOuterPlace pages addr
word_placed pages at id addr passes most whole below is =
    let placed = page_placed (kernel_pages pages) pages addr whole (owned_behind pages at (addr / 4096) id passes below is most) below in
    record { whole = whole; least = placed.0; below = placed.1 }

pub address_placed : (words : List Word) (id addr : ℕ) (addrs : List ℕ) → OwnersPass (pages_of words) (kernel_word words) → is_id id ≡ true → bad_address_page words id (addr ∷ addrs) ≡ None
    → IsOuterPlace (pages_of words) addr
address_placed words id addr addrs passes number none =
    let parts = and_parts (nat_eq (addr % 8) 0) (owns_page words id (addr / 4096)) (address_taken words id addr addrs none) in
    let owned = and_parts (nat_lt (addr / 4096) (pages_of words)) (nat_eq (kernel_owner words (addr / 4096)) id) parts.1 in
    word_placed (pages_of words) (kernel_word words) id addr passes (id_bounds id number).1 (eqb-true (addr % 8) 0 parts.0) (ltb-true (addr / 4096) (pages_of words) owned.0)
    (eqb-true (kernel_owner words (addr / 4096)) id owned.1)

-- Holders.

-- what holds of every coffer that is held holds of one that a holder of some kind has
pub held_by : (P : ℕ → Type 0) (test : Holder → Bool) (id : ℕ) (holders : List Holder) → ((h : Holder) → test h ≡ true → h.id ≡ id) → list_any test holders ≡ true → All (λ (h : Holder). P h.id) holders → P id
held_by P test id [] own some all = absurd (true≢false (sym some))
held_by P test id (h ∷ hs) own some all = by (or_cases (test h) (list_any test hs) some) (λ rest. held_by P test id hs own rest (All-tail (λ (x : Holder). P x.id) h hs all))
  where
    by : (test h ≡ true) ⊎ (list_any test hs ≡ true) → (list_any test hs ≡ true → P id) → P id
    by (inl here) later = subst P (own h here) (All-head (λ (x : Holder). P x.id) h hs all)
    by (inr there) later = later there

pub row_id : (thread id : ℕ) (h : Holder) → is_row_of thread id h ≡ true → h.id ≡ id
row_id thread id h is = eqb-true h.id id (and_parts (nat_eq h.thread thread) (nat_eq h.id id) is).1

-- so of one that is held for writing
pub writer_is : (P : ℕ → Type 0) (thread id : ℕ) (holders : List Holder) → holds_for_writing thread id holders ≡ true → All (λ (h : Holder). P h.id) holders → P id
writer_is P thread id holders writes all =
    held_by P (λ h. is_row_of thread id h && has_bit h.right.0 1) id holders (λ h is. row_id thread id h (and_parts (is_row_of thread id h) (has_bit h.right.0 1) is).0) writes all

-- Paths.

-- what is known of a new coffer's path
pub path_fine : (words : List Word) (parent : ℕ) (path : List ℕ) → is_bad_new_path words parent path ≡ false → length path ≤ 440
path_fine words parent path fine =
    let d = or_parts (not (is_path_text path) || same_text path (codes "/") || nat_lt 440 (length path)) (not (is_coffer parent (coffer_of_path (coffers words) (directory_path path)))) fine in
    let c = or_parts (not (is_path_text path) || same_text path (codes "/")) (nat_lt 440 (length path)) d.0 in
    ltb-false 440 (length path) c.1
