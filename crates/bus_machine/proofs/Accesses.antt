-- What an access is answered: by the kernel's list of owners, as by the owner words.
use Rattle.std.proofs.Common.{◌≡◌, ℕ, ◌/◌, ◌%◌, ◌<◌, Bool, true, false, cond, List, length, refl, sym, ap, ◌∙◌, arith, nat_eq, nat_lt, Some, None}
use Rattle.std.specs.Prelude.{slice_index}
use Rattle.std.proofs.lemmas.Bool.{and_parts, eqb-true, ltb-true}
use Rattle.std.proofs.lemmas.List.FromFn.{get_or-map-range_with_len}
use Rattle.pm_words.specs.Word.{Word}
use Rattle.pm_words.specs.Memory.{IsAddress, HasPages}
use Rattle.kern_model.specs.KernelView.{pages_of}
use Rattle.kern_model.specs.Kernel.{kernel_owner}
use Rattle.tr_types.specs.declared.action.FaultKind.TheVariants.{NotMapped}
use Rattle.kern_model.specs.Rights.{is_held, load_fault, store_fault}
use Rattle.bus_model.specs.Machine.{Bus, is_word, load_refusal, store_refusal, pkru_of}
use Rattle.kern_calls.specs.Calls.{KernelView, IsMounted}
use Rattle.bus_machine.proofs.Holding.{stored_is_held}

-- a word's page is inside
pub page_inside : (words : List Word) (addr : ℕ) → HasPages (length words) → is_word words addr ≡ true → addr / 4096 < pages_of words
page_inside words addr size word =
    let lt = ltb-true (addr / 8) (length words) (and_parts (nat_eq (addr % 8) 0) (nat_lt (addr / 8) (length words)) word).1 in
    let whole = size.whole in
    omega arith

pub word_address : (words : List Word) (addr : ℕ) → is_word words addr ≡ true → IsAddress (length words) addr
word_address words addr word =
    let parts = and_parts (nat_eq (addr % 8) 0) (nat_lt (addr / 8) (length words)) word in
    record { aligned = eqb-true (addr % 8) 0 parts.0; inside = ltb-true (addr / 8) (length words) parts.1 }

-- the kernel knows whose the page is
pub owner_told : (kernel : KernelView) (words : List Word) (page : ℕ) → IsMounted kernel words → page < pages_of words → slice_index kernel.owners page ≡ kernel_owner words page
owner_told kernel words page mounted lt =
    ap (λ (owners : List ℕ). slice_index owners page) mounted.told
    ∙ get_or-map-range_with_len (kernel_owner words) 0 (pages_of words) page page 0 lt (omega arith)

-- at a word, the rights decide
pub load_by_rights : (bus : Bus) (thread addr : ℕ) → is_word bus.words addr ≡ true → load_refusal bus thread addr ≡ load_fault bus.threads bus.holders thread (pkru_of bus thread) (kernel_owner bus.words (addr / 4096))
load_by_rights bus thread addr word = ap (λ (b : Bool). cond b (load_fault bus.threads bus.holders thread (pkru_of bus thread) (kernel_owner bus.words (addr / 4096))) (Some NotMapped)) word

pub store_by_rights : (bus : Bus) (thread addr : ℕ) → is_word bus.words addr ≡ true → store_refusal bus thread addr ≡ store_fault bus.threads bus.holders thread (pkru_of bus thread) (kernel_owner bus.words (addr / 4096))
store_by_rights bus thread addr word = ap (λ (b : Bool). cond b (store_fault bus.threads bus.holders thread (pkru_of bus thread) (kernel_owner bus.words (addr / 4096))) (Some NotMapped)) word

-- what a permitted access is at
word_of_load : (b : Bool) (bus : Bus) (thread addr : ℕ) → is_word bus.words addr ≡ b → load_refusal bus thread addr ≡ None → is_word bus.words addr ≡ true
word_of_load true bus thread addr is done = is
word_of_load false bus thread addr is done =
    let no = ap (λ (b : Bool). cond b (load_fault bus.threads bus.holders thread (pkru_of bus thread) (kernel_owner bus.words (addr / 4096))) (Some NotMapped)) (sym is) ∙ done in
    absurd cc

pub load_address : (bus : Bus) (thread addr : ℕ) → load_refusal bus thread addr ≡ None → IsAddress (length bus.words) addr
load_address bus thread addr done = word_address bus.words addr (word_of_load (is_word bus.words addr) bus thread addr refl done)

word_of_store : (b : Bool) (bus : Bus) (thread addr : ℕ) → is_word bus.words addr ≡ b → store_refusal bus thread addr ≡ None → is_word bus.words addr ≡ true
word_of_store true bus thread addr is done = is
word_of_store false bus thread addr is done =
    let no = ap (λ (b : Bool). cond b (store_fault bus.threads bus.holders thread (pkru_of bus thread) (kernel_owner bus.words (addr / 4096))) (Some NotMapped)) (sym is) ∙ done in
    absurd cc

pub stored_word : (bus : Bus) (thread addr : ℕ) → store_refusal bus thread addr ≡ None → is_word bus.words addr ≡ true
stored_word bus thread addr done = word_of_store (is_word bus.words addr) bus thread addr refl done

pub store_address : (bus : Bus) (thread addr : ℕ) → store_refusal bus thread addr ≡ None → IsAddress (length bus.words) addr
store_address bus thread addr done = word_address bus.words addr (stored_word bus thread addr done)

-- a permitted store goes to a page of a coffer that is held
pub store_held : (bus : Bus) (thread addr : ℕ) → store_refusal bus thread addr ≡ None → is_held (kernel_owner bus.words (addr / 4096)) bus.holders ≡ true
store_held bus thread addr done =
    stored_is_held bus.threads bus.holders thread (pkru_of bus thread) (kernel_owner bus.words (addr / 4096)) (sym (store_by_rights bus thread addr (stored_word bus thread addr done)) ∙ done)
