-- A New keeps the rules: two free pages become the new coffer's, which no coffer had, and it is linked in its parent.
use Rattle.std.proofs.Common.{◌≡◌, ℕ, ◌<◌, ◌≤◌, true, not, List, [], ◌∷◌, length, take, Option, None, refl, sym, ap, ◌∙◌, arith, nat_eq}
use Rattle.std.specs.Prelude.{All, nat_lt, is_some, slice_index_or}
use Rattle.std.specs.List.{AllByRecursion}
use Rattle.std.proofs.lemmas.Bool.{and_parts, not-false, ltb-false}
use Rattle.std.proofs.lemmas.List.Elements.{All-nil, All-cons}
use Rattle.zo_layout.specs.Layout.{page_at, page_kind, kernel_pages}
use Rattle.pm_words.specs.Word.{Word}
use Rattle.kern_model.specs.KernelView.{pages_of}
use Rattle.kern_model.specs.Journal.{kernel_word}
use Rattle.kern_model.specs.Kernel.{coffers, spare_pages}
use Rattle.kern_model.specs.KernelTables.{Coffer, is_id, is_mode, stands_in, coffer_in, pages_free}
use Rattle.kern_model.specs.PathMap.{coffer_at_path}
use Rattle.kern_model.specs.KernelCalls.{Callers, cred_of, first_due, holds_for_writing, is_bad_new_path, link_addr, link_pair, next_id, new_coffer, new_row, IsCall}
use Rattle.kern_model.specs.Commits.{IsWorking, IsCaller}
use Rattle.tr_types.specs.declared.kernel_call.Kcall.TheVariants as call
use Rattle.tr_types.specs.declared.kernel_call.KernAnswer.{KernAnswer}
use Rattle.tr_types.specs.declared.kernel_call.KernAnswer.TheVariants as answer
use Rattle.tr_types.specs.declared.kernel_call.Holder.{Holder}
use Rattle.kern_owner.specs.Owners.{is_among}
use Rattle.kern_owner.specs.Laws.{TablesPass}
use Rattle.kern_roots.specs.Changes.{is_used}
use Rattle.kern_roots.specs.Laws.{IsNew, AddLaw}
use Rattle.kern_laws.specs.Rows.{KeepsTables}
use Rattle.kern_laws.proofs.MoveReads.{IsBetween, IsOuterPlace}
use Rattle.kern_laws.proofs.MoveOwners.{among_holds, id_bounds, used_has}
use Rattle.kern_laws.proofs.MoveAdd.{IsComing, two_of_used}
use Rattle.kern_laws.proofs.MoveSpare.{free_inside, free_owner, free_behind, free_ascends, free_spares, first_in, second_in, two_apart, take_few, free_is_number, next_is_free}
use Rattle.kern_laws.proofs.MoveRefusals.{none_due, not_refused, pages_taken, address_placed, writer_is, path_fine}
use Rattle.kern_laws.proofs.MoveKeeps.{tables_pass, coming_keeps}

-- the word of a page's kind
pub kind_placed : (pages page : ℕ) → kernel_pages pages ≤ page → page < pages → IsOuterPlace pages (page_kind (page_at page))
kind_placed pages page least below = by (kernel_pages pages) least
  where
    by : (kernel : ℕ) → kernel ≤ page → IsBetween (page_at kernel) (page_at pages) (page_kind (page_at page))
    by kernel le = record { whole = omega arith; least = omega arith; below = omega arith }

-- the new coffer, over plain tables
two_free : (pages : ℕ) (at : ℕ → ℕ) (c : Coffer) (linking : List (ℕ × ℕ)) → TablesPass pages at → IsNew pages at c → c.perm.uid ≤ 4294967295 → c.perm.gid ≤ 4294967295 → is_mode c.perm.mode ≡ true
    → c.kind ≡ 0 → c.control ≡ slice_index_or (pages_free pages at) 0 0 → c.root ≡ slice_index_or (pages_free pages at) 1 0 → 2 ≤ length (pages_free pages at)
    → All (λ (p : ℕ × ℕ). IsOuterPlace pages p.0) linking → IsComing pages at c (take 2 (pages_free pages at)) linking
two_free pages at c linking passes new uid gid mode kind control root enough links = record {
  passes = passes;
  new = new;
  number = free_is_number pages at c.id new.free;
  uid = uid;
  gid = gid;
  mode = mode;
  kind = kind;
  control = ap (is_among (take 2 (pages_free pages at))) control ∙ first_in 1 (pages_free pages at) (omega arith);
  root = ap (is_among (take 2 (pages_free pages at))) root ∙ second_in 0 (pages_free pages at) enough;
  apart = λ same. two_apart 0 (pages_free pages at) (free_ascends pages at) enough (sym control ∙ same ∙ root);
  inside = free_inside pages at 2;
  behind = free_behind pages at 2 passes.owners;
  spares_control = λ id used. free_spares pages at (take 2 (pages_free pages at)) id (coffer_in pages at id).control (free_owner pages at 2) (some id used) (two_of_used pages at id passes used).control;
  spares_root = λ id used. free_spares pages at (take 2 (pages_free pages at)) id (coffer_in pages at id).root (free_owner pages at 2) (some id used) (two_of_used pages at id passes used).root;
  links = links;
}
  where
    some : (id : ℕ) → is_used pages at id ≡ true → 1 ≤ id
    some id used = (id_bounds id (and_parts (is_id id) (stands_in pages at id) (used_has pages at id used)).0).0

pub new_keeps : AddLaw → (callers : Callers) (words : List Word) (holders : List Holder) (thread now parent : ℕ) (path : List ℕ) (kind mode : ℕ) (link : ℕ × ℕ × ℕ) (guard : ℕ × ℕ)
    → IsWorking words holders → IsCaller callers thread (call.New parent path kind mode link guard) → IsCall (call.New parent path kind mode link guard)
    → first_due (new_row callers words holders thread now parent path kind mode link guard).refusals ≡ None
    → KeepsTables words (new_row callers words holders thread now parent path kind mode link guard)
new_keeps add callers words holders thread now parent path kind mode link guard works caller is_call none =
    coming_keeps add words holders works c (take 2 (spare_pages words)) ((page_kind (page_at (slice_index_or (spare_pages words) 1 0)), kind) ∷ link_pair link ∷ []) coming
    (take 2 (spare_pages words)) (free_behind (pages_of words) (kernel_word words) 2 passes.owners) (free_inside (pages_of words) (kernel_word words) 2)
    (let few = take_few 2 (spare_pages words) in omega arith)
    (new_row callers words holders thread now parent path kind mode link guard).refusals (answer.Made (next_id words))
  where
    passes : TablesPass (pages_of words) (kernel_word words)
    passes = tables_pass words works.sound

    c : Coffer
    c = new_coffer words (cred_of callers thread) path mode

    due : AllByRecursion (λ (r : Option KernAnswer). r ≡ None) (new_row callers words holders thread now parent path kind mode link guard).refusals
    due = none_due (new_row callers words holders thread now parent path kind mode link guard).refusals none

    writes : is_id parent ≡ true
    writes = writer_is (λ n. is_id n ≡ true) thread parent holders (not-false (holds_for_writing thread parent holders) (not_refused (not (holds_for_writing thread parent holders)) answer.NotHeld due.0)) works.ids

    enough : 2 ≤ length (spare_pages words)
    enough = ltb-false (length (spare_pages words)) 2 (not_refused (nat_lt (length (spare_pages words)) 2) (answer.NoPages 2 (length (spare_pages words))) due.1.1.1.1.1.1.1.0)

    new : IsNew (pages_of words) (kernel_word words) c
    new = record {
      free = next_is_free words (not_refused (nat_eq (next_id words) 0) answer.TooMany due.1.1.1.1.1.1.0);
      fresh = not_refused (is_some (coffer_at_path (coffers words) path)) answer.Taken due.1.1.1.1.1.0;
      path = is_call.0;
      short = path_fine words parent path (not_refused (is_bad_new_path words parent path) answer.BadPath due.1.0);
      there = refl;
    }

    root : ℕ
    root = slice_index_or (spare_pages words) 1 0

    links : All (λ (p : ℕ × ℕ). IsOuterPlace (pages_of words) p.0) ((page_kind (page_at (slice_index_or (spare_pages words) 1 0)), kind) ∷ link_pair link ∷ [])
    links =
        All-cons (λ (p : ℕ × ℕ). IsOuterPlace (pages_of words) p.0) (page_kind (page_at root), kind) (link_pair link ∷ [])
        (kind_placed (pages_of words) root
        (among_holds (λ page. kernel_pages (pages_of words) ≤ page) (take 2 (spare_pages words)) root (free_behind (pages_of words) (kernel_word words) 2 passes.owners) (second_in 0 (spare_pages words) enough))
        (among_holds (λ page. page < pages_of words) (take 2 (spare_pages words)) root (free_inside (pages_of words) (kernel_word words) 2) (second_in 0 (spare_pages words) enough)))
        (All-cons (λ (p : ℕ × ℕ). IsOuterPlace (pages_of words) p.0) (link_pair link) []
        (address_placed words parent (link_addr link) (guard.0 ∷ []) passes.owners writes (pages_taken words parent (link_addr link ∷ guard.0 ∷ []) parent [] [] due.1.1.0).0)
        (All-nil (λ (p : ℕ × ℕ). IsOuterPlace (pages_of words) p.0)))

    coming : IsComing (pages_of words) (kernel_word words) c (take 2 (spare_pages words)) ((page_kind (page_at (slice_index_or (spare_pages words) 1 0)), kind) ∷ link_pair link ∷ [])
    coming = two_free (pages_of words) (kernel_word words) c ((page_kind (page_at root), kind) ∷ link_pair link ∷ []) passes new caller.1.uid caller.1.gid is_call.2 refl refl refl enough links
