-- A Split keeps the rules: listed pages of a coffer and a free page become the new coffer's, which no coffer had, and it is linked
-- in the old one.
use Rattle.std.proofs.Common.{◌≡◌, ℕ, ◌+◌, ◌<◌, ◌≤◌, true, false, not, List, [], ◌∷◌, ◌++◌, length, map, take, find, Option, None, refl, sym, ap, ◌∙◌, arith, nat_eq}
use Rattle.std.specs.Prelude.{All, ◌||◌, ◌==◌, nat_lt, is_some, slice_index_or}
use Rattle.std.specs.List.{AllByRecursion}
use Rattle.std.proofs.lemmas.Bool.{cond_both, and_parts, and_from, or_left, or_right, or_from, eq-eqb, false_from_ne_true, not-false, ltb-false, true≢false}
use Rattle.std.proofs.lemmas.List.{length-append}
use Rattle.std.proofs.lemmas.List.Elements.{All-nil, All-cons, All-append}
use Rattle.zo_layout.specs.Layout.{page_at, page_kind, word_of, kernel_pages}
use Rattle.pm_words.specs.Word.{Word}
use Rattle.pm_words.specs.Memory.{word_at}
use Rattle.kern_model.specs.KernelView.{pages_of}
use Rattle.kern_model.specs.Journal.{kernel_word}
use Rattle.kern_model.specs.Kernel.{coffers, spare_pages}
use Rattle.kern_model.specs.KernelTables.{Coffer, is_id, is_mode, owner_in, owns, stands_in, coffer_in, pages_free}
use Rattle.kern_model.specs.PathMap.{coffer_at_path, added_pairs}
use Rattle.kern_model.specs.KernelCalls.{Callers, Row, row_of_maps, first_due, refused_where, holds_for_writing, is_bad_new_path, is_bad_page, bad_address_page, pages_refused, guard_refused, link_refused, pages_short, owner_pairs, link_addr, link_pair, next_id, named, is_there_with, control_and_root, first_page, split_coffer, cleared_words, is_same_mode, split_refused, split_row, IsCall}
use Rattle.kern_model.specs.Commits.{IsWorking, IsCaller}
use Rattle.tr_types.specs.declared.kernel_call.Kcall.TheVariants as call
use Rattle.tr_types.specs.declared.kernel_call.KernAnswer.{KernAnswer}
use Rattle.tr_types.specs.declared.kernel_call.KernAnswer.TheVariants as answer
use Rattle.tr_types.specs.declared.kernel_call.Holder.{Holder}
use Rattle.kern_owner.specs.Owners.{is_among}
use Rattle.kern_owner.specs.Laws.{TablesPass}
use Rattle.kern_owner.proofs.AmongLemmas.{among_append}
use Rattle.kern_roots.specs.Changes.{is_used}
use Rattle.kern_roots.specs.Laws.{IsNew, AddLaw}
use Rattle.kern_roots.proofs.ReadingSound.{IsEntry, entry_is_sound}
use Rattle.kern_laws.specs.Rows.{KeepsTables}
use Rattle.kern_laws.proofs.MoveReads.{IsBetween, IsOuterPlace}
use Rattle.kern_laws.proofs.MoveOwners.{owns_parts, used_has, has_used, id_bounds, among_holds}
use Rattle.kern_laws.proofs.MoveAdd.{IsComing, two_of_used}
use Rattle.kern_laws.proofs.MoveSpare.{free_inside, free_owner, free_behind, free_spares, first_in, take_few, free_is_number, next_is_free}
use Rattle.kern_laws.proofs.MoveRefusals.{none_due, not_refused, pages_taken, address_placed, writer_is, path_fine}
use Rattle.kern_laws.proofs.MoveParents.{named_is}
use Rattle.kern_laws.proofs.MoveListed.{AreListed, are_listed, listed_inside, listed_behind, listed_few}
use Rattle.kern_laws.proofs.MoveKeeps.{tables_pass, coming_keeps, unchanged_keeps}

-- the first of a list
head_in : (xs : List ℕ) → 0 < length xs → is_among xs (first_page xs) ≡ true
head_in [] some = absurd (omega arith)
head_in (x ∷ xs) some = or_left (nat_eq x x) (is_among xs x) (eq-eqb x x refl)

-- a word of a page
word_in_page : (kernel pages page i : ℕ) → kernel ≤ page → page < pages → i < 512 → IsBetween (page_at kernel) (page_at pages) (word_of (page_at page) i)
word_in_page kernel pages page i least below lt = record { whole = omega arith; least = omega arith; below = omega arith }

cleared_placed : (words : List Word) (page : ℕ) → kernel_pages (pages_of words) ≤ page → page < pages_of words → All (λ (p : ℕ × ℕ). IsOuterPlace (pages_of words) p.0) (cleared_words words page)
cleared_placed words page least below =
    cond_both (nat_eq (word_at words (page_kind (page_at page))).present 0) (map (λ (i : ℕ). (word_of (page_at page) i, 0)) (1 ∷ 2 ∷ 3 ∷ [])) [] (λ (ps : List (ℕ × ℕ)). All (λ (p : ℕ × ℕ). IsOuterPlace (pages_of words) p.0) ps)
    (λ _. All-cons (λ (p : ℕ × ℕ). IsOuterPlace (pages_of words) p.0) (word_of (page_at page) 1, 0) ((word_of (page_at page) 2, 0) ∷ (word_of (page_at page) 3, 0) ∷ []) (here 1 (omega arith))
    (All-cons (λ (p : ℕ × ℕ). IsOuterPlace (pages_of words) p.0) (word_of (page_at page) 2, 0) ((word_of (page_at page) 3, 0) ∷ []) (here 2 (omega arith))
    (All-cons (λ (p : ℕ × ℕ). IsOuterPlace (pages_of words) p.0) (word_of (page_at page) 3, 0) [] (here 3 (omega arith)) (All-nil (λ (p : ℕ × ℕ). IsOuterPlace (pages_of words) p.0)))))
    (λ _. All-nil (λ (p : ℕ × ℕ). IsOuterPlace (pages_of words) p.0))
  where
    here : (i : ℕ) → i < 512 → IsOuterPlace (pages_of words) (word_of (page_at page) i)
    here i lt = word_in_page (kernel_pages (pages_of words)) (pages_of words) page i least below lt

cleared_few : (words : List Word) (page : ℕ) → length (cleared_words words page) ≤ 3
cleared_few words page =
    cond_both (nat_eq (word_at words (page_kind (page_at page))).present 0) (map (λ (i : ℕ). (word_of (page_at page) i, 0)) (1 ∷ 2 ∷ 3 ∷ [])) [] (λ (ps : List (ℕ × ℕ)). length ps ≤ 3)
    (λ _. omega arith) (λ _. omega arith)

-- the new coffer, over plain tables
parted : (pages : ℕ) (at : ℕ → ℕ) (c : Coffer) (id : ℕ) (kept list : List ℕ) (linking : List (ℕ × ℕ)) → TablesPass pages at → IsNew pages at c → is_used pages at id ≡ true
    → c.perm.uid ≡ (coffer_in pages at id).perm.uid → c.perm.gid ≡ (coffer_in pages at id).perm.gid → is_mode c.perm.mode ≡ true → c.kind ≡ 0
    → c.control ≡ slice_index_or (pages_free pages at) 0 0 → c.root ≡ first_page list → 1 ≤ length (pages_free pages at) → 0 < length list
    → kept ≡ (coffer_in pages at id).control ∷ (coffer_in pages at id).root ∷ [] → AreListed pages at id kept list → All (λ (p : ℕ × ℕ). IsOuterPlace pages p.0) linking
    → IsComing pages at c (list ++ take 1 (pages_free pages at)) linking
parted pages at c id kept list linking passes new used uid gid mode kind control root enough some kept_is listed links = record {
  passes = passes;
  new = new;
  number = free_is_number pages at c.id new.free;
  uid = let most = entry.uid in omega arith;
  gid = let most = entry.gid in omega arith;
  mode = mode;
  kind = kind;
  control = whole c.control ∙ or_right (is_among list c.control) (is_among spare c.control) own_control;
  root = whole c.root ∙ or_left (is_among list c.root) (is_among spare c.root) own_root;
  apart = λ same.
      let free = among_holds (λ p. owner_in pages at p ≡ 0) spare c.control (free_owner pages at 1) own_control in
      let its = (owns_parts pages at id c.root (listed.owned c.root own_root)).1 in
      let low = bounds.0 in
      let one = ap (owner_in pages at) same in
      omega arith;
  inside = All-append (λ page. page < pages) list spare (listed_inside pages at id kept list listed) (free_inside pages at 1);
  behind = All-append (λ page. kernel_pages pages ≤ page) list spare (listed_behind pages at id kept list passes.owners bounds.1 listed) (free_behind pages at 1 passes.owners);
  spares_control = λ other taken. spared other taken (coffer_in pages at other).control (two_of_used pages at other passes taken).control
      (λ own. ap (λ (xs : List ℕ). is_among xs (coffer_in pages at other).control) kept_is
      ∙ or_left (nat_eq (coffer_in pages at other).control (coffer_in pages at id).control) (is_among ((coffer_in pages at id).root ∷ []) (coffer_in pages at other).control)
      (eq-eqb (coffer_in pages at other).control (coffer_in pages at id).control (ap (λ (n : ℕ). (coffer_in pages at n).control) own)));
  spares_root = λ other taken. spared other taken (coffer_in pages at other).root (two_of_used pages at other passes taken).root
      (λ own. ap (λ (xs : List ℕ). is_among xs (coffer_in pages at other).root) kept_is
      ∙ or_right (nat_eq (coffer_in pages at other).root (coffer_in pages at id).control) (is_among ((coffer_in pages at id).root ∷ []) (coffer_in pages at other).root)
      (or_left (nat_eq (coffer_in pages at other).root (coffer_in pages at id).root) false
      (eq-eqb (coffer_in pages at other).root (coffer_in pages at id).root (ap (λ (n : ℕ). (coffer_in pages at n).root) own))));
  links = links;
}
  where
    spare : List ℕ
    spare = take 1 (pages_free pages at)

    bounds_of : (other : ℕ) → is_used pages at other ≡ true → (1 ≤ other) × (other ≤ 256)
    bounds_of other taken = id_bounds other (and_parts (is_id other) (stands_in pages at other) (used_has pages at other taken)).0

    bounds : (1 ≤ id) × (id ≤ 256)
    bounds = bounds_of id used

    entry : IsEntry pages at id
    entry = entry_is_sound pages at id (passes.entries id bounds.0 bounds.1) (used_has pages at id used)

    whole : (page : ℕ) → is_among (list ++ take 1 (pages_free pages at)) page ≡ (is_among list page || is_among (take 1 (pages_free pages at)) page)
    whole page = among_append list (take 1 (pages_free pages at)) page

    own_control : is_among (take 1 (pages_free pages at)) c.control ≡ true
    own_control = ap (is_among (take 1 (pages_free pages at))) control ∙ first_in 0 (pages_free pages at) enough

    own_root : is_among list c.root ≡ true
    own_root = ap (is_among list) root ∙ head_in list some

    spared : (other : ℕ) → is_used pages at other ≡ true → (page : ℕ) → owns pages at other page ≡ true → (other ≡ id → is_among kept page ≡ true)
        → is_among (list ++ take 1 (pages_free pages at)) page ≡ false
    spared other taken page owned its =
        whole page
        ∙ or_from (is_among list page) (is_among spare page)
        (false_from_ne_true (is_among list page) (λ is. true≢false (sym (its (sym (owns_parts pages at other page owned).1 ∙ (owns_parts pages at id page (listed.owned page is)).1)) ∙ listed.spares page is)))
        (free_spares pages at spare other page (free_owner pages at 1) (bounds_of other taken).0 owned)

abbrev split_linking : List Word → List ℕ → (ℕ × ℕ × ℕ) → List (ℕ × ℕ)
split_linking words pages link = cleared_words words (first_page pages) ++ link_pair link ∷ []

-- the row where the mode is another
abbrev other_row : Callers → List Word → List Holder → ℕ → ℕ → ℕ → List ℕ → List ℕ → ℕ → (ℕ × ℕ × ℕ) → (ℕ × ℕ) → Row
other_row callers words holders thread now id path pages mode link guard = record {
  refusals =
      split_refused callers words holders thread id
      ++ (refused_where (is_bad_new_path words id path) answer.BadPath
      ∷ pages_refused words id (link_addr link ∷ guard.0 ∷ []) id (control_and_root words id) pages
      ∷ guard_refused words now guard
      ∷ link_refused words link
      ∷ refused_where (is_some (coffer_at_path (coffers words) path)) answer.Taken
      ∷ refused_where (next_id words == 0) answer.TooMany
      ∷ pages_short words 1
      ∷ []);
  answer = answer.Made (next_id words);
  granted = take 1 (spare_pages words);
  pairs =
      owner_pairs words (next_id words) (pages ++ take 1 (spare_pages words))
      ++ (added_pairs (pages_of words) (kernel_word words) (split_coffer words id path pages mode)
      ++ (cleared_words words (first_page pages) ++ link_pair link ∷ []));
  holders = holders;
}

other_keeps : AddLaw → (callers : Callers) (words : List Word) (holders : List Holder) (thread now id : ℕ) (path pages : List ℕ) (mode : ℕ) (link : ℕ × ℕ × ℕ) (guard : ℕ × ℕ)
    → IsWorking words holders → IsCall (call.Split id path pages mode link guard)
    → first_due (other_row callers words holders thread now id path pages mode link guard).refusals ≡ None
    → KeepsTables words (other_row callers words holders thread now id path pages mode link guard)
other_keeps add callers words holders thread now id path pages mode link guard works is_call none =
    coming_keeps add words holders works c (pages ++ take 1 (spare_pages words)) (split_linking words pages link) coming
    (take 1 (spare_pages words)) (free_behind (pages_of words) (kernel_word words) 1 passes.owners) (free_inside (pages_of words) (kernel_word words) 1) count
    (other_row callers words holders thread now id path pages mode link guard).refusals (answer.Made (next_id words))
  where
    passes : TablesPass (pages_of words) (kernel_word words)
    passes = tables_pass words works.sound

    c : Coffer
    c = split_coffer words id path pages mode

    due : AllByRecursion (λ (r : Option KernAnswer). r ≡ None) (other_row callers words holders thread now id path pages mode link guard).refusals
    due = none_due (other_row callers words holders thread now id path pages mode link guard).refusals none

    writes : holds_for_writing thread id holders ≡ true
    writes = not-false (holds_for_writing thread id holders) (not_refused (not (holds_for_writing thread id holders)) answer.NotHeld due.0)

    number : is_id id ≡ true
    number = writer_is (λ n. is_id n ≡ true) thread id holders writes works.ids

    there : is_there_with words id ≡ true
    there =
        has_used (pages_of words) (kernel_word words) id
        (and_from (is_id id) (stands_in (pages_of words) (kernel_word words) id) number (writer_is (λ n. stands_in (pages_of words) (kernel_word words) n ≡ true) thread id holders writes works.held))

    old : named words id ≡ coffer_in (pages_of words) (kernel_word words) id
    old = named_is words id there

    enough : 1 ≤ length (spare_pages words)
    enough = ltb-false (length (spare_pages words)) 1 (not_refused (nat_lt (length (spare_pages words)) 1) (answer.NoPages 1 (length (spare_pages words))) due.1.1.1.1.1.1.1.1.0)

    new : IsNew (pages_of words) (kernel_word words) c
    new = record {
      free = next_is_free words (not_refused (nat_eq (next_id words) 0) answer.TooMany due.1.1.1.1.1.1.1.0);
      fresh = not_refused (is_some (coffer_at_path (coffers words) path)) answer.Taken due.1.1.1.1.1.1.0;
      path = is_call.0;
      short = path_fine words id path (not_refused (is_bad_new_path words id path) answer.BadPath due.1.1.0);
      there = refl;
    }

    taken : (bad_address_page words id (link_addr link ∷ guard.0 ∷ []) ≡ None) × (find (is_bad_page words id (control_and_root words id) pages) pages ≡ None)
    taken = pages_taken words id (link_addr link ∷ guard.0 ∷ []) id (control_and_root words id) pages due.1.1.1.0

    listed : AreListed (pages_of words) (kernel_word words) id (control_and_root words id) pages
    listed = are_listed words id (control_and_root words id) pages taken.1

    root_in : is_among pages (first_page pages) ≡ true
    root_in = head_in pages is_call.1

    links : All (λ (p : ℕ × ℕ). IsOuterPlace (pages_of words) p.0) (split_linking words pages link)
    links =
        All-append (λ (p : ℕ × ℕ). IsOuterPlace (pages_of words) p.0) (cleared_words words (first_page pages)) (link_pair link ∷ [])
        (cleared_placed words (first_page pages)
        (among_holds (λ page. kernel_pages (pages_of words) ≤ page) pages (first_page pages) (listed_behind (pages_of words) (kernel_word words) id (control_and_root words id) pages passes.owners (id_bounds id number).1 listed) root_in)
        (among_holds (λ page. page < pages_of words) pages (first_page pages) (listed_inside (pages_of words) (kernel_word words) id (control_and_root words id) pages listed) root_in))
        (All-cons (λ (p : ℕ × ℕ). IsOuterPlace (pages_of words) p.0) (link_pair link) [] (address_placed words id (link_addr link) (guard.0 ∷ []) passes.owners number taken.0)
        (All-nil (λ (p : ℕ × ℕ). IsOuterPlace (pages_of words) p.0)))

    coming : IsComing (pages_of words) (kernel_word words) c (pages ++ take 1 (spare_pages words)) (split_linking words pages link)
    coming =
        parted (pages_of words) (kernel_word words) c id (control_and_root words id) pages (split_linking words pages link) passes new there
        (ap (λ (d : Coffer). d.perm.uid) old) (ap (λ (d : Coffer). d.perm.gid) old) is_call.2 refl refl refl enough is_call.1
        (ap (λ (d : Coffer). d.control ∷ d.root ∷ []) old) listed links

    count : length (pages ++ take 1 (spare_pages words)) + length (split_linking words pages link) ≤ pages_of words + 400
    count =
        let one = take_few 1 (spare_pages words) in
        let few = listed_few (pages_of words) (kernel_word words) id (control_and_root words id) pages listed in
        let three = cleared_few words (first_page pages) in
        let all = length-append pages (take 1 (spare_pages words)) in
        let both = length-append (cleared_words words (first_page pages)) (link_pair link ∷ []) in
        omega arith

pub split_keeps : AddLaw → (callers : Callers) (words : List Word) (holders : List Holder) (thread now id : ℕ) (path pages : List ℕ) (mode : ℕ) (link : ℕ × ℕ × ℕ) (guard : ℕ × ℕ)
    → IsWorking words holders → IsCaller callers thread (call.Split id path pages mode link guard) → IsCall (call.Split id path pages mode link guard)
    → first_due (split_row callers words holders thread now id path pages mode link guard).refusals ≡ None
    → KeepsTables words (split_row callers words holders thread now id path pages mode link guard)
split_keeps add callers words holders thread now id path pages mode link guard works caller is_call =
    cond_both (is_same_mode words id mode) (row_of_maps (split_refused callers words holders thread id) answer.Same holders) (other_row callers words holders thread now id path pages mode link guard)
    (λ (row : Row). first_due row.refusals ≡ None → KeepsTables words row)
    (λ _ none. unchanged_keeps words holders works (split_refused callers words holders thread id) answer.Same)
    (λ _ none. other_keeps add callers words holders thread now id path pages mode link guard works is_call none)
