-- What the rows of the kernel's calls say where the root coffer is the only one.
use Rattle.std.proofs.Common.{◌≡◌, ◌≢◌, ◌⊎◌, inl, inr, ℕ, ◌+◌, ◌/◌, ◌%◌, ◌<◌, ◌≤◌, zero, suc, Bool, true, false, not, cond, ◌==◌, ◌&&◌, ◌||◌, if◌then◌else◌, List, [], ◌∷◌, ◌++◌, length, map, filter, take, get_or, nat_eq, refl, sym, ap, subst, ◌∙◌, arith, All, Contains, ne_eqb}
use Rattle.std.specs.Prelude.{Option, Some, None, is_some, fold, codes, nat_lt, nat_le}
use Rattle.std.specs.List.{range_with_len, list_all, starts_with}
use Rattle.std.proofs.lemmas.Bool.{cond-false, cases_lt, cond_both, le-leb, ltb-true, ltb-false, eqb-true, eqb-false, or_cases, or_parts, false_from_ne_true}
use Rattle.std.proofs.lemmas.List.Elements.{All-nil, All-cons, All-head, All-tail, All-weaker, All-take, All-filter, filter_passes}
use Rattle.std.proofs.lemmas.List.{length-take-le}
use Rattle.std.proofs.lemmas.List.Sums.{fold-append}
use Rattle.std.proofs.lemmas.Slice.Eq.{bytes_eq-Decides}
use Rattle.pm_words.specs.Word.{Word}
use Rattle.pm_words.specs.Memory.{word_at, HasPages}
use Rattle.zo_layout.specs.Layout.{kernel_pages, owner_word, committed_word}
use Rattle.zo_model.specs.Alone.{root_perm}
use Rattle.zo_model.specs.Commands.{IsName, IsNameByte, IsPath}
use Rattle.tr_types.specs.Paths.{in_first, parts_of, names_of}
use Rattle.tr_types.specs.Paths.{same_text, is_name_byte, is_name_text, are_names_after, is_path_text, begins_with}
use Rattle.kern_model.specs.Journal.{committed_count, kernel_word, laid_over, pair_at}
use Rattle.kern_model.specs.KernelView.{pages_of, owner_of, free_pages}
use Rattle.kern_model.specs.KernelTables.{Coffer, coffers_in, pages_owned, pages_free}
use Rattle.kern_model.specs.Kernel.{coffers, coffer_pages, spare_pages, kernel_owner}
use Rattle.kern_model.specs.PathMap.{coffer_of_path, longest}
use Rattle.kern_model.specs.KernelCalls.{Callers, Row, located, or_none, is_bad_look, found_for, row_of_maps, refused_where, first_due, unless_refused, row_answer, row_events, zero_events, stored_events, find_row, map_row, map_row_for, mapped_as, in_use, least_of, key_or_none, answer_by, cred_of, holds_any, holds_for_writing, unmap_row, enlarge_row, owner_pairs, inner_of, answer_of, words_after, holders_after}
use Rattle.kern_model.specs.Inner.{made, made_all, journal_events}
use Rattle.kern_model.proofs.NewKernel.{one_coffer}
use Rattle.kern_model.proofs.Idle.{idle_word, idle_reads, idle_owner, idle_spare, idle_pages}
use Rattle.kern_model.proofs.GivenSteps.{Rises, in_order_already, owners_rise, rises_from_less, filter_rises, take_rises, length_owners, CanBeGiven, given_to}
use Rattle.kern_model.specs.JournalLaws.{IsDurable}
use Rattle.kern_model.specs.declared.inner.Inner.{Inner}
use Rattle.tr_types.specs.declared.kernel_call.FoundAt.{FoundAt}
use Rattle.tr_types.specs.declared.kernel_call.Holder.{Holder}
use Rattle.tr_types.specs.declared.kernel_call.KernAnswer.{KernAnswer}
use Rattle.tr_types.specs.declared.kernel_call.KernAnswer.TheVariants as kern
use Rattle.tr_types.specs.declared.kernel_call.Kcall.TheVariants as call
use Rattle.tr_types.specs.Permission.{refuses, is_in_group}
use Rattle.tr_types.specs.Permission.{has_bit}
use Rattle.kern_model.specs.Rights.{allows_writing, those_against, key_for, is_row_of, holds_itself, with_row, without_row, IsLeastOf}
use Rattle.bus_model.specs.Machine.{Bus, callers_of}
use Rattle.tr_model.specs.RootCoffer.{IsRootAlone, root_coffer, found_at, root_mapped, IsGiven, MapAnswers, UnmapAnswers, EnlargeAnswers, holds_to_write, root_held}
use Rattle.kern_model.specs.Given.{pages_held, IsGivenTo, EnlargeLeaves}
use Rattle.tr_types.specs.declared.permission.Cred.{Cred}
use Rattle.tr_types.specs.declared.permission.Right.{Right}

-- Every path lies in the root coffer.

or_last : (a : Bool) → (a || true) ≡ true
or_last true = refl
or_last false = refl

begins_root : (path : List ℕ) → begins_with path (codes "/") ≡ true
begins_root path = or_last (same_text path (codes "/") || starts_with nat_eq path (codes "/" ++ 47 ∷ []))

pub one_alone : (words : List Word) → IsRootAlone words → coffers words ≡ root_coffer (pages_of words) ∷ []
one_alone words alone = ap (coffers_in (pages_of words)) (idle_reads words alone.idle.present) ∙ one_coffer (pages_of words) (λ addr. (word_at words addr).present) alone.entries

pub located_root : (words : List Word) (path : List ℕ) → IsRootAlone words → located words path ≡ root_coffer (pages_of words)
located_root words path alone =
    ap (λ (cs : List Coffer). or_none (coffer_of_path cs path)) (one_alone words alone)
    ∙ ap (λ (b : Bool). or_none (longest (cond b (root_coffer (pages_of words) ∷ []) []))) (begins_root path)

-- A path of one name or none can be looked for.

parts_plain : (name : List ℕ) → All (λ byte. byte ≢ 47) name → parts_of name ≡ name ∷ []
parts_plain [] plain = refl
parts_plain (byte ∷ name) plain =
    cond-false (byte == 47) _ _ (ne_eqb byte 47 (All-head (λ b. b ≢ 47) byte name plain))
    ∙ ap (in_first byte) (parts_plain name (All-tail (λ b. b ≢ 47) byte name plain))

parts_of_path : (name : List ℕ) → IsName name → parts_of (47 ∷ name) ≡ [] ∷ name ∷ []
parts_of_path name is = ap (λ (parts : List (List ℕ)). [] ∷ parts) (parts_plain name (All-weaker IsNameByte (λ b. b ≢ 47) (λ b plain. plain.2) name is.bytes))

byte_is : (byte : ℕ) → IsNameByte byte → is_name_byte byte ≡ true
byte_is byte (least, most, other) =
    ap (λ (b : Bool). b && nat_le byte 126 && not (byte == 47)) (le-leb 33 byte least)
    ∙ ap (λ (b : Bool). b && not (byte == 47)) (le-leb byte 126 most)
    ∙ ap (λ (b : Bool). not b) (ne_eqb byte 47 other)

bytes_are : (name : List ℕ) → All IsNameByte name → list_all is_name_byte name ≡ true
bytes_are [] all = refl
bytes_are (byte ∷ name) all =
    ap (λ (b : Bool). b && list_all is_name_byte name) (byte_is byte (All-head IsNameByte byte name all)) ∙ bytes_are name (All-tail IsNameByte byte name all)

differs : (xs ys : List ℕ) → (xs ≡ ys → ⊥) → same_text xs ys ≡ false
differs xs ys isnt = false_from_ne_true (same_text xs ys) (λ t. isnt ((bytes_eq-Decides xs ys).0 t))

name_is : (name : List ℕ) → IsName name → is_name_text name ≡ true
name_is name is =
    ap (λ (b : Bool). not b && list_all is_name_byte name && not (same_text name (codes ".")) && not (same_text name (codes ".."))) (ne_eqb (length name) 0 (λ e. let some = is.some in omega (arith, e, some)))
    ∙ ap (λ (b : Bool). b && not (same_text name (codes ".")) && not (same_text name (codes ".."))) (bytes_are name is.bytes)
    ∙ ap (λ (b : Bool). not b && not (same_text name (codes ".."))) (differs name (codes ".") is.no_dot)
    ∙ ap not (differs name (codes "..") is.no_dots)

path_text_is : (name : List ℕ) → IsName name → is_path_text (47 ∷ name) ≡ true
path_text_is name is =
    ap (λ (parts : List (List ℕ)). same_text (47 ∷ name) (codes "/") || are_names_after parts) (parts_of_path name is)
    ∙ ap (λ (b : Bool). same_text (47 ∷ name) (codes "/") || (b && true)) (name_is name is)
    ∙ or_last (same_text (47 ∷ name) (codes "/"))

names_are : (name : List ℕ) → IsName name → length (names_of (47 ∷ name)) ≡ 1
names_are name is =
    ap (λ (parts : List (List ℕ)). length (filter (λ part. not (length part == 0)) parts)) (parts_of_path name is)
    ∙ ap (λ (b : Bool). length (cond (not b) (name ∷ []) [])) (ne_eqb (length name) 0 (λ e. let some = is.some in omega (arith, e, some)))

not_less : (a b : ℕ) → b ≤ a → nat_lt a b ≡ false
not_less a b le = false_from_ne_true (nat_lt a b) (λ t. let less = ltb-true a b t in omega (arith, less, le))

pub good_look : (path : List ℕ) → IsPath path → is_bad_look path ≡ false
good_look path (inl root) = ap is_bad_look root
good_look [] (inr one) = absurd one
good_look (byte ∷ name) (inr (slash, is)) = ap (λ (b : ℕ). is_bad_look (b ∷ name)) slash ∙ bad
  where
    bad : is_bad_look (47 ∷ name) ≡ false
    bad =
        ap (λ (b : Bool). not b || nat_lt 1024 (length (47 ∷ name)) || nat_lt 32 (length (names_of (47 ∷ name)))) (path_text_is name is)
        ∙ ap (λ (b : Bool). b || nat_lt 32 (length (names_of (47 ∷ name)))) (not_less 1024 (length (47 ∷ name)) (let short = is.short in omega (arith, short)))
        ∙ ap (λ (n : ℕ). nat_lt 32 n) (names_are name is)

exact_is : (path : List ℕ) → IsPath path → same_text (codes "/") path ≡ (length path == 1)
exact_is path (inl root) = ap (λ (p : List ℕ). same_text (codes "/") p) root ∙ sym (ap (λ (p : List ℕ). length p == 1) root)
exact_is [] (inr one) = absurd one
exact_is (byte ∷ []) (inr (slash, is)) = absurd (let some = is.some in omega (arith, some))
exact_is (byte ∷ b ∷ name) (inr (slash, is)) = and_none (nat_eq 47 byte) ∙ sym (ne_eqb (length (byte ∷ b ∷ name)) 1 (λ e. omega (arith, e)))
  where
    and_none : (x : Bool) → (x && false) ≡ false
    and_none true = refl
    and_none false = refl

pub found_root : (words : List Word) (path : List ℕ) → IsRootAlone words → IsPath path → found_for words path ≡ found_at path
found_root words path alone is =
    ap (λ (c : Coffer). record { id = c.id; exact = same_text c.path path; path_len = length c.path; perm = c.perm }) (located_root words path alone)
    ∙ ap (λ (exact : Bool). record { id = 1; exact = exact; path_len = 1; perm = root_perm }) (exact_is path is)

-- The rows.

-- a row with no pages and no pairs leaves the memory, refused or not
same_both : {X : Type 0} (b : Bool) (x : X) → cond b x x ≡ x
same_both true x = refl
same_both false x = refl

nothing : (words : List Word) (row : Row) → row.granted ≡ [] → row.pairs ≡ [] → made_all (unless_refused row [] (row_events row)) words ≡ words
nothing words row none no_pairs =
    ap (λ (pages : List ℕ). made_all (unless_refused row [] (zero_events pages ++ stored_events row.pairs)) words) none
    ∙ ap (λ (pairs : List (ℕ × ℕ)). made_all (unless_refused row [] (stored_events pairs)) words) no_pairs
    ∙ ap (λ (es : List Inner). made_all es words) (same_both (is_some (first_due row.refusals)) [])

module _ (callers : Callers) (words : List Word) (holders : List Holder) (thread now : ℕ) (alone : IsRootAlone words) where
  -- Find
  find_row_is : (path : List ℕ) → IsPath path → find_row words holders path None ≡ row_of_maps (None ∷ []) (kern.Found (found_at path) None) holders
  find_row_is path is =
      ap (λ (b : Bool). row_of_maps (refused_where (b || false) kern.BadPath ∷ []) (kern.Found (found_for words path) None) holders) (good_look path is)
      ∙ ap (λ (f : FoundAt). row_of_maps (None ∷ []) (kern.Found f None) holders) (found_root words path alone is)

  pub find_answer : (path : List ℕ) → IsPath path → answer_of callers words holders thread now (call.Find path None) ≡ kern.Found (found_at path) None
  find_answer path is = ap row_answer (find_row_is path is)

  pub find_words : (path : List ℕ) (also : Option (List ℕ)) → words_after callers words holders thread now (call.Find path also) ≡ words
  find_words path also = nothing words (find_row words holders path also) refl refl

  pub find_held : (path : List ℕ) (also : Option (List ℕ)) → holders_after callers words holders thread now (call.Find path also) ≡ holders
  find_held path also = same_both (is_some (first_due (find_row words holders path also).refusals)) holders

-- Map

digit_is : (a b : Bool) → (if a then 438 / 64 % 8 else (if b then 438 / 8 % 8 else 438 % 8)) ≡ 6
digit_is true b = refl
digit_is false true = refl
digit_is false false = refl

nobody_refused : (b : Bool) → (b && false) ≡ false
nobody_refused true = refl
nobody_refused false = refl

abbrev refused_by : Cred → ℕ → ℕ → Bool
refused_by cred digit bits =
    not (cred.uid == 0) && ((has_bit bits 0 && not (has_bit digit 2)) || (has_bit bits 1 && not (has_bit digit 1)) || (has_bit bits 2 && not (cred.uid == 0)))

pub root_refuses_none : (cred : Cred) (right : Right) → IsGiven right → refuses root_perm cred right ≡ false
root_refuses_none cred right given = ap (λ (digit : ℕ). refused_by cred digit right.0) (digit_is (cred.uid == 0) (is_in_group cred 0)) ∙ by given
  where
    by : IsGiven right → refused_by cred 6 right.0 ≡ false
    by (inl one) = ap (refused_by cred 6) one ∙ nobody_refused (not (cred.uid == 0))
    by (inr two) = ap (refused_by cred 6) two ∙ nobody_refused (not (cred.uid == 0))

some_length : (u : ℕ) (us : List ℕ) → (length (u ∷ us) == 0) ≡ false
some_length u us = ne_eqb (length (u ∷ us)) 0 (λ e. omega (arith, e))

-- the least of some threads
abbrev lesser : ℕ → ℕ → ℕ
lesser least u = if nat_lt u least then u else least

lesser_below : (least u : ℕ) → (lesser least u ≤ least) × (lesser least u ≤ u)
lesser_below least u = cond_both (nat_lt u least) u least (λ (n : ℕ). (n ≤ least) × (n ≤ u)) (λ t. let less = ltb-true u least t in (omega (arith, less), omega arith)) (λ f. let more = ltb-false u least f in (omega arith, omega (arith, more)))

lesser_one : (least u : ℕ) → (lesser least u ≡ least) ⊎ (lesser least u ≡ u)
lesser_one least u = cond_both (nat_lt u least) u least (λ (n : ℕ). (n ≡ least) ⊎ (n ≡ u)) (λ t. inr refl) (λ f. inl refl)

least_below : (t : ℕ) (ts : List ℕ) → fold lesser t ts ≤ t
least_below t [] = omega arith
least_below t (u ∷ us) = let rest = least_below (lesser t u) us in let here = (lesser_below t u).0 in omega (arith, rest, here)

least_all : (t : ℕ) (ts : List ℕ) (x : ℕ) → Contains ts x → fold lesser t ts ≤ x
least_all t [] x (k, lt, at) = absurd (omega arith)
least_all t (u ∷ us) x (zero, lt, at) = let rest = least_below (lesser t u) us in let here = (lesser_below t u).1 in subst (λ (n : ℕ). fold lesser t (u ∷ us) ≤ n) at (omega (arith, rest, here))
least_all t (u ∷ us) x (suc k, lt, at) = least_all (lesser t u) us x (k, omega arith, at)

least_among : (t : ℕ) (ts : List ℕ) → Contains (t ∷ ts) (fold lesser t ts)
least_among t [] = (zero, omega arith, refl)
least_among t (u ∷ us) = by (least_among (lesser t u) us)
  where
    by : Contains (lesser t u ∷ us) (fold lesser (lesser t u) us) → Contains (t ∷ u ∷ us) (fold lesser (lesser t u) us)
    by (zero, lt, at) = elim (lesser_one t u) [
      | inl e ↦ (zero, omega arith, sym e ∙ at)
      | inr e ↦ (suc zero, omega arith, sym e ∙ at)
    ]
    by (suc k, lt, at) = (suc (suc k), omega arith, at)

pub least_is : (t : ℕ) (ts : List ℕ) → IsLeastOf (t ∷ ts) (least_of (t ∷ ts))
least_is t ts = record { among = least_among t ts; least = each }
  where
    each : (x : ℕ) → Contains (t ∷ ts) x → least_of (t ∷ ts) ≤ x
    each x (zero, lt, at) = subst (λ (n : ℕ). least_of (t ∷ ts) ≤ n) at (least_below t ts)
    each x (suc k, lt, at) = least_all t ts x (k, omega arith, at)

-- what a Map of the root coffer answers, by the threads against it and the key for it
abbrev map_refusals : List ℕ → Option ℕ → List (Option KernAnswer)
map_refusals threads key = None ∷ None ∷ None ∷ refused_where (not (length threads == 0)) (kern.InUse (least_of threads) 1 1) ∷ refused_where (not (is_some key)) (kern.NoKey 1 1) ∷ []

abbrev map_answer : List Word → List ℕ → Option ℕ → KernAnswer
map_answer words threads key = answer_by (first_due (map_refusals threads key)) (kern.Mapped (root_mapped words (key_or_none key)))

map_answer_in_use : (words : List Word) (u : ℕ) (us : List ℕ) (key : Option ℕ) → map_answer words (u ∷ us) key ≡ kern.InUse (least_of (u ∷ us)) 1 1
map_answer_in_use words u us key =
    ap (λ (b : Bool). answer_by (first_due (None ∷ None ∷ None ∷ refused_where (not b) (kern.InUse (least_of (u ∷ us)) 1 1) ∷ refused_where (not (is_some key)) (kern.NoKey 1 1) ∷ [])) (kern.Mapped (root_mapped words (key_or_none key)))) (some_length u us)

module _ (bus : Bus) (thread now : ℕ) (alone : IsRootAlone bus.words) (path : List ℕ) (right : Right) (exclusive : Bool) (is : IsPath path) (given : IsGiven right) where
  abbrev against : List ℕ
  against = those_against thread 1 exclusive bus.holders

  abbrev key : Option ℕ
  key = key_for bus.threads bus.holders thread 1

  abbrev row : Row
  row = record {
    refusals = map_refusals against key;
    answer = kern.Mapped (root_mapped bus.words (key_or_none key));
    granted = [];
    pairs = [];
    holders = with_row (record { thread = thread; id = 1; key = key_or_none key; right = right; exclusive = exclusive }) bus.holders;
  }

  map_row_is : map_row (callers_of bus) bus.words bus.holders thread path right exclusive ≡ row
  map_row_is =
      ap (map_row_for (callers_of bus) bus.words bus.holders thread path right exclusive) (located_root bus.words path alone)
      ∙ ap (λ (b : Bool). record row { refusals = refused_where b kern.BadPath ∷ refused_where (refuses root_perm (cred_of (callers_of bus) thread) right) (kern.Denied right 1 1) ∷ None ∷ in_use (root_coffer (pages_of bus.words)) against ∷ refused_where (not (is_some key)) (kern.NoKey 1 1) ∷ []; answer = kern.Mapped (mapped_as bus.words (root_coffer (pages_of bus.words)) (key_or_none key)) }) (good_look path is)
      ∙ ap (λ (b : Bool). record row { refusals = None ∷ refused_where b (kern.Denied right 1 1) ∷ None ∷ in_use (root_coffer (pages_of bus.words)) against ∷ refused_where (not (is_some key)) (kern.NoKey 1 1) ∷ []; answer = kern.Mapped (mapped_as bus.words (root_coffer (pages_of bus.words)) (key_or_none key)) }) (root_refuses_none (cred_of (callers_of bus) thread) right given)
      ∙ ap (λ (n : ℕ). record row { answer = kern.Mapped (record (root_mapped bus.words (key_or_none key)) { pages = n }) }) (idle_pages bus.words 1 alone.idle.present)

  pub map_answer_is : answer_of (callers_of bus) bus.words bus.holders thread now (call.Map path right exclusive) ≡ map_answer bus.words against key
  map_answer_is = ap row_answer map_row_is

  answers_by : (threads : List ℕ) (k : Option ℕ) → against ≡ threads → key ≡ k → MapAnswers bus thread exclusive (map_answer bus.words threads k)
  answers_by [] (Some n) t e = (t, e, refl)
  answers_by [] None t e = (t, e, refl, refl)
  answers_by (u ∷ us) k t e =
      subst (MapAnswers bus thread exclusive) (sym (map_answer_in_use bus.words u us k)) (subst (λ (l : List ℕ). IsLeastOf l (least_of (u ∷ us))) (sym t) (least_is u us), refl, refl)

  pub map_answers : MapAnswers bus thread exclusive (answer_of (callers_of bus) bus.words bus.holders thread now (call.Map path right exclusive))
  map_answers = subst (MapAnswers bus thread exclusive) (sym map_answer_is) (answers_by against key refl refl)

  pub map_words : words_after (callers_of bus) bus.words bus.holders thread now (call.Map path right exclusive) ≡ bus.words
  map_words = nothing bus.words (map_row (callers_of bus) bus.words bus.holders thread path right exclusive) refl refl

  held_by : (threads : List ℕ) (k : Option ℕ)
      → cond (is_some (first_due (map_refusals threads k))) bus.holders (with_row (record { thread = thread; id = 1; key = key_or_none k; right = right; exclusive = exclusive }) bus.holders)
      ≡ root_held thread (call.Map path right exclusive) (map_answer bus.words threads k) bus.holders
  held_by [] (Some n) = refl
  held_by [] None = refl
  held_by (u ∷ us) k =
      ap (λ (b : Bool). cond (is_some (first_due (None ∷ None ∷ None ∷ refused_where (not b) (kern.InUse (least_of (u ∷ us)) 1 1) ∷ refused_where (not (is_some k)) (kern.NoKey 1 1) ∷ []))) bus.holders (with_row (record { thread = thread; id = 1; key = key_or_none k; right = right; exclusive = exclusive }) bus.holders)) (some_length u us)
      ∙ sym (ap (λ (a : KernAnswer). root_held thread (call.Map path right exclusive) a bus.holders) (map_answer_in_use bus.words u us k))

  pub map_held : holders_after (callers_of bus) bus.words bus.holders thread now (call.Map path right exclusive)
      ≡ root_held thread (call.Map path right exclusive) (answer_of (callers_of bus) bus.words bus.holders thread now (call.Map path right exclusive)) bus.holders
  map_held =
      ap (λ (r : Row). unless_refused r bus.holders r.holders) map_row_is ∙ held_by against key
      ∙ sym (ap (λ (a : KernAnswer). root_held thread (call.Map path right exclusive) a bus.holders) map_answer_is)

-- Unmap

same_rows : (thread id : ℕ) (holders : List Holder) → holds_any thread id holders ≡ holds_itself thread id holders
same_rows thread id [] = refl
same_rows thread id (h ∷ holders) = ap (λ (b : Bool). is_row_of thread id h || b) (same_rows thread id holders)

module _ (bus : Bus) (thread now id : ℕ) where
  abbrev unmap_answer : Bool → KernAnswer
  unmap_answer holds = answer_by (first_due (refused_where (not holds) kern.NotHeld ∷ [])) kern.Done

  unmap_by : (holds : Bool) → holds_itself thread id bus.holders ≡ holds → UnmapAnswers bus thread id (unmap_answer holds)
  unmap_by true e = e
  unmap_by false e = e

  pub unmap_answers : UnmapAnswers bus thread id (answer_of (callers_of bus) bus.words bus.holders thread now (call.Unmap id))
  unmap_answers = unmap_by (holds_any thread id bus.holders) (sym (same_rows thread id bus.holders))

  pub unmap_words : words_after (callers_of bus) bus.words bus.holders thread now (call.Unmap id) ≡ bus.words
  unmap_words = nothing bus.words (unmap_row bus.holders thread id) refl refl

  unmapped_by : (holds : Bool)
      → cond (is_some (first_due (refused_where (not holds) kern.NotHeld ∷ []))) bus.holders (without_row thread id bus.holders) ≡ root_held thread (call.Unmap id) (unmap_answer holds) bus.holders
  unmapped_by true = refl
  unmapped_by false = refl

  pub unmap_held : holders_after (callers_of bus) bus.words bus.holders thread now (call.Unmap id)
      ≡ root_held thread (call.Unmap id) (answer_of (callers_of bus) bus.words bus.holders thread now (call.Unmap id)) bus.holders
  unmap_held = unmapped_by (holds_any thread id bus.holders)

-- Enlarge

same_writers : (thread id : ℕ) (holders : List Holder) → holds_for_writing thread id holders ≡ holds_to_write thread id holders
same_writers thread id [] = refl
same_writers thread id (h ∷ holders) = ap (λ (b : Bool). (is_row_of thread id h && allows_writing h.right) || b) (same_writers thread id holders)

module _ (bus : Bus) (thread now id count : ℕ) (idle : committed_count bus.words ≡ 0) where
  abbrev free : List ℕ
  free = free_pages bus.words

  abbrev enlarge_refusals : Bool → Bool → Bool → List (Option KernAnswer)
  enlarge_refusals writes bad short = refused_where (not writes) kern.NotHeld ∷ refused_where bad kern.BadCount ∷ refused_where short (kern.NoPages count (length free)) ∷ []

  abbrev enlarge_answer : Bool → Bool → Bool → KernAnswer
  enlarge_answer writes bad short = answer_by (first_due (enlarge_refusals writes bad short)) (kern.Pages (take count free))

  enlarge_by : (writes bad short : Bool) → holds_to_write thread id bus.holders ≡ writes → ((count == 0) || nat_lt 1024 count) ≡ bad → nat_lt (length free) count ≡ short
      → EnlargeAnswers bus thread id count (enlarge_answer writes bad short)
  enlarge_by false bad short w b s = w
  enlarge_by true true short w b s = (
    w,
    elim (or_cases (count == 0) (nat_lt 1024 count) b) [
      | inl none ↦ inl (eqb-true count 0 none)
      | inr many ↦ inr (ltb-true 1024 count many)
    ],
  )
  enlarge_by true false true w b s =
      let parts = or_parts (count == 0) (nat_lt 1024 count) b in
      let some = eqb-false count 0 parts.0 in
      let most = ltb-false 1024 count parts.1 in
      (w, omega (arith, some), most, (ltb-true (length free) count s, refl, refl))
  enlarge_by true false false w b s =
      let parts = or_parts (count == 0) (nat_lt 1024 count) b in
      let some = eqb-false count 0 parts.0 in
      let most = ltb-false 1024 count parts.1 in
      (w, omega (arith, some), most, (ltb-false (length free) count s, refl))

  abbrev enlarged : Row
  enlarged = record {
    refusals = enlarge_refusals (holds_for_writing thread id bus.holders) ((count == 0) || nat_lt 1024 count) (nat_lt (length free) count);
    answer = kern.Pages (take count free);
    granted = take count free;
    pairs = owner_pairs bus.words id (take count free);
    holders = bus.holders;
  }

  enlarge_row_is : enlarge_row bus.words bus.holders thread id count ≡ enlarged
  enlarge_row_is =
      ap (λ (spare : List ℕ). record {
        refusals = refused_where (not (holds_for_writing thread id bus.holders)) kern.NotHeld ∷ refused_where ((count == 0) || nat_lt 1024 count) kern.BadCount ∷ refused_where (nat_lt (length spare) count) (kern.NoPages count (length spare)) ∷ [];
        answer = kern.Pages (take count spare);
        granted = take count spare;
        pairs = owner_pairs bus.words id (take count spare);
        holders = bus.holders;
      }) (idle_spare bus.words idle)

  pub enlarge_answers : EnlargeAnswers bus thread id count (answer_of (callers_of bus) bus.words bus.holders thread now (call.Enlarge id count))
  enlarge_answers =
      subst (EnlargeAnswers bus thread id count) (sym (ap row_answer enlarge_row_is))
      (enlarge_by (holds_for_writing thread id bus.holders) ((count == 0) || nat_lt 1024 count) (nat_lt (length free) count) (sym (same_writers thread id bus.holders)) refl refl)

  pub enlarge_held : holders_after (callers_of bus) bus.words bus.holders thread now (call.Enlarge id count) ≡ bus.holders
  enlarge_held = same_both (is_some (first_due (enlarge_row bus.words bus.holders thread id count).refusals)) bus.holders

  -- the pages are zeroed, and their owner words stored by the journal, exactly where they are given
  pub enlarge_steps : inner_of (callers_of bus) bus.words bus.holders thread now (call.Enlarge id count) ≡ unless_refused enlarged [] (row_events enlarged)
  enlarge_steps = ap (λ (r : Row). unless_refused r [] (row_events r)) enlarge_row_is

-- What an Enlarge leaves of the memory.

-- the kernel's pages are owned
pub record OwnsKernel (words : List Word) : Type 0 where
  pub size : HasPages (length words)
  pub idle : IsDurable words committed_word 0
  pub kernels : (page : ℕ) → page < kernel_pages (pages_of words) → owner_of words page ≢ 0

below_range : (a n : ℕ) → All (λ k. k < a + n) (range_with_len a n)
below_range a zero = All-nil (λ k. k < a + zero)
below_range a (suc n) = All-cons (λ k. k < a + suc n) a (range_with_len (a + 1) n) (omega arith) (All-weaker (λ k. k < a + 1 + n) (λ k. k < a + suc n) (λ k lt. omega (arith, lt)) (range_with_len (a + 1) n) (below_range (a + 1) n))

free_inside : (words : List Word) (count : ℕ) → OwnsKernel words → All (λ page. (kernel_pages (pages_of words) ≤ page) × (page < pages_of words)) (take count (free_pages words))
free_inside words count owns k d lt = (past (cases_lt page (kernel_pages (pages_of words))), inside)
  where
    page : ℕ
    page = get_or (take count (free_pages words)) k d

    test : ℕ → Bool
    test p = nat_eq (owner_of words p) 0

    free_is : owner_of words page ≡ 0
    free_is = eqb-true (owner_of words page) 0 (All-take (λ p. test p ≡ true) count (free_pages words) (filter_passes test (range_with_len 0 (pages_of words))) k d lt)

    inside : page < pages_of words
    inside = let below = All-take (λ p. p < 0 + pages_of words) count (free_pages words) (All-filter test (λ p. p < 0 + pages_of words) (range_with_len 0 (pages_of words)) (below_range 0 (pages_of words))) k d lt in omega (arith, below)

    past : (page < kernel_pages (pages_of words)) ⊎ (kernel_pages (pages_of words) ≤ page) → kernel_pages (pages_of words) ≤ page
    past (inl low) = absurd (owns.kernels page low free_is)
    past (inr high) = high

can_give : (words : List Word) (count : ℕ) → OwnsKernel words → CanBeGiven words (take count (free_pages words))
can_give words count owns = record {
  size = owns.size;
  idle = owns.idle;
  rise = take_rises count 0 (free_pages words) (filter_rises (λ page. nat_eq (owner_of words page) 0) 0 (pages_of words));
  inside = free_inside words count owns;
}

-- pairs that stand in order are stored by the journal as they are
stored_in_order : (pairs : List (ℕ × ℕ)) → 0 < length pairs → Rises 0 pairs → stored_events pairs ≡ journal_events pairs
stored_in_order [] some rises = absurd (omega arith)
stored_in_order (p ∷ pairs) some rises = ap journal_events (in_order_already (p ∷ pairs) 0 rises)

module _ (bus : Bus) (thread now id count : ℕ) (owns : OwnsKernel bus.words) where
  abbrev spare : List ℕ
  spare = take count (free_pages bus.words)

  given_events : 0 < length spare → row_events (enlarged bus thread now id count owns.idle.present) ≡ zero_events spare ++ journal_events (owner_pairs bus.words id spare)
  given_events some =
      ap (λ (es : List Inner). zero_events spare ++ es)
      (stored_in_order (owner_pairs bus.words id spare) (let is = length_owners bus.words id spare in omega (arith, is, some))
      (rises_from_less (owner_word (pages_of bus.words) 0) (owner_pairs bus.words id spare) (owners_rise bus.words id 0 spare (can_give bus.words count owns).rise)))

  enough_given : 0 < length spare → IsGivenTo id spare bus.words (made_all (row_events (enlarged bus thread now id count owns.idle.present)) bus.words)
  enough_given some =
      subst (IsGivenTo id spare bus.words)
      (sym (ap (λ (es : List Inner). made_all es bus.words) (given_events some) ∙ fold-append made bus.words (zero_events spare) (journal_events (owner_pairs bus.words id spare))))
      (given_to bus.words id spare (can_give bus.words count owns))

  leaves_by : (writes bad short : Bool) → ((count == 0) || nat_lt 1024 count) ≡ bad → nat_lt (length (free_pages bus.words)) count ≡ short
      → EnlargeLeaves id bus.words (enlarge_answer bus thread now id count owns.idle.present writes bad short)
      (made_all (cond (is_some (first_due (enlarge_refusals bus thread now id count owns.idle.present writes bad short))) [] (row_events (enlarged bus thread now id count owns.idle.present))) bus.words)
  leaves_by false bad short b s = refl
  leaves_by true true short b s = refl
  leaves_by true false true b s = refl
  leaves_by true false false b s =
      let some = eqb-false count 0 (or_parts (count == 0) (nat_lt 1024 count) b).0 in
      let enough = ltb-false (length (free_pages bus.words)) count s in
      let is = length-take-le count (free_pages bus.words) enough in
      enough_given (omega (arith, some, is))

  pub enlarge_leaves : EnlargeLeaves id bus.words (answer_of (callers_of bus) bus.words bus.holders thread now (call.Enlarge id count)) (words_after (callers_of bus) bus.words bus.holders thread now (call.Enlarge id count))
  enlarge_leaves =
      subst (λ (r : Row). EnlargeLeaves id bus.words (row_answer r) (made_all (unless_refused r [] (row_events r)) bus.words)) (sym (enlarge_row_is bus thread now id count owns.idle.present))
      (leaves_by (holds_for_writing thread id bus.holders) ((count == 0) || nat_lt 1024 count) (nat_lt (length (free_pages bus.words)) count) refl refl)
