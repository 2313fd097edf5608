-- The kernel follows what was stored.
use Rattle.std.proofs.Common.{◌≡◌, ◌⊎◌, inl, inr, ℕ, ◌+◌, ◌/◌, ◌<◌, ◌≤◌, List, true, false, length, get_or, set, drop, slice_index, All, Some, None, Result, Ok, Err, refl, ap, sym, subst, ◌∙◌, arith, nat_eq}
use Rattle.std.specs.Prelude.{OnOk, nat_le}
use Rattle.std.specs.List.{list_any}
use Rattle.std.proofs.lemmas.Bool.{cases_eq, cases_lt, or_cases, eqb-true, and_parts, leb-true}
use Rattle.std.proofs.lemmas.List.{drop_more, drop_all, ext_get_or, length-set, get_or-set_same, get_or-set_other}
use Rattle.std.proofs.lemmas.List.Elements.{All-contains}
use Rattle.zo_layout.specs.Layout.{kernel_pages, owner_word}
use Rattle.pm_words.specs.Word.{Word}
use Rattle.kern_model.specs.KernelView.{pages_of}
use Rattle.kern_model.specs.Journal.{IsHome, kernel_word}
use Rattle.kern_model.specs.JournalLaws.{IsUnnamed}
use Rattle.kern_model.specs.Kernel.{kernel_owner}
use Rattle.kern_model.specs.KernelRules.{IsSoundKernel}
use Rattle.kern_model.specs.Commits.{IsOuter, IsWorking, IsCommitted, present_at}
use Rattle.tr_types.specs.declared.kernel_call.Holder.{Holder}
use Rattle.kern_model.proofs.FinishLemmas.{idle_read}
use Rattle.kern_model.proofs.LaidLemmas.{IsNamed as NamesWord, named_cases, laid_unnamed}
use Rattle.kern_owner.proofs.SoundLemmas.{OwnerCase, owner_case}
use Rattle.kern_owner.proofs.SoundLemmas.OwnerCase.{Kernels, Nobodys, Coffers}
use Rattle.kern_pages.specs.Owners.{owners_of, TellsOwners}
use Rattle.kern_calls.specs.Calls.{KernelView}
use Rattle.kern_calls.specs.Steps.{IsPageAt, IsNamed, KnowsUpTo, FollowsWord, with_owners}

pub on_ok : {T E : Type 0} (r : Result T E) (P Q : Type 0) → (P → Q) → OnOk r P → OnOk r Q
on_ok (Ok x) P Q f p = f p
on_ok (Err e) P Q f p = p

-- Whose a page is, where no rule fails.

pub outer_owner : (words : List Word) (page : ℕ) → IsSoundKernel words → IsOuter words page → kernel_owner words page ≤ 256
outer_owner words page sound outer = by (owner_case (pages_of words) (kernel_word words) page (sound.owners page outer.inside))
  where
    by : OwnerCase (pages_of words) (kernel_word words) page → kernel_owner words page ≤ 256
    by (Kernels lt is) = let past = outer.past in absurd (omega arith)
    by (Nobodys le is) = omega arith
    by (Coffers le id stands) = leb-true (kernel_owner words page) 256 (and_parts (nat_le 1 (kernel_owner words page)) (nat_le (kernel_owner words page) 256) id).1

inner_owner : (words : List Word) (page : ℕ) → IsSoundKernel words → page < pages_of words → page < kernel_pages (pages_of words) → kernel_owner words page ≡ 65535
inner_owner words page sound inside inner = by (owner_case (pages_of words) (kernel_word words) page (sound.owners page inside))
  where
    by : OwnerCase (pages_of words) (kernel_word words) page → kernel_owner words page ≡ 65535
    by (Kernels lt is) = is
    by (Nobodys le is) = absurd (omega arith)
    by (Coffers le id stands) = absurd (omega arith)

-- One word.

pub followed_page : (words : List Word) (addr page : ℕ) (old new : KernelView) → length old.owners ≡ pages_of words → IsPageAt (pages_of words) addr page
    → ((q : ℕ) → IsPageAt (pages_of words) addr q → Some page ≡ Some q) → new ≡ with_owners (set old.owners page (kernel_owner words page)) old → FollowsWord words addr old new
followed_page words addr page old new count here only is =
    subst (λ (k : KernelView). FollowsWord words addr old k) (sym is)
    (record {
      callers = refl;
      holders = refl;
      count = length-set old.owners page (kernel_owner words page);
      there = λ q at. let same : page ≡ q = let e = only q at in cc in subst (λ (r : ℕ). slice_index (set old.owners page (kernel_owner words page)) r ≡ kernel_owner words r) same itself;
      others = λ q. by q (cases_eq q page);
    })
  where
    itself : slice_index (set old.owners page (kernel_owner words page)) page ≡ kernel_owner words page
    itself = let inside = here.inside in get_or-set_same old.owners page (kernel_owner words page) 0 (omega arith)

    by : (q : ℕ) → (q ≡ page) ⊎ (q ≡ page → ⊥) → (slice_index (set old.owners page (kernel_owner words page)) q ≡ slice_index old.owners q)
        ⊎ (IsOuter words q × (slice_index (set old.owners page (kernel_owner words page)) q ≡ kernel_owner words q))
    by q (inl e) =
        inr (subst (λ (r : ℕ). IsOuter words r × (slice_index (set old.owners page (kernel_owner words page)) r ≡ kernel_owner words r)) (sym e)
        (record { past = here.past; inside = here.inside }, itself))
    by q (inr ne) = inl (get_or-set_other old.owners page q (kernel_owner words page) 0 ne)

pub followed_none : (words : List Word) (addr : ℕ) (kernel : KernelView) → ((q : ℕ) → IsPageAt (pages_of words) addr q → None ≡ Some q) → FollowsWord words addr kernel kernel
followed_none words addr kernel none = record {
  callers = refl;
  holders = refl;
  count = refl;
  there = λ q at. let e = none q at in absurd (cc);
  others = λ q. inl refl;
}

-- One pair after another.

pub knows_more : (words : List Word) (pairs : List (ℕ × ℕ)) (i : ℕ) (d : ℕ × ℕ) (old new : KernelView) → IsSoundKernel words → i < length pairs → KnowsUpTo words (drop i pairs) old.owners
    → FollowsWord words (get_or pairs i d).0 old new → KnowsUpTo words (drop (i + 1) pairs) new.owners
knows_more words pairs i d old new sound inside known step = record {
  count = step.count ∙ known.count;
  told = λ page lt. by page lt (step.others page) (known.told page lt);
  outer = λ page is. low page is (step.others page);
}
  where
    rest : List (ℕ × ℕ)
    rest = drop (i + 1) pairs

    first : ℕ
    first = (get_or pairs i d).0

    later : (page : ℕ) → page < pages_of words → IsNamed words (drop i pairs) page → (slice_index new.owners page ≡ kernel_owner words page) ⊎ IsNamed words (drop (i + 1) pairs) page
    later page lt named =
        split (or_cases (nat_eq (get_or pairs i d).0 (owner_word (pages_of words) page)) (list_any (λ (p : ℕ × ℕ). nat_eq p.0 (owner_word (pages_of words) page)) (drop (i + 1) pairs))
        (subst (λ (ps : List (ℕ × ℕ)). list_any (λ (p : ℕ × ℕ). nat_eq p.0 (owner_word (pages_of words) page)) ps ≡ true) (drop_more pairs i d inside) named.named))
      where
        split : (nat_eq (get_or pairs i d).0 (owner_word (pages_of words) page) ≡ true) ⊎ (list_any (λ (p : ℕ × ℕ). nat_eq p.0 (owner_word (pages_of words) page)) (drop (i + 1) pairs) ≡ true)
            → (slice_index new.owners page ≡ kernel_owner words page) ⊎ IsNamed words (drop (i + 1) pairs) page
        split (inl is) = inl (step.there page (record { past = named.outer; inside = lt; word = sym (eqb-true (get_or pairs i d).0 (owner_word (pages_of words) page) is) }))
        split (inr more) = inr (record { outer = named.outer; named = more })

    by : (page : ℕ) → page < pages_of words → (slice_index new.owners page ≡ slice_index old.owners page) ⊎ (IsOuter words page × (slice_index new.owners page ≡ kernel_owner words page))
        → (slice_index old.owners page ≡ kernel_owner words page) ⊎ IsNamed words (drop i pairs) page → (slice_index new.owners page ≡ kernel_owner words page) ⊎ IsNamed words (drop (i + 1) pairs) page
    by page lt (inr (is, now)) told = inl now
    by page lt (inl same) (inl is) = inl (same ∙ is)
    by page lt (inl same) (inr named) = later page lt named

    low : (page : ℕ) → IsOuter words page → (slice_index new.owners page ≡ slice_index old.owners page) ⊎ (IsOuter words page × (slice_index new.owners page ≡ kernel_owner words page)) → slice_index new.owners page ≤ 256
    low page is (inl same) = let before = known.outer page is in omega arith
    low page is (inr (there, now)) = let most = outer_owner words page sound is in omega arith

-- when all is followed
pub knows_all : (words : List Word) (pairs : List (ℕ × ℕ)) (i : ℕ) (owners : List ℕ) → TellsOwners words → length pairs ≤ i → KnowsUpTo words (drop i pairs) owners → owners ≡ owners_of words
knows_all words pairs i owners tells past known =
    ext_get_or 0 owners (owners_of words) (known.count ∙ sym tells.count) at
  where
    each : (page : ℕ) → page < pages_of words → (slice_index owners page ≡ kernel_owner words page) ⊎ IsNamed words (drop i pairs) page → slice_index owners page ≡ kernel_owner words page
    each page lt (inl is) = is
    each page lt (inr named) =
        let none : false ≡ true = sym (ap (λ (ps : List (ℕ × ℕ)). list_any (λ (p : ℕ × ℕ). nat_eq p.0 (owner_word (pages_of words) page)) ps) (drop_all i pairs past)) ∙ named.named in
        absurd (cc)

    at : (k : ℕ) → k < length owners → slice_index owners k ≡ slice_index (owners_of words) k
    at k lt =
        let inside : k < pages_of words = let c = known.count in omega arith in
        each k inside (known.told k inside) ∙ sym (tells.each k inside)

-- What a commit leaves of owners that no pair names.

module _ (old new : List Word) (before after : List Holder) (granted : List ℕ) (pairs : List (ℕ × ℕ)) (owners : List ℕ) (works : IsWorking old before) (then_ : IsWorking new after) (left : IsCommitted granted pairs old new)
    (given : All (IsOuter old) granted) (tells : TellsOwners old) (told : owners ≡ owners_of old) where
  same_pages : pages_of new ≡ pages_of old
  same_pages = ap (λ (n : ℕ). n / 512) left.len

  known_before : (page : ℕ) → page < pages_of old → slice_index owners page ≡ kernel_owner old page
  known_before page lt = ap (λ (list : List ℕ). slice_index list page) told ∙ tells.each page lt

  word_stays : (page : ℕ) → page < pages_of old → IsUnnamed pairs (owner_word (pages_of old) page) → kernel_owner old page ≡ kernel_owner new page
  word_stays page lt unnamed =
      let least = works.size.least in
      let whole = works.size.whole in
      let home : IsHome (length old) (owner_word (pages_of old) page) = record { inside = record { aligned = omega arith; inside = omega arith }; outside = λ past. omega arith } in
      idle_read old (owner_word (pages_of old) page) works.idle.present
      ∙ sym (laid_unnamed pairs (owner_word (pages_of old) page) (present_at old (owner_word (pages_of old) page)) unnamed)
      ∙ sym (left.reads (owner_word (pages_of old) page) home (λ has. let past = (All-contains (IsOuter old) granted (owner_word (pages_of old) page / 4096) given has).past in omega arith))
      ∙ sym (idle_read new (owner_word (pages_of old) page) left.idle.present)
      ∙ ap (λ (n : ℕ). kernel_word new (owner_word n page)) (sym same_pages)

  pub knows_after : KnowsUpTo new pairs owners
  knows_after = record {
    count = ap (λ (list : List ℕ). length list) told ∙ tells.count ∙ sym same_pages;
    told = λ page lt. by page lt (cases_lt page (kernel_pages (pages_of new)));
    outer = λ page is.
        let inside : page < pages_of old = let s = same_pages in let i = is.inside in omega arith in
        let past : kernel_pages (pages_of old) ≤ page = subst (λ (n : ℕ). kernel_pages n ≤ page) same_pages is.past in
        let most = outer_owner old page works.sound (record { past = past; inside = inside }) in
        let same = known_before page inside in
        omega arith;
  }
    where
      by : (page : ℕ) → page < pages_of new → (page < kernel_pages (pages_of new)) ⊎ (kernel_pages (pages_of new) ≤ page) → (slice_index owners page ≡ kernel_owner new page) ⊎ IsNamed new pairs page
      by page lt (inl inner) =
          let inside : page < pages_of old = let s = same_pages in omega arith in
          let front : page < kernel_pages (pages_of old) = subst (λ (n : ℕ). page < kernel_pages n) same_pages inner in
          inl (known_before page inside ∙ inner_owner old page works.sound inside front ∙ sym (inner_owner new page then_.sound lt inner))
      by page lt (inr past) = named (named_cases pairs (owner_word (pages_of new) page))
        where
          named : IsUnnamed pairs (owner_word (pages_of new) page) ⊎ NamesWord pairs (owner_word (pages_of new) page) → (slice_index owners page ≡ kernel_owner new page) ⊎ IsNamed new pairs page
          named (inr some) = inr (record { outer = past; named = some })
          named (inl none) =
              let inside : page < pages_of old = let s = same_pages in omega arith in
              inl (known_before page inside ∙ word_stays page inside (subst (λ (n : ℕ). IsUnnamed pairs (owner_word n page)) same_pages none))
