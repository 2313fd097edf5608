-- What the owner table says once pages have come to a coffer or gone back.
use Rattle.std.proofs.Common.{◌≡◌, ◌≢◌, ◌⊎◌, inl, inr, ℕ, ◌<◌, ◌≤◌, Bool, true, false, cond, not, List, [], ◌∷◌, ◌++◌, take, filter, refl, sym, ap, ◌∙◌, arith, nat_eq}
use Rattle.std.specs.Prelude.{◌&&◌, ◌||◌, nat_le, All}
use Rattle.std.specs.List.{range_with_len}
use Rattle.std.proofs.lemmas.Bool.{cases_eq, cases_Bool, eq-eqb, ne_eqb, eqb-true, lt-ltb, le-ltb, leb-true, or_cases, and_parts, false_from_ne_true}
use Rattle.std.proofs.lemmas.List.Elements.{All-head, All-tail, All-take}
use Rattle.zo_layout.specs.Layout.{page_at, kernel_pages, coffer_table, owner_word, coffer_entry, coffer_state, coffer_control, coffer_root}
use Rattle.kern_model.specs.Journal.{laid_over}
use Rattle.kern_model.specs.KernelTables.{owner_in, pages_owned, pages_free, is_id, is_there, stands_in, owner_fails, entry_fails, bucket_fails}
use Rattle.kern_model.specs.Kernel.{read_after}
use Rattle.kern_owner.specs.Owners.{owner_pairs, is_among, in_order}
use Rattle.kern_owner.specs.Laws.{SameTables, SameCoffers, IsPassed, OwnersPass, TablesPass, HasPassed, IsGranted, HasGrant, IsTakenBack, HasReturn, TakesRoot}
use Rattle.kern_owner.proofs.RangeLemmas.{within}
use Rattle.kern_owner.proofs.SoundLemmas.{OwnerCase, Kernels, Nobodys, Coffers, owner_case}
use Rattle.kern_owner.proofs.TableLemmas.{entry_stays, bucket_stays}
use Rattle.kern_owner.proofs.AmongLemmas.{filter_agree_in, filter_twice, among_append, among_filter, among_kept, among_in_order, among_take, rest_is, ascends_kept}

-- Pairs for owner words, laid over what was read.

same_word : (pages page other : ℕ) → nat_eq (owner_word pages other) (owner_word pages page) ≡ nat_eq page other
same_word pages page other = by (cases_eq page other)
  where
    by : (page ≡ other) ⊎ (page ≡ other → ⊥) → nat_eq (owner_word pages other) (owner_word pages page) ≡ nat_eq page other
    by (inl is) = eq-eqb (owner_word pages other) (owner_word pages page) (omega arith) ∙ sym (eq-eqb page other is)
    by (inr isnt) = ne_eqb (owner_word pages other) (owner_word pages page) (λ same. isnt (omega arith)) ∙ sym (ne_eqb page other isnt)

pub owner_read : (pages owner : ℕ) (list : List ℕ) (page default : ℕ)
    → laid_over (owner_pairs pages owner list) (owner_word pages page) default ≡ cond (is_among list page) owner default
owner_read pages owner [] page default = refl
owner_read pages owner (x ∷ xs) page default =
    owner_read pages owner xs page (cond (nat_eq (owner_word pages x) (owner_word pages page)) owner default)
    ∙ ap (λ (b : Bool). cond (is_among xs page) owner (cond b owner default)) (same_word pages page x)
    ∙ either (is_among xs page) (nat_eq page x)
  where
    either : (later here : Bool) → cond later owner (cond here owner default) ≡ cond (here || later) owner default
    either true true = refl
    either true false = refl
    either false true = refl
    either false false = refl

other_read : (pages owner : ℕ) (list : List ℕ) (addr default : ℕ) → All (λ page. page < pages) list → page_at (coffer_table pages) ≤ addr → laid_over (owner_pairs pages owner list) addr default ≡ default
other_read pages owner [] addr default within outside = refl
other_read pages owner (x ∷ xs) addr default within outside =
    let lt = All-head (λ page. page < pages) x xs within in
    ap (λ (b : Bool). laid_over (owner_pairs pages owner xs) addr (cond b owner default)) (ne_eqb (owner_word pages x) addr (λ same. omega arith))
    ∙ other_read pages owner xs addr default (All-tail (λ page. page < pages) x xs within) outside

-- the tables read so
pub passed : (pages owner : ℕ) (list : List ℕ) (at after : ℕ → ℕ) → SameTables pages (read_after (owner_pairs pages owner list) at) after → All (λ page. page < pages) list → IsPassed pages owner list at after
passed pages owner list at after same within = record {
  owners = λ page lt. same (owner_word pages page) (omega arith) (omega arith) (omega arith) ∙ owner_read pages owner list page (at (owner_word pages page));
  coffers = λ addr whole low high. same addr whole (omega arith) high ∙ other_read pages owner list addr (at addr) within low;
}

-- Whose pages are whose after: where these have become the owner's.

own_after : (pages owner : ℕ) (list : List ℕ) (at after : ℕ → ℕ) → ((page : ℕ) → page < pages → owner_in pages after page ≡ cond (is_among list page) owner (owner_in pages at page))
    → pages_owned pages after owner ≡ in_order pages (pages_owned pages at owner ++ list)
own_after pages owner list at after owners =
    filter_agree_in (λ page. nat_eq (owner_in pages after page) owner) (is_among (pages_owned pages at owner ++ list)) 0 pages (λ page low high.
    ap (λ (o : ℕ). nat_eq o owner) (owners page (omega arith))
    ∙ by page (is_among list page)
    ∙ sym (among_append (pages_owned pages at owner) list page
    ∙ ap (λ (b : Bool). b || is_among list page) (among_kept (λ p. nat_eq (owner_in pages at p) owner) pages page (omega arith))))
  where
    by : (page : ℕ) (b : Bool) → nat_eq (cond b owner (owner_in pages at page)) owner ≡ (nat_eq (owner_in pages at page) owner || b)
    by page true = eq-eqb owner owner refl ∙ sym (always (nat_eq (owner_in pages at page) owner))
      where
        always : (b : Bool) → (b || true) ≡ true
        always true = refl
        always false = refl
    by page false = sym (as_it_is (nat_eq (owner_in pages at page) owner))
      where
        as_it_is : (b : Bool) → (b || false) ≡ b
        as_it_is true = refl
        as_it_is false = refl

-- another owner has left what isn't among them
left_after : (pages owner other : ℕ) (list : List ℕ) (at after : ℕ → ℕ) → owner ≢ other → ((page : ℕ) → page < pages → owner_in pages after page ≡ cond (is_among list page) owner (owner_in pages at page))
    → pages_owned pages after other ≡ filter (λ page. not (is_among list page)) (pages_owned pages at other)
left_after pages owner other list at after differ owners =
    filter_agree_in (λ page. nat_eq (owner_in pages after page) other) (λ page. nat_eq (owner_in pages at page) other && not (is_among list page)) 0 pages
    (λ page low high. ap (λ (o : ℕ). nat_eq o other) (owners page (omega arith)) ∙ by page (is_among list page))
    ∙ sym (filter_twice (λ page. nat_eq (owner_in pages at page) other) (λ page. not (is_among list page)) (range_with_len 0 pages))
  where
    by : (page : ℕ) (b : Bool) → nat_eq (cond b owner (owner_in pages at page)) other ≡ (nat_eq (owner_in pages at page) other && not b)
    by page true = ne_eqb owner other differ ∙ sym (never (nat_eq (owner_in pages at page) other))
      where
        never : (b : Bool) → (b && false) ≡ false
        never true = refl
        never false = refl
    by page false = sym (as_it_is (nat_eq (owner_in pages at page) other))
      where
        as_it_is : (b : Bool) → (b && true) ≡ b
        as_it_is true = refl
        as_it_is false = refl

-- Grants.

granted_free : (pages count : ℕ) (at : ℕ → ℕ) (page : ℕ) → is_among (take count (pages_free pages at)) page ≡ true → owner_in pages at page ≡ 0
granted_free pages count at page is =
    let free = sym (among_filter (λ p. nat_eq (owner_in pages at p) 0) (range_with_len 0 pages) page) ∙ among_take count (pages_free pages at) page is in
    eqb-true (owner_in pages at page) 0 (and_parts (is_among (range_with_len 0 pages) page) (nat_eq (owner_in pages at page) 0) free).1

granted_within : (pages count : ℕ) (at : ℕ → ℕ) → All (λ page. page < pages) (take count (pages_free pages at))
granted_within pages count at = All-take (λ page. page < pages) count (pages_free pages at) (within (λ page. nat_eq (owner_in pages at page) 0) pages)

pub grant_gives : (pages id count : ℕ) (at after : ℕ → ℕ) → HasGrant pages id count at after → id ≢ 0 → IsGranted pages id count at after
grant_gives pages id count at after has some =
    let pass = passed pages id (take count (pages_free pages at)) at after has (granted_within pages count at) in
    record {
      passed = pass;
      free = left_after pages id 0 (take count (pages_free pages at)) at after some pass.owners
          ∙ rest_is 0 count (pages_free pages at) (ascends_kept (λ page. nat_eq (owner_in pages at page) 0) 0 pages);
      own = own_after pages id (take count (pages_free pages at)) at after pass.owners;
      others = λ owner not_free not_id.
          filter_agree_in (λ page. nat_eq (owner_in pages after page) owner) (λ page. nat_eq (owner_in pages at page) owner) 0 pages
          (λ page low high. ap (λ (o : ℕ). nat_eq o owner) (pass.owners page (omega arith)) ∙ kept owner not_free not_id page (cases_Bool (is_among (take count (pages_free pages at)) page)));
    }
  where
    kept : (owner : ℕ) → owner ≢ 0 → owner ≢ id → (page : ℕ)
        → (is_among (take count (pages_free pages at)) page ≡ true) ⊎ (is_among (take count (pages_free pages at)) page ≡ false)
        → nat_eq (cond (is_among (take count (pages_free pages at)) page) id (owner_in pages at page)) owner ≡ nat_eq (owner_in pages at page) owner
    kept owner not_free not_id page (inl is) =
        ap (λ (b : Bool). nat_eq (cond b id (owner_in pages at page)) owner) is
        ∙ ne_eqb id owner (λ same. not_id (sym same))
        ∙ sym (ne_eqb (owner_in pages at page) owner (λ same. not_free (sym same ∙ granted_free pages count at page is)))
    kept owner not_free not_id page (inr isnt) = ap (λ (b : Bool). nat_eq (cond b id (owner_in pages at page)) owner) isnt

-- The rule of the owner words.

holds : (pages : ℕ) (at : ℕ → ℕ) (page : ℕ) → OwnerCase pages at page → owner_fails pages at page ≡ false
holds pages at page (Kernels lt is) =
    ap (λ (b : Bool). cond b (not (nat_eq (owner_in pages at page) 65535)) (not (nat_eq (owner_in pages at page) 0 || (is_id (owner_in pages at page) && stands_in pages at (owner_in pages at page))))) (lt-ltb page (kernel_pages pages) lt)
    ∙ ap not (eq-eqb (owner_in pages at page) 65535 is)
holds pages at page (Nobodys le is) =
    ap (λ (b : Bool). cond b (not (nat_eq (owner_in pages at page) 65535)) (not (nat_eq (owner_in pages at page) 0 || (is_id (owner_in pages at page) && stands_in pages at (owner_in pages at page))))) (le-ltb page (kernel_pages pages) le)
    ∙ ap (λ (b : Bool). not (b || (is_id (owner_in pages at page) && stands_in pages at (owner_in pages at page)))) (eq-eqb (owner_in pages at page) 0 is)
holds pages at page (Coffers le id stands) =
    ap (λ (b : Bool). cond b (not (nat_eq (owner_in pages at page) 65535)) (not (nat_eq (owner_in pages at page) 0 || (is_id (owner_in pages at page) && stands_in pages at (owner_in pages at page))))) (le-ltb page (kernel_pages pages) le)
    ∙ ap (λ (b : Bool). not (nat_eq (owner_in pages at page) 0 || (b && stands_in pages at (owner_in pages at page)))) id
    ∙ ap (λ (b : Bool). not (nat_eq (owner_in pages at page) 0 || b)) stands
    ∙ always (nat_eq (owner_in pages at page) 0)
  where
    always : (b : Bool) → not (b || true) ≡ false
    always true = refl
    always false = refl

-- which coffers are there stays, since no owner word is a word of the coffer table
still_stands : (pages : ℕ) (at after : ℕ → ℕ) → SameCoffers pages at after → (id : ℕ) → is_id id ≡ true → stands_in pages after id ≡ stands_in pages at id
still_stands pages at after same id is =
    let parts = and_parts (nat_le 1 id) (nat_le id 256) is in
    let low = leb-true 1 id parts.0 in
    let high = leb-true id 256 parts.1 in
    ap is_there (same (coffer_state (coffer_entry pages id)) (omega arith) (omega arith) (omega arith))

-- a coffer's page, once the coffer is known
coffers_hold : (pages : ℕ) (at after : ℕ → ℕ) → SameCoffers pages at after → (page id : ℕ) → owner_in pages after page ≡ id → kernel_pages pages ≤ page → is_id id ≡ true → stands_in pages at id ≡ true → OwnerCase pages after page
coffers_hold pages at after same page id owner behind is stands =
    Coffers behind (ap is_id owner ∙ is) (ap (λ (o : ℕ). stands_in pages after o) owner ∙ still_stands pages at after same id is ∙ stands)

-- a page that isn't among those keeps its rule
others_hold : (pages owner : ℕ) (list : List ℕ) (at after : ℕ → ℕ) → IsPassed pages owner list at after → (page : ℕ) → page < pages → is_among list page ≡ false → OwnerCase pages at page → OwnerCase pages after page
others_hold pages owner list at after pass page lt isnt case = by case
  where
    same : owner_in pages after page ≡ owner_in pages at page
    same = pass.owners page lt ∙ ap (λ (b : Bool). cond b owner (owner_in pages at page)) isnt

    by : OwnerCase pages at page → OwnerCase pages after page
    by (Kernels below is) = Kernels below (same ∙ is)
    by (Nobodys behind is) = Nobodys behind (same ∙ is)
    by (Coffers behind id stands) = coffers_hold pages at after pass.coffers page (owner_in pages at page) same behind id stands

-- Pages that come to a coffer that is there.

from_kernel : (pages : ℕ) (list : List ℕ) (page : ℕ) → All (λ p. kernel_pages pages ≤ p) list → is_among list page ≡ true → kernel_pages pages ≤ page
from_kernel pages [] page behind is = absurd (cc)
from_kernel pages (x ∷ xs) page behind is =
    by (or_cases (nat_eq page x) (is_among xs page) is) (from_kernel pages xs page (All-tail (λ p. kernel_pages pages ≤ p) x xs behind))
  where
    by : (nat_eq page x ≡ true) ⊎ (is_among xs page ≡ true) → (is_among xs page ≡ true → kernel_pages pages ≤ page) → kernel_pages pages ≤ page
    by (inl here) later = let is = eqb-true page x here in let le = All-head (λ p. kernel_pages pages ≤ p) x xs behind in omega arith
    by (inr there) later = later there

passed_hold : (pages owner : ℕ) (list : List ℕ) (at after : ℕ → ℕ) → IsPassed pages owner list at after → ((page : ℕ) → page < pages → is_among list page ≡ true → kernel_pages pages ≤ page)
    → is_id owner ≡ true → stands_in pages at owner ≡ true → OwnersPass pages at → OwnersPass pages after
passed_hold pages owner list at after pass behind coffer stands passes page lt =
    holds pages after page (by (cases_Bool (is_among list page)))
  where
    by : (is_among list page ≡ true) ⊎ (is_among list page ≡ false) → OwnerCase pages after page
    by (inl is) = coffers_hold pages at after pass.coffers page owner (pass.owners page lt ∙ ap (λ (b : Bool). cond b owner (owner_in pages at page)) is) (behind page lt is) coffer stands
    by (inr isnt) = others_hold pages owner list at after pass page lt isnt (owner_case pages at page (passes page lt))

-- every rule holds after, if each coffer that is there keeps its own two pages
pub rules_hold : (pages owner : ℕ) (list : List ℕ) (at after : ℕ → ℕ) → IsPassed pages owner list at after → ((page : ℕ) → page < pages → is_among list page ≡ true → kernel_pages pages ≤ page)
    → ((id : ℕ) → 1 ≤ id → id ≤ 256 → stands_in pages at id ≡ true → (page : ℕ) → (page ≡ at (coffer_control (coffer_entry pages id))) ⊎ (page ≡ at (coffer_root (coffer_entry pages id))) → page < pages
    → owner_in pages at page ≡ id → owner_in pages after page ≡ id)
    → is_id owner ≡ true → stands_in pages at owner ≡ true → TablesPass pages at → TablesPass pages after
rules_hold pages owner list at after pass behind kept coffer stands passes = record {
  owners = passed_hold pages owner list at after pass behind coffer stands passes.owners;
  entries = λ id low high. entry_stays pages at after pass.coffers id low high (kept id low high) (passes.entries id low high);
  buckets = λ bucket lt. bucket_stays pages at after pass.coffers bucket lt (passes.buckets bucket lt);
}

-- a page that isn't among those keeps its owner
pub others_kept : (pages owner : ℕ) (list : List ℕ) (at after : ℕ → ℕ) → IsPassed pages owner list at after → (page : ℕ) → page < pages → is_among list page ≡ false → owner_in pages after page ≡ owner_in pages at page
others_kept pages owner list at after pass page lt isnt = pass.owners page lt ∙ ap (λ (b : Bool). cond b owner (owner_in pages at page)) isnt

pub pass_keeps : (pages owner : ℕ) (list : List ℕ) (at after : ℕ → ℕ) → HasPassed pages owner list at after → All (λ page. page < pages) list → All (λ page. kernel_pages pages ≤ page) list
    → ((id : ℕ) → 1 ≤ id → id ≤ 256 → id ≢ owner → TakesRoot pages list at id → ⊥)
    → is_id owner ≡ true → stands_in pages at owner ≡ true → TablesPass pages at → TablesPass pages after
pass_keeps pages owner list at after has inside behind spares coffer stands passes =
    rules_hold pages owner list at after pass (λ page lt is. from_kernel pages list page behind is)
    (λ id low high there page which lt is. by id low high there page which lt is (cases_Bool (is_among list page)) (cases_eq id owner))
    coffer stands passes
  where
    pass : IsPassed pages owner list at after
    pass = passed pages owner list at after has inside

    takes : (id page : ℕ) → stands_in pages at id ≡ true → (page ≡ at (coffer_control (coffer_entry pages id))) ⊎ (page ≡ at (coffer_root (coffer_entry pages id))) → is_among list page ≡ true → TakesRoot pages list at id
    takes id page there (inl is) taken = record { there = there; taken = inl (ap (λ (p : ℕ). is_among list p) (sym is) ∙ taken) }
    takes id page there (inr is) taken = record { there = there; taken = inr (ap (λ (p : ℕ). is_among list p) (sym is) ∙ taken) }

    by : (id : ℕ) → 1 ≤ id → id ≤ 256 → stands_in pages at id ≡ true → (page : ℕ) → (page ≡ at (coffer_control (coffer_entry pages id))) ⊎ (page ≡ at (coffer_root (coffer_entry pages id))) → page < pages
        → owner_in pages at page ≡ id → (is_among list page ≡ true) ⊎ (is_among list page ≡ false) → (id ≡ owner) ⊎ (id ≡ owner → ⊥) → owner_in pages after page ≡ id
    by id low high there page which lt is (inl taken) (inl same) = pass.owners page lt ∙ ap (λ (b : Bool). cond b owner (owner_in pages at page)) taken ∙ sym same
    by id low high there page which lt is (inl taken) (inr other) = absurd (spares id low high other (takes id page there which taken))
    by id low high there page which lt is (inr isnt) either = others_kept pages owner list at after pass page lt isnt ∙ is

pub grant_keeps : (pages id count : ℕ) (at after : ℕ → ℕ) → HasGrant pages id count at after → is_id id ≡ true → stands_in pages at id ≡ true → TablesPass pages at → TablesPass pages after
grant_keeps pages id count at after has coffer stands passes =
    rules_hold pages id (take count (pages_free pages at)) at after pass (λ page lt is. behind page is (owner_case pages at page (passes.owners page lt)))
    (λ other low high there page which lt is. by other low page lt is (cases_Bool (is_among (take count (pages_free pages at)) page)))
    coffer stands passes
  where
    pass : IsPassed pages id (take count (pages_free pages at)) at after
    pass = passed pages id (take count (pages_free pages at)) at after has (granted_within pages count at)

    behind : (page : ℕ) → is_among (take count (pages_free pages at)) page ≡ true → OwnerCase pages at page → kernel_pages pages ≤ page
    behind page is (Kernels below kernels) = let free = granted_free pages count at page is in absurd (omega arith)
    behind page is (Nobodys le none) = le
    behind page is (Coffers le other there) = le

    by : (other : ℕ) → 1 ≤ other → (page : ℕ) → page < pages → owner_in pages at page ≡ other → (is_among (take count (pages_free pages at)) page ≡ true) ⊎ (is_among (take count (pages_free pages at)) page ≡ false) → owner_in pages after page ≡ other
    by other some page lt is (inl given) = let free = granted_free pages count at page given in absurd (omega arith)
    by other some page lt is (inr isnt) = others_kept pages id (take count (pages_free pages at)) at after pass page lt isnt ∙ is

-- Pages that go back.

-- the pairs are those of the list, in order
returned : (pages : ℕ) (list : List ℕ) (at after : ℕ → ℕ) → HasReturn pages list at after → All (λ page. page < pages) list → IsPassed pages 0 list at after
returned pages list at after has inside =
    let pass = passed pages 0 (in_order pages list) at after has (within (is_among list) pages) in
    record {
      owners = λ page lt. pass.owners page lt ∙ ap (λ (b : Bool). cond b 0 (owner_in pages at page)) (among_in_order pages list page inside);
      coffers = pass.coffers;
    }

pub return_frees : (pages : ℕ) (list : List ℕ) (at after : ℕ → ℕ) → HasReturn pages list at after → All (λ page. page < pages) list → IsTakenBack pages list at after
return_frees pages list at after has inside =
    let pass = returned pages list at after has inside in
    record {
      passed = pass;
      free = own_after pages 0 list at after pass.owners;
      left = λ owner some. left_after pages 0 owner list at after (λ same. some (sym same)) pass.owners;
    }

pub return_keeps_owners : (pages : ℕ) (list : List ℕ) (at after : ℕ → ℕ) → HasReturn pages list at after → All (λ page. page < pages) list → All (λ page. kernel_pages pages ≤ page) list → OwnersPass pages at → OwnersPass pages after
return_keeps_owners pages list at after has inside behind passes page lt = holds pages after page (by (cases_Bool (is_among list page)))
  where
    by : (is_among list page ≡ true) ⊎ (is_among list page ≡ false) → OwnerCase pages after page
    by (inl is) =
        Nobodys (from_kernel pages list page behind is) ((returned pages list at after has inside).owners page lt ∙ ap (λ (b : Bool). cond b 0 (owner_in pages at page)) is)
    by (inr isnt) = others_hold pages 0 list at after (returned pages list at after has inside) page lt isnt (owner_case pages at page (passes page lt))

pub return_keeps_entries : (pages : ℕ) (list : List ℕ) (at after : ℕ → ℕ) → HasReturn pages list at after → All (λ page. page < pages) list
    → (id : ℕ) → 1 ≤ id → id ≤ 256 → (TakesRoot pages list at id → ⊥) → entry_fails pages at id ≡ false → entry_fails pages after id ≡ false
return_keeps_entries pages list at after has inside id low high spares passes =
    entry_stays pages at after (returned pages list at after has inside).coffers id low high
    (λ there page which lt is.
    others_kept pages 0 list at after (returned pages list at after has inside) page lt (false_from_ne_true (is_among list page) (λ taken. spares (by there page which taken))) ∙ is)
    passes
  where
    by : stands_in pages at id ≡ true → (page : ℕ) → (page ≡ at (coffer_control (coffer_entry pages id))) ⊎ (page ≡ at (coffer_root (coffer_entry pages id))) → is_among list page ≡ true → TakesRoot pages list at id
    by there page (inl is) taken = record { there = there; taken = inl (ap (λ (p : ℕ). is_among list p) (sym is) ∙ taken) }
    by there page (inr is) taken = record { there = there; taken = inr (ap (λ (p : ℕ). is_among list p) (sym is) ∙ taken) }

pub return_keeps_buckets : (pages : ℕ) (list : List ℕ) (at after : ℕ → ℕ) → HasReturn pages list at after → All (λ page. page < pages) list
    → (bucket : ℕ) → bucket < 256 → bucket_fails pages at bucket ≡ false → bucket_fails pages after bucket ≡ false
return_keeps_buckets pages list at after has inside bucket lt passes = bucket_stays pages at after (returned pages list at after has inside).coffers bucket lt passes
