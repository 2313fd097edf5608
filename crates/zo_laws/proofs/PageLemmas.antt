-- What stores leave alone that go to some pages only: directories and files of other pages.
use Rattle.std.proofs.Common.{◌≡◌, inl, inr, ℕ, ◌/◌, ◌<◌, List, Option, refl, sym, subst, ◌∙◌, arith}
use Rattle.zo_layout.specs.Layout.{page_at, bucket_head, file_map, first_entry_page, first_free_entry, next_entry, page_kind}
use Rattle.zo_model.specs.Tree.{Node, Directory, FileOf}
use Rattle.zo_model.specs.Directory.{IsPlace, Leads, Shows, HasFree, HasFirst}
use Rattle.zo_model.specs.CofferWords.{IsNode}
use Rattle.zo_laws.specs.Stores.{after_stores}
use Rattle.zo_laws.proofs.StoreLemmas.{Within, Aside, within-weaker, after_aside}
use Rattle.zo_laws.proofs.FrameLemmas.{SameEntry, shows_same, reached_same, place_aligned, leads_same}

abbrev pub AtPage : (ℕ → Type 0) → ℕ → Type 0
AtPage T a = T (a / 4096)

-- a word of another page stays
pub page_kept : (at : ℕ → ℕ) (T : ℕ → Type 0) (pairs : List (ℕ × ℕ)) (a p : ℕ) → a / 4096 ≡ p → (T p → ⊥) → Within (AtPage T) pairs → after_stores at pairs a ≡ at a
page_kept at T pairs a p there other all =
    after_aside at pairs a (within-weaker (AtPage T) (Aside a) (λ x touched same. other (subst T (one x same ∙ there) touched)) pairs all)
  where
    one : (x : ℕ) → a / 8 ≡ x / 8 → x / 4096 ≡ a / 4096
    one x same = omega arith

-- words with which the stores agree outside of these pages
abbrev pub KeepsPages : (ℕ → ℕ) → (ℕ → ℕ) → (ℕ → Type 0) → Type 0
KeepsPages at new T = (a p : ℕ) → a / 4096 ≡ p → (T p → ⊥) → new a ≡ at a

pub keeps_pages : (at : ℕ → ℕ) (T : ℕ → Type 0) (pairs : List (ℕ × ℕ)) → Within (AtPage T) pairs → KeepsPages at (after_stores at pairs) T
keeps_pages at T pairs all a p there other = page_kept at T pairs a p there other all

heads_page : (at new : ℕ → ℕ) (T : ℕ → Type 0) (p : ℕ) → KeepsPages at new T → (T p → ⊥) → (b : ℕ) → b < 256 → new (bucket_head (page_at p) b) ≡ at (bucket_head (page_at p) b)
heads_page at new T p keeps other b low = keeps (bucket_head (page_at p) b) p (omega arith) other

entry_page : (at new : ℕ → ℕ) (T P : ℕ → Type 0) (e : ℕ) → KeepsPages at new T → ((q : ℕ) → P q → T q → ⊥) → IsPlace P e → SameEntry at new e
entry_page at new T P e keeps others place a at_8 low high =
    keeps a place.page (let is = place.is in let twelve = place.twelve in omega arith) (others place.page place.entries)

-- a directory of other pages
pub shows_page : (at new : ℕ → ℕ) (T P More : ℕ → Type 0) (p : ℕ) (want : List ℕ → Option ℕ) → KeepsPages at new T → (T p → ⊥) → ((q : ℕ) → P q → T q → ⊥) → ((q : ℕ) → P q → More q)
    → Shows at P (page_at p) want → Shows new More (page_at p) want
shows_page at new T P More p want keeps other others more shows =
    shows_same at new P More (page_at p) want more (heads_page at new T p keeps other) (λ e reached place. entry_page at new T P e keeps others place) shows

pub node_page : (at new : ℕ → ℕ) (T P More : ℕ → Type 0) (p : ℕ) (want : List ℕ → Option ℕ) (node : Node) → KeepsPages at new T → (T p → ⊥) → ((q : ℕ) → P q → T q → ⊥) → ((q : ℕ) → P q → More q)
    → IsNode at P want (page_at p) node → IsNode new More want (page_at p) node
node_page at new T P More p want Directory keeps other others more shown =
    (keeps (page_kind (page_at p)) p (omega arith) other ∙ shown.0, shows_page at new T P More p want keeps other others more shown.1)
node_page at new T P More p want (FileOf bytes) keeps other others more shown =
    (keeps (page_kind (page_at p)) p (omega arith) other ∙ shown.0, (keeps (file_map (page_at p)) p (omega arith) other ∙ shown.1.0, shown.1.1))

pub place_more : (P More : ℕ → Type 0) (e : ℕ) → ((q : ℕ) → P q → More q) → IsPlace P e → IsPlace More e
place_more P More e more p = record { page = p.page; place = p.place; is = p.is; twelve = p.twelve; entries = more p.page p.entries }

-- its free entries
pub free_page : (at new : ℕ → ℕ) (T P More : ℕ → Type 0) (p : ℕ) (want : List ℕ → Option ℕ) (frees : List ℕ) → KeepsPages at new T → (T p → ⊥) → ((q : ℕ) → P q → T q → ⊥) → ((q : ℕ) → P q → More q)
    → Shows at P (page_at p) want → HasFree at P (page_at p) frees → HasFree new More (page_at p) frees
free_page at new T P More p want frees keeps other others more shows has = record {
  leads = subst (λ (w : ℕ). Leads new w frees) (sym (keeps (first_free_entry (page_at p)) p (omega arith) other))
      (leads_same at new (at (first_free_entry (page_at p))) frees
      (λ e among. let place = (has.each e among).place in entry_page at new T P e keeps others place (next_entry e) (place_aligned P e place) (omega arith) (omega arith)) has.leads);
  each = λ e among. record {
    place = place_more P More e more (has.each e among).place;
    unreached = λ now. (has.each e among).unreached (reached_same at new P (page_at p) want (heads_page at new T p keeps other) (λ e reached place. entry_page at new T P e keeps others place) shows e now);
  };
}

pub first_more : (at new : ℕ → ℕ) (P More : ℕ → Type 0) (dir : ℕ) → new (first_entry_page dir) ≡ at (first_entry_page dir) → ((q : ℕ) → P q → More q) → HasFirst at P dir → HasFirst new More dir
first_more at new P More dir same more (inl none) = inl (same ∙ none)
first_more at new P More dir same more (inr (page, is, entries)) = inr (page, same ∙ is, more page entries)

pub first_page : (at new : ℕ → ℕ) (T P More : ℕ → Type 0) (p : ℕ) → KeepsPages at new T → (T p → ⊥) → ((q : ℕ) → P q → More q) → HasFirst at P (page_at p) → HasFirst new More (page_at p)
first_page at new T P More p keeps other more has = first_more at new P More (page_at p) (keeps (first_entry_page (page_at p)) p (omega arith) other) more has

-- the same words, over more pages and with targets that are the same
pub shows_more : (at : ℕ → ℕ) (P More : ℕ → Type 0) (dir : ℕ) (want : List ℕ → Option ℕ) → ((q : ℕ) → P q → More q) → Shows at P dir want → Shows at More dir want
shows_more at P More dir want more shows = shows_same at at P More dir want more (λ b low. refl) (λ e reached place a at_8 low high. refl) shows

pub free_more : (at : ℕ → ℕ) (P More : ℕ → Type 0) (dir : ℕ) (frees : List ℕ) → ((q : ℕ) → P q → More q) → HasFree at P dir frees → HasFree at More dir frees
free_more at P More dir frees more has = record {
  leads = has.leads;
  each = λ e among. record { place = place_more P More e more (has.each e among).place; unreached = (has.each e among).unreached };
}

pub shows_want : (at : ℕ → ℕ) (P : ℕ → Type 0) (dir : ℕ) (want other : List ℕ → Option ℕ) → ((name : List ℕ) → want name ≡ other name) → Shows at P dir want → Shows at P dir other
shows_want at P dir want other same shows b low =
    let is = shows b low in
    record { entries = is.entries; leads = is.leads; each = is.each; once = is.once; names = λ name in_bucket. is.names name in_bucket ∙ same name }
