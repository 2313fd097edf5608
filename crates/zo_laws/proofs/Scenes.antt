-- The directories of a coffer as a look-up finds them.
use Rattle.std.proofs.Common.{◌≡◌, ◌≢◌, ℕ, Bool, true, false, if◌then◌else◌, List, [], ◌∷◌, ◌++◌, Contains, ap, sym, refl, subst, ◌∙◌, inl, inr, arith}
use Rattle.std.specs.Prelude.{Option, Some, None}
use Rattle.std.specs.List.{list_any}
use Rattle.zo_layout.specs.Layout.{page_at, first_entry_page, first_free_entry, next_entry}
use Rattle.zo_model.specs.Tree.{Member, Node, Directory, node_at, same_names}
use Rattle.zo_model.specs.Directory.{IsPlace, HasFree, HasFirst}
use Rattle.zo_model.specs.CofferWords.{CofferAt, IsEntryPage, Denotes, target_of, wanted}
use Rattle.zo_hash_dir.specs.Addresses.{IsEntryAddress, IsPageAddress, IsTarget}
use Rattle.zo_hash_dir.specs.Scene.{IsPageOf, IsNoneOr}
use Rattle.zo_laws.specs.Laws.{KeepsNames}
use Rattle.zo_laws.specs.Scenes.{HasNearPages, DirectoriesShow, DirectoriesGrow}
use Rattle.zo_laws.proofs.Members.{contains_here, contains_there}
use Rattle.zo_laws.proofs.Directories.{shows_stay}

page_in : (coffer : CofferAt) (page : ℕ) → HasNearPages coffer → Contains coffer.pages page → IsPageOf coffer.pages page
page_in coffer page near c = record { among = c; some = (near page c).0; near = (near page c).1 }

page_address : (coffer : CofferAt) (page : ℕ) → HasNearPages coffer → Contains coffer.pages page → IsPageAddress (page_at page)
page_address coffer page near c = record { page = page; is = refl; some = (near page c).0; near = (near page c).1 }

-- what a tree wants is a target that the layout allows
target_allowed : (at : ℕ → ℕ) (coffer : CofferAt) (tree : List Member) (d : Denotes at coffer tree) (names : List (List ℕ)) → HasNearPages coffer
    → (target : ℕ) → target_of d.page_of coffer names (node_at tree names) ≡ Some target → IsTarget target
target_allowed at coffer tree d names near target is = by (node_at tree names) refl is
  where
    by : (node : Option Node) → node_at tree names ≡ node → target_of d.page_of coffer names node ≡ Some target → IsTarget target
    by (Some node) e is =
        let same : page_at (d.page_of names) ≡ target = cc in
        inr (subst IsPageAddress same (page_address coffer (d.page_of names) near (d.members names node e).coffers))
    by None e is = below (list_any (same_names names) coffer.below) is
      where
        below : (b : Bool) → (if b then Some 1 else None) ≡ Some target → IsTarget target
        below true is =
            let one : 1 ≡ target = cc in
            inl (sym one)
        below false is = absurd (cc)

stay : (at : ℕ → ℕ) (dir : ℕ) → KeepsNames at at dir
stay at dir = record { heads = λ bucket low. refl; entries = λ entry i reached few. refl }

pub directories_show : DirectoriesShow
directories_show at coffer tree d names near dir =
    let page = page_at (d.page_of names) in
    record {
      shows = shows_stay (IsEntryPage coffer d.use_of names) (IsPageOf coffer.pages) at at page (wanted d.page_of coffer tree names) (d.members names Directory dir).shown.1 (stay at page)
          (λ p e. page_in coffer p near e.coffers);
      few = omega arith;
      targets = λ name target is. target_allowed at coffer tree d (names ++ name ∷ []) near target is;
    }

-- a place of a directory's entry pages is one of the coffer's, at an address that the layout allows
place_in : (coffer : CofferAt) (P : ℕ → Type 0) (entry : ℕ) → HasNearPages coffer → ((page : ℕ) → P page → Contains coffer.pages page) → IsPlace P entry → IsPlace (IsPageOf coffer.pages) entry
place_in coffer P entry near within p =
    record { page = p.page; place = p.place; is = p.is; twelve = p.twelve; entries = page_in coffer p.page near (within p.page p.entries) }

place_allowed : (pages : List ℕ) (entry : ℕ) → IsPlace (IsPageOf pages) entry → IsEntryAddress entry
place_allowed pages entry p = record { page = p.page; place = p.place; is = p.is; twelve = p.twelve; entries = p.entries.near }

-- the first free entry, and the one behind it
first_free : (at : ℕ → ℕ) (coffer : CofferAt) (P : ℕ → Type 0) (dir : ℕ) (frees : List ℕ) → HasNearPages coffer → ((page : ℕ) → P page → Contains coffer.pages page) → HasFree at P dir frees
    → IsNoneOr (IsPlace (IsPageOf coffer.pages)) (at (first_free_entry dir))
first_free at coffer P dir [] near within h = inl h.leads
first_free at coffer P dir (e ∷ frees) near within h =
    inr (subst (IsPlace (IsPageOf coffer.pages)) (sym h.leads.0) (place_in coffer P e near within (h.each e (contains_here e frees)).place))

next_free : (at : ℕ → ℕ) (coffer : CofferAt) (P : ℕ → Type 0) (dir : ℕ) (frees : List ℕ) → HasNearPages coffer → ((page : ℕ) → P page → Contains coffer.pages page) → HasFree at P dir frees
    → at (first_free_entry dir) ≢ 0 → IsNoneOr IsEntryAddress (at (next_entry (at (first_free_entry dir))))
next_free at coffer P dir [] near within h some = absurd (some h.leads)
next_free at coffer P dir (e ∷ []) near within h some =
    inl (subst (λ (x : ℕ). at (next_entry x) ≡ 0) (sym h.leads.0) h.leads.2)
next_free at coffer P dir (e ∷ f ∷ frees) near within h some =
    let place = place_in coffer P f near within (h.each f (contains_there e (f ∷ frees) f (contains_here f frees))).place in
    let leads : at (next_entry (at (first_free_entry dir))) ≡ f = ap (λ (x : ℕ). at (next_entry x)) h.leads.0 ∙ h.leads.2.0 in
    inr (subst IsEntryAddress (sym leads) (place_allowed coffer.pages f place))

first_page : (at : ℕ → ℕ) (coffer : CofferAt) (P : ℕ → Type 0) (dir : ℕ) → HasNearPages coffer → ((page : ℕ) → P page → Contains coffer.pages page) → HasFirst at P dir
    → IsNoneOr IsPageAddress (at (first_entry_page dir))
first_page at coffer P dir near within (inl none) = inl none
first_page at coffer P dir near within (inr p) = inr (subst IsPageAddress (sym p.1) (page_address coffer p.0 near (within p.0 p.2)))

pub directories_grow : DirectoriesGrow
directories_grow at coffer tree r names near dir =
    let page = page_at (r.denotes.page_of names) in
    let entries : ℕ → Type 0 = IsEntryPage coffer r.denotes.use_of names in
    let free = r.free names dir in
    let first = r.first names dir in
    record {
      first = first_page at coffer entries page near (λ p e. e.coffers) first;
      free = first_free at coffer entries page (r.frees names) near (λ p e. e.coffers) free;
      free_next = next_free at coffer entries page (r.frees names) near (λ p e. e.coffers) free;
    }
