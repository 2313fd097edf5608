-- The commit of a link.
use Rattle.std.proofs.Common.{◌≡◌, ◌≢◌, ◌⊎◌, inl, inr, ℕ, ◌+◌, ◌%◌, ◌^◌, ◌/◌, ◌≤◌, ◌<◌, List, [], ◌∷◌, ◌++◌, false, Contains, Some, sym, ap, ap₂, subst, ◌∙◌, arith, le_of_eq}
use Rattle.std.proofs.lemmas.Bool.{cases_eq}
use Rattle.std.proofs.lemmas.Option.{none-some}
use Rattle.std.specs.List.{IsDistinct}
use Rattle.zo_layout.specs.Layout.{page_at, word_of, bucket_head, bucket_of, next_entry, next_entry_page}
use Rattle.zo_laws.proofs.Members.{contains_none}
use Rattle.zo_laws.proofs.MemberLemmas.{cases_names, last_same, longer, node_kept, node_other, node_cases, one_member}
use Rattle.zo_model.specs.Tree.{Node, Directory, node_at}
use Rattle.zo_model.specs.Directory.{IsReached, HasFree}
use Rattle.zo_model.specs.CofferWords.{Object, Entries, IsDir}
use Rattle.zo_units.specs.Memory.{at}
use Rattle.zo_units.specs.MemoryLaws.{Spares}
use Rattle.zo_units.specs.Units.{Commitment, IsOpen}
use Rattle.zo_units.specs.Commits.{IsReady, CanCommit, link_commit}
use Rattle.zo_units.proofs.Nodes.{commit_same}
use Rattle.zo_units.proofs.Telling.{nothing_object, nothing_entries, object_entries}
use Rattle.zo_units.proofs.Steps.{store_spares, put_use_other}
use Rattle.zo_units.proofs.Linked.{links, pages_other, pages_full, lasts_names, lasts_other, uses_made, reached_split}
use Rattle.zo_shared.specs.Shared.{Shared, dir_of, lease_of, HasPages, IsKept, IsSound}
use Rattle.zo_shared.specs.Deeds.{Commit, Holds, MayDo, does}
use Rattle.zo_shared.proofs.Frames.{EntryPages, Stays, Acts, Done, member, free_from, pages_from}
use Rattle.zo_shared.proofs.Changes.{Belongs, belongs_one, belongs_some, belongs_not_control, put_here, put_other, still_drawn, drawn_others, store_rises, store_other_page, store_apart, store_pools, store_drawn}
use Rattle.zo_shared.proofs.Sides.{held_some, holds_alone, holds_danger, danger_was}

module _ (g : Shared) (thread now : ℕ) (names : List (List ℕ)) (name : List ℕ) (node : Node) (entry made position : ℕ) (s : IsSound g)
    (may : MayDo thread now (Commit names name node entry made position) g) where
  abbrev full : List (List ℕ)
  full = names ++ name ∷ []

  abbrev head : ℕ
  head = bucket_head (dir_of g names) (bucket_of name)

  abbrev linked : Shared
  linked = does thread now (Commit names name node entry made position) g

  h : Holds g thread now names
  h = may.may.holds

  can : CanCommit g.memory g.coffer g.tree g.page_of g.use_of g.lasts names name node entry made
  can = may.may.can

  low : bucket_of name < 256
  low = omega arith

  head_page : head / 4096 ≡ g.page_of names
  head_page = omega (arith, low)

  belongs : Belongs (g.use_of (head / 4096)) names
  belongs = inl (ap g.use_of head_page ∙ (member g s names h.dir).object)

  not_dir : IsDir g.tree full → ⊥
  not_dir dir = none-some Directory (sym can.missing ∙ dir)

  not_full : (os : List (List ℕ)) → IsDir g.tree os → os ≢ full
  not_full os dir same = not_dir (subst (IsDir g.tree) same dir)

  opened_was : (c : Commitment) → IsOpen linked.memory c → IsOpen g.memory c
  opened_was c opened = let up = (store_rises g s head entry).floors c.addr in omega (arith, up, opened)

  -- pages, uses and last commits
  home_other : (os : List (List ℕ)) → os ≢ full → linked.page_of os ≡ g.page_of os
  home_other = pages_other g.memory g.coffer g.tree g.page_of g.use_of g.lasts names name node entry made thread position s.sound can

  home_full : linked.page_of full ≡ made
  home_full = pages_full g.memory g.coffer g.tree g.page_of g.use_of g.lasts names name node entry made thread position s.sound can

  last_here : linked.lasts names ≡ Some (link_commit thread position g.memory head full)
  last_here = lasts_names g.memory g.coffer g.tree g.page_of g.use_of g.lasts names name node entry made thread position s.sound can

  last_other : (os : List (List ℕ)) → os ≢ names → linked.lasts os ≡ g.lasts os
  last_other = lasts_other g.memory g.coffer g.tree g.page_of g.use_of g.lasts names name node entry made thread position s.sound can

  use_made : linked.use_of made ≡ Object full
  use_made = uses_made g.memory g.coffer g.tree g.page_of g.use_of g.lasts names name node entry made thread position s.sound can

  use_more : (p : ℕ) (os : List (List ℕ)) → g.use_of p ≡ Entries os → linked.use_of p ≡ Entries os
  use_more p os is = put_use_other g.use_of made (Object full) p (λ same. nothing_entries os (sym can.useless ∙ ap g.use_of (sym same) ∙ is)) ∙ is

  use_was : (p : ℕ) (os : List (List ℕ)) → linked.use_of p ≡ Entries os → g.use_of p ≡ Entries os
  use_was p os is = by (cases_eq p made)
    where
      by : (p ≡ made) ⊎ (p ≢ made) → g.use_of p ≡ Entries os
      by (inl same) = absurd (object_entries full os (sym use_made ∙ ap linked.use_of (sym same) ∙ is))
      by (inr other) = sym (put_use_other g.use_of made (Object full) p other) ∙ is

  more : (os : List (List ℕ)) (p : ℕ) → EntryPages g os p → EntryPages linked os p
  more os p e = record { coffers = e.coffers; entries = use_more p os e.entries }

  only : (os : List (List ℕ)) (p : ℕ) → EntryPages linked os p → EntryPages g os p
  only os p e = record { coffers = e.coffers; entries = use_was p os e.entries }

  stays : (os : List (List ℕ)) → IsDir g.tree os → os ≢ names → Stays g linked os
  stays os dir other = record {
    home = home_other os (not_full os dir);
    more = more os;
    only = only os;
    spared = store_apart g s head entry os dir (λ b. other (belongs_one (g.use_of (head / 4096)) names os belongs b));
    frees = put_other g.frees full [] os (not_full os dir);
    bases = put_other g.bases full 0 os (not_full os dir);
    raises = put_other g.raises full 0 os (not_full os dir);
    raised = put_other g.raised full false os (not_full os dir);
    members = λ x. node_other g.tree full (os ++ x ∷ []) node (path_other x);
    pages = λ x n is. home_other (os ++ x ∷ []) (path_other x);
    last = λ c is. sym (last_other os other) ∙ is;
  }
    where
      path_other : (x : List ℕ) → os ++ x ∷ [] ≢ full
      path_other x same = other (last_same os names x name same).0

  -- the directory itself
  side_spared : (j : ℕ) → 1 ≤ j → j ≤ 5 → Spares g.memory linked.memory (word_of (dir_of g names) j)
  side_spared j one five = store_spares head entry g.memory (word_of (dir_of g names) j) (λ same. omega (arith, same, five, low))

  home_here : linked.page_of names ≡ g.page_of names
  home_here = home_other names (not_full names h.dir)

  side_is : (j : ℕ) → 1 ≤ j → j ≤ 5 → at linked.memory (word_of (dir_of linked names) j) ≡ at g.memory (word_of (dir_of g names) j)
  side_is j one five = ap (λ (p : ℕ). at linked.memory (word_of (page_at p) j)) home_here ∙ (side_spared j one five).present

  in_entries : (a p : ℕ) → EntryPages g names p → a / 4096 ≡ p → Spares g.memory linked.memory a
  in_entries a p e there =
      store_other_page g s head entry a (λ same. object_entries names names (sym (member g s names h.dir).object ∙ ap g.use_of (sym head_page ∙ sym same ∙ there) ∙ e.entries))

  k : IsKept g names
  k = s.kept names h.dir

  next_is : (e : ℕ) → Contains (g.frees names) e → at linked.memory (next_entry e) ≡ at g.memory (next_entry e)
  next_is e c =
      let place = (k.entries.each e c).place in
      (in_entries (next_entry e) place.page place.entries (let is = place.is in let twelve = place.twelve in omega (arith, is, twelve))).present

  reached_was : (e : ℕ) → Contains (g.frees names) e → IsReached (at linked.memory) (dir_of g names) e → IsReached (at g.memory) (dir_of g names) e
  reached_was e c reached = by (reached_split g.memory g.coffer g.tree g.page_of g.use_of g.lasts names name node entry made thread position s.sound can e reached)
    where
      by : (entry ≡ e) ⊎ IsReached (at g.memory) (dir_of g names) e → IsReached (at g.memory) (dir_of g names) e
      by (inl same) = absurd (may.may.loose.unfree (subst (Contains (g.frees names)) (sym same) c))
      by (inr was) = was

  frees_here : linked.frees names ≡ g.frees names
  frees_here = put_other g.frees full [] names (not_full names h.dir)

  raises_here : linked.raises names ≡ g.raises names
  raises_here = put_other g.raises full 0 names (not_full names h.dir)

  bases_here : linked.bases names ≡ g.bases names
  bases_here = put_other g.bases full 0 names (not_full names h.dir)

  acts_kept : IsKept linked names
  acts_kept = record {
    free = λ none. absurd (held_some (lease_of g names) thread h.own (sym (side_is 1 (omega arith) (omega arith)) ∙ none));
    noted = λ c last opened. side_is 2 (omega arith) (omega arith) ∙ may.may.noted ∙ ap (λ (x : Commitment). x.addr) (commit_same (link_commit thread position g.memory head full) c (sym last_here ∙ last));
    counted = side_is 3 (omega arith) (omega arith) ∙ k.counted ∙ ap₂ (λ (b r : ℕ). (b + r) % 2 ^ 64) (sym bases_here) (sym raises_here);
    few = (let few = k.few in let same = raises_here in omega (arith, few, same));
    entries =
        subst (λ (fs : List ℕ). HasFree (at linked.memory) (EntryPages linked names) (dir_of linked names) fs) (sym frees_here)
        (subst (λ (p : ℕ). HasFree (at linked.memory) (EntryPages linked names) (page_at p) (g.frees names)) (sym home_here)
        (free_from (EntryPages g names) (EntryPages linked names) (at g.memory) (at linked.memory) (dir_of g names) (g.frees names) (side_spared 5 (omega arith) (omega arith)).present next_is (more names)
        reached_was k.entries));
    pages =
        pages_from g linked names home_here (side_spared 4 (omega arith) (omega arith)).present (λ p e. (in_entries (next_entry_page (page_at p)) p e (omega arith)).present) (more names) (only names) k.pages;
  }

  commit_acts : Acts thread g linked names
  commit_acts = record {
    home = home_here;
    bases = bases_here;
    raises = le_of_eq (sym raises_here);
    kept = acts_kept;
    danger = λ stood d. danger_was g linked names may.later (put_other g.raised full false names (not_full names h.dir)) (side_is 1 (omega arith) (omega arith)) d;
    same = λ stood calm. absurd (calm (holds_danger g thread now names h may.later may.may.raised));
    alone = λ other differs held fresh. holds_alone g thread now names h other differs held;
  }

  -- the directory that is made
  module _ (is_dir : node ≡ Directory) where
    zero_here : (i : ℕ) → i < 512 → at linked.memory (word_of (dir_of linked full) i) ≡ 0
    zero_here i few =
        ap (λ (p : ℕ). at linked.memory (word_of (page_at p) i)) home_full
        ∙ (store_other_page g s head entry (word_of (page_at made) i)
        (λ same. nothing_object names (sym can.useless ∙ ap g.use_of (let there : made ≡ g.page_of names = omega (arith, same, few, low) in there) ∙ (member g s names h.dir).object))).present
        ∙ (subst (λ (x : Node). IsReady g.memory (page_at made) x) is_dir can.ready i few).0

    no_commit : (c : Commitment) → linked.lasts full ≡ Some c → IsOpen linked.memory c → ⊥
    no_commit c last opened = s.sound.closed full not_dir c (sym (last_other full (longer names name)) ∙ last) (opened_was c opened)

    frees_made : linked.frees full ≡ []
    frees_made = put_here g.frees full []

    raises_made : linked.raises full ≡ 0
    raises_made = put_here g.raises full 0

    bases_made : linked.bases full ≡ 0
    bases_made = put_here g.bases full 0

    made_pages : HasPages linked full
    unfolding IsDistinct
    made_pages = record {
      pages = [];
      leads = zero_here 4 (omega arith);
      once = tt;
      each = λ p c. absurd (contains_none p c);
      all = λ p e. absurd (not_dir (s.homes p full (use_was p full e.entries)));
    }

    made_kept : IsKept linked full
    made_kept = record {
      free = λ none. no_commit;
      noted = λ c last opened. absurd (no_commit c last opened);
      counted = zero_here 3 (omega arith) ∙ ap₂ (λ (b r : ℕ). (b + r) % 2 ^ 64) (sym bases_made) (sym raises_made);
      few = (let none = raises_made in omega (arith, none));
      entries =
          subst (λ (fs : List ℕ). HasFree (at linked.memory) (EntryPages linked full) (dir_of linked full) fs) (sym frees_made)
          (record { leads = zero_here 5 (omega arith); each = λ e c. absurd (contains_none e c) });
      pages = made_pages;
    }

  pub commit_done : Done thread g linked
  commit_done = record {
    later = record {
      now = may.later;
      count = (let up : g.count ≤ g.count + 1 = omega arith in up);
      rises = store_rises g s head entry;
      dirs = λ os dir. node_kept g.tree (one_member full node) os Directory dir;
      coffer = λ p inside. inside;
      lasts = λ os c last opened. lasts os c last (cases_names os names);
    };
    each = λ os dir. each os dir (cases_names os names);
    sound = links g.memory g.coffer g.tree g.page_of g.use_of g.lasts names name node entry made thread position s.sound can;
    made = λ os dir. new_dir os (node_cases g.tree full os node Directory can.missing dir);
    drawn = λ p who is.
        let before = still_drawn g.drawn made thread may.may.drawn p who is in
        let was_drawn = s.drawn p who before.1 in
        record { inside = was_drawn.inside; useless = put_use_other g.use_of made (Object full) p before.0 ∙ was_drawn.useless; not_control = was_drawn.not_control };
    homes = λ p os is. node_kept g.tree (one_member full node) os Directory (s.homes p os (use_was p os is));
    pools = store_pools g s head entry (belongs_not_control (g.use_of (head / 4096)) names belongs);
    others_drawn = drawn_others g.drawn made thread may.may.drawn;
    others_words = store_drawn g s head entry thread (inl (belongs_some (g.use_of (head / 4096)) names belongs));
    others_lasts = λ os c differs last opened. others os c last opened (cases_names os names);
  }
    where
      lasts : (os : List (List ℕ)) (c : Commitment) → linked.lasts os ≡ Some c → (os ≡ names) ⊎ (os ≢ names) → (g.lasts os ≡ Some c) ⊎ (g.count ≤ c.position)
      lasts os c last (inl same) =
          let one : link_commit thread position g.memory head full ≡ c = commit_same (link_commit thread position g.memory head full) c (sym last_here ∙ ap linked.lasts (sym same) ∙ last) in
          inr (subst (λ (x : Commitment). g.count ≤ x.position) one may.may.recent)
      lasts os c last (inr other) = inl (sym (last_other os other) ∙ last)

      each : (os : List (List ℕ)) → IsDir g.tree os → (os ≡ names) ⊎ (os ≢ names) → Stays g linked os ⊎ Acts thread g linked os
      each os dir (inl same) = inr (subst (Acts thread g linked) (sym same) commit_acts)
      each os dir (inr other) = inl (stays os dir other)

      new_dir : (os : List (List ℕ)) → ((os ≢ full) × (node_at g.tree os ≡ Some Directory)) ⊎ ((os ≡ full) × (node ≡ Directory)) → IsDir g.tree os ⊎ IsKept linked os
      new_dir os (inl (other, was)) = inl was
      new_dir os (inr (same, is_dir)) = inr (subst (IsKept linked) (sym same) (made_kept is_dir))

      others : (os : List (List ℕ)) (c : Commitment) → g.lasts os ≡ Some c → IsOpen linked.memory c → (os ≡ names) ⊎ (os ≢ names) → linked.lasts os ≡ Some c
      others os c last opened (inl same) = absurd (can.still c (ap g.lasts (sym same) ∙ last) (opened_was c opened))
      others os c last opened (inr other) = last_other os other ∙ last
