-- What stays of a directory; and what a deed leaves of a coffer, from which follow that all is sound and what others may rely on.
use Rattle.std.proofs.Common.{◌≡◌, ◌≢◌, ◌⊎◌, inl, inr, ℕ, ◌+◌, ◌%◌, ◌^◌, ◌/◌, ◌<◌, ◌≤◌, List, [], ◌∷◌, ◌++◌, Contains, Some, sym, ap, ap₂, subst, ◌∙◌, arith, le_trans, le_of_eq}
use Rattle.zo_layout.specs.Layout.{page_at, word_of, bucket_head, first_entry_page, first_free_entry, next_entry, next_entry_page, pool_head}
use Rattle.zo_lease.specs.Words.{holder_of, expiry_of}
use Rattle.zo_model.specs.Tree.{Node, Directory, node_at}
use Rattle.zo_model.specs.Directory.{IsPlace, IsReached, Shows, Leads, HasFree}
use Rattle.zo_model.specs.CofferWords.{Object, Entries, IsEntryPage, IsMember, IsDir, wanted}
use Rattle.zo_laws.specs.Laws.{KeepsNames}
use Rattle.zo_laws.proofs.Members.{contains_here, contains_there}
use Rattle.zo_laws.proofs.Chains.{leads_stay}
use Rattle.zo_laws.proofs.Directories.{reached_before}
use Rattle.zo_laws.proofs.PageLemmas.{place_more}
use Rattle.zo_units.specs.Memory.{Memory, at}
use Rattle.zo_units.specs.MemoryLaws.{Rises, Spares}
use Rattle.zo_units.specs.Units.{Commitment, IsOpen, IsSound as IsSoundAt}
use Rattle.zo_units.proofs.Telling.{reached_place}
use Rattle.zo_shared.specs.Shared.{Shared, dir_of, lease_of, IsLive, LeadsPages, HasPages, IsKept, IsDrawn, IsSound}
use Rattle.zo_shared.specs.Rely.{Same, Keeps, Danger, Calm, Beside, Rely}

abbrev pub EntryPages : Shared → List (List ℕ) → ℕ → Type 0
EntryPages g names = IsEntryPage g.coffer g.use_of names

-- The words of a directory are spared: those beside its names, its buckets, the places of its entries, and what leads from one
-- entry page to the next.
pub record Spared (g : Shared) (n : Memory) (names : List (List ℕ)) : Type 0 where
  pub sides : (i : ℕ) → 1 ≤ i → i ≤ 5 → Spares g.memory n (word_of (dir_of g names) i)
  pub heads : (bucket : ℕ) → bucket < 256 → Spares g.memory n (bucket_head (dir_of g names) bucket)
  pub places : (entry i : ℕ) → IsPlace (EntryPages g names) entry → i < 40 → Spares g.memory n (word_of entry i)
  pub links : (p : ℕ) → EntryPages g names p → Spares g.memory n (next_entry_page (page_at p))

module _ (g : Shared) (s : IsSound g) (names : List (List ℕ)) (dir : IsDir g.tree names) where
  pub member : IsMember (at g.memory) g.coffer g.tree g.use_of g.page_of names Directory
  member = (s.sound.members names Directory (inl dir)).member

  pub shown : Shows (at g.memory) (EntryPages g names) (dir_of g names) (wanted g.page_of g.coffer g.tree names)
  shown = member.shown.1

  pub place_of : (entry : ℕ) → IsReached (at g.memory) (dir_of g names) entry → IsPlace (EntryPages g names) entry
  place_of entry reached = reached_place (at g.memory) (EntryPages g names) (dir_of g names) (wanted g.page_of g.coffer g.tree names) entry shown reached

  -- they are, where the words of its pages are
  pub spared_by : (n : Memory) → ((a : ℕ) → Contains g.coffer.pages (a / 4096) → (g.use_of (a / 4096) ≡ Object names) ⊎ (g.use_of (a / 4096) ≡ Entries names) → Spares g.memory n a)
      → Spared g n names
  spared_by n all = record {
    sides = λ i some few. at_dir (word_of (dir_of g names) i) (omega (arith, some, few));
    heads = λ b low. at_dir (bucket_head (dir_of g names) b) (omega (arith, low));
    places = λ entry i place few. at_entries (word_of entry i) place.page place.entries (let is = place.is in let twelve = place.twelve in omega (arith, is, twelve, few));
    links = λ p e. at_entries (next_entry_page (page_at p)) p e (omega arith);
  }
    where
      at_dir : (a : ℕ) → a / 4096 ≡ g.page_of names → Spares g.memory n a
      at_dir a e = all a (subst (Contains g.coffer.pages) (sym e) member.coffers) (inl (ap g.use_of e ∙ member.object))

      at_entries : (a p : ℕ) → EntryPages g names p → a / 4096 ≡ p → Spares g.memory n a
      at_entries a p e there = all a (subst (Contains g.coffer.pages) (sym there) e.coffers) (inr (ap g.use_of there ∙ e.entries))

  -- what of its chains stays
  pub keeps_names : (n : Memory) → ((b : ℕ) → b < 256 → Spares g.memory n (bucket_head (dir_of g names) b))
      → ((entry i : ℕ) → IsReached (at g.memory) (dir_of g names) entry → i < 40 → Spares g.memory n (word_of entry i)) → KeepsNames (at g.memory) (at n) (dir_of g names)
  keeps_names n heads entries = record { heads = λ b low. (heads b low).present; entries = λ entry i reached few. (entries entry i reached few).present }

  pub reached_was : (n : Memory) → KeepsNames (at g.memory) (at n) (dir_of g names) → (entry : ℕ) → IsReached (at n) (dir_of g names) entry → IsReached (at g.memory) (dir_of g names) entry
  reached_was n keeps entry reached =
      reached_before (EntryPages g names) (at g.memory) (at n) (dir_of g names) (wanted g.page_of g.coffer g.tree names) shown keeps entry reached

-- free entries and entry pages stay with the words that lead to them
pub free_from : (P Q : ℕ → Type 0) (before after : ℕ → ℕ) (dir : ℕ) (frees : List ℕ) → after (first_free_entry dir) ≡ before (first_free_entry dir)
    → ((entry : ℕ) → Contains frees entry → after (next_entry entry) ≡ before (next_entry entry)) → ((p : ℕ) → P p → Q p)
    → ((entry : ℕ) → Contains frees entry → IsReached after dir entry → IsReached before dir entry) → HasFree before P dir frees → HasFree after Q dir frees
free_from P Q before after dir frees first links more reached h = record {
  leads = subst (λ (w : ℕ). Leads after w frees) (sym first) (leads_stay before after (before (first_free_entry dir)) frees h.leads links);
  each = λ entry c.
      let f = h.each entry c in
      record { place = place_more P Q entry more f.place; unreached = λ r. f.unreached (reached entry c r) };
}

pub leads_pages_stay : (before after : ℕ → ℕ) (word : ℕ) (pages : List ℕ) → LeadsPages before word pages
    → ((p : ℕ) → Contains pages p → after (next_entry_page (page_at p)) ≡ before (next_entry_page (page_at p))) → LeadsPages after word pages
leads_pages_stay before after word [] h same = h
leads_pages_stay before after word (p ∷ pages) h same = (
  h.0,
  subst (λ (w : ℕ). LeadsPages after w pages) (sym (same p (contains_here p pages)))
      (leads_pages_stay before after (before (next_entry_page (page_at p))) pages h.1 (λ q c. same q (contains_there p pages q c))),
)

pub pages_from : (g new : Shared) (names : List (List ℕ)) → new.page_of names ≡ g.page_of names → at new.memory (first_entry_page (dir_of g names)) ≡ at g.memory (first_entry_page (dir_of g names))
    → ((p : ℕ) → EntryPages g names p → at new.memory (next_entry_page (page_at p)) ≡ at g.memory (next_entry_page (page_at p)))
    → ((p : ℕ) → EntryPages g names p → EntryPages new names p) → ((p : ℕ) → EntryPages new names p → EntryPages g names p) → HasPages g names → HasPages new names
pages_from g new names home first links more only h = record {
  pages = h.pages;
  leads = subst (λ (p : ℕ). LeadsPages (at new.memory) (at new.memory (first_entry_page (page_at p))) h.pages) (sym home)
      (subst (λ (w : ℕ). LeadsPages (at new.memory) w h.pages) (sym first)
      (leads_pages_stay (at g.memory) (at new.memory) (at g.memory (first_entry_page (dir_of g names))) h.pages h.leads (λ p c. links p (h.each p c))));
  once = h.once;
  each = λ p c. more p (h.each p c);
  all = λ p e. h.all p (only p e);
}

-- a directory in which nothing is done
pub record Stays (g new : Shared) (names : List (List ℕ)) : Type 0 where
  pub home : new.page_of names ≡ g.page_of names
  pub more : (p : ℕ) → EntryPages g names p → EntryPages new names p
  pub only : (p : ℕ) → EntryPages new names p → EntryPages g names p
  pub spared : Spared g new.memory names
  pub frees : new.frees names ≡ g.frees names
  pub bases : new.bases names ≡ g.bases names
  pub raises : new.raises names ≡ g.raises names
  pub raised : new.raised names ≡ g.raised names
  pub members : (name : List ℕ) → node_at new.tree (names ++ name ∷ []) ≡ node_at g.tree (names ++ name ∷ [])
  pub pages : (name : List ℕ) (node : Node) → node_at g.tree (names ++ name ∷ []) ≡ Some node → new.page_of (names ++ name ∷ []) ≡ g.page_of (names ++ name ∷ [])
  pub last : (c : Commitment) → new.lasts names ≡ Some c → g.lasts names ≡ Some c

-- a directory in which this thread does its deed
pub record Acts (thread : ℕ) (g new : Shared) (names : List (List ℕ)) : Type 0 where
  pub home : new.page_of names ≡ g.page_of names
  pub bases : new.bases names ≡ g.bases names
  pub raises : g.raises names ≤ new.raises names
  pub kept : IsKept new names
  pub danger : new.raises names ≡ g.raises names → Danger new names → Danger g names × (lease_of new names ≡ lease_of g names)
  pub same : new.raises names ≡ g.raises names → Calm g names → Same g new names
  -- nobody else holds it then
  pub alone : (other : ℕ) → other ≢ thread → holder_of (lease_of g names) ≡ Some other → new.now ≤ expiry_of (lease_of g names) → ⊥

-- time goes on, places rise, and nothing is taken away
pub record Later (g new : Shared) : Type 0 where
  pub now : g.now ≤ new.now
  pub count : g.count ≤ new.count
  pub rises : Rises g.memory new.memory
  pub dirs : (names : List (List ℕ)) → IsDir g.tree names → IsDir new.tree names
  pub coffer : (p : ℕ) → Contains g.coffer.pages p → Contains new.coffer.pages p
  pub lasts : (names : List (List ℕ)) (c : Commitment) → new.lasts names ≡ Some c → IsOpen new.memory c → (g.lasts names ≡ Some c) ⊎ (g.count ≤ c.position)

-- what a deed of this thread leaves
pub record Done (thread : ℕ) (g new : Shared) : Type 0 where
  pub later : Later g new
  pub each : (names : List (List ℕ)) → IsDir g.tree names → Stays g new names ⊎ Acts thread g new names
  pub sound : IsSoundAt new.memory new.coffer new.tree new.page_of new.use_of new.lasts
  pub made : (names : List (List ℕ)) → IsDir new.tree names → IsDir g.tree names ⊎ IsKept new names
  pub drawn : (p who : ℕ) → new.drawn p ≡ Some who → IsDrawn new p
  pub homes : (p : ℕ) (names : List (List ℕ)) → new.use_of p ≡ Entries names → IsDir new.tree names
  pub pools : (pool : ℕ) → pool ≤ 7 → at new.memory (pool_head (page_at new.coffer.control) pool) ≡ 0
  pub others_drawn : (p other : ℕ) → other ≢ thread → g.drawn p ≡ Some other → new.drawn p ≡ Some other
  pub others_words : (a other : ℕ) → other ≢ thread → g.drawn (a / 4096) ≡ Some other → Spares g.memory new.memory a
  pub others_lasts : (names : List (List ℕ)) (c : Commitment) → c.thread ≢ thread → g.lasts names ≡ Some c → IsOpen new.memory c → new.lasts names ≡ Some c

module _ (g new : Shared) (s : IsSound g) (later : Later g new) (names : List (List ℕ)) (dir : IsDir g.tree names) (st : Stays g new names) where
  opened_was : (c : Commitment) → IsOpen new.memory c → IsOpen g.memory c
  opened_was c opened = let up = later.rises.floors c.addr in omega (arith, up, opened)

  side_is : (i : ℕ) → 1 ≤ i → i ≤ 5 → at new.memory (word_of (dir_of new names) i) ≡ at g.memory (word_of (dir_of g names) i)
  side_is i some few = ap (λ (p : ℕ). at new.memory (word_of (page_at p) i)) st.home ∙ (st.spared.sides i some few).present

  reached_spared : (entry i : ℕ) → IsReached (at g.memory) (dir_of g names) entry → i < 40 → Spares g.memory new.memory (word_of entry i)
  reached_spared entry i reached few = st.spared.places entry i (place_of g s names dir entry reached) few

  keeps : KeepsNames (at g.memory) (at new.memory) (dir_of g names)
  keeps = keeps_names g s names dir new.memory st.spared.heads reached_spared

  k : IsKept g names
  k = s.kept names dir

  next_is : (entry : ℕ) → Contains (g.frees names) entry → at new.memory (next_entry entry) ≡ at g.memory (next_entry entry)
  next_is entry c =
      let first : word_of entry 0 ≡ next_entry entry = omega arith in
      subst (λ (a : ℕ). at new.memory a ≡ at g.memory a) first (st.spared.places entry 0 (k.entries.each entry c).place (omega arith)).present

  frees_now : HasFree (at new.memory) (EntryPages new names) (dir_of new names) (new.frees names)
  frees_now =
      subst (λ (fs : List ℕ). HasFree (at new.memory) (EntryPages new names) (dir_of new names) fs) (sym st.frees)
      (subst (λ (p : ℕ). HasFree (at new.memory) (EntryPages new names) (page_at p) (g.frees names)) (sym st.home)
      (free_from (EntryPages g names) (EntryPages new names) (at g.memory) (at new.memory) (dir_of g names) (g.frees names)
      (st.spared.sides 5 (omega arith) (omega arith)).present next_is st.more
      (λ entry c reached. reached_was g s names dir new.memory keeps entry reached) k.entries))

  pub stays_kept : IsKept new names
  stays_kept = record {
    free = λ none c last opened. k.free (sym (side_is 1 (omega arith) (omega arith)) ∙ none) c (st.last c last) (opened_was c opened);
    noted = λ c last opened. side_is 2 (omega arith) (omega arith) ∙ k.noted c (st.last c last) (opened_was c opened);
    counted = side_is 3 (omega arith) (omega arith) ∙ k.counted ∙ ap₂ (λ (b r : ℕ). (b + r) % 2 ^ 64) (sym st.bases) (sym st.raises);
    few = (let few = k.few in let up = later.count in let same = st.raises in omega (arith, few, up, same));
    entries = frees_now;
    pages = pages_from g new names st.home (st.spared.sides 4 (omega arith) (omega arith)).present (λ p e. (st.spared.links p e).present) st.more st.only k.pages;
  }

  pub stays_same : Same g new names
  stays_same = record {
    heads = st.spared.heads;
    entries = reached_spared;
    noted = side_is 2 (omega arith) (omega arith);
    members = st.members;
    pages = st.pages;
    last = st.last;
  }

  pub stays_keeps : Keeps g new names
  stays_keeps = record {
    same = stays_same;
    lease = side_is 1 (omega arith) (omega arith);
    counter = side_is 3 (omega arith) (omega arith);
    raised = st.raised;
    frees = st.frees;
    sides = (st.spared.sides 4 (omega arith) (omega arith), st.spared.sides 5 (omega arith) (omega arith));
    entry_pages = st.more;
    places = st.spared.places;
  }

  pub stays_danger : Danger new names → Danger g names × (lease_of new names ≡ lease_of g names)
  stays_danger d = (record { live = live; raised = sym st.raised ∙ d.raised }, lease)
    where
      lease : lease_of new names ≡ lease_of g names
      lease = side_is 1 (omega arith) (omega arith)

      live : IsLive g (lease_of g names)
      live = record {
        some = λ none. d.live.some (lease ∙ none);
        fresh = (let up = later.now in let fresh = subst (λ (w : ℕ). new.now ≤ expiry_of w) lease d.live.fresh in le_trans up fresh);
      }

module _ (thread : ℕ) (g new : Shared) (s : IsSound g) (d : Done thread g new) where
  pub done_sound : IsSound new
  done_sound = record {
    sound = d.sound;
    kept = λ names dir. kept names (d.made names dir);
    drawn = d.drawn;
    homes = d.homes;
    pools = d.pools;
  }
    where
      old : (names : List (List ℕ)) → IsDir g.tree names → Stays g new names ⊎ Acts thread g new names → IsKept new names
      old names dir (inl st) = stays_kept g new s d.later names dir st
      old names dir (inr acts) = acts.kept

      kept : (names : List (List ℕ)) → IsDir g.tree names ⊎ IsKept new names → IsKept new names
      kept names (inl dir) = old names dir (d.each names dir)
      kept names (inr is) = is

  pub done_beside : Beside g new
  done_beside = record {
    now = d.later.now;
    count = d.later.count;
    rises = d.later.rises;
    dirs = d.later.dirs;
    pages = λ names dir. home names (d.each names dir);
    coffer = d.later.coffer;
    bases = λ names dir. base names (d.each names dir);
    raises = λ names dir. raise names (d.each names dir);
    lasts = d.later.lasts;
    danger = λ names dir stood danger. still names dir stood danger (d.each names dir);
    same = λ names dir stood calm. same names dir stood calm (d.each names dir);
  }
    where
      home : (names : List (List ℕ)) → Stays g new names ⊎ Acts thread g new names → new.page_of names ≡ g.page_of names
      home names (inl st) = st.home
      home names (inr acts) = acts.home

      base : (names : List (List ℕ)) → Stays g new names ⊎ Acts thread g new names → new.bases names ≡ g.bases names
      base names (inl st) = st.bases
      base names (inr acts) = acts.bases

      raise : (names : List (List ℕ)) → Stays g new names ⊎ Acts thread g new names → g.raises names ≤ new.raises names
      raise names (inl st) = le_of_eq (sym st.raises)
      raise names (inr acts) = acts.raises

      still : (names : List (List ℕ)) → IsDir g.tree names → new.raises names ≡ g.raises names → Danger new names → Stays g new names ⊎ Acts thread g new names
          → Danger g names × (lease_of new names ≡ lease_of g names)
      still names dir stood danger (inl st) = stays_danger g new s d.later names dir st danger
      still names dir stood danger (inr acts) = acts.danger stood danger

      same : (names : List (List ℕ)) → IsDir g.tree names → new.raises names ≡ g.raises names → Calm g names → Stays g new names ⊎ Acts thread g new names → Same g new names
      same names dir stood calm (inl st) = stays_same g new s d.later names dir st
      same names dir stood calm (inr acts) = acts.same stood calm

  pub done_rely : (other : ℕ) → other ≢ thread → Rely other g new
  done_rely other differs = record {
    beside = done_beside;
    back = λ names dir holds fresh. back names dir holds fresh (d.each names dir);
    drawn = λ p is. d.others_drawn p other differs is;
    words = λ a is. d.others_words a other differs is;
    own = λ names c last is opened. d.others_lasts names c (λ same. differs (sym is ∙ same)) last opened;
  }
    where
      back : (names : List (List ℕ)) → IsDir g.tree names → holder_of (lease_of g names) ≡ Some other → new.now ≤ expiry_of (lease_of g names)
          → Stays g new names ⊎ Acts thread g new names → Keeps g new names
      back names dir holds fresh (inl st) = stays_keeps g new s d.later names dir st
      back names dir holds fresh (inr acts) = absurd (acts.alone other differs holds fresh)
