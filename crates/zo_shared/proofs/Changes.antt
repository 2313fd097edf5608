-- Deeds that leave the tree, its pages and the last commits as they are: what stays of the directories in which nothing is done, and
-- what a store leaves alone.
use Rattle.std.proofs.Common.{◌≡◌, ◌≢◌, ◌⊎◌, inl, inr, ℕ, ◌+◌, ◌/◌, ◌≤◌, ◌<◌, List, Bool, Option, Some, None, refl, sym, ap, subst, ◌∙◌, arith, eq-eqb, ne_eqb, ◌==◌}
use Rattle.std.proofs.lemmas.Bool.{cond-true, cond-false, cases_eq}
use Rattle.std.proofs.lemmas.Option.{none-some}
use Rattle.zo_layout.specs.Layout.{page_at, word_of, bucket_head, next_entry_page, pool_head}
use Rattle.zo_model.specs.Tree.{same_names}
use Rattle.zo_model.specs.Directory.{IsPlace}
use Rattle.zo_model.specs.CofferWords.{Use, Nothing, Control, Object, Entries, IsDir}
use Rattle.zo_laws.proofs.MemberLemmas.{same_names_decides, names_unlike}
use Rattle.pm_words.specs.Word.{Word}
use Rattle.zo_units.specs.Memory.{Memory, Store, at, stored_in}
use Rattle.zo_units.specs.MemoryLaws.{Rises, Spares}
use Rattle.zo_units.specs.Units.{IsSound as IsSoundAt}
use Rattle.zo_units.specs.UnitLaws.{MayStore, Side}
use Rattle.zo_units.proofs.Places.{word_stored, rises_after}
use Rattle.zo_units.proofs.Nodes.{told}
use Rattle.zo_units.proofs.Telling.{aside, nothing_object, nothing_entries, control_object, control_entries, object_entries, object_same, entries_same}
use Rattle.zo_units.proofs.Steps.{stores, store_spares}
use Rattle.zo_shared.specs.Shared.{Shared, dir_of, IsDrawn, IsSound}
use Rattle.zo_shared.specs.Deeds.{put_at, put_drawn}
use Rattle.zo_shared.proofs.Frames.{EntryPages, Spared, Stays, Acts, Later, Done, member, spared_by}

-- all but the tree, its pages and its last commits may change
abbrev pub changed : Shared → ℕ → Memory → (ℕ → Use) → (ℕ → Option ℕ) → (List (List ℕ) → List ℕ) → (List (List ℕ) → ℕ) → (List (List ℕ) → Bool) → Shared
changed g now memory use_of drawn frees raises raised = record {
  memory = memory;
  now = now;
  count = g.count + 1;
  coffer = g.coffer;
  tree = g.tree;
  page_of = g.page_of;
  use_of = use_of;
  lasts = g.lasts;
  drawn = drawn;
  frees = frees;
  bases = g.bases;
  raises = raises;
  raised = raised;
}

-- what is put for one directory
pub put_here : {X : Type 0} (f : List (List ℕ) → X) (names : List (List ℕ)) (x : X) → put_at f names x names ≡ x
put_here f names x = cond-true (same_names names names) x (f names) ((same_names_decides names names).1 refl)

pub put_other : {X : Type 0} (f : List (List ℕ) → X) (names : List (List ℕ)) (x : X) (os : List (List ℕ)) → os ≢ names → put_at f names x os ≡ f os
put_other f names x os other = cond-false (same_names os names) x (f os) (names_unlike os names other)

-- a page that its thread has drawn no longer
module _ (drawn : ℕ → Option ℕ) (page thread : ℕ) (is : drawn page ≡ Some thread) where
  pub still_drawn : (p who : ℕ) → put_drawn drawn page None p ≡ Some who → (p ≢ page) × (drawn p ≡ Some who)
  still_drawn p who now = by (cases_eq p page)
    where
      by : (p ≡ page) ⊎ (p ≢ page) → (p ≢ page) × (drawn p ≡ Some who)
      by (inl same) = absurd (none-some who (sym (cond-true (p == page) None (drawn p) (eq-eqb p page same)) ∙ now))
      by (inr other) = (other, sym (cond-false (p == page) None (drawn p) (ne_eqb p page other)) ∙ now)

  pub drawn_others : (p other : ℕ) → other ≢ thread → drawn p ≡ Some other → put_drawn drawn page None p ≡ Some other
  drawn_others p other differs was = by (cases_eq p page)
    where
      one : Some other ≡ Some thread → other ≡ thread
      one e = cc

      by : (p ≡ page) ⊎ (p ≢ page) → put_drawn drawn page None p ≡ Some other
      by (inl same) = absurd (differs (one (sym was ∙ ap drawn same ∙ is)))
      by (inr apart) = cond-false (p == page) None (drawn p) (ne_eqb p page apart) ∙ was

-- what this directory's own pages serve for
abbrev pub Belongs : Use → List (List ℕ) → Type 0
Belongs u names = (u ≡ Object names) ⊎ (u ≡ Entries names)

pub belongs_one : (u : Use) (names os : List (List ℕ)) → Belongs u names → Belongs u os → os ≡ names
belongs_one u names os (inl a) (inl b) = object_same os names (sym b ∙ a)
belongs_one u names os (inl a) (inr b) = absurd (object_entries names os (sym a ∙ b))
belongs_one u names os (inr a) (inl b) = absurd (object_entries os names (sym b ∙ a))
belongs_one u names os (inr a) (inr b) = entries_same os names (sym b ∙ a)

pub belongs_some : (u : Use) (names : List (List ℕ)) → Belongs u names → u ≡ Nothing → ⊥
belongs_some u names (inl a) none = nothing_object names (sym none ∙ a)
belongs_some u names (inr a) none = nothing_entries names (sym none ∙ a)

pub belongs_not_control : (u : Use) (names : List (List ℕ)) → Belongs u names → u ≡ Control → ⊥
belongs_not_control u names (inl a) is = control_object names (sym is ∙ a)
belongs_not_control u names (inr a) is = control_entries names (sym is ∙ a)

module _ (g : Shared) (s : IsSound g) where
  pub use_control : g.use_of g.coffer.control ≡ Control
  use_control = (told (at g.memory) g.coffer g.tree g.page_of g.use_of s.sound.denotes).control

  -- a store leaves alone the words of other pages
  module _ (addr value : ℕ) where
    abbrev pub after_store : Memory
    after_store = stored_in addr value g.memory

    pub store_rises : Rises g.memory after_store
    store_rises = rises_after (Store addr value) g.memory s.sound.tidy

    pub store_sound : MayStore g.memory g.coffer g.tree g.page_of g.use_of g.lasts addr → IsSoundAt after_store g.coffer g.tree g.page_of g.use_of g.lasts
    store_sound may =
        stores.store g.memory g.coffer g.tree g.page_of g.use_of g.lasts addr value s.sound (aside g.memory g.coffer g.tree g.page_of g.use_of g.lasts addr s.sound may)

    pub store_is : at after_store addr ≡ value
    store_is = ap (λ (w : Word). w.present) (word_stored addr value g.memory addr refl)

    pub store_other_page : (a : ℕ) → a / 4096 ≢ addr / 4096 → Spares g.memory after_store a
    store_other_page a other = store_spares addr value g.memory a (λ same. other (omega (arith, same)))

    pub store_apart : (names : List (List ℕ)) → IsDir g.tree names → (Belongs (g.use_of (addr / 4096)) names → ⊥) → Spared g after_store names
    store_apart names dir apart = spared_by g s names dir after_store (λ a inside is. store_other_page a (λ same. apart (move a same is)))
      where
        move : (a : ℕ) → a / 4096 ≡ addr / 4096 → Belongs (g.use_of (a / 4096)) names → Belongs (g.use_of (addr / 4096)) names
        move a same is = subst (λ (p : ℕ). Belongs (g.use_of p) names) same is

    pub store_pools : (g.use_of (addr / 4096) ≡ Control → ⊥) → (pool : ℕ) → pool ≤ 7 → at after_store (pool_head (page_at g.coffer.control) pool) ≡ 0
    store_pools apart pool few =
        (store_other_page (pool_head (page_at g.coffer.control) pool)
        (λ same. apart (ap g.use_of (let there : addr / 4096 ≡ g.coffer.control = omega (arith, same, few) in there) ∙ use_control))).present
        ∙ s.pools pool few

    pub store_drawn : (thread : ℕ) → (g.use_of (addr / 4096) ≡ Nothing → ⊥) ⊎ (g.drawn (addr / 4096) ≡ Some thread) → (a other : ℕ) → other ≢ thread → g.drawn (a / 4096) ≡ Some other → Spares g.memory after_store a
    store_drawn thread apart a other differs is = store_other_page a (by apart)
      where
        by : (g.use_of (addr / 4096) ≡ Nothing → ⊥) ⊎ (g.drawn (addr / 4096) ≡ Some thread) → a / 4096 ≢ addr / 4096
        by (inl some) = λ same. some (ap g.use_of (sym same) ∙ (s.drawn (a / 4096) other is).useless)
        by (inr drawn) = λ same. differs (one (sym is ∙ ap g.drawn same ∙ drawn))
          where
            one : Some other ≡ Some thread → other ≡ thread
            one e = cc

-- what stays of the directories elsewhere, and what is later
module _ (g : Shared) (now : ℕ) (n : Memory) (use_of : ℕ → Use) (drawn : ℕ → Option ℕ) (frees : List (List ℕ) → List ℕ) (raises : List (List ℕ) → ℕ) (raised : List (List ℕ) → Bool) where
  abbrev pub new : Shared
  new = changed g now n use_of drawn frees raises raised

  pub changed_later : g.now ≤ now → Rises g.memory n → Later g new
  changed_later later rises = record {
    now = later;
    count = (let more : g.count ≤ g.count + 1 = omega arith in more);
    rises = rises;
    dirs = λ names dir. dir;
    coffer = λ p inside. inside;
    lasts = λ names c last opened. inl last;
  }

  pub changed_stays : (names : List (List ℕ)) → Spared g n names → ((p : ℕ) → g.use_of p ≡ Entries names → use_of p ≡ Entries names) → ((p : ℕ) → use_of p ≡ Entries names → g.use_of p ≡ Entries names)
      → frees names ≡ g.frees names → raises names ≡ g.raises names → raised names ≡ g.raised names → Stays g new names
  changed_stays names spared more only same_frees same_raises same_raised = record {
    home = refl;
    more = λ p e. record { coffers = e.coffers; entries = more p e.entries };
    only = λ p e. record { coffers = e.coffers; entries = only p e.entries };
    spared = spared;
    frees = same_frees;
    bases = refl;
    raises = same_raises;
    raised = same_raised;
    members = λ name. refl;
    pages = λ name node is. refl;
    last = λ c is. is;
  }

  pub changed_done : (thread : ℕ) → IsSound g → g.now ≤ now → Rises g.memory n → IsSoundAt n g.coffer g.tree g.page_of use_of g.lasts
      → ((names : List (List ℕ)) → IsDir g.tree names → Stays g new names ⊎ Acts thread g new names)
      → ((p who : ℕ) → drawn p ≡ Some who → IsDrawn new p) → ((p : ℕ) (names : List (List ℕ)) → use_of p ≡ Entries names → IsDir g.tree names)
      → ((pool : ℕ) → pool ≤ 7 → at n (pool_head (page_at g.coffer.control) pool) ≡ 0) → ((p other : ℕ) → other ≢ thread → g.drawn p ≡ Some other → drawn p ≡ Some other)
      → ((a other : ℕ) → other ≢ thread → g.drawn (a / 4096) ≡ Some other → Spares g.memory n a) → Done thread g new
  changed_done thread s later rises sound each are_drawn homes pools others_drawn others_words = record {
    later = changed_later later rises;
    each = each;
    sound = sound;
    made = λ names dir. inl dir;
    drawn = are_drawn;
    homes = homes;
    pools = pools;
    others_drawn = others_drawn;
    others_words = others_words;
    others_lasts = λ names c differs last opened. last;
  }

-- where uses and drawn pages stay
pub plain_done : (g : Shared) (thread now : ℕ) (n : Memory) (frees : List (List ℕ) → List ℕ) (raises : List (List ℕ) → ℕ) (raised : List (List ℕ) → Bool)
    → IsSound g → g.now ≤ now → Rises g.memory n → IsSoundAt n g.coffer g.tree g.page_of g.use_of g.lasts
    → ((names : List (List ℕ)) → IsDir g.tree names → Stays g (changed g now n g.use_of g.drawn frees raises raised) names ⊎ Acts thread g (changed g now n g.use_of g.drawn frees raises raised) names)
    → ((pool : ℕ) → pool ≤ 7 → at n (pool_head (page_at g.coffer.control) pool) ≡ 0)
    → ((a other : ℕ) → other ≢ thread → g.drawn (a / 4096) ≡ Some other → Spares g.memory n a) → Done thread g (changed g now n g.use_of g.drawn frees raises raised)
plain_done g thread now n frees raises raised s later rises sound each pools words =
    changed_done g now n g.use_of g.drawn frees raises raised thread s later rises sound each
    (λ p who is. let d = s.drawn p who is in record { inside = d.inside; useless = d.useless; not_control = d.not_control })
    s.homes pools (λ p other differs is. is) words

-- where nothing is done in a directory
pub quiet_done : (g : Shared) (thread now : ℕ) (n : Memory) → IsSound g → g.now ≤ now → Rises g.memory n → IsSoundAt n g.coffer g.tree g.page_of g.use_of g.lasts
    → ((names : List (List ℕ)) → IsDir g.tree names → Spared g n names) → ((pool : ℕ) → pool ≤ 7 → at n (pool_head (page_at g.coffer.control) pool) ≡ 0)
    → ((a other : ℕ) → other ≢ thread → g.drawn (a / 4096) ≡ Some other → Spares g.memory n a) → Done thread g (changed g now n g.use_of g.drawn g.frees g.raises g.raised)
quiet_done g thread now n s later rises sound spared pools words =
    plain_done g thread now n g.frees g.raises g.raised s later rises sound
    (λ names dir. inl (changed_stays g now n g.use_of g.drawn g.frees g.raises g.raised names (spared names dir) (λ p is. is) (λ p is. is) refl refl refl)) pools words

-- A store beside a directory's names.
module _ (g : Shared) (s : IsSound g) (names : List (List ℕ)) (dir : IsDir g.tree names) (i : ℕ) (some : 1 ≤ i) (few : i ≤ 5) (value : ℕ) where
  abbrev pub side : ℕ
  side = word_of (dir_of g names) i

  abbrev pub after_side : Memory
  after_side = stored_in side value g.memory

  side_page : side / 4096 ≡ g.page_of names
  side_page = omega (arith, few)

  pub side_belongs : Belongs (g.use_of (side / 4096)) names
  side_belongs = inl (ap g.use_of side_page ∙ (member g s names dir).object)

  pub side_sound : IsSoundAt after_side g.coffer g.tree g.page_of g.use_of g.lasts
  side_sound = store_sound g s side value (Side names i (inl dir) some few refl)

  pub side_elsewhere : (os : List (List ℕ)) → IsDir g.tree os → os ≢ names → Spared g after_side os
  side_elsewhere os is other = store_apart g s side value os is (λ belongs. other (belongs_one (g.use_of (side / 4096)) names os side_belongs belongs))

  pub side_pools : (pool : ℕ) → pool ≤ 7 → at after_side (pool_head (page_at g.coffer.control) pool) ≡ 0
  side_pools = store_pools g s side value (belongs_not_control (g.use_of (side / 4096)) names side_belongs)

  pub side_drawn : (thread a other : ℕ) → other ≢ thread → g.drawn (a / 4096) ≡ Some other → Spares g.memory after_side a
  side_drawn thread = store_drawn g s side value thread (inl (belongs_some (g.use_of (side / 4096)) names side_belongs))

  pub side_is : at after_side side ≡ value
  side_is = store_is g s side value

  -- its other words
  pub side_sides : (j : ℕ) → 1 ≤ j → j ≤ 5 → j ≢ i → Spares g.memory after_side (word_of (dir_of g names) j)
  side_sides j one five other = store_spares side value g.memory (word_of (dir_of g names) j) (λ same. omega (arith, same, other))

  pub side_heads : (b : ℕ) → b < 256 → Spares g.memory after_side (bucket_head (dir_of g names) b)
  side_heads b low = store_spares side value g.memory (bucket_head (dir_of g names) b) (λ same. omega (arith, same, few))

  entries_apart : (a p : ℕ) → EntryPages g names p → a / 4096 ≡ p → Spares g.memory after_side a
  entries_apart a p e there =
      store_other_page g s side value a (λ same. object_entries names names (sym (member g s names dir).object ∙ ap g.use_of (sym side_page ∙ sym same ∙ there) ∙ e.entries))

  pub side_places : (entry j : ℕ) → IsPlace (EntryPages g names) entry → j < 40 → Spares g.memory after_side (word_of entry j)
  side_places entry j place low = entries_apart (word_of entry j) place.page place.entries (let is = place.is in let twelve = place.twelve in omega (arith, is, twelve, low))

  pub side_links : (p : ℕ) → EntryPages g names p → Spares g.memory after_side (next_entry_page (page_at p))
  side_links p e = entries_apart (next_entry_page (page_at p)) p e (omega arith)
