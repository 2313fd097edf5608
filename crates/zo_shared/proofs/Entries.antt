-- Free entries and entry pages of a directory.
use Rattle.std.proofs.Common.{◌≡◌, ◌≢◌, ◌⊎◌, inl, inr, ℕ, ◌+◌, ◌/◌, ◌≤◌, ◌<◌, List, ◌∷◌, Contains, refl, sym, ap, subst, ◌∙◌, arith, le_refl}
use Rattle.zo_layout.specs.Layout.{page_at, word_of, bucket_head, next_entry, next_entry_page}
use Rattle.zo_laws.specs.Laws.{KeepsNames}
use Rattle.zo_laws.proofs.Members.{contains_there}
use Rattle.zo_laws.proofs.Chains.{leads_stay}
use Rattle.zo_laws.proofs.MemberLemmas.{cases_names}
use Rattle.zo_model.specs.Directory.{IsPlace, IsReached, Leads, HasFree}
use Rattle.zo_model.specs.CofferWords.{IsDir}
use Rattle.zo_units.specs.Memory.{at}
use Rattle.zo_units.specs.MemoryLaws.{Spares}
use Rattle.zo_units.specs.Units.{Commitment, IsOpen}
use Rattle.zo_units.specs.UnitLaws.{FreeEntry}
use Rattle.zo_units.proofs.Telling.{object_entries}
use Rattle.zo_units.proofs.Steps.{store_spares}
use Rattle.zo_shared.specs.Shared.{Shared, dir_of, IsKept, IsSound}
use Rattle.zo_shared.specs.Deeds.{Unchain, AddFree, Prepare, Holds, IsLoose, MayDo, does, put_at, rest_of}
use Rattle.zo_shared.proofs.Frames.{EntryPages, Stays, Acts, Done, member, place_of, keeps_names, reached_was, free_from, pages_from}
use Rattle.zo_shared.proofs.Changes.{Belongs, belongs_one, belongs_some, belongs_not_control, put_here, put_other, changed_stays, plain_done, after_store, store_rises, store_sound, store_other_page, store_apart, store_pools, store_drawn, after_side, side_is, side_places}
use Rattle.zo_shared.proofs.Sides.{holds_alone, danger_was, here_lease, here_free, here_noted, here_counted, here_few, here_reached, here_pages, here_same, side_done}

module _ (g : Shared) (thread now : ℕ) (names : List (List ℕ)) (s : IsSound g) where
  -- the first free entry becomes another one, and the free entries with it
  module _ (h : Holds g thread now names) (later : g.now ≤ now) (first : ℕ) (chain : List ℕ) where
    abbrev frees_now : List (List ℕ) → List ℕ
    frees_now = put_at g.frees names chain

    abbrev chained : Shared
    chained = record {
      memory = after_side g s names h.dir 5 (omega arith) (omega arith) first;
      now = now;
      count = g.count + 1;
      coffer = g.coffer;
      tree = g.tree;
      page_of = g.page_of;
      use_of = g.use_of;
      lasts = g.lasts;
      drawn = g.drawn;
      frees = frees_now;
      bases = g.bases;
      raises = g.raises;
      raised = g.raised;
    }

    chain_acts : HasFree (at chained.memory) (EntryPages g names) (dir_of g names) chain → Acts thread g chained names
    chain_acts has = record {
      home = refl;
      bases = refl;
      raises = le_refl (g.raises names);
      kept = record {
        free = here_free g s names h.dir 5 (omega arith) (omega arith) first now g.use_of g.drawn frees_now g.raises g.raised (λ e. omega (arith, e));
        noted = here_noted g s names h.dir 5 (omega arith) (omega arith) first now g.use_of g.drawn frees_now g.raises g.raised (λ e. omega (arith, e));
        counted = here_counted g s names h.dir 5 (omega arith) (omega arith) first now g.use_of g.drawn frees_now g.raises g.raised (λ e. omega (arith, e));
        few = here_few g s names h.dir 5 (omega arith) (omega arith) first now g.use_of g.drawn frees_now g.raises g.raised;
        entries = subst (λ (fs : List ℕ). HasFree (at chained.memory) (EntryPages g names) (dir_of g names) fs) (sym (put_here g.frees names chain)) has;
        pages = here_pages g s names h.dir 5 (omega arith) (omega arith) first now g.use_of g.drawn frees_now g.raises g.raised (λ e. omega (arith, e)) (λ p e. e) (λ p e. e);
      };
      danger = λ stood d.
          danger_was g chained names later refl (here_lease g s names h.dir 5 (omega arith) (omega arith) first now g.use_of g.drawn frees_now g.raises g.raised (λ e. omega (arith, e))) d;
      same = λ stood calm. here_same g s names h.dir 5 (omega arith) (omega arith) first now g.use_of g.drawn frees_now g.raises g.raised (λ e. omega (arith, e));
      alone = λ other differs held fresh. holds_alone g thread now names h other differs held;
    }

    chain_done : HasFree (at chained.memory) (EntryPages g names) (dir_of g names) chain → Done thread g chained
    chain_done has =
        side_done g s names h.dir 5 (omega arith) (omega arith) first thread now frees_now g.raises g.raised later (λ os other. put_other g.frees names chain os other) (λ os other. refl)
        (λ os other. refl) (chain_acts has)

    chain_reached : (entry : ℕ) → IsReached (at chained.memory) (dir_of g names) entry → IsReached (at g.memory) (dir_of g names) entry
    chain_reached = here_reached g s names h.dir 5 (omega arith) (omega arith) first now g.use_of g.drawn frees_now g.raises g.raised

    -- a chain of places of the directory leads on as before
    chain_leads : (word : ℕ) (entries : List ℕ) → Leads (at g.memory) word entries → ((entry : ℕ) → Contains entries entry → IsPlace (EntryPages g names) entry) → Leads (at chained.memory) word entries
    chain_leads word entries leads places =
        leads_stay (at g.memory) (at chained.memory) word entries leads (λ entry c.
        let first_word : word_of entry 0 ≡ next_entry entry = omega arith in
        subst (λ (a : ℕ). at chained.memory a ≡ at g.memory a) first_word
        (side_places g s names h.dir 5 (omega arith) (omega arith) first entry 0 (places entry c) (omega arith)).present)

  pub unchain_done : (entry : ℕ) → MayDo thread now (Unchain names entry) g → Done thread g (does thread now (Unchain names entry) g)
  unchain_done entry may = subst (λ (fs : List ℕ). Done thread g (chained may.may.0 may.later first fs)) rest (chain_done may.may.0 may.later first frees has)
    where
      first : ℕ
      first = at g.memory (next_entry entry)

      frees : List ℕ
      frees = may.may.1.0

      was : HasFree (at g.memory) (EntryPages g names) (dir_of g names) (entry ∷ frees)
      was = subst (λ (fs : List ℕ). HasFree (at g.memory) (EntryPages g names) (dir_of g names) fs) may.may.1.1 (s.kept names may.may.0.dir).entries

      rest : frees ≡ rest_of (g.frees names)
      rest = sym (ap rest_of may.may.1.1)

      has : HasFree (at (chained may.may.0 may.later first frees).memory) (EntryPages g names) (dir_of g names) frees
      has = record {
        leads = subst (λ (w : ℕ). Leads (at (chained may.may.0 may.later first frees).memory) w frees) (sym (side_is g s names may.may.0.dir 5 (omega arith) (omega arith) first))
            (chain_leads may.may.0 may.later first frees first frees was.leads.2 (λ e c. (was.each e (contains_there entry frees e c)).place));
        each = λ e c.
            let f = was.each e (contains_there entry frees e c) in
            record { place = f.place; unreached = λ r. f.unreached (chain_reached may.may.0 may.later first frees e r) };
      }

  pub add_free_done : (frees : List ℕ) (first : ℕ) → MayDo thread now (AddFree names frees first) g → Done thread g (does thread now (AddFree names frees first) g)
  add_free_done frees first may =
      chain_done may.may.0 may.later first frees (record {
        leads = subst (λ (w : ℕ). Leads (at (chained may.may.0 may.later first frees).memory) w frees) (sym (side_is g s names may.may.0.dir 5 (omega arith) (omega arith) first))
            (chain_leads may.may.0 may.later first frees first frees may.may.1.leads (λ e c. (may.may.1.each e c).place));
        each = λ e c.
            let loose = may.may.1.each e c in
            record { place = loose.place; unreached = λ r. loose.unreached (chain_reached may.may.0 may.later first frees e r) };
      })

  -- a word of an entry that no chain reaches
  module _ (entry i word : ℕ) (may : MayDo thread now (Prepare names entry i word) g) where
    h : Holds g thread now names
    h = may.may.0

    loose : IsLoose g names entry
    loose = may.may.1

    few : i < 40
    few = may.may.2

    abbrev addr : ℕ
    addr = word_of entry i

    page : addr / 4096 ≡ loose.place.page
    page = let is = loose.place.is in let twelve = loose.place.twelve in omega (arith, is, twelve, few)

    belongs : Belongs (g.use_of (addr / 4096)) names
    belongs = inr (ap g.use_of page ∙ loose.place.entries.entries)

    abbrev prepared : Shared
    prepared = does thread now (Prepare names entry i word) g

    k : IsKept g names
    k = s.kept names h.dir

    in_dir : (a : ℕ) → a / 4096 ≡ g.page_of names → Spares g.memory prepared.memory a
    in_dir a there =
        store_other_page g s addr word a (λ same. object_entries names names (sym (member g s names h.dir).object ∙ ap g.use_of (sym there ∙ same ∙ page) ∙ loose.place.entries.entries))

    in_entry : (e j : ℕ) → IsPlace (EntryPages g names) e → j < 40 → e ≢ entry → Spares g.memory prepared.memory (word_of e j)
    in_entry e j place low other =
        store_spares addr word g.memory (word_of e j) (λ same. other (let one = loose.place.is in let two = place.is in let twelve = loose.place.twelve in let twelve_too = place.twelve in omega (arith, same, one, two, twelve, twelve_too, few, low)))

    in_front : (p : ℕ) → Spares g.memory prepared.memory (next_entry_page (page_at p))
    in_front p =
        store_spares addr word g.memory (next_entry_page (page_at p)) (λ same. let one = loose.place.is in let twelve = loose.place.twelve in omega (arith, same, one, twelve, few))

    reached_spared : (e j : ℕ) → IsReached (at g.memory) (dir_of g names) e → j < 40 → Spares g.memory prepared.memory (word_of e j)
    reached_spared e j reached low =
        in_entry e j (place_of g s names h.dir e reached) low (λ same. loose.unreached (subst (λ (x : ℕ). IsReached (at g.memory) (dir_of g names) x) same reached))

    prepared_heads : (b : ℕ) → b < 256 → Spares g.memory prepared.memory (bucket_head (dir_of g names) b)
    prepared_heads b low = in_dir (bucket_head (dir_of g names) b) (omega (arith, low))

    side_spared : (j : ℕ) → 1 ≤ j → j ≤ 5 → Spares g.memory prepared.memory (word_of (dir_of g names) j)
    side_spared j one five = in_dir (word_of (dir_of g names) j) (omega (arith, five))

    prepared_keeps : KeepsNames (at g.memory) (at prepared.memory) (dir_of g names)
    prepared_keeps = keeps_names g s names h.dir prepared.memory prepared_heads reached_spared

    opened_was : (c : Commitment) → IsOpen prepared.memory c → IsOpen g.memory c
    opened_was c opened = let up = (store_rises g s addr word).floors c.addr in omega (arith, up, opened)

    prepared_next : (e : ℕ) → Contains (g.frees names) e → at prepared.memory (next_entry e) ≡ at g.memory (next_entry e)
    prepared_next e c =
        let first : word_of e 0 ≡ next_entry e = omega arith in
        subst (λ (a : ℕ). at prepared.memory a ≡ at g.memory a) first
        (in_entry e 0 (k.entries.each e c).place (omega arith) (λ same. loose.unfree (subst (Contains (g.frees names)) same c))).present

    prepare_acts : Acts thread g prepared names
    prepare_acts = record {
      home = refl;
      bases = refl;
      raises = le_refl (g.raises names);
      kept = record {
        free = λ none c last opened. k.free (sym (side_spared 1 (omega arith) (omega arith)).present ∙ none) c last (opened_was c opened);
        noted = λ c last opened. (side_spared 2 (omega arith) (omega arith)).present ∙ k.noted c last (opened_was c opened);
        counted = (side_spared 3 (omega arith) (omega arith)).present ∙ k.counted;
        few = (let low = k.few in omega (arith, low));
        entries =
            free_from (EntryPages g names) (EntryPages prepared names) (at g.memory) (at prepared.memory) (dir_of g names) (g.frees names) (side_spared 5 (omega arith) (omega arith)).present prepared_next (λ p e. e)
            (λ e c reached. reached_was g s names h.dir prepared.memory prepared_keeps e reached) k.entries;
        pages = pages_from g prepared names refl (side_spared 4 (omega arith) (omega arith)).present (λ p e. (in_front p).present) (λ p e. e) (λ p e. e) k.pages;
      };
      danger = λ stood d. danger_was g prepared names may.later refl (side_spared 1 (omega arith) (omega arith)).present d;
      same = λ stood calm. record {
        heads = prepared_heads;
        entries = reached_spared;
        noted = (side_spared 2 (omega arith) (omega arith)).present;
        members = λ name. refl;
        pages = λ name node is. refl;
        last = λ c is. is;
      };
      alone = λ other differs held fresh. holds_alone g thread now names h other differs held;
    }

    pub prepare_done : Done thread g prepared
    prepare_done =
        plain_done g thread now (after_store g s addr word) g.frees g.raises g.raised s may.later (store_rises g s addr word)
        (store_sound g s addr word (FreeEntry names entry i (record { place = loose.place; unreached = loose.unreached; before = loose.before }) few refl)) each
        (store_pools g s addr word (belongs_not_control (g.use_of (addr / 4096)) names belongs)) (store_drawn g s addr word thread (inl (belongs_some (g.use_of (addr / 4096)) names belongs)))
      where
        each : (os : List (List ℕ)) → IsDir g.tree os → Stays g prepared os ⊎ Acts thread g prepared os
        each os is = by (cases_names os names)
          where
            by : (os ≡ names) ⊎ (os ≢ names) → Stays g prepared os ⊎ Acts thread g prepared os
            by (inl same) = inr (subst (Acts thread g prepared) (sym same) prepare_acts)
            by (inr other) =
                inl (changed_stays g now (after_store g s addr word) g.use_of g.drawn g.frees g.raises g.raised os
                (store_apart g s addr word os is (λ b. other (belongs_one (g.use_of (addr / 4096)) names os belongs b))) (λ p e. e) (λ p e. e) refl refl refl)
