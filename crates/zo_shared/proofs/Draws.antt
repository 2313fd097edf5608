-- Pages that a thread draws.
use Rattle.std.proofs.Common.{◌≡◌, ◌⊎◌, inl, inr, ℕ, ◌+◌, ◌/◌, ◌≤◌, List, Bool, true, false, Contains, Some, if◌then◌else◌, refl, sym, ap, ◌∙◌, arith, nat_eq, eqb-true}
use Rattle.std.proofs.lemmas.Map.Views.{Contains-from_any}
use Rattle.std.specs.List.{list_any}
use Rattle.zo_layout.specs.Layout.{page_at, pool_head}
use Rattle.zo_model.specs.CofferWords.{CofferAt, IsDir}
use Rattle.zo_units.specs.Memory.{Memory, at}
use Rattle.zo_units.specs.UnitLaws.{Grows}
use Rattle.zo_units.proofs.Telling.{nothing_entries, nothing_control}
use Rattle.zo_units.proofs.Steps.{grows}
use Rattle.zo_shared.specs.Shared.{Shared, IsDrawn, IsSound}
use Rattle.zo_shared.specs.Deeds.{Draw, MayDo, does}
use Rattle.zo_shared.proofs.Frames.{EntryPages, Stays, Done, spared_by}
use Rattle.zo_shared.proofs.Changes.{use_control}

module _ (g : Shared) (thread now : ℕ) (pages : List ℕ) (memory : Memory) (grown : CofferAt) (s : IsSound g) (may : MayDo thread now (Draw pages memory grown) g) where
  abbrev drew : Shared
  drew = does thread now (Draw pages memory grown) g

  gr : Grows g.memory memory g.coffer grown
  gr = may.may.grows

  among : (p : ℕ) → list_any (nat_eq p) pages ≡ true → Contains pages p
  among p is = Contains-from_any {eq = nat_eq} (λ x y e. eqb-true x y e) p pages is

  stays : (names : List (List ℕ)) → IsDir g.tree names → Stays g drew names
  stays names dir = record {
    home = refl;
    more = λ p e. record { coffers = gr.kept p e.coffers; entries = e.entries };
    only = λ p e. record { coffers = inside p e (may.may.only p e.coffers); entries = e.entries };
    spared = spared_by g s names dir memory (λ a has is. gr.spares a (inl has));
    frees = refl;
    bases = refl;
    raises = refl;
    raised = refl;
    members = λ name. refl;
    pages = λ name node is. refl;
    last = λ c is. is;
  }
    where
      inside : (p : ℕ) → EntryPages drew names p → Contains g.coffer.pages p ⊎ Contains pages p → Contains g.coffer.pages p
      inside p e (inl before) = before
      inside p e (inr new) = absurd (nothing_entries names (sym (may.may.useless p new) ∙ e.entries))

  pub draw_done : Done thread g drew
  draw_done = record {
    later = record {
      now = may.later;
      count = (let more : g.count ≤ g.count + 1 = omega arith in more);
      rises = gr.rises;
      dirs = λ names dir. dir;
      coffer = gr.kept;
      lasts = λ names c last opened. inl last;
    };
    each = λ names dir. inl (stays names dir);
    sound = grows g.memory memory g.coffer grown g.tree g.page_of g.use_of g.lasts gr s.sound;
    made = λ names dir. inl dir;
    drawn = λ p who is. are_drawn p who (list_any (nat_eq p) pages) refl is;
    homes = s.homes;
    pools = λ pool few.
        ap (λ (c : ℕ). at memory (pool_head (page_at c) pool)) gr.control
        ∙ (gr.spares (pool_head (page_at g.coffer.control) pool) (inr (omega (arith, few)))).present
        ∙ s.pools pool few;
    others_drawn = λ p other differs is. others p other is (list_any (nat_eq p) pages) refl;
    others_words = λ a other differs is. gr.spares a (inl (s.drawn (a / 4096) other is).inside);
    others_lasts = λ names c differs last opened. last;
  }
    where
      are_drawn : (p who : ℕ) (b : Bool) → list_any (nat_eq p) pages ≡ b → (if b then Some thread else g.drawn p) ≡ Some who → IsDrawn drew p
      are_drawn p who true new is = record {
        inside = may.may.inside p (among p new);
        useless = may.may.useless p (among p new);
        not_control = λ same. nothing_control (sym (may.may.useless p (among p new)) ∙ ap g.use_of (same ∙ gr.control) ∙ use_control g s);
      }
      are_drawn p who false old is =
          let before = s.drawn p who is in
          record { inside = gr.kept p before.inside; useless = before.useless; not_control = λ same. before.not_control (same ∙ gr.control) }

      others : (p other : ℕ) → g.drawn p ≡ Some other → (b : Bool) → list_any (nat_eq p) pages ≡ b → (if b then Some thread else g.drawn p) ≡ Some other
      others p other is true new = absurd (may.may.outside p (among p new) (s.drawn p other is).inside)
      others p other is false old = is
