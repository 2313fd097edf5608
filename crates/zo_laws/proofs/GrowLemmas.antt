-- What a coffer's words denote stays where it comes to have further pages.
use Rattle.std.proofs.Common.{◌≡◌, ◌≢◌, ◌⊎◌, inl, inr, ℕ, ◌/◌, cond, List, [], ◌∷◌, ◌++◌, Contains, Option, Some, None, refl, sym, subst, ap, ◌∙◌, arith}
use Rattle.std.proofs.lemmas.Bool.{cases_eq}
use Rattle.std.specs.List.{list_any}
use Rattle.zo_layout.specs.Layout.{page_at, control_intent, pool_head}
use Rattle.zo_model.specs.Tree.{Member, Node, Directory, FileOf, node_at, same_names}
use Rattle.zo_model.specs.CofferWords.{CofferAt, target_of, wanted, IsEntryPage, IsNode, IsInLimits, Denotes}
use Rattle.zo_laws.specs.Growing.{Grows, GrowLaw, GrowDenotes}
use Rattle.zo_laws.proofs.PageLemmas.{KeepsPages, node_page, free_page, first_page, shows_want}

-- a word of the page isn't as it was
abbrev Differs : (ℕ → ℕ) → (ℕ → ℕ) → ℕ → Type 0
Differs before after page = (a : ℕ) × (a / 4096 ≡ page) × (after a ≢ before a)

keeps : (before after : ℕ → ℕ) → KeepsPages before after (Differs before after)
keeps before after a p there off = by (cases_eq (after a) (before a))
  where
    by : (after a ≡ before a) ⊎ (after a ≢ before a) → after a ≡ before a
    by (inl same) = same
    by (inr other) = absurd (off (a, there, other))

target_below : (page_of : List (List ℕ) → ℕ) (coffer grown : CofferAt) (names : List (List ℕ)) (o : Option Node) → grown.below ≡ coffer.below → target_of page_of coffer names o ≡ target_of page_of grown names o
target_below page_of coffer grown names (Some node) same = refl
target_below page_of coffer grown names None same = ap (λ (below : List (List (List ℕ))). cond (list_any (same_names names) below) (Some 1) None) (sym same)

node_wanted : (w : ℕ → ℕ) (P : ℕ → Type 0) (page : ℕ) (want other : List ℕ → Option ℕ) (n : Node) → ((m : List ℕ) → want m ≡ other m) → IsNode w P want page n → IsNode w P other page n
node_wanted w P page want other Directory same shown = (shown.0, shows_want w P page want other same shown.1)
node_wanted w P page want other (FileOf bytes) same shown = shown

module _ (before after : ℕ → ℕ) (coffer grown : CofferAt) (tree : List Member) (g : Grows before after coffer grown) (d : Denotes before coffer tree) where
  own_same : (p : ℕ) → Contains coffer.pages p ⊎ (p ≡ coffer.control) → Differs before after p → ⊥
  own_same p own (a, there, other) = other (g.same a p there own)

  entries_more : (ns : List (List ℕ)) (q : ℕ) → IsEntryPage coffer d.use_of ns q → IsEntryPage grown d.use_of ns q
  entries_more ns q p = record { coffers = g.kept q p.coffers; entries = p.entries }

  pub denotes_grown : Denotes after grown tree
  denotes_grown = record {
    use_of = d.use_of;
    page_of = d.page_of;
    control = ap d.use_of g.control ∙ d.control;
    no_intent = ap (λ (c : ℕ). after (control_intent (page_at c))) g.control ∙ g.same (control_intent (page_at coffer.control)) coffer.control (omega arith) (inr refl) ∙ d.no_intent;
    root = d.root;
    root_stands = d.root_stands;
    root_page = d.root_page ∙ sym g.root;
    once = d.once;
    members = λ ns n is.
        let m = d.members ns n is in
        record {
          coffers = g.kept (d.page_of ns) m.coffers;
          object = m.object;
          shown = node_wanted after (IsEntryPage grown d.use_of ns) (page_at (d.page_of ns)) (wanted d.page_of coffer tree ns) (wanted d.page_of grown tree ns) n
              (λ name. target_below d.page_of coffer grown (ns ++ name ∷ []) (node_at tree (ns ++ name ∷ [])) g.below)
              (node_page before after (Differs before after) (IsEntryPage coffer d.use_of ns) (IsEntryPage grown d.use_of ns) (d.page_of ns) (wanted d.page_of coffer tree ns) n (keeps before after)
              (own_same (d.page_of ns) (inl m.coffers)) (λ q p. own_same q (inl p.coffers)) (entries_more ns) m.shown);
        };
    inside = d.inside;
    limits = λ ns name target dir is.
        subst (λ (path : List (List ℕ)). IsInLimits (path ++ (ns ++ name ∷ []))) (sym g.path)
        (d.limits ns name target dir (target_below d.page_of coffer grown (ns ++ name ∷ []) (node_at tree (ns ++ name ∷ [])) g.below ∙ is));
    below = λ ns name is. d.below ns name (ap (λ (below : List (List (List ℕ))). list_any (same_names (ns ++ name ∷ [])) below) (sym g.below) ∙ is);
  }

pub grow_denotes : GrowDenotes
grow_denotes before after coffer grown tree g d = denotes_grown before after coffer grown tree g d

pub grow_rests : GrowLaw
unfolding denotes_grown
grow_rests before after coffer grown tree g r = record {
  denotes = denotes_grown before after coffer grown tree g r.denotes;
  frees = r.frees;
  free = λ ns dir.
      let m = r.denotes.members ns Directory dir in
      free_page before after (Differs before after) (IsEntryPage coffer r.denotes.use_of ns) (IsEntryPage grown r.denotes.use_of ns) (r.denotes.page_of ns) (wanted r.denotes.page_of coffer tree ns) (r.frees ns) (keeps before after)
      (own_same before after coffer grown tree g r.denotes (r.denotes.page_of ns) (inl m.coffers)) (λ q p. own_same before after coffer grown tree g r.denotes q (inl p.coffers)) (entries_more before after coffer grown tree g r.denotes ns) m.shown.1 (r.free ns dir);
  first = λ ns dir.
      first_page before after (Differs before after) (IsEntryPage coffer r.denotes.use_of ns) (IsEntryPage grown r.denotes.use_of ns) (r.denotes.page_of ns) (keeps before after)
      (own_same before after coffer grown tree g r.denotes (r.denotes.page_of ns) (inl (r.denotes.members ns Directory dir).coffers)) (entries_more before after coffer grown tree g r.denotes ns) (r.first ns dir);
  pool = λ pool low.
      ap (λ (c : ℕ). after (pool_head (page_at c) pool)) g.control
      ∙ g.same (pool_head (page_at coffer.control) pool) coffer.control (omega arith) (inr refl)
      ∙ r.pool pool low;
}
