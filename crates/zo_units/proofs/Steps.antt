-- Stores beside, flushes, fences, and pages that come keep a coffer sound.
use Rattle.std.proofs.Common.{◌≡◌, ◌≢◌, ◌⊎◌, inl, inr, ℕ, ◌/◌, ◌==◌, Bool, true, false, if◌then◌else◌, List, Contains, refl, sym, ap, subst, ◌∙◌, ne_eqb}
use Rattle.std.proofs.lemmas.Bool.{cond-false}
use Rattle.pm_words.specs.Marks.{mark_at}
use Rattle.pm_words.specs.Word.{Word, flushed}
use Rattle.zo_model.specs.Tree.{Member}
use Rattle.zo_model.specs.CofferWords.{CofferAt, Use, Nothing, Control}
use Rattle.zo_units.specs.Memory.{Memory, Store, Flush, Fence, at, stored_in, flushed_in, fenced_in}
use Rattle.zo_units.specs.MemoryLaws.{Spares}
use Rattle.zo_units.specs.Units.{Lasts, IsSound}
use Rattle.zo_units.specs.UnitLaws.{AllTold, IsAside, StoreLaw, FlushLaw, GrowLaw, UseLaw, put_use}
use Rattle.zo_units.proofs.Places.{word_aside, top_aside, exchange_cases, tidy_after, rises_after, rises_none}
use Rattle.zo_units.proofs.Frames.{paged, spares, sound_wider}
use Rattle.zo_units.proofs.Telling.{all_told, Serves, AsControl, AsObject, AsEntries, serves, nothing_control, nothing_object, nothing_entries}

pub told_more : (P Q : ℕ → Type 0) (m : Memory) (coffer : CofferAt) (tree : List Member) (page_of : List (List ℕ) → ℕ) (lasts : Lasts) → ((a : ℕ) → P a → Q a)
    → AllTold P m coffer tree page_of lasts → AllTold Q m coffer tree page_of lasts
told_more P Q m coffer tree page_of lasts more k = record {
  intent = more _ k.intent;
  kinds = λ names node may. more _ (k.kinds names node may);
  maps = λ names bytes may. more _ (k.maps names bytes may);
  heads = λ names bucket may low. more _ (k.heads names bucket may low);
  entries = λ names entry i may reached few. more _ (k.entries names entry i may reached few);
  befores = λ names c entry i may last opened reached few. more _ (k.befores names c entry i may last opened reached few);
}

pub store_spares : (addr value : ℕ) (m : Memory) (a : ℕ) → a / 8 ≢ addr / 8 → Spares m (stored_in addr value m) a
store_spares addr value m a other =
    let word = word_aside addr value m a other in
    record { present = ap (λ (w : Word). w.present) word; top = top_aside addr value m a other; gone = 0; older = ap (λ (w : Word). w.older) word }

pub flush_spares : (thread addr : ℕ) (m : Memory) (a : ℕ) → Spares m (flushed_in thread addr m) a
flush_spares thread addr m a = record { present = present (a / 64 == addr / 64); top = refl; gone = 0; older = older (a / 64 == addr / 64) }
  where
    present : (b : Bool) → (if b then flushed thread (m.word a) else m.word a).present ≡ at m a
    present true = refl
    present false = refl

    older : (b : Bool) → (if b then flushed thread (m.word a) else m.word a).older ≡ (m.word a).older
    older true = refl
    older false = refl

pub fence_spares : (thread : ℕ) (m : Memory) (a : ℕ) → Spares m (fenced_in thread m) a
fence_spares thread m a = record { present = refl; top = refl; gone = mark_at (m.word a).marks thread; older = refl }

pub same_spares : (m : Memory) (a : ℕ) → Spares m m a
same_spares m a = record { present = refl; top = refl; gone = 0; older = refl }

store_sound : (m : Memory) (coffer : CofferAt) (tree : List Member) (page_of : List (List ℕ) → ℕ) (use_of : ℕ → Use) (lasts : Lasts) (addr value : ℕ)
    → IsSound m coffer tree page_of use_of lasts → IsAside m coffer tree page_of lasts addr → IsSound (stored_in addr value m) coffer tree page_of use_of lasts
store_sound m coffer tree page_of use_of lasts addr value s aside =
    spares m (stored_in addr value m) coffer tree page_of use_of lasts s (tidy_after (Store addr value) m s.tidy) (rises_after (Store addr value) m s.tidy)
    (told_more (λ a. a / 8 ≢ addr / 8) (Spares m (stored_in addr value m)) m coffer tree page_of lasts (store_spares addr value m) aside)

pub stores : StoreLaw
stores = record {
  store = store_sound;
  exchange = λ m coffer tree page_of use_of lasts addr old new s aside.
      exchange_cases (λ n. IsSound n coffer tree page_of use_of lasts) addr old new m (store_sound m coffer tree page_of use_of lasts addr new s aside) s;
}

pub flushes : FlushLaw
flushes = record {
  flush = λ m coffer tree page_of use_of lasts thread addr s.
      spares m (flushed_in thread addr m) coffer tree page_of use_of lasts s (tidy_after (Flush thread addr) m s.tidy) (rises_after (Flush thread addr) m s.tidy)
      (all_told m coffer tree page_of use_of lasts s (Spares m (flushed_in thread addr m)) (λ a tells. flush_spares thread addr m a));
  fence = λ m coffer tree page_of use_of lasts thread s.
      spares m (fenced_in thread m) coffer tree page_of use_of lasts s (tidy_after (Fence thread) m s.tidy) (rises_after (Fence thread) m s.tidy)
      (all_told m coffer tree page_of use_of lasts s (Spares m (fenced_in thread m)) (λ a tells. fence_spares thread m a));
}

pub grows : GrowLaw
grows m n coffer grown tree page_of use_of lasts g s =
    subst (λ (c : CofferAt). IsSound n c tree page_of use_of lasts) (sym one)
    (sound_wider m n coffer grown.pages tree page_of use_of use_of lasts s g.tidy g.rises
    (all_told m coffer tree page_of use_of lasts s (Spares m n) (λ a tells. g.spares a (where_it_is a (serves m coffer tree page_of use_of lasts s a tells))))
    g.kept (λ is. is) (λ page names has is. is) (λ page names has is. is))
  where
    one : grown ≡ paged coffer grown.pages
    one = λ i. record { control = g.control i; root = g.root i; pages = grown.pages; path = g.path i; below = g.below i }

    where_it_is : (a : ℕ) → Serves m coffer tree page_of use_of lasts s a → Contains coffer.pages (a / 4096) ⊎ (a / 4096 ≡ coffer.control)
    where_it_is a (AsControl page is) = inr page
    where_it_is a (AsObject names has is) = inl has
    where_it_is a (AsEntries names has is) = inl has

pub put_use_other : (use_of : ℕ → Use) (page : ℕ) (new : Use) (p : ℕ) → p ≢ page → put_use use_of page new p ≡ use_of p
put_use_other use_of page new p other = cond-false (p == page) new (use_of p) (ne_eqb p page other)

pub uses : UseLaw
uses m coffer tree page_of use_of lasts page new free s =
    sound_wider m m coffer coffer.pages tree page_of use_of (put_use use_of page new) lasts s s.tidy (rises_none m)
    (all_told m coffer tree page_of use_of lasts s (Spares m m) (λ a tells. same_spares m a)) (λ p has. has)
    (λ is. put_use_other use_of page new coffer.control (not_control free is) ∙ is)
    (λ p names has is. put_use_other use_of page new p (other free p has (λ none. nothing_object names (sym none ∙ is))) ∙ is)
    (λ p names has is. put_use_other use_of page new p (other free p has (λ none. nothing_entries names (sym none ∙ is))) ∙ is)
  where
    not_control : (use_of page ≡ Nothing) ⊎ ((Contains coffer.pages page → ⊥) × (page ≢ coffer.control)) → use_of coffer.control ≡ Control → coffer.control ≢ page
    not_control (inl none) is same = nothing_control (sym none ∙ ap use_of (sym same) ∙ is)
    not_control (inr (outside, apart)) is same = apart (sym same)

    other : (use_of page ≡ Nothing) ⊎ ((Contains coffer.pages page → ⊥) × (page ≢ coffer.control)) → (p : ℕ) → Contains coffer.pages p → (use_of p ≡ Nothing → ⊥) → p ≢ page
    other (inl none) p has some same = some (ap use_of same ∙ none)
    other (inr (outside, apart)) p has some same = outside (subst (Contains coffer.pages) same has)
