-- The journal of a new image: nothing is committed.
use Rattle.std.proofs.Common.{◌≡◌, ℕ, ◌*◌, ◌%◌, ◌<◌, ◌≤◌, List, [], ◌∷◌, length, get_or, nat_eq, nat_lt, refl, sym, ap, subst, ◌∙◌, arith}
use Rattle.std.specs.List.{IsDistinct}
use Rattle.std.proofs.lemmas.Bool.{lt-ltb, cond-true}
use Rattle.std.proofs.lemmas.List.Elements.{All-nil, All-cons}
use Rattle.std.proofs.lemmas.List.FromFn.{get_or-map-range_with_len, length-map-range_with_len}
use Rattle.zo_layout.specs.Layout.{committed_word, owner_table}
use Rattle.pm_words.specs.Word.{Word, settled}
use Rattle.std.proofs.lemmas.Map.Keys.{IsDistinct-cons}
use Rattle.pm_words.specs.Memory.{all_durable, IsPages, HasPages}
use Rattle.pm_words.proofs.WordLemmas.{word_at_all_durable, has_pages}
use Rattle.kern_model.specs.NewImage.{new_image, new_word}
use Rattle.kern_model.proofs.FreePages.{size_opened}
use Rattle.kern_model.specs.Inner.{IsHome, IsReadable}
use Rattle.kern_model.specs.JournalLaws.{IsDurable, IsReady}
use Rattle.kern_model.proofs.CrashLemmas.{idle_readable}

journal_page : (pages : ℕ) → new_word pages 512 ≡ 0
journal_page pages = cond-true (nat_lt 1 (owner_table pages)) 0 _ (lt-ltb 1 (owner_table pages) (omega arith))

pub idle_new : (words : List Word) (pages : ℕ) → 64 ≤ pages → words ≡ all_durable (new_image pages) → IsDurable words committed_word 0
idle_new words pages least is = subst (λ (ws : List Word). IsDurable ws committed_word 0) (sym is) (record { present = ap (λ (w : Word). w.present) at ∙ none; older = ap (λ (w : Word). w.older) at })
  where
    inside : 512 < length (new_image pages)
    inside = let h = length-map-range_with_len (new_word pages) 0 (512 * pages) in omega (arith, h, least)

    at : get_or (all_durable (new_image pages)) 512 (settled 0) ≡ settled (get_or (new_image pages) 512 0)
    at = word_at_all_durable (new_image pages) 512 inside

    none : get_or (new_image pages) 512 0 ≡ 0
    none = get_or-map-range_with_len (new_word pages) 0 (512 * pages) 512 512 0 (omega (arith, least)) (omega arith) ∙ journal_page pages

-- so it can be finished
pub readable_new : (words : List Word) (pages : ℕ) → 64 ≤ pages → words ≡ all_durable (new_image pages) → IsReadable words
readable_new words pages least is = idle_readable words (idle_new words pages least is)

none_apart : IsDistinct nat_eq []
unfolding IsDistinct
none_apart = tt

-- pairs for words of two lines of the new image of 64 pages
pub ready_new : (words : List Word) → words ≡ all_durable (new_image 64) → IsReady words ((163840, 7) ∷ (163904, 9) ∷ [])
ready_new words is = record {
  size = subst (λ (ws : List Word). HasPages (length ws)) (sym is) (has_pages (length (all_durable (new_image 64))) 64 opened);
  room = let h = len in omega (arith, h);
  different = IsDistinct-cons nat_eq 163840 (163904 ∷ []) (refl, tt) (IsDistinct-cons nat_eq 163904 [] tt none_apart);
  homes = All-cons (λ (p : ℕ × ℕ). IsHome (length words) p.0) (163840, 7) ((163904, 9) ∷ []) (home 163840 refl (omega arith) (omega arith))
      (All-cons (λ (p : ℕ × ℕ). IsHome (length words) p.0) (163904, 9) [] (home 163904 refl (omega arith) (omega arith)) (All-nil (λ (p : ℕ × ℕ). IsHome (length words) p.0)));
  idle = idle_new words 64 (omega arith) is;
}
  where
    opened : IsPages (length (all_durable (new_image 64))) 64
    opened = size_opened 64 (omega arith) (omega arith)

    len : length words ≡ 32768
    len = ap (λ (ws : List Word). length ws) is ∙ opened.whole

    home : (addr : ℕ) → addr % 8 ≡ 0 → 20480 ≤ addr → addr < 262144 → IsHome (length words) addr
    home addr aligned past inside =
        record { inside = record { aligned = aligned; inside = let h = len in omega (arith, h, inside) }; outside = λ ge. let h = len in omega (arith, h, past) }
