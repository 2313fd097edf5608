-- In a new image nothing is committed, and durably so; nor is anything where other words are stored.
use Rattle.std.proofs.Common.{◌≡◌, ◌≢◌, ℕ, ◌*◌, ◌/◌, ◌<◌, ◌≤◌, List, [], ◌∷◌, length, get_or, nat_lt, sym, ap, subst, ◌∙◌, arith}
use Rattle.std.proofs.lemmas.Bool.{lt-ltb, cond-true}
use Rattle.std.proofs.lemmas.List.Elements.{All-nil, All-cons}
use Rattle.std.proofs.lemmas.List.FromFn.{get_or-map-range_with_len, length-map-range_with_len}
use Rattle.zo_layout.specs.Layout.{committed_word, owner_table}
use Rattle.pm_words.specs.Word.{Word, settled}
use Rattle.pm_words.specs.Memory.{all_durable, store_at}
use Rattle.pm_words.proofs.WordLemmas.{word_at_all_durable}
use Rattle.kern_model.specs.NewImage.{new_image, new_word}
use Rattle.kern_model.specs.declared.inner.Inner.TheVariants.{Store}
use Rattle.kern_model.specs.JournalLaws.{IsDurable}
use Rattle.kern_model.proofs.WordSteps.{Spares}
use Rattle.kern_model.proofs.PhaseLemmas.{durable_kept}

pub idle_new : (words : List Word) (pages : ℕ) → 64 ≤ pages → words ≡ all_durable (new_image pages) → IsDurable words committed_word 0
idle_new words pages least is = subst (λ (ws : List Word). IsDurable ws committed_word 0) (sym is) (record { present = ap (λ (w : Word). w.present) at ∙ none; older = ap (λ (w : Word). w.older) at })
  where
    inside : 512 < length (new_image pages)
    inside = let h = length-map-range_with_len (new_word pages) 0 (512 * pages) in omega (arith, h, least)

    at : get_or (all_durable (new_image pages)) 512 (settled 0) ≡ settled (get_or (new_image pages) 512 0)
    at = word_at_all_durable (new_image pages) 512 inside

    none : get_or (new_image pages) 512 0 ≡ 0
    none =
        get_or-map-range_with_len (new_word pages) 0 (512 * pages) 512 512 0 (omega (arith, least)) (omega arith)
        ∙ cond-true (nat_lt 1 (owner_table pages)) 0 _ (lt-ltb 1 (owner_table pages) (omega arith))

pub idle_stored : (words new : List Word) (addr value : ℕ) → committed_word / 8 < length words → addr / 8 ≢ committed_word / 8 → new ≡ store_at addr value words → IsDurable words committed_word 0
    → IsDurable new committed_word 0
idle_stored words new addr value lt other is idle =
    subst (λ (ws : List Word). IsDurable ws committed_word 0) (sym is)
    (durable_kept (Store addr value ∷ []) words committed_word 0 lt (All-cons (Spares committed_word) (Store addr value) [] other (All-nil (Spares committed_word))) idle)
