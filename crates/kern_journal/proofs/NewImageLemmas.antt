-- The words of a new image, one more at a time.
use Rattle.std.proofs.Common.{◌≡◌, ◌<◌, ℕ, ◌+◌, ◌*◌, ◌/◌, ◌%◌, [], ◌∷◌, ◌++◌, map, ap, ap₂, ◌∙◌, arith}
use Rattle.std.specs.List.{range_with_len}
use Rattle.std.proofs.lemmas.List.FromFn.{map-range_with_len_more}
use Rattle.kern_model.specs.NewImage.{new_word, word_in_page}

-- word i of a page stands 512 words behind that of the page before
new_word_at : (pages page i : ℕ) → i < 512 → new_word pages (512 * page + i) ≡ word_in_page pages page i
new_word_at pages page i within =
    let page_is : (512 * page + i) / 512 ≡ page = omega arith in
    let place_is : (512 * page + i) % 512 ≡ i = omega arith in
    ap₂ (word_in_page pages) page_is place_is

-- the words up to one, and that one
pub one_word_more : (pages page i : ℕ) → i < 512 → map (new_word pages) (range_with_len 0 (512 * page + (i + 1))) ≡ map (new_word pages) (range_with_len 0 (512 * page + i)) ++ word_in_page pages page i ∷ []
one_word_more pages page i within =
    let next : 512 * page + (i + 1) ≡ 512 * page + i + 1 = omega arith in
    let before = map (new_word pages) (range_with_len 0 (512 * page + i)) in
    ap (λ (n : ℕ). map (new_word pages) (range_with_len 0 n)) next
    ∙ map-range_with_len_more (new_word pages) 0 (512 * page + i) (512 * page + i) (omega arith)
    ∙ ap (λ (w : ℕ). before ++ w ∷ []) (new_word_at pages page i within)
