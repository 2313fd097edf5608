-- The words of an image from its bytes.
use Rattle.std.proofs.Common.{◌≡◌, ◌≢◌, ℕ, ◌*◌, ◌/◌, List, length, drop, Result, Ok, Err, IfOk, inl, inr, ap, ◌∙◌, arith}
use Rattle.std.proofs.lemmas.List.FromFn.{fill_by_all, length-range_with_len}
use Rattle.std.proofs.lemmas.List.{length-map}
use Rattle.std.specs.List.{range_with_len}
use Rattle.pm_words.specs.Memory.{HasPages}
use Rattle.pm_words.proofs.WordLemmas.{has_pages}
use Rattle.byteorder.specs.Endian.{little_number, IsRead}
use Rattle.tr_outside.specs.declared.image_fault.ImageFault.{ImageFault}
use Rattle.tr_outside.specs.declared.image_fault.ImageFault.TheVariants as fault
use Rattle.tr_outside.specs.ImageRead.{image_words, AnswersBytes}

-- words that were read each from its 8 bytes
pub words_read : (bytes words : List ℕ) → length words ≡ length bytes / 8 → IsRead little_number 8 bytes words → words ≡ image_words bytes
words_read bytes words len read = fill_by_all (λ i. little_number 8 (drop (8 * i) bytes)) words (length bytes / 8) 0 len (λ k lt. read k (omega (arith, len, lt)))

-- bytes that were read make no fault of the source
pub no_read_fault : (bytes : List ℕ) (result : Result (List ℕ) ImageFault) → AnswersBytes bytes result → result ≢ Err fault.ReadFault
no_read_fault bytes (Ok words) answer e = cc
no_read_fault bytes (Err (fault.TooShort len)) answer e = cc
no_read_fault bytes (Err (fault.TooLong len)) answer e = cc
no_read_fault bytes (Err (fault.NotWhole len)) answer e = cc
no_read_fault bytes (Err fault.NoMemory) answer e = cc
no_read_fault bytes (Err fault.ReadFault) (inl same) e = cc
no_read_fault bytes (Err fault.ReadFault) (inr none) e = absurd none

-- an image that was read has whole pages
pub sized : (bytes : List ℕ) (result : Result (List ℕ) ImageFault) → AnswersBytes bytes result → IfOk result (λ words. HasPages (length words))
sized bytes (Ok words) (is, same) =
    let len : length words ≡ length bytes / 8 =
    ap (λ (l : List ℕ). length l) same ∙ length-map (range_with_len 0 (length bytes / 8)) (λ i. little_number 8 (drop (8 * i) bytes)) ∙ length-range_with_len 0 (length bytes / 8) in
    let least = is.least in
    let most = is.most in
    let whole = is.whole in
    has_pages (length words) (length bytes / 4096) (record { whole = omega (arith, len, whole); least = omega (arith, least); most = omega (arith, most) })
sized bytes (Err fault) answer = tt
