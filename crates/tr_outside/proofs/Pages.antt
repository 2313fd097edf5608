-- The bytes of an image, a part of its words after another.
use Rattle.std.proofs.Common.{◌≡◌, ◌≤◌, ◌-◌, ◌+◌, ℕ, List, ◌++◌, take, drop, sym, ap, ◌∙◌, arith, take-append-drop}
use Rattle.std.proofs.lemmas.List.Concat.{flat_map-append}
use Rattle.byteorder.specs.Endian.{little_bytes}
use Rattle.tr_outside.specs.ImageBytes.{image_bytes}
use Rattle.tr_outside.proofs.Known.{take_further}

pub image_bytes-append : (xs ys : List ℕ) → image_bytes (xs ++ ys) ≡ image_bytes xs ++ image_bytes ys
image_bytes-append xs ys = flat_map-append (little_bytes 8) xs ys

-- the words up to `at`, and then those up to `end`
pub image_bytes_further : (words : List ℕ) (at end : ℕ) → at ≤ end
    → image_bytes (take at words) ++ image_bytes (take (end - at) (drop at words)) ≡ image_bytes (take end words)
image_bytes_further words at end le =
    let sum : at + (end - at) ≡ end = omega arith in
    sym (image_bytes-append (take at words) (take (end - at) (drop at words)))
    ∙ ap image_bytes (take_further at (end - at) words ∙ ap (λ (n : ℕ). take n words) sum)

-- the words up to `at`, the next `count`, and the rest
pub image_bytes_parts : (words : List ℕ) (at count : ℕ)
    → image_bytes words ≡ image_bytes (take at words) ++ (image_bytes (take count (drop at words)) ++ image_bytes (drop count (drop at words)))
image_bytes_parts words at count =
    ap image_bytes (sym (take-append-drop at words))
    ∙ image_bytes-append (take at words) (drop at words)
    ∙ ap (λ (l : List ℕ). image_bytes (take at words) ++ l) (ap image_bytes (sym (take-append-drop count (drop at words))) ∙ image_bytes-append (take count (drop at words)) (drop count (drop at words)))
