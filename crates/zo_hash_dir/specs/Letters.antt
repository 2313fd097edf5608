-- Names in words of eight letters.
use Rattle.std.specs.Prelude.{ℕ, ◌+◌, ◌*◌, List, [], ◌∷◌}

-- the word of at most eight letters, the first one lowest
abbrev pub letters_word : List ℕ → ℕ
letters_word [] = 0
letters_word (letter ∷ letters) = letter + 256 * letters_word letters
