use Rattle.std.specs.Prelude.{ℕ, zero, suc, ◌-◌, ◌==◌, List, [], ◌∷◌, map, if◌then◌else◌}

-- a number for each thread, by the thread's number, with no zero at the end: those that are left out are 0
abbrev pub with_first : ℕ → List ℕ → List ℕ
with_first n [] = if n == 0 then [] else n ∷ []
with_first n (x ∷ xs) = n ∷ x ∷ xs

-- without the zeros at the end
abbrev pub trimmed : List ℕ → List ℕ
trimmed [] = []
trimmed (x ∷ xs) = with_first x (trimmed xs)

-- a thread's number
abbrev pub mark_at : List ℕ → ℕ → ℕ
mark_at [] thread = 0
mark_at (x ∷ xs) zero = x
mark_at (x ∷ xs) (suc thread) = mark_at xs thread

-- with another number for one thread
abbrev pub written : List ℕ → ℕ → ℕ → List ℕ
written [] zero gone = gone ∷ []
written [] (suc thread) gone = 0 ∷ written [] thread gone
written (x ∷ xs) zero gone = gone ∷ xs
written (x ∷ xs) (suc thread) gone = x ∷ written xs thread gone

-- the same, with no zero at the end
unfoldable pub put_mark : List ℕ → ℕ → ℕ → List ℕ
put_mark marks thread gone = trimmed (written marks thread gone)

-- each number lowered by `gone`, and no further than to 0
unfoldable pub less_marks : ℕ → List ℕ → List ℕ
less_marks gone marks = trimmed (map (λ mark. mark - gone) marks)
