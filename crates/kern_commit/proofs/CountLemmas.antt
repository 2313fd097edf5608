-- How many steps there are.
use Rattle.std.proofs.Common.{◌≡◌, ℕ, ◌+◌, ◌*◌, ◌<◌, ◌≤◌, suc, cond, List, [], ◌∷◌, ◌++◌, length, nat_eq, ap, ◌∙◌, arith}
use Rattle.std.specs.Prelude.{fold, nat_lt}
use Rattle.std.specs.List.{flat_map}
use Rattle.std.proofs.lemmas.Bool.{cond_both}
use Rattle.std.proofs.lemmas.List.{length-append, length-map}
use Rattle.std.proofs.lemmas.List.FromFn.{length-map-range_with_len}
use Rattle.zo_layout.specs.Layout.{page_at, word_of}
use Rattle.kern_model.specs.declared.inner.Inner.{Inner}
use Rattle.kern_model.specs.declared.inner.Inner.TheVariants.{Store, Flush, Fence}
use Rattle.kern_model.specs.Inner.{line_of, with_line, lines_of, stores_of, flushes_at, phase, journal_words, count_pair, finish_events, journal_events}
use Rattle.kern_model.specs.KernelCalls.{zeros_of, lines_of_page, zero_events}

pages_length : (f : ℕ → List Inner) (n : ℕ) (pages : List ℕ) → ((page : ℕ) → length (f page) ≡ n) → length (flat_map f pages) ≡ n * length pages
pages_length f n [] each = omega arith
pages_length f n (page ∷ pages) each =
    let sum = length-append (f page) (flat_map f pages) in
    let rest = pages_length f n pages each in
    let here = each page in
    let more : n + n * length pages ≡ n * suc (length pages) = omega arith in
    sum ∙ ap (λ (k : ℕ). k + length (flat_map f pages)) here ∙ ap (λ (k : ℕ). n + k) rest ∙ more

some_length : (page : ℕ) (pages : List ℕ) → length (zero_events (page ∷ pages)) ≡ 576 * length (page ∷ pages) + 1
some_length page pages =
    let stores = pages_length zeros_of 512 (page ∷ pages) (λ p. length-map-range_with_len (λ i. Store (word_of (page_at p) i) 0) 0 512) in
    let flushes = pages_length lines_of_page 64 (page ∷ pages) (λ p. length-map-range_with_len (λ i. Flush (page_at p + 64 * i)) 0 64) in
    let one = length-append (flat_map zeros_of (page ∷ pages)) (flat_map lines_of_page (page ∷ pages) ++ Fence ∷ []) in
    let two = length-append (flat_map lines_of_page (page ∷ pages)) (Fence ∷ []) in
    sum (length (flat_map zeros_of (page ∷ pages))) (length (flat_map lines_of_page (page ∷ pages))) (length (page ∷ pages)) (length (flat_map lines_of_page (page ∷ pages) ++ Fence ∷ [])) (length (zero_events (page ∷ pages))) stores flushes one two
  where
    sum : (a b n rest all : ℕ) → a ≡ 512 * n → b ≡ 64 * n → all ≡ a + rest → rest ≡ b + 1 → all ≡ 576 * n + 1
    sum a b n rest all one two three four = omega (arith, one, two, three, four)

pub zero_length : (pages : List ℕ) → 0 < length pages → length (zero_events pages) ≡ 576 * length pages + 1
zero_length [] some = absurd (omega arith)
zero_length (page ∷ pages) some = some_length page pages

pub zero_few : (pages : List ℕ) → length pages ≤ 1024 → length (zero_events pages) ≤ 589825
zero_few [] few = omega arith
zero_few (page ∷ pages) few = let is = some_length page pages in omega (arith, is, few)

-- no more lines than pairs
with_length : (line : ℕ) (ls : List ℕ) → length (with_line line ls) ≤ suc (length ls)
with_length line [] = omega arith
with_length line (l ∷ ls) =
    let rest = with_length line ls in
    cond_both (nat_eq line l) (l ∷ ls) (cond (nat_lt line l) (line ∷ l ∷ ls) (l ∷ with_line line ls)) (λ (t : List ℕ). length t ≤ suc (suc (length ls))) (λ same. omega arith)
    (λ ne. cond_both (nat_lt line l) (line ∷ l ∷ ls) (l ∷ with_line line ls) (λ (t : List ℕ). length t ≤ suc (suc (length ls))) (λ less. omega arith) (λ ge. omega (arith, rest)))

lines_length : (lines : List ℕ) (pairs : List (ℕ × ℕ)) → length (fold (λ (ls : List ℕ) (p : ℕ × ℕ). with_line (line_of p.0) ls) lines pairs) ≤ length lines + length pairs
lines_length lines [] = omega arith
lines_length lines (p ∷ ps) =
    let here = with_length (line_of p.0) lines in
    let rest = lines_length (with_line (line_of p.0) lines) ps in
    omega (arith, here, rest)

phase_length : (pairs : List (ℕ × ℕ)) → length (phase pairs) ≤ 2 * length pairs + 1
phase_length pairs =
    let one = length-append (stores_of pairs) (flushes_at (lines_of pairs) ++ Fence ∷ []) in
    let two = length-append (flushes_at (lines_of pairs)) (Fence ∷ []) in
    let stores = length-map pairs (λ (p : ℕ × ℕ). Store p.0 p.1) in
    let flushes = length-map (lines_of pairs) (λ (line : ℕ). Flush line) in
    let lines = lines_length [] pairs in
    omega (arith, one, two, stores, flushes, lines)

words_length : (i : ℕ) (pairs : List (ℕ × ℕ)) → length (journal_words i pairs) ≡ 2 * length pairs
words_length i [] = omega arith
words_length i (p ∷ ps) = let rest = words_length (i + 1) ps in omega (arith, rest)

pub journal_length : (pairs : List (ℕ × ℕ)) → length (journal_events pairs) ≤ 6 * length pairs + 8
journal_length pairs =
    let one = length-append (phase (journal_words 0 pairs)) (phase (count_pair (length pairs)) ++ finish_events pairs) in
    let two = length-append (phase (count_pair (length pairs))) (finish_events pairs) in
    let three = length-append (phase pairs) (phase (count_pair 0)) in
    let words = words_length 0 pairs in
    let first = phase_length (journal_words 0 pairs) in
    let count = phase_length (count_pair (length pairs)) in
    let own = phase_length pairs in
    let none = phase_length (count_pair 0) in
    omega (arith, one, two, three, words, first, count, own, none)
