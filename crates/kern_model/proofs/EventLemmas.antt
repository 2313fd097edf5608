-- The journal's events: one pair more, and where they are.
use Rattle.std.proofs.Common.{◌≡◌, ℕ, ◌+◌, ◌/◌, ◌<◌, ◌≤◌, suc, Bool, if◌then◌else◌, List, [], ◌∷◌, ◌++◌, take, length, get_or, map, nat_eq, sym, ap, ◌∙◌, arith, All}
use Rattle.std.specs.Prelude.{nat_lt, fold}
use Rattle.std.specs.List.{range_with_len}
use Rattle.std.proofs.lemmas.Bool.{cond_both, eq-eqb, ne_eqb}
use Rattle.std.proofs.lemmas.List.{take_more, length-take-le}
use Rattle.std.proofs.lemmas.List.Elements.{All-nil, All-cons, All-head, All-tail, All-append, All-map, All-weaker}
use Rattle.std.proofs.lemmas.List.FromFn.{map-range_with_len_more}
use Rattle.std.proofs.lemmas.List.Sums.{fold-append}
use Rattle.zo_layout.specs.Layout.{pair_address, pair_value, pair_capacity, committed_word}
use Rattle.pm_words.specs.Memory.{IsAddress, HasPages}
use Rattle.kern_model.specs.declared.inner.Inner.TheVariants.{Store, Flush, Fence}
use Rattle.kern_model.specs.Inner.{HasAddress, line_of, with_line, lines_of, stores_of, flushes_at, phase}
use Rattle.kern_model.specs.Inner.{laid_over, journal_words, count_pair, finish_events, finish_any, journal_events}

-- the journal's words with a pair more
words_push : (i : ℕ) (ps : List (ℕ × ℕ)) (p : ℕ × ℕ)
    → journal_words i (ps ++ p ∷ []) ≡ (journal_words i ps ++ (pair_address (i + length ps), p.0) ∷ []) ++ (pair_value (i + length ps), p.1) ∷ []
words_push i [] p = let here : i ≡ i + 0 = omega arith in ap (λ (n : ℕ). (pair_address n, p.0) ∷ (pair_value n, p.1) ∷ []) here
words_push i (q ∷ ps) p =
    let next : i + 1 + length ps ≡ i + suc (length ps) = omega arith in
    ap (λ (ws : List (ℕ × ℕ)). (pair_address i, q.0) ∷ (pair_value i, q.1) ∷ ws)
    (words_push (i + 1) ps p ∙ ap (λ (n : ℕ). (journal_words (i + 1) ps ++ (pair_address n, p.0) ∷ []) ++ (pair_value n, p.1) ∷ []) next)

pub one_pair_more : (pairs : List (ℕ × ℕ)) (i : ℕ) (d : ℕ × ℕ) → i < length pairs
    → (journal_words 0 (take i pairs) ++ (pair_address i, (get_or pairs i d).0) ∷ []) ++ (pair_value i, (get_or pairs i d).1) ∷ [] ≡ journal_words 0 (take (i + 1) pairs)
one_pair_more pairs i d lt =
    let size : i ≡ 0 + length (take i pairs) = let e = length-take-le i pairs (omega arith) in omega (arith, e) in
    let p = get_or pairs i d in
    ap (λ (n : ℕ). (journal_words 0 (take i pairs) ++ (pair_address n, p.0) ∷ []) ++ (pair_value n, p.1) ∷ []) size
    ∙ sym (words_push 0 (take i pairs) p)
    ∙ ap (journal_words 0) (sym (take_more pairs i d lt))

-- a pair more, laid over
pub one_read_more : (f : ℕ → ℕ × ℕ) (i addr default : ℕ)
    → (if nat_eq (f i).0 addr then (f i).1 else laid_over (map f (range_with_len 0 i)) addr default) ≡ laid_over (map f (range_with_len 0 (i + 1))) addr default
one_read_more f i addr default =
    sym (fold-append (λ (value : ℕ) (p : ℕ × ℕ). if nat_eq p.0 addr then p.1 else value) default (map f (range_with_len 0 i)) (f i ∷ []))
    ∙ ap (λ (ps : List (ℕ × ℕ)). laid_over ps addr default) (sym (map-range_with_len_more f 0 i i (omega arith)))

pub read_named : (f : ℕ → ℕ × ℕ) (i addr default word : ℕ) (p : ℕ × ℕ) → p ≡ f i → p.0 ≡ addr → word ≡ p.1 → word ≡ laid_over (map f (range_with_len 0 (i + 1))) addr default
read_named f i addr default word p is named value =
    let here : (f i).0 ≡ addr = ap (λ (q : ℕ × ℕ). q.0) (sym is) ∙ named in
    value ∙ ap (λ (q : ℕ × ℕ). q.1) is
    ∙ sym (ap (λ (b : Bool). if b then (f i).1 else laid_over (map f (range_with_len 0 i)) addr default) (eq-eqb (f i).0 addr here))
    ∙ one_read_more f i addr default

pub read_other : (f : ℕ → ℕ × ℕ) (i addr default word : ℕ) (p : ℕ × ℕ) → p ≡ f i → (p.0 ≡ addr → ⊥) → word ≡ laid_over (map f (range_with_len 0 i)) addr default
    → word ≡ laid_over (map f (range_with_len 0 (i + 1))) addr default
read_other f i addr default word p is other value =
    value
    ∙ sym (ap (λ (b : Bool). if b then (f i).1 else laid_over (map f (range_with_len 0 i)) addr default) (ne_eqb (f i).0 addr (λ e. other (ap (λ (q : ℕ × ℕ). q.0) is ∙ e))))
    ∙ one_read_more f i addr default

-- each line is at an address where each pair is
line_has : (count addr : ℕ) → IsAddress count addr → IsAddress count (line_of addr)
line_has count addr at = record { aligned = omega (arith, at.aligned); inside = omega (arith, at.inside) }

with_all : (P : ℕ → Type 0) (line : ℕ) (ls : List ℕ) → P line → All P ls → All P (with_line line ls)
with_all P line [] here all = All-cons P line [] here (All-nil P)
with_all P line (l ∷ ls) here all =
    cond_both (nat_eq line l) (l ∷ ls) (if nat_lt line l then line ∷ l ∷ ls else l ∷ with_line line ls) (λ (t : List ℕ). All P t) (λ e. all)
    (λ ne. cond_both (nat_lt line l) (line ∷ l ∷ ls) (l ∷ with_line line ls) (λ (t : List ℕ). All P t) (λ lt. All-cons P line (l ∷ ls) here all)
    (λ ge. All-cons P l (with_line line ls) (All-head P l ls all) (with_all P line ls here (All-tail P l ls all))))

lines_all : (P : ℕ → Type 0) (lines : List ℕ) (pairs : List (ℕ × ℕ)) → All P lines → All (λ (p : ℕ × ℕ). P (line_of p.0)) pairs
    → All P (fold (λ (ls : List ℕ) (p : ℕ × ℕ). with_line (line_of p.0) ls) lines pairs)
lines_all P lines [] all each = all
lines_all P lines (p ∷ ps) all each =
    lines_all P (with_line (line_of p.0) lines) ps (with_all P (line_of p.0) lines (All-head (λ (q : ℕ × ℕ). P (line_of q.0)) p ps each) all) (All-tail (λ (q : ℕ × ℕ). P (line_of q.0)) p ps each)

-- the events of a phase are at addresses where the pairs are
pub phase_has : (count : ℕ) (pairs : List (ℕ × ℕ)) → All (λ (p : ℕ × ℕ). IsAddress count p.0) pairs → All (HasAddress count) (phase pairs)
phase_has count pairs each =
    All-append (HasAddress count) (stores_of pairs) (flushes_at (lines_of pairs) ++ Fence ∷ []) (All-map (HasAddress count) (λ (p : ℕ × ℕ). Store p.0 p.1) pairs each)
    (All-append (HasAddress count) (flushes_at (lines_of pairs)) (Fence ∷ []) (All-map (HasAddress count) (λ (line : ℕ). Flush line) (lines_of pairs) lines)
    (All-cons (HasAddress count) Fence [] tt (All-nil (HasAddress count))))
  where
    lines : All (IsAddress count) (lines_of pairs)
    lines = lines_all (IsAddress count) [] pairs (All-nil (IsAddress count)) (All-weaker (λ (p : ℕ × ℕ). IsAddress count p.0) (λ (p : ℕ × ℕ). IsAddress count (line_of p.0)) (λ p at. line_has count p.0 at) pairs each)

-- the words of the journal are words of the image
pub pair_inside : (count i : ℕ) → HasPages count → i < pair_capacity (count / 512) → IsAddress count (pair_address i) × IsAddress count (pair_value i)
pair_inside count i size room =
    let whole = size.whole in let least = size.least in let most = size.most in
    (record { aligned = omega arith; inside = omega arith }, record { aligned = omega arith; inside = omega arith })

pub count_inside : (count : ℕ) → HasPages count → IsAddress count committed_word
count_inside count size = let whole = size.whole in let least = size.least in record { aligned = omega arith; inside = omega arith }

pub words_have : (count i : ℕ) (pairs : List (ℕ × ℕ)) → HasPages count → i + length pairs ≤ pair_capacity (count / 512) → All (λ (p : ℕ × ℕ). IsAddress count p.0) (journal_words i pairs)
words_have count i [] size room = All-nil (λ (p : ℕ × ℕ). IsAddress count p.0)
words_have count i (p ∷ ps) size room =
    let here = pair_inside count i size (omega arith) in
    All-cons (λ (q : ℕ × ℕ). IsAddress count q.0) (pair_address i, p.0) ((pair_value i, p.1) ∷ journal_words (i + 1) ps) here.0
    (All-cons (λ (q : ℕ × ℕ). IsAddress count q.0) (pair_value i, p.1) (journal_words (i + 1) ps) here.1 (words_have count (i + 1) ps size (omega arith)))

count_has : (count n : ℕ) → HasPages count → All (λ (p : ℕ × ℕ). IsAddress count p.0) (count_pair n)
count_has count n size = All-cons (λ (p : ℕ × ℕ). IsAddress count p.0) (committed_word, n) [] (count_inside count size) (All-nil (λ (p : ℕ × ℕ). IsAddress count p.0))

pub finish_has : (count : ℕ) (pairs : List (ℕ × ℕ)) → HasPages count → All (λ (p : ℕ × ℕ). IsAddress count p.0) pairs → All (HasAddress count) (finish_events pairs)
finish_has count pairs size each = All-append (HasAddress count) (phase pairs) (phase (count_pair 0)) (phase_has count pairs each) (phase_has count (count_pair 0) (count_has count 0 size))

pub finish_any_has : (count : ℕ) (pairs : List (ℕ × ℕ)) → HasPages count → All (λ (p : ℕ × ℕ). IsAddress count p.0) pairs → All (HasAddress count) (finish_any pairs)
finish_any_has count [] size each = All-nil (HasAddress count)
finish_any_has count (p ∷ pairs) size each = finish_has count (p ∷ pairs) size each

pub journal_has : (count : ℕ) (pairs : List (ℕ × ℕ)) → HasPages count → length pairs ≤ pair_capacity (count / 512) → All (λ (p : ℕ × ℕ). IsAddress count p.0) pairs
    → All (HasAddress count) (journal_events pairs)
journal_has count pairs size room each =
    All-append (HasAddress count) (phase (journal_words 0 pairs)) (phase (count_pair (length pairs)) ++ finish_events pairs) (phase_has count (journal_words 0 pairs) (words_have count 0 pairs size (omega arith)))
    (All-append (HasAddress count) (phase (count_pair (length pairs))) (finish_events pairs) (phase_has count (count_pair (length pairs)) (count_has count (length pairs) size)) (finish_has count pairs size each))
