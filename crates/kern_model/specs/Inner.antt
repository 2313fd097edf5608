-- The inner events of the journal: what it does with the memory, one step at a time.
use Rattle.std.specs.Prelude.{◌≡◌, ℕ, ◌+◌, ◌*◌, ◌/◌, ◌≤◌, ◌==◌, nat_lt, List, [], ◌∷◌, ◌++◌, map, take, fold, length, ⊤, if◌then◌else◌}
use Rattle.zo_layout.specs.Layout.{committed_word, pair_address, pair_value}
use Rattle.pm_words.specs.Word.{Word}
pub use Rattle.kern_model.specs.Journal.{IsHome, committed_count, pair_at, committed, laid_over, kernel_word, IsReadable}
use Rattle.pm_words.specs.Memory.{store_at, flush_at, fence_by, IsAddress}
use Rattle.kern_model.specs.declared.limits.TheConstants.{NO_THREAD}
use Rattle.kern_model.specs.declared.inner.Inner.{Inner}
use Rattle.kern_model.specs.declared.inner.Inner.TheVariants.{Store, Flush, Fence}

-- the number under which the kernel flushes and fences, which is no thread's
abbrev pub kernel_thread : ℕ
kernel_thread = NO_THREAD

-- the memory after one inner event
abbrev pub made : List Word → Inner → List Word
made words (Store addr value) = store_at addr value words
made words (Flush addr) = flush_at kernel_thread addr words
made words Fence = fence_by kernel_thread words

-- the memory after these inner events in their order
abbrev pub made_all : List Inner → List Word → List Word
made_all events words = fold made words events

-- an inner event is at a word's address, where it is at one
abbrev pub HasAddress : ℕ → Inner → Type 0
HasAddress count (Store addr value) = IsAddress count addr
HasAddress count (Flush addr) = IsAddress count addr
HasAddress count Fence = ⊤

-- the event stores the word at an address
abbrev pub IsStoreTo : ℕ → Inner → Type 0
IsStoreTo addr (Store at value) = at / 8 ≡ addr / 8
IsStoreTo addr event = ⊥

-- the memory after some number of the first of these events
abbrev pub IsCut : List Inner → List Word → List Word → Type 0
IsCut events old new = (k : ℕ) × (new ≡ made_all (take k events) old)

-- the address of the line of 64 bytes that an address is in
abbrev pub line_of : ℕ → ℕ
line_of addr = addr / 64 * 64

-- lines in order of address, and one more in its place where it isn't there
abbrev pub with_line : ℕ → List ℕ → List ℕ
with_line line [] = line ∷ []
with_line line (l ∷ ls) = if line == l then l ∷ ls else (if nat_lt line l then line ∷ l ∷ ls else l ∷ with_line line ls)

-- each line is past the one before it, and the first at a bound or past it
abbrev pub RisesFrom : ℕ → List ℕ → Type 0
RisesFrom bound [] = ⊤
RisesFrom bound (l ∷ ls) = (bound ≤ l) × RisesFrom (l + 1) ls

-- lines in order of address, each once
abbrev pub IsAscending : List ℕ → Type 0
IsAscending lines = RisesFrom 0 lines

-- the lines that the pairs' addresses are in, each once, in order of address
abbrev pub lines_of : List (ℕ × ℕ) → List ℕ
lines_of pairs = fold (λ lines p. with_line (line_of p.0) lines) [] pairs

abbrev pub stores_of : List (ℕ × ℕ) → List Inner
stores_of pairs = map (λ p. Store p.0 p.1) pairs

abbrev pub flushes_at : List ℕ → List Inner
flushes_at lines = map (λ line. Flush line) lines

-- The pairs (address, value) are made durable: each value is stored, each line flushed once, in order of address, and
-- then comes a fence.
abbrev pub phase : List (ℕ × ℕ) → List Inner
phase pairs = stores_of pairs ++ (flushes_at (lines_of pairs) ++ Fence ∷ [])

-- the words of the journal, from pair i on, with their values: the address and the value of each pair
abbrev pub journal_words : ℕ → List (ℕ × ℕ) → List (ℕ × ℕ)
journal_words i [] = []
journal_words i (p ∷ ps) = (pair_address i, p.0) ∷ (pair_value i, p.1) ∷ journal_words (i + 1) ps

-- word 0 of the journal, with its value for a number of committed pairs
abbrev pub count_pair : ℕ → List (ℕ × ℕ)
count_pair count = (committed_word, count) ∷ []

-- what finishes committed pairs: their words are made durable, and then 0 in word 0 of the journal
abbrev pub finish_events : List (ℕ × ℕ) → List Inner
finish_events pairs = phase pairs ++ phase (count_pair 0)

-- what stores a list of pairs: the pairs are made durable in the journal, and then their number in its word 0, by which they
-- are committed; and then they are finished
abbrev pub journal_events : List (ℕ × ℕ) → List Inner
journal_events pairs = phase (journal_words 0 pairs) ++ (phase (count_pair (length pairs)) ++ finish_events pairs)

-- what finishes the pairs that are committed in these words; nothing, where none is
abbrev pub finish_any : List (ℕ × ℕ) → List Inner
finish_any [] = []
finish_any (p ∷ pairs) = finish_events (p ∷ pairs)

abbrev pub redo_events : List Word → List Inner
redo_events words = finish_any (committed words)
