-- Laws of the memory.
use Rattle.std.specs.Prelude.{◌≡◌, ℕ, ◌+◌, ◌*◌, ◌/◌, ◌%◌, ◌≤◌, ◌<◌, List, [], ◌∷◌, ◌++◌, length, drop, Option}
use Rattle.std.specs.Int.{w64, to_le_bytes}
use Rattle.pm_words.specs.Hash.{fnv64_of}
use Rattle.pm_words.specs.Crash.{after_crash}
use Rattle.pm_words.specs.Memory.{word_at}
use Rattle.pm_words.specs.Word.{Word, crash_list}
use Rattle.pm_words.specs.declared.choice.Choice.{Choice}
use Rattle.pm_words.specs.declared.choice.Choice.TheVariants as pick
use Rattle.zo_units.specs.Memory.{Memory, Event, Store, Exchange, Flush, Fence, at, floor, marked, IsTidy, IsLeft, after, flushed_in, fenced_in, memory_of, words_after, tops_after}
use Rattle.zo_units.specs.Units.{Commitment, IsOpen, IsStill}

-- what is stored goes to a word of the list
abbrev pub IsInside : Event → List Word → Type 0
IsInside (Store addr value) words = addr / 8 < length words
IsInside (Exchange addr old new) words = addr / 8 < length words
IsInside (Flush thread addr) words = Unit {0}
IsInside (Fence thread) words = Unit {0}

-- the memory of the list after an event is what the event leaves of the memory of the list
abbrev pub MemoryLaw : Type 0
MemoryLaw = (event : Event) (words : List Word) (tops : ℕ → ℕ) → IsInside event words → memory_of (words_after event words) (tops_after event words tops) ≡ after event (memory_of words tops)

-- the place, counted from the floor, of the value that a crash leaves in the word at an address
abbrev pub picked_place : Choice → ℕ → Word → ℕ
picked_place pick.All address w = length w.older
picked_place pick.None address w = 0
picked_place (pick.Seed seed) address w = fnv64_of (to_le_bytes w64 seed ++ to_le_bytes w64 address) % length (crash_list w)

abbrev pub crash_places : Choice → Memory → ℕ → ℕ
crash_places choice m a = floor m a + picked_place choice (8 * (a / 8)) (m.word a)

-- the present values that a crash leaves
abbrev pub crash_image : Choice → List Word → ℕ → ℕ
crash_image choice words a = (word_at (after_crash choice words) a).present

abbrev pub CrashLeaves : Type 0
CrashLeaves = (choice : Choice) (words : List Word) (tops : ℕ → ℕ) → IsTidy (memory_of words tops) → IsLeft (memory_of words tops) (crash_places choice (memory_of words tops)) (crash_image choice words)

-- no place sinks
pub record Rises (m n : Memory) : Type 0 where
  pub floors : (a : ℕ) → floor m a ≤ floor n a
  pub tops : (a : ℕ) → m.top a ≤ n.top a
  pub marks : (thread a : ℕ) → marked m thread a ≤ marked n thread a

abbrev pub run : List Event → Memory → Memory
run [] m = m
run (event ∷ events) m = run events (after event m)

-- Whatever threads do, places rise. So what is known of them stays: that a commit isn't open, that its place is no later than
-- the present value's, or the durable one's, or the one that a thread has marked.
pub record RiseLaw : Type 0 where
  pub tidy : (events : List Event) (m : Memory) → IsTidy m → IsTidy (run events m)
  pub rises : (events : List Event) (m : Memory) → IsTidy m → Rises m (run events m)
  pub still : (m n : Memory) (last : Option Commitment) → Rises m n → IsStill m last → IsStill n last

-- A flush of the line marks its words' present values; the thread's next fence makes durable what it has marked. So once a
-- thread has flushed the line of a commit and made its fence, whatever was done in between, the commit is not open.
pub record MendLaw : Type 0 where
  pub flush : (thread addr a : ℕ) (m : Memory) → IsTidy m → a / 64 ≡ addr / 64 → marked (flushed_in thread addr m) thread a ≡ m.top a
  pub fence : (thread a : ℕ) (m : Memory) → IsTidy m → floor (fenced_in thread m) a ≡ marked m thread a
  pub mended : (thread addr : ℕ) (c : Commitment) (events : List Event) (m : Memory) → IsTidy m → c.addr / 64 ≡ addr / 64 → c.place ≤ m.top c.addr
      → IsOpen (fenced_in thread (run events (flushed_in thread addr m))) c → ⊥

-- a word keeps its present value and its place; as many older values may have gone as become durable
pub record Spares (m n : Memory) (a : ℕ) : Type 0 where
  pub present : at n a ≡ at m a
  pub top : n.top a ≡ m.top a
  pub gone : ℕ
  pub older : (n.word a).older ≡ drop gone (m.word a).older
