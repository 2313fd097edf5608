-- What the actions of a run under leases leave of a word of the memory, whatever other threads do between them, but for stores to it.
use Rattle.std.specs.Prelude.{◌≡◌, ◌≢◌, ℕ, ◌-◌, ◌/◌, ◌≤◌, ◌<◌, List, [], ◌∷◌, ◌++◌, length, map, take, drop, All, Contains}
use Rattle.pm_words.specs.Marks.{mark_at}
use Rattle.pm_words.specs.Memory.{word_at, store_at, flush_at, fence_by}
use Rattle.pm_words.specs.Word.{Word}
use Rattle.tr_types.specs.declared.entry.Mark.TheVariants as mark
use Rattle.zo_plan.specs.declared.deed.Deed.{Deed}
use Rattle.zo_plan.specs.declared.deed.Deed.TheVariants.{Store, Count, Raise, Look, Flush, Fence}
use Rattle.zo_plan.specs.declared.deed.Due.{Due}
use Rattle.zo_plan.specs.declared.held.Held.{Held}
use Rattle.zo_plan.specs.declared.plan.Plan.{Plan}
use Rattle.zo_plan.specs.declared.plan.Put.{Put}
use Rattle.zo_plan.specs.Deeds.{raised}
use Rattle.zo_lease.specs.Words.{noted_word, counter_word}
use Rattle.zo_plan.specs.Operands.{real, pair_of, pairs_of}
use Rattle.zo_laws.specs.Stores.{after_stores}
use Rattle.zo_plan.specs.Runs.{early, looks, store_of, prepared, raises, notes, from_settling, dues_of}

-- the memory after an action of a thread, where the counter loaded last was `seen`
abbrev pub done_by : ℕ → ℕ → Deed → List Word → List Word
done_by thread seen (Store addr word mark) words = store_at addr word words
done_by thread seen (Count addr) words = words
done_by thread seen (Raise addr) words = store_at addr (raised seen) words
done_by thread seen (Look held) words = words
done_by thread seen (Flush addr) words = flush_at thread addr words
done_by thread seen Fence words = fence_by thread words

-- the counter loaded last, after it
abbrev pub counted_by : ℕ → Deed → List Word → ℕ
counted_by seen (Count addr) words = (word_at words addr).present
counted_by seen deed words = seen

-- The word at the address keeps its present value. As many older values may have gone as the thread's mark has sunk by.
pub record Spares (thread addr : ℕ) (before after : List Word) : Type 0 where
  pub len : length after ≡ length before
  pub present : (word_at after addr).present ≡ (word_at before addr).present
  pub gone : ℕ
  pub older : (word_at after addr).older ≡ drop gone (word_at before addr).older
  pub marks : mark_at (word_at after addr).marks thread ≡ mark_at (word_at before addr).marks thread - gone

-- so other threads leave it that don't store there
pub record OthersLaw : Type 0 where
  pub nothing : (thread addr : ℕ) (words : List Word) → Spares thread addr words words
  pub store : (thread addr other word : ℕ) (words : List Word) → other / 8 ≢ addr / 8 → Spares thread addr words (store_at other word words)
  pub flush : (thread addr another line : ℕ) (words : List Word) → another ≢ thread → Spares thread addr words (flush_at another line words)
  pub fence : (thread addr another : ℕ) (words : List Word) → Spares thread addr words (fence_by another words)
  pub both : (thread addr : ℕ) (before between after : List Word) → Spares thread addr before between → Spares thread addr between after → Spares thread addr before after

-- A thread makes these actions, in order. Before each of them, and after the last one, others may do what spares the word.
abbrev pub Goes : ℕ → ℕ → ℕ → List Due → List Word → List Word → Type 0
Goes thread addr seen [] before after = Spares thread addr before after
Goes thread addr seen (d ∷ left) before after =
    (between : List Word) × Spares thread addr before between × Goes thread addr (counted_by seen d.deed between) left (done_by thread seen d.deed between) after

-- what a run gives before its commit
abbrev pub before_commit : List ℕ → List Held → Plan → List Due
before_commit drawn leases plan = prepared drawn leases leases plan.prepares.items ++ early Fence ∷ (raises leases leases ++ (notes drawn plan leases leases leases ++ looks leases))

-- no note or counter beside a lease has this address
abbrev pub IsAside : ℕ → Held → Type 0
IsAside addr held = (addr / 8 ≢ noted_word held.lease / 8) × (addr / 8 ≢ counter_word held.lease / 8)

abbrev pub IsDurable : ℕ → List Word → Type 0
IsDurable addr words = (word_at words addr).older ≡ []

pub record DurableLaw : Type 0 where
  -- the commit comes directly behind that, and then what makes it durable
  pub order : (drawn : List ℕ) (leases : List Held) (plan : Plan)
      → dues_of drawn leases plan ≡ before_commit drawn leases plan ++ early (store_of drawn mark.Commit plan.commit) ∷ from_settling drawn leases plan
  -- each word that was prepared is durable then
  pub prepared : (thread addr seen : ℕ) (drawn : List ℕ) (leases : List Held) (plan : Plan) (put : Put) (before after : List Word)
      → Contains plan.prepares.items put → addr ≡ real drawn put.at → All (IsAside addr) leases
      → Goes thread addr seen (before_commit drawn leases plan) before after → IsDurable addr after
  -- the commit word is durable once the flush and the fence behind the commit are made, and stays so where no later store goes there
  pub committed : (thread seen count : ℕ) (drawn : List ℕ) (leases : List Held) (plan : Plan) (before after : List Word)
      → 2 ≤ count → All (λ put. real drawn put.at / 8 ≢ real drawn plan.commit.at / 8) plan.after.items
      → Goes thread (real drawn plan.commit.at) seen (take count (from_settling drawn leases plan)) before after → IsDurable (real drawn plan.commit.at) after

-- before the commit the note beside each lease has the address of the commit word
abbrev pub NoteLaw : Type 0
NoteLaw =
    (thread seen : ℕ) (drawn : List ℕ) (leases : List Held) (plan : Plan) (held : Held) (before after : List Word)
    → Contains leases held → noted_word held.lease / 8 < length before
    → Goes thread (noted_word held.lease) seen (before_commit drawn leases plan) before after → (word_at after (noted_word held.lease)).present ≡ real drawn plan.at

-- Before the commit the counter of each lease was raised by 1, where no store that prepares the change goes there, nor lies there the
-- note or the counter of another lease.
abbrev pub CounterLaw : Type 0
CounterLaw =
    (thread seen : ℕ) (drawn : List ℕ) (leases front behind : List Held) (plan : Plan) (held : Held) (before after : List Word)
    → leases ≡ front ++ held ∷ behind → All (IsAside (counter_word held.lease)) front → All (IsAside (counter_word held.lease)) behind
    → All (λ put. real drawn put.at / 8 ≢ counter_word held.lease / 8) plan.prepares.items → counter_word held.lease / 8 < length before
    → Goes thread (counter_word held.lease) seen (before_commit drawn leases plan) before after
    → (word_at after (counter_word held.lease)).present ≡ raised (word_at before (counter_word held.lease)).present

-- The stores among these actions, but for those that raise a counter, each by its address and its word. First, an action in front of
-- such stores.
abbrev pub stores_by : Deed → List (ℕ × ℕ) → List (ℕ × ℕ)
stores_by (Store addr word mark) pairs = (addr, word) ∷ pairs
stores_by deed pairs = pairs

abbrev pub stores_in : List Due → List (ℕ × ℕ)
stores_in [] = []
stores_in (d ∷ dues) = stores_by d.deed (stores_in dues)

-- the notes of a run
abbrev pub note_pairs : List ℕ → List Held → Plan → List (ℕ × ℕ)
note_pairs drawn leases plan = map (λ held. (noted_word held.lease, real drawn plan.at)) leases

pub record StoresLaw : Type 0 where
  -- the stores of a run are those of its plan, in order, with the notes before the commit
  pub stores : (drawn : List ℕ) (leases : List Held) (plan : Plan)
      → stores_in (dues_of drawn leases plan) ≡ pairs_of drawn plan.prepares.items ++ (note_pairs drawn leases plan ++ pair_of drawn plan.commit ∷ pairs_of drawn plan.after.items)
  -- those of its first actions are the first ones of these
  pub first : (count : ℕ) (dues : List Due) → stores_in (take count dues) ≡ take (length (stores_in (take count dues))) (stores_in dues)
  -- after its first actions each word that is no counter beside a lease is as these stores leave it
  pub word : (thread addr seen count : ℕ) (drawn : List ℕ) (leases : List Held) (plan : Plan) (at : ℕ → ℕ) (before after : List Word)
      → All (IsAside addr) leases → addr / 8 < length before → (word_at before addr).present ≡ at addr
      → Goes thread addr seen (take count (dues_of drawn leases plan)) before after
      → (word_at after addr).present ≡ after_stores at (stores_in (take count (dues_of drawn leases plan))) addr
