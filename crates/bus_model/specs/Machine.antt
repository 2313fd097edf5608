-- The machine. An entry of a trace is a test on the machine before it (`Fits`) and a total function to the machine
-- after it (`moved`). Cases that no entry has yet are `⊥`.
use Rattle.std.specs.Prelude.{◌≡◌, ℕ, ◌+◌, ◌<◌, ◌≤◌, ◌/◌, ◌%◌, List, [], ◌∷◌, ◌++◌, length, map, slice_index_or, slice_set, Bool, true, false, Contains, Option, Some, None, if◌then◌else◌, ◌==◌, ◌&&◌, nat_lt}
use Rattle.std.specs.List.{range_with_len}
use Rattle.pm_words.specs.Word.{Word}
use Rattle.pm_words.specs.Memory.{word_at, store_at, cas_at, flush_at, fence_by, all_durable, present_values}
use Rattle.pm_words.specs.Crash.{after_crash}
use Rattle.pm_words.specs.declared.choice.Choice.{Choice}
use Rattle.pm_words.specs.declared.choice.Choice.TheVariants as choice
use Rattle.kern_model.specs.NewImage.{new_image}
use Rattle.kern_model.specs.Kernel.{kernel_owner}
use Rattle.kern_model.specs.KernelCalls.{Callers, answer_of, words_after, holders_after, located, IsCall}
use Rattle.kern_model.specs.Rights.{process_of, load_fault, store_fault, closed_pkru}
use Rattle.tr_types.specs.Shown.{shown}
use Rattle.tr_types.specs.declared.action.Action.{Action}
use Rattle.tr_types.specs.declared.action.Action.TheVariants.{Load, Store, Cas, Flush, Fence, Pkru, Kernel}
use Rattle.tr_types.specs.declared.action.Answer.{Answer}
use Rattle.tr_types.specs.declared.action.Answer.TheVariants.{Word as WordIs, Done, Fault, Kern}
use Rattle.tr_types.specs.declared.action.FaultKind.{FaultKind}
use Rattle.tr_types.specs.declared.action.FaultKind.TheVariants.{NotMapped}
use Rattle.tr_types.specs.declared.kernel_call.Kcall.{Kcall}
use Rattle.tr_types.specs.declared.limits.TheConstants.{PROCESSES, THREADS}
use Rattle.tr_types.specs.declared.kernel_call.Holder.{Holder}
use Rattle.tr_types.specs.declared.permission.Cred.{Cred}
use Rattle.tr_types.specs.declared.entry.Pick.{Pick}
use Rattle.tr_types.specs.declared.entry.Pick.TheVariants as pick
use Rattle.tr_types.specs.declared.entry.Entry.{Entry}
use Rattle.tr_types.specs.declared.entry.Entry.TheVariants as entry

-- What threads reach: the memory; everyone who was ever started, each process with its credentials and each thread with
-- its process; who holds which coffer; and each thread's register PKRU, by the thread's number.
pub record Bus : Type 0 where
  pub words : List Word
  pub processes : List (ℕ × Cred)
  pub threads : List (ℕ × ℕ)
  pub holders : List Holder
  pub pkrus : List ℕ

-- The bus, and what has passed on it; times are in ticks.
pub record Machine : Type 0 where
  pub bus : Bus
  -- how many ticks have passed
  pub clock : ℕ
  -- the tick of the latest entry that has one
  pub latest : ℕ
  -- an entry has come
  pub begun : Bool
  -- the processes that have ended, each with its threads
  pub ended : List ℕ
  -- a crash has come, and no recovery since
  pub down : Bool

-- the registers before any thread has opened a key
unfoldable pub closed_pkrus : List ℕ
closed_pkrus = map (λ _. closed_pkru) (range_with_len 0 THREADS)

-- the machine as it opens over an image, all of whose words are durable
abbrev pub bus_over : List ℕ → Bus
bus_over image = record { words = all_durable image; processes = []; threads = []; holders = []; pkrus = closed_pkrus }

abbrev pub opened : List ℕ → Machine
opened image = record { bus = bus_over image; clock = 0; latest = 0; begun = false; ended = []; down = false }

abbrev pub pkru_of : Bus → ℕ → ℕ
pkru_of bus thread = slice_index_or bus.pkrus thread closed_pkru

-- Accesses. A word is at each multiple of 8 inside the memory.

abbrev pub is_word : List Word → ℕ → Bool
is_word words addr = (addr % 8 == 0) && nat_lt (addr / 8) (length words)

-- Why an access is refused to a thread, if it is: where there is no word, or by the rights on the page's coffer.
abbrev pub load_refusal : Bus → ℕ → ℕ → Option FaultKind
load_refusal bus thread addr =
    if is_word bus.words addr then load_fault bus.threads bus.holders thread (pkru_of bus thread) (kernel_owner bus.words (addr / 4096)) else Some NotMapped

abbrev pub store_refusal : Bus → ℕ → ℕ → Option FaultKind
store_refusal bus thread addr =
    if is_word bus.words addr then store_fault bus.threads bus.holders thread (pkru_of bus thread) (kernel_owner bus.words (addr / 4096)) else Some NotMapped

-- a permitted load gives the present word
abbrev pub IsLoaded : Bus → ℕ → ℕ → Answer → Type 0
IsLoaded bus thread addr (WordIs x) = (load_refusal bus thread addr ≡ None) × (x ≡ (word_at bus.words addr).present)
IsLoaded bus thread addr (Fault kind) = load_refusal bus thread addr ≡ Some kind
IsLoaded bus thread addr answer = ⊥

abbrev pub IsStored : Bus → ℕ → ℕ → Answer → Type 0
IsStored bus thread addr Done = store_refusal bus thread addr ≡ None
IsStored bus thread addr (Fault kind) = store_refusal bus thread addr ≡ Some kind
IsStored bus thread addr answer = ⊥

-- A compare-and-exchange needs the right to store, also where it changes nothing. It gives the word that it found.
abbrev pub IsExchanged : Bus → ℕ → ℕ → Answer → Type 0
IsExchanged bus thread addr (WordIs x) = (store_refusal bus thread addr ≡ None) × (x ≡ (word_at bus.words addr).present)
IsExchanged bus thread addr (Fault kind) = store_refusal bus thread addr ≡ Some kind
IsExchanged bus thread addr answer = ⊥

-- A flush of the line that an address is in needs the right to load there.
abbrev pub IsFlushed : Bus → ℕ → ℕ → Answer → Type 0
IsFlushed bus thread addr Done = load_refusal bus thread addr ≡ None
IsFlushed bus thread addr (Fault kind) = load_refusal bus thread addr ≡ Some kind
IsFlushed bus thread addr answer = ⊥

-- The kernel's calls are answered by their rows.

abbrev pub callers_of : Bus → Callers
callers_of bus = record { processes = bus.processes; threads = bus.threads }

-- the number of the coffer that a path lies in
abbrev pub coffer_of : List Word → List ℕ → ℕ
coffer_of words path = (located words path).id

abbrev pub IsCalled : Bus → ℕ → ℕ → Kcall → Answer → Type 0
IsCalled bus thread now kcall (Kern answer) = answer ≡ answer_of (callers_of bus) bus.words bus.holders thread now kcall
IsCalled bus thread now kcall answer = ⊥

-- the machine may answer an action of a thread so
abbrev pub Answers : Bus → ℕ → ℕ → Action → Answer → Type 0
Answers bus thread now (Load addr) answer = IsLoaded bus thread addr answer
Answers bus thread now (Store addr word) answer = IsStored bus thread addr answer
Answers bus thread now (Cas addr old new) answer = IsExchanged bus thread addr answer
Answers bus thread now (Flush addr) answer = IsFlushed bus thread addr answer
Answers bus thread now Fence answer = answer ≡ Done
Answers bus thread now (Pkru pkru) answer = answer ≡ Done
Answers bus thread now (Kernel kcall) answer = IsCalled bus thread now kcall answer

-- an action that a script can write: any but a kernel call that none can
abbrev pub IsAction : Action → Type 0
IsAction (Kernel kcall) = IsCall kcall
IsAction action = Unit {0}

-- The answer has the text of the one that the machine gives: of a kernel's answer a trace that was read has no more.
abbrev pub HasText : Bus → ℕ → ℕ → Action → Answer → Type 0
HasText bus thread now (Kernel kcall) (Kern answer) = shown answer ≡ shown (answer_of (callers_of bus) bus.words bus.holders thread now kcall)
HasText bus thread now action answer = Answers bus thread now action answer

-- the memory after an action that was answered so: a refused access changes nothing
abbrev pub acted : ℕ → ℕ → Action → Answer → Bus → List Word
acted thread now (Store addr word) Done bus = store_at addr word bus.words
acted thread now (Cas addr old new) (WordIs x) bus = cas_at addr old new bus.words
acted thread now (Flush addr) Done bus = flush_at thread addr bus.words
acted thread now Fence Done bus = fence_by thread bus.words
acted thread now (Kernel kcall) (Kern answer) bus = words_after (callers_of bus) bus.words bus.holders thread now kcall
acted thread now action answer bus = bus.words

-- who holds which coffer after it
abbrev pub held : ℕ → ℕ → Action → Answer → Bus → List Holder
held thread now (Kernel kcall) (Kern answer) bus = holders_after (callers_of bus) bus.words bus.holders thread now kcall
held thread now action answer bus = bus.holders

-- the registers after it
abbrev pub registered : ℕ → Action → Answer → List ℕ → List ℕ
registered thread (Pkru pkru) Done pkrus = slice_set pkrus thread pkru
registered thread action answer pkrus = pkrus

-- the bus after an action of a thread that was answered so
abbrev pub bus_after : ℕ → ℕ → Action → Answer → Bus → Bus
bus_after thread now action answer bus = record {
  words = acted thread now action answer bus;
  processes = bus.processes;
  threads = bus.threads;
  holders = held thread now action answer bus;
  pkrus = registered thread action answer bus.pkrus;
}

abbrev pub with_process : ℕ → Cred → Bus → Bus
with_process process cred bus = record { words = bus.words; processes = bus.processes ++ (process, cred) ∷ []; threads = bus.threads; holders = bus.holders; pkrus = bus.pkrus }

abbrev pub with_thread : ℕ → ℕ → Bus → Bus
with_thread thread process bus = record { words = bus.words; processes = bus.processes; threads = bus.threads ++ (thread, process) ∷ []; holders = bus.holders; pkrus = bus.pkrus }

-- A crash.

-- the memory's name for a pick of an entry
abbrev pub choice_of : Pick → Choice
choice_of pick.All = choice.All
choice_of pick.None = choice.None
choice_of (pick.Seed seed) = choice.Seed seed

-- the bus after a crash: each word has the value that was picked, nobody holds a coffer, and all registers are closed
abbrev pub crashed : Pick → Bus → Bus
crashed pick bus = record { words = after_crash (choice_of pick) bus.words; processes = bus.processes; threads = bus.threads; holders = []; pkrus = closed_pkrus }

-- the numbers of the processes that were started
abbrev pub process_numbers : Bus → List ℕ
process_numbers bus = map (λ p. p.0) bus.processes

-- Who was started, and who of these lives: a process until it ends, and its threads with it.

abbrev pub ProcessWasStarted : Bus → ℕ → Type 0
ProcessWasStarted bus process = Contains (process_numbers bus) process

abbrev pub ThreadWasStarted : Bus → ℕ → Type 0
ThreadWasStarted bus thread = Contains (map (λ t. t.0) bus.threads) thread

abbrev pub HasEnded : Machine → ℕ → Type 0
HasEnded m process = Contains m.ended process

abbrev pub ProcessLives : Machine → ℕ → Type 0
ProcessLives m process = ProcessWasStarted m.bus process × (HasEnded m process → ⊥)

abbrev pub ThreadLives : Machine → ℕ → Type 0
ThreadLives m thread = ThreadWasStarted m.bus thread × ((process : ℕ) → process_of m.bus.threads thread ≡ Some process → HasEnded m process → ⊥)

-- each thread that was started has a register
pub record HasRegisters (bus : Bus) : Type 0 where
  pub count : length bus.pkrus ≡ THREADS
  pub small : (t : ℕ) → ThreadWasStarted bus t → t < THREADS

-- the tick isn't below that of an earlier entry, and isn't still to come
abbrev pub IsDue : Machine → ℕ → Type 0
IsDue m now = (m.latest ≤ now) × (now ≤ m.clock)

-- the last tick of the clock
abbrev pub last_tick : ℕ
last_tick = 4294966295

-- the entry may come at this machine
abbrev pub Fits : Machine → Entry → Type 0
-- the first entry alone, over the new image of that many pages
Fits m (entry.Mkfs pages) = (m.begun ≡ false) × (present_values m.bus.words ≡ new_image pages)
-- No number is started twice. From a crash on no process is started, and nothing lives.
Fits m (entry.Process process cred) = (process < PROCESSES) × (ProcessWasStarted m.bus process → ⊥) × (m.down ≡ false)
Fits m (entry.Thread thread process) = (thread < THREADS) × (ThreadWasStarted m.bus thread → ⊥) × ProcessLives m process
Fits m (entry.Call thread command) = ThreadLives m thread
Fits m (entry.Act thread now mark action answer) = ThreadLives m thread × IsDue m now × HasText m.bus thread now action answer
Fits m (entry.Reply thread reply) = ThreadLives m thread
-- a store that the thread's program didn't mean, under the thread's present rights
Fits m (entry.Stray thread addr word answer) = ThreadLives m thread × IsStored m.bus thread addr answer
Fits m (entry.Tick n) = m.clock + n ≤ last_tick
-- also where the machine is down already
Fits m (entry.Crash pick) = Unit {0}
Fits m e = ⊥

-- the bus after the entry
abbrev pub bus_moved : Bus → Entry → Bus
bus_moved bus (entry.Process process cred) = with_process process cred bus
bus_moved bus (entry.Thread thread process) = with_thread thread process bus
bus_moved bus (entry.Act thread now mark action answer) = bus_after thread now action answer bus
bus_moved bus (entry.Stray thread addr word answer) = bus_after thread 0 (Store addr word) answer bus
bus_moved bus (entry.Crash pick) = crashed pick bus
bus_moved bus e = bus

abbrev pub clock_after : ℕ → Entry → ℕ
clock_after clock (entry.Tick n) = clock + n
clock_after clock e = clock

abbrev pub latest_after : ℕ → Entry → ℕ
latest_after latest (entry.Act thread now mark action answer) = now
latest_after latest e = latest

-- a crash ends every process that was started
abbrev pub ended_after : Machine → Entry → List ℕ
ended_after m (entry.Crash pick) = process_numbers m.bus
ended_after m e = m.ended

abbrev pub down_after : Bool → Entry → Bool
down_after down (entry.Crash pick) = true
down_after down e = down

-- the machine after the entry
abbrev pub moved : Machine → Entry → Machine
moved m e = record {
  bus = bus_moved m.bus e;
  clock = clock_after m.clock e;
  latest = latest_after m.latest e;
  begun = true;
  ended = ended_after m e;
  down = down_after m.down e;
}
