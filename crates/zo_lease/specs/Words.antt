-- The word of a lease, and where the words beside it stand.
use Rattle.std.specs.Prelude.{ℕ, ◌+◌, ◌-◌, ◌*◌, ◌/◌, ◌%◌, ◌^◌, Bool, not, Option, Some, None, if◌then◌else◌, ◌==◌, ◌&&◌, ◌||◌, nat_lt}
use Rattle.zo_layout.specs.Layout.{word_of}

-- the last tick of the clock
abbrev pub last_tick : ℕ
last_tick = 4294966295

-- The word by which a thread holds a lease up to a tick: its number and 1 in bits 0 to 15, the tick in bits 32 to 63.
abbrev pub lease_word : ℕ → ℕ → ℕ
lease_word thread expiry = expiry * 2 ^ 32 + thread + 1

-- the word by which a thread takes a lease that last acted at this tick
abbrev pub own_word : ℕ → ℕ → ℕ
own_word thread tick = lease_word thread (tick + 1000)

abbrev pub holder_of : ℕ → Option ℕ
holder_of word = if word % 65536 == 0 then None else Some (word % 65536 - 1)

-- the last tick at which a lease of this word holds
abbrev pub expiry_of : ℕ → ℕ
expiry_of word = word / 2 ^ 32

abbrev pub is_expired : ℕ → ℕ → Bool
is_expired word now = nat_lt (expiry_of word) now

-- the lease can be taken: it is free, or has expired
abbrev pub is_open : ℕ → ℕ → Bool
is_open word now = (word == 0) || is_expired word now

-- the lease is this one's, and holds still
abbrev pub is_kept : ℕ → ℕ → ℕ → Bool
is_kept own word now = (word == own) && not (is_expired word now)

-- Beside the lease of a directory or of a control page stand the noted address and then the counter, beside a pool's the
-- address of the pool's first free page.
abbrev pub noted_word : ℕ → ℕ
noted_word lease = word_of lease 1

abbrev pub counter_word : ℕ → ℕ
counter_word lease = word_of lease 2

abbrev pub head_word : ℕ → ℕ
head_word lease = word_of lease 1
