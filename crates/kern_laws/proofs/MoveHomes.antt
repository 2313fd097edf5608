-- What a row commits can be committed: its pairs are for words of the image behind the journal, and there is room for them.
use Rattle.std.proofs.Common.{◌≢◌, ℕ, ◌+◌, ◌/◌, ◌<◌, ◌≤◌, cond, List, [], ◌∷◌, ◌++◌, length, arith, suc, nat_eq}
use Rattle.std.specs.Prelude.{All, nat_lt, fold}
use Rattle.std.proofs.lemmas.Bool.{cond_both}
use Rattle.std.proofs.lemmas.List.Elements.{All-weaker, All-append}
use Rattle.zo_layout.specs.Layout.{page_at, kernel_pages, owner_table, coffer_table, committed_word, pair_capacity, signature_word, version_word, count_word}
use Rattle.pm_words.specs.Word.{Word}
use Rattle.pm_words.specs.Memory.{HasPages}
use Rattle.kern_model.specs.KernelView.{pages_of}
use Rattle.kern_model.specs.Journal.{IsHome}
use Rattle.kern_model.specs.JournalLaws.{IsDurable}
use Rattle.kern_model.specs.KernelCalls.{put_pair}
use Rattle.kern_model.specs.Commits.{MayCommit}
use Rattle.kern_laws.proofs.MoveReads.{IsBetween, IsOwnerPlace, IsCofferPlace, IsOuterPlace, AreParts}

-- a word of the image behind the journal
abbrev pub IsPlace : ℕ → ℕ → Type 0
IsPlace pages addr = IsBetween (page_at (owner_table pages)) (page_at pages) addr

kernel_fits : (pages : ℕ) → 64 ≤ pages → kernel_pages pages ≤ pages
kernel_fits pages least = omega arith

wider : (low high less more addr : ℕ) → less ≤ low → high ≤ more → IsBetween low high addr → IsBetween less more addr
wider low high less more addr le ge place = let least = place.least in let below = place.below in record { whole = place.whole; least = omega arith; below = omega arith }

owners_first : (pages : ℕ) → page_at (owner_table pages) ≤ page_at (coffer_table pages)
owners_first pages = omega arith

coffers_next : (pages : ℕ) → page_at (coffer_table pages) ≤ page_at (kernel_pages pages)
coffers_next pages = omega arith

pub all_placed : (pages : ℕ) (owners entries others : List (ℕ × ℕ)) → 64 ≤ pages → AreParts pages owners entries others → All (λ (p : ℕ × ℕ). IsPlace pages p.0) (owners ++ (entries ++ others))
all_placed pages owners entries others least parts =
    All-append (λ (p : ℕ × ℕ). IsPlace pages p.0) owners (entries ++ others)
    (All-weaker (λ (p : ℕ × ℕ). IsOwnerPlace pages p.0) (λ (p : ℕ × ℕ). IsPlace pages p.0)
    (λ p place. wider (page_at (owner_table pages)) (page_at (coffer_table pages)) (page_at (owner_table pages)) (page_at pages) p.0 (omega arith) (omega arith) place) owners parts.owners)
    (All-append (λ (p : ℕ × ℕ). IsPlace pages p.0) entries others
    (All-weaker (λ (p : ℕ × ℕ). IsCofferPlace pages p.0) (λ (p : ℕ × ℕ). IsPlace pages p.0)
    (λ p place. wider (page_at (coffer_table pages)) (page_at (kernel_pages pages)) (page_at (owner_table pages)) (page_at pages) p.0 first (omega arith) place) entries parts.entries)
    (All-weaker (λ (p : ℕ × ℕ). IsOuterPlace pages p.0) (λ (p : ℕ × ℕ). IsPlace pages p.0)
    (λ p place. wider (page_at (kernel_pages pages)) (page_at pages) (page_at (owner_table pages)) (page_at pages) p.0 (omega arith) (omega arith) place) others parts.others))
  where
    first : page_at (owner_table pages) ≤ page_at (coffer_table pages)
    first = owners_first pages

    next : page_at (coffer_table pages) ≤ page_at (kernel_pages pages)
    next = coffers_next pages

    fits : kernel_pages pages ≤ pages
    fits = kernel_fits pages least

place_home : (count addr : ℕ) → HasPages count → IsPlace (count / 512) addr → IsHome count addr
place_home count addr size place =
    let whole = size.whole in
    let least = place.least in
    let below = place.below in
    record { inside = record { aligned = place.whole; inside = omega arith }; outside = λ _. least }

-- no more pairs in order than there were
put_length : (qs : List (ℕ × ℕ)) (p : ℕ × ℕ) → length (put_pair qs p) ≤ suc (length qs)
put_length [] p = omega arith
put_length (q ∷ qs) p =
    cond_both (nat_eq p.0 q.0) (p ∷ qs) (cond (nat_lt p.0 q.0) (p ∷ q ∷ qs) (q ∷ put_pair qs p)) (λ (ps : List (ℕ × ℕ)). length ps ≤ suc (suc (length qs))) (λ _. omega arith)
    (λ _. cond_both (nat_lt p.0 q.0) (p ∷ q ∷ qs) (q ∷ put_pair qs p) (λ (ps : List (ℕ × ℕ)). length ps ≤ suc (suc (length qs))) (λ _. omega arith)
    (λ _. let more = put_length qs p in omega arith))

order_length : (acc ps : List (ℕ × ℕ)) → length (fold put_pair acc ps) ≤ length acc + length ps
order_length acc [] = omega arith
order_length acc (p ∷ ps) = let rest = order_length (put_pair acc p) ps in let one = put_length acc p in omega arith

room : (pages count : ℕ) → count ≤ pages + 512 → count ≤ pair_capacity pages
room pages count few = omega arith

pub may_commit : (words : List Word) (granted : List ℕ) (pairs : List (ℕ × ℕ)) → HasPages (length words) → IsDurable words committed_word 0
    → All (λ page. kernel_pages (pages_of words) ≤ page) granted → All (λ page. page < pages_of words) granted
    → All (λ (p : ℕ × ℕ). IsPlace (pages_of words) p.0) pairs → length pairs ≤ pages_of words + 512 → MayCommit words granted pairs
may_commit words granted pairs size idle behind inside places few = record {
  size = size;
  idle = idle;
  pages = λ k d lt. record { past = behind k d lt; inside = inside k d lt };
  homes = All-weaker (λ (p : ℕ × ℕ). IsPlace (pages_of words) p.0) (λ (p : ℕ × ℕ). IsHome (length words) p.0) (λ p place. place_home (length words) p.0 size place) pairs places;
  room = let most = order_length [] pairs in let enough = room (pages_of words) (length pairs) few in omega arith;
}

place_spares : (pages addr : ℕ) → IsPlace pages addr → (addr ≢ signature_word) × (addr ≢ version_word) × (addr ≢ count_word)
place_spares pages addr place = let least = place.least in (λ e. omega arith, λ e. omega arith, λ e. omega arith)

pub all_spare : (pages : ℕ) (pairs : List (ℕ × ℕ)) → All (λ (p : ℕ × ℕ). IsPlace pages p.0) pairs
    → All (λ (p : ℕ × ℕ). (p.0 ≢ signature_word) × (p.0 ≢ version_word) × (p.0 ≢ count_word)) pairs
all_spare pages pairs places =
    All-weaker (λ (p : ℕ × ℕ). IsPlace pages p.0) (λ (p : ℕ × ℕ). (p.0 ≢ signature_word) × (p.0 ≢ version_word) × (p.0 ≢ count_word)) (λ p place. place_spares pages p.0 place) pairs places
