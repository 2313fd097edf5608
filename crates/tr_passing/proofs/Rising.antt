-- What an entry leaves of the places of words, and what holds in every world.
use Rattle.tr_passing.specs.Units.{Goes}
use Rattle.std.proofs.Common.{◌≡◌, ℕ, ◌+◌, ◌/◌, ◌<◌, ◌≤◌, ◌==◌, Bool, true, false, cond, if◌then◌else◌, List, [], ◌∷◌, ◌++◌, length, drop, get_or, set, sym, ap, subst, ◌∙◌, inl, inr, ◌⊎◌, arith, get_or-set_same, get_or-set_other}
use Rattle.std.specs.List.{enumerate_from}
use Rattle.std.proofs.lemmas.Bool.{cases_eq, cases_lt, cond_both, eq-eqb, ne_eqb}
use Rattle.std.proofs.lemmas.List.{get_or_past, get_or-map, length-drop, length-map, length-set, length-append}
use Rattle.std.proofs.lemmas.List.FromFn.{get_or-enumerate_from, length-enumerate_from}
use Rattle.pm_words.specs.Marks.{mark_at}
use Rattle.pm_words.specs.Word.{Word, settled, stored, flushed, fenced}
use Rattle.pm_words.specs.Memory.{word_at, store_at, cas_at, flush_at, fence_by, each_word}
use Rattle.bus_model.specs.Machine.{Bus, HasText, acted, callers_of}
use Rattle.tr_types.specs.declared.action.Action.{Action}
use Rattle.tr_types.specs.declared.action.Action.TheVariants.{Load, Store, Cas, Flush, Fence, Pkru, Kernel}
use Rattle.tr_types.specs.declared.action.Answer.{Answer}
use Rattle.tr_types.specs.declared.action.Answer.TheVariants.{Word as WordIs, Done, Kern}
use Rattle.tr_types.specs.declared.entry.Entry.{Entry}
use Rattle.tr_types.specs.declared.entry.Entry.TheVariants as entry
use Rattle.tr_replay.specs.Worlds.{Base, base_after, raised, is_change, is_done, address_of}
use Rattle.tr_passing.specs.Laws.{IsTidy, FloorRises}
use Rattle.tr_passing.proofs.Shrinks.{call_shorter}

older_at : List Word → ℕ → ℕ
older_at words addr = length (word_at words addr).older

-- a word's history comes to have so many values more, and no more of them are older ones that a crash may leave
pub record Steps (words after : List Word) (tops tops' : ℕ → ℕ) (addr : ℕ) : Type 0 where
  pub more : ℕ
  pub tops_are : tops' addr ≡ tops addr + more
  pub older : length (word_at after addr).older ≤ length (word_at words addr).older + more

nothing_more : (words : List Word) (tops : ℕ → ℕ) (addr : ℕ) → Steps words words tops tops addr
nothing_more words tops addr = record { more = 0; tops_are = omega arith; older = omega arith }

store_steps : (words : List Word) (tops : ℕ → ℕ) (at value addr : ℕ) → Steps words (store_at at value words) tops (raised true at tops) addr
store_steps words tops at value addr = by (cases_eq (addr / 8) (at / 8)) (cases_lt (addr / 8) (length words))
  where
    new : Word
    new = stored value (word_at words at)

    by : (addr / 8 ≡ at / 8) ⊎ (addr / 8 ≡ at / 8 → ⊥) → (addr / 8 < length words) ⊎ (length words ≤ addr / 8) → Steps words (store_at at value words) tops (raised true at tops) addr
    by (inl e) (inl lt) =
        let there : get_or (set words (at / 8) new) (addr / 8) (settled 0) ≡ new =
        ap (λ (k : ℕ). get_or (set words (at / 8) new) k (settled 0)) e ∙ get_or-set_same words (at / 8) new (settled 0) (let l : at / 8 < length words = omega (arith, lt, e) in l) in
        let size : length (word_at (store_at at value words) addr).older ≡ length ((word_at words at).older ++ (word_at words at).present ∷ []) = ap (λ (w : Word). length w.older) there in
        let long = length-append (word_at words at).older ((word_at words at).present ∷ []) in
        let same : length (word_at words at).older ≡ length (word_at words addr).older = ap (λ (k : ℕ). length (get_or words k (settled 0)).older) (sym e) in
        record { more = 1; tops_are = ap (λ (b : Bool). if b then tops addr + 1 else tops addr) (eq-eqb (addr / 8) (at / 8) e); older = omega (arith, size, long, same) }
    by (inl e) (inr le) =
        let len = length-set words (at / 8) new in
        let none : length (word_at (store_at at value words) addr).older ≡ 0 = ap (λ (w : Word). length w.older) (get_or_past (set words (at / 8) new) (addr / 8) (settled 0) (omega (arith, len, le))) in
        record { more = 1; tops_are = ap (λ (b : Bool). if b then tops addr + 1 else tops addr) (eq-eqb (addr / 8) (at / 8) e); older = omega (arith, none) }
    by (inr ne) range =
        let same : length (word_at (store_at at value words) addr).older ≡ length (word_at words addr).older = ap (λ (w : Word). length w.older) (get_or-set_other words (at / 8) (addr / 8) new (settled 0) ne) in
        record { more = 0; tops_are = ap (λ (b : Bool). if b then tops addr + 1 else tops addr) (ne_eqb (addr / 8) (at / 8) ne) ∙ (let z : tops addr ≡ tops addr + 0 = omega arith in z); older = omega (arith, same) }

cas_steps : (words : List Word) (tops : ℕ → ℕ) (at old new addr : ℕ) → Steps words (cas_at at old new words) tops (raised ((word_at words at).present == old) at tops) addr
cas_steps words tops at old new addr = by ((word_at words at).present == old)
  where
    by : (b : Bool) → Steps words (cond b (store_at at new words) words) tops (raised b at tops) addr
    by true = store_steps words tops at new addr
    by false = nothing_more words tops addr

-- each word changed such that it has no more older values
each_older : (f : ℕ → Word → Word) → ((k : ℕ) (w : Word) → length (f k w).older ≤ length w.older) → (words : List Word) (addr : ℕ) → length (word_at (each_word f words) addr).older ≤ length (word_at words addr).older
each_older f less words addr = by (cases_lt (addr / 8) (length words))
  where
    by : (addr / 8 < length words) ⊎ (length words ≤ addr / 8) → length (word_at (each_word f words) addr).older ≤ length (word_at words addr).older
    by (inl lt) =
        let size = length-enumerate_from 0 words in
        let place : 0 + addr / 8 ≡ addr / 8 = omega arith in
        let is : get_or (each_word f words) (addr / 8) (settled 0) ≡ f (0 + addr / 8) (get_or words (addr / 8) (settled 0)) =
        get_or-map (λ (p : ℕ × Word). f p.0 p.1) (enumerate_from 0 words) (addr / 8) (0, settled 0) (settled 0) (omega (arith, size, lt))
        ∙ ap (λ (p : ℕ × Word). f p.0 p.1) (get_or-enumerate_from 0 words (addr / 8) (0, settled 0) lt) in
        let older : length (word_at (each_word f words) addr).older ≡ length (f (0 + addr / 8) (word_at words addr)).older = ap (λ (w : Word). length w.older) is in
        let le = less (0 + addr / 8) (word_at words addr) in
        omega (arith, older, le)
    by (inr le) =
        let size = length-enumerate_from 0 words in
        let len = length-map (enumerate_from 0 words) (λ (p : ℕ × Word). f p.0 p.1) in
        let none : length (word_at (each_word f words) addr).older ≡ 0 = ap (λ (w : Word). length w.older) (get_or_past (each_word f words) (addr / 8) (settled 0) (omega (arith, len, size, le))) in
        omega (arith, none)

flush_steps : (words : List Word) (tops : ℕ → ℕ) (thread at addr : ℕ) → Steps words (flush_at thread at words) tops tops addr
flush_steps words tops thread at addr =
    let less = each_older (λ place w. if place / 8 == at / 64 then flushed thread w else w) (λ k w. cond_both (k / 8 == at / 64) (flushed thread w) w (λ (x : Word). length x.older ≤ length w.older) (λ e. omega arith) (λ e. omega arith)) words addr in
    record { more = 0; tops_are = omega arith; older = omega (arith, less) }

fence_steps : (words : List Word) (tops : ℕ → ℕ) (thread addr : ℕ) → Steps words (fence_by thread words) tops tops addr
fence_steps words tops thread addr = by (cases_lt (addr / 8) (length words))
  where
    by : (addr / 8 < length words) ⊎ (length words ≤ addr / 8) → Steps words (fence_by thread words) tops tops addr
    by (inl lt) =
        let w = word_at words addr in
        let is : length (word_at (fence_by thread words) addr).older ≡ length (drop (mark_at w.marks thread) w.older) = ap (λ (x : Word). length x.older) (get_or-map (fenced thread) words (addr / 8) (settled 0) (settled 0) lt) in
        let size = length-drop (mark_at w.marks thread) w.older in
        record { more = 0; tops_are = omega arith; older = omega (arith, is, size) }
    by (inr le) =
        let len = length-map words (fenced thread) in
        let none : length (word_at (fence_by thread words) addr).older ≡ 0 = ap (λ (w : Word). length w.older) (get_or_past (fence_by thread words) (addr / 8) (settled 0) (omega (arith, len, le))) in
        record { more = 0; tops_are = omega arith; older = omega (arith, none) }

act_steps : (bus : Bus) (tops : ℕ → ℕ) (thread now : ℕ) (action : Action) (given : Answer) (addr : ℕ) → HasText bus thread now action given
    → Steps bus.words (acted thread now action given bus) tops (raised (is_change action given) (address_of action) tops) addr
act_steps bus tops thread now (Store at word) Done addr has = store_steps bus.words tops at word addr
act_steps bus tops thread now (Store at word) given addr has = nothing_more bus.words tops addr
act_steps bus tops thread now (Cas at old new) (WordIs x) addr has =
    subst (λ (y : ℕ). Steps bus.words (cas_at at old new bus.words) tops (raised (y == old) at tops) addr) (sym has.1) (cas_steps bus.words tops at old new addr)
act_steps bus tops thread now (Cas at old new) given addr has = nothing_more bus.words tops addr
act_steps bus tops thread now (Flush at) Done addr has = flush_steps bus.words tops thread at addr
act_steps bus tops thread now (Flush at) given addr has = nothing_more bus.words tops addr
act_steps bus tops thread now Fence Done addr has = fence_steps bus.words tops thread addr
act_steps bus tops thread now Fence given addr has = nothing_more bus.words tops addr
act_steps bus tops thread now (Kernel kcall) (Kern given) addr has =
    let less = call_shorter (callers_of bus) bus.words bus.holders thread now kcall addr in record { more = 0; tops_are = omega arith; older = omega (arith, less) }
act_steps bus tops thread now (Kernel kcall) given addr has = nothing_more bus.words tops addr
act_steps bus tops thread now (Load at) given addr has = nothing_more bus.words tops addr
act_steps bus tops thread now (Pkru pkru) given addr has = nothing_more bus.words tops addr

stray_steps : (bus : Bus) (tops : ℕ → ℕ) (thread at word : ℕ) (given : Answer) (addr : ℕ)
    → Steps bus.words (acted thread 0 (Store at word) given bus) tops (raised (is_done given) at tops) addr
stray_steps bus tops thread at word Done addr = store_steps bus.words tops at word addr
stray_steps bus tops thread at word given addr = nothing_more bus.words tops addr

-- what an entry leaves of a word's place
pub entry_steps : (b : Base) (e : Entry) → Goes b.machine e → (addr : ℕ) → Steps b.machine.bus.words (base_after b e).machine.bus.words b.tops (base_after b e).tops addr
entry_steps b (entry.Act thread now m action given) fits addr = act_steps b.machine.bus b.tops thread now action given addr fits.2
entry_steps b (entry.Stray thread at word given) fits addr = stray_steps b.machine.bus b.tops thread at word given addr
entry_steps b (entry.Mkfs pages) fits addr = nothing_more b.machine.bus.words b.tops addr
entry_steps b (entry.Process process cred) fits addr = nothing_more b.machine.bus.words b.tops addr
entry_steps b (entry.Thread thread process) fits addr = nothing_more b.machine.bus.words b.tops addr
entry_steps b (entry.Call thread command) fits addr = nothing_more b.machine.bus.words b.tops addr
entry_steps b (entry.Reply thread reply) fits addr = nothing_more b.machine.bus.words b.tops addr
entry_steps b (entry.Tick n) fits addr = nothing_more b.machine.bus.words b.tops addr
entry_steps b e fits addr = absurd fits

pub floor_rises : FloorRises
floor_rises b e tidy fits addr =
    let s = entry_steps b e fits addr in
    let tops = s.tops_are in
    let older = s.older in
    let low = tidy.low addr in
    omega (arith, tops, older, low)

pub tops_rise : (b : Base) (e : Entry) → Goes b.machine e → (addr : ℕ) → b.tops addr ≤ (base_after b e).tops addr
tops_rise b e fits addr = let s = entry_steps b e fits addr in let tops = s.tops_are in omega (arith, tops)

pub low_after : (b : Base) (e : Entry) → IsTidy b → Goes b.machine e → (addr : ℕ) → length (word_at (base_after b e).machine.bus.words addr).older ≤ (base_after b e).tops addr
low_after b e tidy fits addr =
    let s = entry_steps b e fits addr in
    let tops = s.tops_are in
    let older = s.older in
    let low = tidy.low addr in
    omega (arith, tops, older, low)
