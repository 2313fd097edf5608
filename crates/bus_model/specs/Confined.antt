-- Confinement: by what a word of the memory changes.
use Rattle.std.specs.Prelude.{◌≡◌, ◌≢◌, ℕ, ◌/◌, Contains, None}
use Rattle.pm_words.specs.Memory.{word_at}
use Rattle.kern_model.specs.KernelView.{value}
use Rattle.kern_model.specs.Inner.{IsStoreTo}
use Rattle.kern_model.specs.KernelCalls.{inner_of}
use Rattle.kern_model.specs.declared.inner.Inner.{Inner}
use Rattle.bus_model.specs.Machine.{Bus, Machine, callers_of, crashed, moved, store_refusal}
use Rattle.tr_types.specs.declared.action.Action.TheVariants.{Store, Cas, Kernel}
use Rattle.tr_types.specs.declared.action.Answer.TheVariants.{Word as WordIs, Done, Kern}
use Rattle.tr_types.specs.declared.entry.Entry.{Entry}
use Rattle.tr_types.specs.declared.entry.Entry.TheVariants as entry

-- The entry may change the word at an address: it is a store to that word, or an exchange there that found the word that it
-- expected, by a thread to which the rights permit a store at that moment, or a kernel call among whose stores, by its row, is one to that word.
-- A crash may give back an earlier value, one of those that it may still leave in that word.
abbrev pub MayChange : Bus → Entry → ℕ → Type 0
MayChange bus (entry.Act thread now mark (Store at word) Done) addr = (at / 8 ≡ addr / 8) × (store_refusal bus thread at ≡ None)
MayChange bus (entry.Act thread now mark (Cas at old new) (WordIs x)) addr = (at / 8 ≡ addr / 8) × (store_refusal bus thread at ≡ None) × (x ≡ old)
MayChange bus (entry.Act thread now mark (Kernel kcall) (Kern answer)) addr =
    (step : Inner) × Contains (inner_of (callers_of bus) bus.words bus.holders thread now kcall) step × IsStoreTo addr step
MayChange bus (entry.Stray thread at word Done) addr = (at / 8 ≡ addr / 8) × (store_refusal bus thread at ≡ None)
MayChange bus (entry.Crash pick) addr = Contains (word_at bus.words addr).older (value (crashed pick bus).words addr)
MayChange bus e addr = ⊥

-- Confinement: a word changes by nothing else.
abbrev pub IsConfined : Machine → Entry → Type 0
IsConfined m e = (addr : ℕ) → value (moved m e).bus.words addr ≢ value m.bus.words addr → MayChange m.bus e addr
