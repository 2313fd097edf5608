-- What the operands of a plan stand for once its pages are drawn.
use Rattle.std.specs.Prelude.{ℕ, ◌+◌, ◌<◌, ◌^◌, List, map, slice_index}
use Rattle.zo_layout.specs.Layout.{page_at, word_of}
use Rattle.zo_plan.specs.declared.plan.Operand.{Operand}
use Rattle.zo_plan.specs.declared.plan.Operand.TheVariants.{Known, Drawn}
use Rattle.zo_plan.specs.declared.plan.Put.{Put}

-- the word or the address that an operand stands for, where these pages are drawn
abbrev pub real : List ℕ → Operand → ℕ
real drawn (Known word) = word
real drawn (Drawn page byte) = page_at (slice_index drawn page) + byte

-- word i of what begins there
abbrev pub word_behind : Operand → ℕ → Operand
word_behind (Known start) i = Known (word_of start i)
word_behind (Drawn page byte) i = Drawn page (word_of byte i)

-- words behind it have addresses that don't wrap
abbrev pub IsNear : Operand → Type 0
IsNear (Known start) = start < 2 ^ 60
IsNear (Drawn page byte) = byte < 2 ^ 31

-- a store, as an address and its word
abbrev pub pair_of : List ℕ → Put → ℕ × ℕ
pair_of drawn put = (real drawn put.at, real drawn put.word)

abbrev pub pairs_of : List ℕ → List Put → List (ℕ × ℕ)
pairs_of drawn puts = map (pair_of drawn) puts
