-- What reading an image answers.
use Rattle.std.specs.Prelude.{◌≡◌, ◌≢◌, ℕ, ◌*◌, ◌/◌, ◌%◌, ◌<◌, ◌≤◌, List, length, drop, map, ◌⊎◌}
use Rattle.std.specs.List.{range_with_len}
use Rattle.std.specs.declared.result.Result.{Result}
use Rattle.std.specs.declared.result.Result.TheVariants.{Ok, Err}
use Rattle.std.specs.declared.option.Option.{Option}
use Rattle.byteorder.specs.Endian.{little_number}
use Rattle.tr_outside.specs.Whole.{ReadsUpTo}
use Rattle.tr_outside.specs.declared.image_fault.ImageFault.{ImageFault}
use Rattle.tr_outside.specs.declared.image_fault.ImageFault.TheVariants as fault

-- each word from its 8 bytes, the lowest first
abbrev pub image_words : List ℕ → List ℕ
image_words bytes = map (λ i. little_number 8 (drop (8 * i) bytes)) (range_with_len 0 (length bytes / 8))

-- an image has this many bytes: 64 to 16,384 whole pages of 4,096 bytes
pub record IsLength (len : ℕ) : Type 0 where
  pub least : 262144 ≤ len
  pub most : len ≤ 67108864
  pub whole : len % 4096 ≡ 0

-- why no image has this many bytes: the first that holds
abbrev pub IsFaultOf : ℕ → ImageFault → Type 0
IsFaultOf len (fault.TooShort count) = (count ≡ len) × (len < 262144)
IsFaultOf len (fault.TooLong count) = (count ≡ len) × (67108864 < len)
IsFaultOf len (fault.NotWhole count) = (count ≡ len) × (262144 ≤ len) × (len ≤ 67108864) × (len % 4096 ≢ 0)
IsFaultOf len fault.ReadFault = ⊥
IsFaultOf len fault.NoMemory = ⊥

-- the answer to these bytes: their words exactly where they are whole pages, and else why not; or memory ran out
abbrev pub AnswersBytes : List ℕ → Result (List ℕ) ImageFault → Type 0
AnswersBytes bytes (Ok words) = IsLength (length bytes) × (words ≡ image_words bytes)
AnswersBytes bytes (Err error) = (error ≡ fault.NoMemory) ⊎ IsFaultOf (length bytes) error

-- the answer to a source: where no read failed and memory sufficed, that to the bytes that it had left, of which no more than one past the largest image were read
abbrev pub AnswersImage : Option (List ℕ) → Option (List ℕ) → Result (List ℕ) ImageFault → Type 0
AnswersImage old new result = result ≢ Err fault.ReadFault → result ≢ Err fault.NoMemory → (bytes : List ℕ) × ReadsUpTo 67108865 old new bytes × AnswersBytes bytes result
