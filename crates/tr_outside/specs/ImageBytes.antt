-- The bytes of an image.
use Rattle.std.specs.Prelude.{ℕ, List}
use Rattle.std.specs.List.{flat_map}
use Rattle.byteorder.specs.Endian.{little_bytes}

-- each word as 8 bytes, the lowest first
abbrev pub image_bytes : List ℕ → List ℕ
image_bytes words = flat_map (little_bytes 8) words
