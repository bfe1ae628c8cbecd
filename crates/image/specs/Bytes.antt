-- The numbers of an image. Assumes nothing.
use Rattle.std.specs.Prelude.{ℕ, ◌+◌, ◌*◌, List, slice_index}

-- The byte at an offset; 0 past the end.
abbrev pub byte_at : List ℕ → ℕ → ℕ
byte_at bs at = slice_index bs at

-- The number at an offset: two bytes, low byte first.
abbrev pub number_at : List ℕ → ℕ → ℕ
number_at bs at = byte_at bs at + byte_at bs (at + 1) * 256
