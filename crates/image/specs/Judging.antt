-- Which byte strings are images, and why the others are refused: the first failing test decides, then its first failing
-- place. Assumes nothing.
use Rattle.std.specs.Prelude.{ℕ, ◌+◌, ◌-◌, ◌*◌, ◌/◌, Bool, cond, not, ◌&&◌, ◌||◌, List, length, Some, None, Ok, Err, Option, Result, ◌==◌, nat_le, nat_lt, slice_index_or}
use Rattle.std.specs.Option.{option_map}
use Rattle.image.specs.declared.kind.Kind.{Kind}
use Rattle.image.specs.declared.refusal.Refusal.{Refusal}
use Rattle.image.specs.declared.refusal.Refusal.TheVariants.{Length, Header, Pair, Section, Value}
use Rattle.image.specs.Bytes.{number_at}
use Rattle.image.specs.Format.{
  kind_of,
  pairs_of,
  header_end,
  least_length,
  greatest_length,
  bounds_of,
  too_many_bits,
  section_at,
  section_size,
  size_fits,
  cell_of,
  width_of,
  value_at,
  allowed,
}
use Rattle.search.specs.First.{first, lowest}

-- The image is neither too short nor too long.
abbrev pub right_length : List ℕ → Bool
right_length bs = nat_le (least_length (kind_of bs)) (length bs) && nat_le (length bs) greatest_length

-- Where header number h stands, counted from 0 after the kind.
abbrev pub number_offset : ℕ → ℕ
number_offset h = 2 + 2 * h

-- Header number h is below its least value or above its greatest, or makes too many bits.
abbrev pub number_bad : Kind → List ℕ → ℕ → Bool
number_bad k bs h =
    nat_lt (number_at bs (number_offset h)) (slice_index_or (bounds_of k) h (0, 0)).0
    || (nat_lt (slice_index_or (bounds_of k) h (0, 0)).1 (number_at bs (number_offset h)) || too_many_bits k bs h)

-- The offset of the first header number that is out of range.
abbrev pub bad_number : Kind → List ℕ → Option ℕ
bad_number k bs = option_map number_offset (lowest 5 (number_bad k bs))

-- Where section i may begin at the earliest: at the end of the header, or of the section before it, which lies after the header.
abbrev pub earliest_start : Kind → List ℕ → ℕ → ℕ
earliest_start k bs i = cond (i == 0) (header_end k) (section_at bs (i - 1) + section_size bs (i - 1))

-- Section i begins too early, or ends past the image.
abbrev pub misplaced : Kind → List ℕ → ℕ → Bool
misplaced k bs i = nat_lt (section_at bs i) (earliest_start k bs i) || nat_lt (length bs) (section_at bs i + section_size bs i)

-- The first pair whose section is misplaced.
abbrev pub misplaced_pair : Kind → List ℕ → Option ℕ
misplaced_pair k bs = lowest (pairs_of k) (misplaced k bs)

-- Section i has a length that it may not have.
abbrev pub wrong_length : Kind → List ℕ → ℕ → Bool
wrong_length k bs i = not (size_fits k bs i)

-- The first section of a wrong length, by its pair.
abbrev pub section_of_wrong_length : Kind → List ℕ → Option ℕ
section_of_wrong_length k bs = lowest (pairs_of k) (wrong_length k bs)

-- Where cell c of section i stands.
abbrev pub cell_offset : Kind → List ℕ → ℕ → ℕ → ℕ
cell_offset k bs i c = section_at bs i + width_of k i * c

-- Cell c of section i holds what it may not.
abbrev pub cell_bad : Kind → List ℕ → ℕ → ℕ → Bool
cell_bad k bs i c = not (allowed (cell_of k i c) bs (value_at (cell_of k i c) bs (cell_offset k bs i c)))

-- The offset of the first bad cell of section i.
abbrev pub bad_cell : Kind → List ℕ → ℕ → Option ℕ
bad_cell k bs i = option_map (cell_offset k bs i) (lowest (section_size bs i / width_of k i) (cell_bad k bs i))

-- The offset of the first value that is not allowed, sections in order.
abbrev pub bad_value : Kind → List ℕ → Option ℕ
bad_value k bs = first (pairs_of k) (bad_cell k bs)

-- Refused at the place that a test found, and otherwise as the later tests say.
abbrev pub refused_at : Option ℕ → (ℕ → Refusal) → Result Kind Refusal → Result Kind Refusal
refused_at (Some n) refusal later = Err (refusal n)
refused_at None refusal later = later

-- What is said of an image of right length: an unknown kind is refused at offset 0.
abbrev pub judged_as : Option Kind → List ℕ → Result Kind Refusal
judged_as None bs = Err (Header 0)
judged_as (Some k) bs =
    refused_at (bad_number k bs) Header (refused_at (misplaced_pair k bs) Pair (refused_at (section_of_wrong_length k bs) Section
    (refused_at (bad_value k bs) Value (Ok k))))

-- What is said of any byte string: its kind if it is an image, and else why it is refused.
abbrev pub judged : List ℕ → Result Kind Refusal
judged bs = cond (right_length bs) (judged_as (kind_of bs) bs) (Err Length)
