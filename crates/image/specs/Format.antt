-- The shape of an image: its header, its sections and their cells, as each kind has them. Assumes nothing.
use Rattle.std.specs.Prelude.{◌≡◌, ℕ, ◌+◌, ◌*◌, ◌/◌, ◌%◌, ◌^◌, Bool, false, cond, ◌&&◌, ◌||◌, List, [], ◌∷◌, Some, None, Ok, Err, Option, Result, ◌==◌, nat_le, nat_lt, slice_index}
use Rattle.image.specs.declared.cell.Cell.{Cell}
use Rattle.image.specs.declared.cell.Cell.TheVariants.{Flag, Target, Mask, InputMask, AssumptionSet, GuaranteeSet}
use Rattle.image.specs.declared.kind.Kind.{Kind}
use Rattle.image.specs.declared.kind.Kind.TheVariants.{Table, Rules}
use Rattle.image.specs.declared.kind.UnknownKind.{UnknownKind}
use Rattle.image.specs.Bytes.{byte_at, number_at}

-- The kind that a number names: 1 is a table, 2 is rules.
abbrev pub kind_named : ℕ → Option Kind
kind_named n = cond (n == 1) (Some Table) (cond (n == 2) (Some Rules) None)

-- A number is read as the kind that it names, and refused where it names none.
abbrev pub Names : ℕ → Result Kind UnknownKind → Type 0
Names n (Ok k) = kind_named n ≡ Some k
Names n (Err e) = kind_named n ≡ None

-- The kind that the first number of an image names, if it is known.
abbrev pub kind_of : List ℕ → Option Kind
kind_of bs = kind_named (number_at bs 0)

-- How many pairs of offset and length the header has.
abbrev pub pairs_of : Kind → ℕ
pairs_of Table = 5
pairs_of Rules = 5

-- Where the header ends.
abbrev pub header_end : Kind → ℕ
header_end Table = 32
header_end Rules = 32

-- The least length of an image; one of no known kind counts like a table.
abbrev pub least_length : Option Kind → ℕ
least_length None = 32
least_length (Some k) = header_end k

-- The greatest length of an image.
abbrev pub greatest_length : ℕ
greatest_length = 65535

-- N: how many states a table has.
abbrev pub states_of : List ℕ → ℕ
states_of bs = number_at bs 2

-- I: how many inputs a table has.
abbrev pub inputs_of : List ℕ → ℕ
inputs_of bs = number_at bs 4

-- R: how many replies a table has.
abbrev pub replies_of : List ℕ → ℕ
replies_of bs = number_at bs 6

-- How many input signals rules have: the lowest bits of a state.
abbrev pub input_bits_of : List ℕ → ℕ
input_bits_of bs = number_at bs 2

-- How many output signals rules have: the bits above.
abbrev pub output_bits_of : List ℕ → ℕ
output_bits_of bs = number_at bs 4

-- How many signals rules have: the bits of a state.
abbrev pub state_bits_of : List ℕ → ℕ
state_bits_of bs = input_bits_of bs + output_bits_of bs

-- m: how many assumption sets there are.
abbrev pub assumptions_of : List ℕ → ℕ
assumptions_of bs = number_at bs 8

-- k: how many guarantee sets there are.
abbrev pub guarantees_of : List ℕ → ℕ
guarantees_of bs = number_at bs 10

-- The least and the greatest value of each number after the kind, in their order.
abbrev pub bounds_of : Kind → List (ℕ × ℕ)
bounds_of Table = (1, 1024) ∷ (1, 64) ∷ (1, 64) ∷ (1, 8) ∷ (1, 8) ∷ []
bounds_of Rules = (1, 6) ∷ (1, 6) ∷ (0, 0) ∷ (1, 8) ∷ (1, 8) ∷ []

-- Rules have at most ten bits together; more count against the output bits, header number 1, counted from 0 after the kind.
abbrev pub too_many_bits : Kind → List ℕ → ℕ → Bool
too_many_bits Table bs h = false
too_many_bits Rules bs h = h == 1 && nat_lt 10 (state_bits_of bs)

-- Where section i begins.
abbrev pub section_at : List ℕ → ℕ → ℕ
section_at bs i = number_at bs (12 + 4 * i)

-- How many bytes section i has.
abbrev pub section_size : List ℕ → ℕ → ℕ
section_size bs i = number_at bs (14 + 4 * i)

-- How many bytes the sections of a table must have: open flags, next states, assumptions, guarantees, starts.
abbrev pub table_sizes : List ℕ → List ℕ
table_sizes bs =
    states_of bs * inputs_of bs ∷ states_of bs * inputs_of bs * replies_of bs * 2 ∷ assumptions_of bs * states_of bs ∷ guarantees_of bs * states_of bs ∷
    states_of bs ∷ []

-- How many bytes a row of section i of rules has: 8 in the rows of the environment and of the controller, 6 in those of the
-- assumptions and of the guarantees, 4 in those of the starts.
abbrev pub row_width_of : ℕ → ℕ
row_width_of i = cond (nat_lt i 2) 8 (cond (nat_lt i 4) 6 4)

-- Section i has as many bytes as it may: in a table just those it must have, in rules a multiple of its row.
abbrev pub size_fits : Kind → List ℕ → ℕ → Bool
size_fits Table bs i = section_size bs i == slice_index (table_sizes bs) i
size_fits Rules bs i = section_size bs i % row_width_of i == 0

-- What field f of a row of section i of rules holds. Rows of the environment: two masks, then two over the inputs alone. Rows of
-- the assumptions and of the guarantees: the number of a set, then two masks. The others: masks.
abbrev pub field_of : ℕ → ℕ → Cell
field_of i f =
    cond (i == 0 && nat_le 2 f) InputMask
    (cond (i == 2 && f == 0) AssumptionSet (cond (i == 3 && f == 0) GuaranteeSet Mask))

-- What cell c of section i holds: a table has next states in section 1, and flags in the others; rules have the fields of their
-- rows, one after another, two bytes each.
abbrev pub cell_of : Kind → ℕ → ℕ → Cell
cell_of Table i c = cond (i == 1) Target Flag
cell_of Rules i c = field_of i (c % (row_width_of i / 2))

-- How many bytes a cell of section i has: the flags of a table are bytes, and all else is numbers.
abbrev pub width_of : Kind → ℕ → ℕ
width_of Table i = cond (i == 1) 2 1
width_of Rules i = 2

-- What stands in the cell at an offset.
abbrev pub value_at : Cell → List ℕ → ℕ → ℕ
value_at Flag bs at = byte_at bs at
value_at Target bs at = number_at bs at
value_at Mask bs at = number_at bs at
value_at InputMask bs at = number_at bs at
value_at AssumptionSet bs at = number_at bs at
value_at GuaranteeSet bs at = number_at bs at

-- Whether a cell may hold the value: a flag is 0 or 1; a next state is below the count of states, or 65535; a mask has only bits
-- of a state, or of its inputs, and so is below that power of two; the number of a set is below the count of sets.
abbrev pub allowed : Cell → List ℕ → ℕ → Bool
allowed Flag bs v = nat_le v 1
allowed Target bs v = nat_lt v (states_of bs) || v == 65535
allowed Mask bs v = nat_lt v (2 ^ state_bits_of bs)
allowed InputMask bs v = nat_lt v (2 ^ input_bits_of bs)
allowed AssumptionSet bs v = nat_lt v (assumptions_of bs)
allowed GuaranteeSet bs v = nat_lt v (guarantees_of bs)
