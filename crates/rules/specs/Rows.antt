-- When the rows of a section hold. Assumes nothing.
use Rattle.std.specs.Prelude.{ℕ, ◌+◌, ◌*◌, ◌/◌, Bool, not, ◌||◌, List, ◌==◌}
use Rattle.image.specs.Bytes.{number_at}
use Rattle.image.specs.Format.{section_at, section_size, row_width_of}
use Rattle.rules.specs.Signals.{masks_hold}
use Rattle.search.specs.First.{every}

-- The two masks at an offset hold at a state.
abbrev pub masks_at_hold : List ℕ → ℕ → ℕ → Bool
masks_at_hold bs at q = masks_hold (number_at bs at) (number_at bs (at + 2)) q

-- The row of moves at an offset holds at a step from state q to state p. It has two masks for the current state and then two for
-- the next one, and holds if one of these pairs does.
abbrev pub step_holds : ℕ → ℕ → List ℕ → ℕ → Bool
step_holds q p bs at = masks_at_hold bs at q || masks_at_hold bs (at + 4) p

-- The row of sets at an offset holds for set i at state q. It has the number of its set and two masks, and asks nothing of other
-- sets.
abbrev pub member_holds : ℕ → ℕ → List ℕ → ℕ → Bool
member_holds i q bs at = not (number_at bs at == i) || masks_at_hold bs (at + 2) q

-- The row of starts at an offset holds at state q. It has two masks.
abbrev pub start_holds : ℕ → List ℕ → ℕ → Bool
start_holds q bs at = masks_at_hold bs at q

-- How many rows section i has.
abbrev pub row_count : List ℕ → ℕ → ℕ
row_count bs i = section_size bs i / row_width_of i

-- Where row r of section i stands.
abbrev pub row_at : List ℕ → ℕ → ℕ → ℕ
row_at bs i r = section_at bs i + row_width_of i * r

-- Every row of section i holds, by a test of the row at an offset.
abbrev pub rows_hold : List ℕ → ℕ → (List ℕ → ℕ → Bool) → Bool
rows_hold bs i holds = every (row_count bs i) (λ r. holds bs (row_at bs i r))
