-- Signals and masks over them. Assumes nothing.
use Rattle.std.specs.Prelude.{ℕ, Bool, not, ◌&&◌, ◌||◌, ◌==◌}
use Rattle.std.specs.Int.{bit_at}
use Rattle.search.specs.First.{some}

-- Signal s is on in a state, or named by a mask: bit s of the number is 1.
abbrev pub has : ℕ → ℕ → Bool
has n s = bit_at n s == 1

-- A true mask and a false mask hold at a state: some signal that the true mask names is on in it, or some signal that the false
-- mask names is off. (A mask is a number of two bytes, so it names no signal from 16 on.)
abbrev pub masks_hold : ℕ → ℕ → ℕ → Bool
masks_hold true_mask false_mask q = some 16 (λ s. (has true_mask s && has q s) || (has false_mask s && not (has q s)))
