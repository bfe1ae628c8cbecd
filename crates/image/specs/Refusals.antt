-- What a refusal tells. Assumes nothing.
use Rattle.std.specs.Prelude.{ℕ, List, [], ◌∷◌, ◌++◌, codes, decimal}
use Rattle.image.specs.declared.refusal.Refusal.{Refusal}
use Rattle.image.specs.declared.refusal.Refusal.TheVariants.{Length, Header, Pair, Section, Value}

-- The number of a refusal.
abbrev pub refusal_number : Refusal → ℕ
refusal_number Length = 1
refusal_number (Header offset) = 2
refusal_number (Pair pair) = 3
refusal_number (Section pair) = 4
refusal_number (Value offset) = 5

-- The values told beside it: the offset of a header number or of a value, the number of a pair.
abbrev pub refusal_values : Refusal → List ℕ
refusal_values Length = []
refusal_values (Header offset) = offset ∷ []
refusal_values (Pair pair) = pair ∷ []
refusal_values (Section pair) = pair ∷ []
refusal_values (Value offset) = offset ∷ []

-- Numbers, each after a space.
abbrev pub spaced_numbers : List ℕ → List ℕ
spaced_numbers [] = []
spaced_numbers (n ∷ ns) = codes " " ++ (decimal n ++ spaced_numbers ns)

-- How a refusal is printed: its number and its values.
abbrev pub refusal_told : Refusal → List ℕ
refusal_told e = decimal (refusal_number e) ++ spaced_numbers (refusal_values e)
