-- How an answer is printed. Assumes nothing.
use Rattle.std.specs.Prelude.{ℕ, ◌+◌, Bool, true, false, List, [], ◌∷◌, ◌++◌, vec_items, codes, decimal}
use Rattle.arena.specs.declared.player.Player.{Player}
use Rattle.arena.specs.declared.player.Player.TheVariants.{Controller, Environment}
use Rattle.image.specs.declared.refusal.Refusal.{Refusal}
use Rattle.image.specs.Refusals.{refusal_told}
use Rattle.verdict.specs.declared.answer.Verdicts.{Verdicts}
use Rattle.verdict.specs.declared.answer.Answer.{Answer}
use Rattle.verdict.specs.declared.answer.Answer.TheVariants.{Refused, Solved}

-- The letter of a player.
abbrev pub letter_of : Player → List ℕ
letter_of Controller = codes "c"
letter_of Environment = codes "e"

-- A line ends with this.
abbrev pub newline : List ℕ
newline = 10 ∷ []

-- The line of a state: its number, a space and its winner's letter.
abbrev pub state_line : ℕ → Player → List ℕ
state_line q p = decimal q ++ (codes " " ++ (letter_of p ++ newline))

-- The lines of the states from q on.
abbrev pub state_lines : ℕ → List Player → List ℕ
state_lines q [] = []
state_lines q (p ∷ ps) = state_line q p ++ state_lines (q + 1) ps

-- A word for true and one for false.
abbrev pub yes_or_no : Bool → List ℕ
yes_or_no true = codes "yes"
yes_or_no false = codes "no"

-- A refusal is one line: the word, its number and its values.
abbrev pub refusal_text : Refusal → List ℕ
refusal_text e = codes "refused " ++ refusal_told e ++ newline

-- Verdicts are a line a state, in ascending order, and a last line that says whether the game is realizable.
abbrev pub verdicts_text : Verdicts → List ℕ
verdicts_text v = state_lines 0 (vec_items v.winners) ++ codes "realizable " ++ yes_or_no v.realizable ++ newline

-- What the program prints.
abbrev pub answer_text : Answer → List ℕ
answer_text (Refused e) = refusal_text e
answer_text (Solved v) = verdicts_text v
