-- What is told of an image. Assumes nothing.
use Rattle.std.specs.Prelude.{◌≡◌, ℕ, Bool, true, false, List, is_ok, Err, vec_items, vec_len, Decides, slice_index_or}
use Rattle.arena.specs.declared.player.Player.{Player}
use Rattle.arena.specs.declared.player.Player.TheVariants.{Controller, Environment}
use Rattle.arena.specs.Game.{GameMoves, GameGoals, starts}
use Rattle.image.specs.Judging.{judged}
use Rattle.opened.specs.Opened.{spelled_moves, spelled_goals}
use Rattle.verdict.specs.declared.answer.Verdicts.{Verdicts}
use Rattle.verdict.specs.declared.answer.Answer.{Answer}
use Rattle.verdict.specs.declared.answer.Answer.TheVariants.{Refused, Solved}

-- The player is the controller.
abbrev pub is_controller : Player → Bool
is_controller Controller = true
is_controller Environment = false

-- The winners told give every start to the controller.
abbrev pub StartsWon : GameGoals → List Player → Type 0
StartsWon g winners = (q : ℕ) → starts g q ≡ true → is_controller (slice_index_or winners q Environment) ≡ true

-- The verdicts speak of every state of the game, and of its starts. (Who wins is left to the solver.)
pub record Complete (m : GameMoves) (g : GameGoals) (v : Verdicts) : Type 0 where
  pub each_state : vec_len v.winners ≡ m.states
  pub starts_won : Decides v.realizable (StartsWon g (vec_items v.winners))

-- The answer is the refusal that the judging gives, or complete verdicts of the game that the image spells.
abbrev pub Answers : List ℕ → Answer → Type 0
Answers bs (Refused e) = judged bs ≡ Err e
Answers bs (Solved v) = (is_ok (judged bs) ≡ true) × Complete (spelled_moves bs) (spelled_goals bs) v
