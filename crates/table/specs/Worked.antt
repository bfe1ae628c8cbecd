-- The worked image, byte by byte, and the game that it spells. Assumes nothing.
use Rattle.std.specs.Prelude.{◌≡◌, ℕ, cond, ◌&&◌, List, [], ◌∷◌, Some, None, Ok, ◌==◌, nat_lt}
use Rattle.arena.specs.Game.{Game, game}
use Rattle.image.specs.declared.kind.Kind.TheVariants.{Table}
use Rattle.image.specs.Judging.{judged}
use Rattle.table.specs.Tables.{table_moves, table_goals}

-- A table of two states, one input and two replies, with one set of each kind; its five pairs; then open flags, next states,
-- assumption, guarantee and starts.
abbrev pub worked_bytes : List ℕ
worked_bytes =
    1 ∷ 0 ∷ 2 ∷ 0 ∷ 1 ∷ 0 ∷ 2 ∷ 0 ∷ 1 ∷ 0 ∷ 1 ∷ 0 ∷
    0x20 ∷ 0 ∷ 2 ∷ 0 ∷ 0x22 ∷ 0 ∷ 8 ∷ 0 ∷ 0x2a ∷ 0 ∷ 2 ∷ 0 ∷ 0x2c ∷ 0 ∷ 2 ∷ 0 ∷ 0x2e ∷ 0 ∷ 2 ∷ 0 ∷
    1 ∷ 1 ∷
    0 ∷ 0 ∷ 1 ∷ 0 ∷ 0 ∷ 0 ∷ 1 ∷ 0 ∷
    1 ∷ 1 ∷
    0 ∷ 1 ∷
    1 ∷ 0 ∷ []

-- Two states, one input and two replies: the input is open everywhere, and reply y leads to state y. The assumption set holds
-- both states, the guarantee set state 1, and state 0 is the start.
abbrev pub worked_game : Game
worked_game = record {
  moves = record {
    states = 2;
    inputs = 1;
    replies = 2;
    opened = λ q x. nat_lt q 2 && nat_lt x 1;
    leads = λ q x y. cond (nat_lt q 2 && (nat_lt x 1 && nat_lt y 2)) (Some y) None;
  };
  goals = record {
    assumptions = 1;
    guarantees = 1;
    assumed = λ i q. nat_lt i 1 && nat_lt q 2;
    guaranteed = λ j q. nat_lt j 1 && (q == 1);
    start = λ q. (q == 0);
  };
}

-- The worked image is judged a table, and spells its game in every field.
pub record Worked : Type 0 where
  pub lawful : judged worked_bytes ≡ Ok Table
  pub spells : game (table_moves worked_bytes) (table_goals worked_bytes) ≡ worked_game
