-- The worked image of rules, byte by byte, and the game that it spells. Assumes nothing.
use Rattle.std.specs.Prelude.{◌≡◌, ℕ, ◌+◌, ◌*◌, ◌%◌, cond, not, ◌&&◌, List, [], ◌∷◌, Some, None, Ok, ◌==◌, nat_le, nat_lt}
use Rattle.arena.specs.Game.{Game, game}
use Rattle.image.specs.declared.kind.Kind.TheVariants.{Rules}
use Rattle.image.specs.Judging.{judged}
use Rattle.rules.specs.Games.{rules_moves, rules_goals}

-- Rules over one input signal and one output signal, with one set of each kind; their five pairs; then a row of the environment, a
-- row of the controller, a row of assumption set 0, a row of guarantee set 0, and two rows of the starts.
abbrev pub worked_bytes : List ℕ
worked_bytes =
    2 ∷ 0 ∷ 1 ∷ 0 ∷ 1 ∷ 0 ∷ 0 ∷ 0 ∷ 1 ∷ 0 ∷ 1 ∷ 0 ∷
    0x20 ∷ 0 ∷ 8 ∷ 0 ∷ 0x28 ∷ 0 ∷ 8 ∷ 0 ∷ 0x30 ∷ 0 ∷ 6 ∷ 0 ∷ 0x36 ∷ 0 ∷ 6 ∷ 0 ∷ 0x3c ∷ 0 ∷ 8 ∷ 0 ∷
    0 ∷ 0 ∷ 1 ∷ 0 ∷ 0 ∷ 0 ∷ 1 ∷ 0 ∷
    0 ∷ 0 ∷ 2 ∷ 0 ∷ 0 ∷ 0 ∷ 2 ∷ 0 ∷
    0 ∷ 0 ∷ 1 ∷ 0 ∷ 0 ∷ 0 ∷
    0 ∷ 0 ∷ 2 ∷ 0 ∷ 0 ∷ 0 ∷
    0 ∷ 0 ∷ 1 ∷ 0 ∷
    0 ∷ 0 ∷ 2 ∷ 0 ∷ []

-- Four states: the input signal is on in states 1 and 3, the output signal in states 2 and 3. Neither signal may be on twice in a
-- row. The assumption set holds the states with the input on, the guarantee set those with the output on, and the start is the
-- state with both off.
abbrev pub worked_game : Game
worked_game = record {
  moves = record {
    states = 4;
    inputs = 2;
    replies = 2;
    opened = λ q x. nat_lt q 4 && (nat_lt x 2 && not (q % 2 == 1 && x == 1));
    leads = λ q x y. cond (nat_lt q 4 && (nat_lt x 2 && (nat_lt y 2 && not (nat_le 2 q && y == 1)))) (Some (x + 2 * y)) None;
  };
  goals = record {
    assumptions = 1;
    guarantees = 1;
    assumed = λ i q. nat_lt i 1 && (nat_lt q 4 && q % 2 == 1);
    guaranteed = λ j q. nat_lt j 1 && (nat_lt q 4 && nat_le 2 q);
    start = λ q. nat_lt q 4 && (q == 0);
  };
}

-- The worked image is judged to be rules, and spells its game in every field.
pub record Worked : Type 0 where
  pub lawful : judged worked_bytes ≡ Ok Rules
  pub spells : game (rules_moves worked_bytes) (rules_goals worked_bytes) ≡ worked_game
