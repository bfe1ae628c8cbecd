-- What a game is: its moves, its sets of states and its starts, all numbered from 0. Assumes nothing.
use Rattle.std.specs.Prelude.{◌≡◌, ℕ, ◌<◌, ◌≤◌, Bool, true, cond, Some, None, Option}

-- The moves of a game. At state q the environment may pick the input x if `opened q x`; the controller's reply y to it leads
-- to state p if `leads q x y` is `Some p`, and is barred if it is `None`. A reply that is not barred is legal.
pub record GameMoves : Type 0 where
  pub states : ℕ
  pub inputs : ℕ
  pub replies : ℕ
  pub opened : ℕ → ℕ → Bool
  pub leads : ℕ → ℕ → ℕ → Option ℕ

-- The goals of a game: state q is in assumption set i if `assumed i q`, in guarantee set j if `guaranteed j q`, and a start
-- if `start q`.
pub record GameGoals : Type 0 where
  pub assumptions : ℕ
  pub guarantees : ℕ
  pub assumed : ℕ → ℕ → Bool
  pub guaranteed : ℕ → ℕ → Bool
  pub start : ℕ → Bool

-- A game is its moves and its goals.
pub record Game : Type 0 where
  pub moves : GameMoves
  pub goals : GameGoals

-- The game with these moves and these goals.
abbrev pub game : GameMoves → GameGoals → Game
game m g = record { moves = m; goals = g }

-- Whether a state is a start. Whatever speaks of starts asks here.
abbrev pub starts : GameGoals → ℕ → Bool
starts g q = g.start q

-- Moves are lawful if there are 1 to 1,024 states and 1 to 64 inputs and replies, if every state led to is one of the game's,
-- and if for any number outside the game the input is closed and the reply barred.
pub record LawfulMoves (m : GameMoves) : Type 0 where
  pub some_state : 1 ≤ m.states
  pub few_states : m.states ≤ 1024
  pub some_input : 1 ≤ m.inputs
  pub few_inputs : m.inputs ≤ 64
  pub some_reply : 1 ≤ m.replies
  pub few_replies : m.replies ≤ 64
  pub opened_inside : (q x : ℕ) → m.opened q x ≡ true → (q < m.states) × (x < m.inputs)
  pub leads_from_inside : (q x y p : ℕ) → m.leads q x y ≡ Some p → (q < m.states) × (x < m.inputs) × (y < m.replies)
  pub leads_inside : (q x y p : ℕ) → m.leads q x y ≡ Some p → p < m.states

-- Goals over n states are lawful if there are 1 to 8 sets of each kind, and if nothing outside the game
-- is in a set or is a start.
pub record LawfulGoals (n : ℕ) (g : GameGoals) : Type 0 where
  pub some_assumption : 1 ≤ g.assumptions
  pub few_assumptions : g.assumptions ≤ 8
  pub some_guarantee : 1 ≤ g.guarantees
  pub few_guarantees : g.guarantees ≤ 8
  pub assumed_inside : (i q : ℕ) → g.assumed i q ≡ true → (i < g.assumptions) × (q < n)
  pub guaranteed_inside : (j q : ℕ) → g.guaranteed j q ≡ true → (j < g.guarantees) × (q < n)
  pub starts_inside : (q : ℕ) → starts g q ≡ true → q < n

-- A game is lawful if its moves are, and its goals over its states.
pub record Lawful (g : Game) : Type 0 where
  pub moves : LawfulMoves g.moves
  pub goals : LawfulGoals g.moves.states g.goals

-- The moves with the given replies barred: reply y to input x at state q is barred if `struck q x y`, and else as before.
abbrev pub barring : (ℕ → ℕ → ℕ → Bool) → GameMoves → GameMoves
barring struck m = record {
  states = m.states;
  inputs = m.inputs;
  replies = m.replies;
  opened = m.opened;
  leads = λ q x y. cond (struck q x y) None (m.leads q x y);
}
