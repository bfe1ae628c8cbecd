-- Strategies, and which side wins a state. Assumes nothing.
use Rattle.std.specs.Prelude.{◌≡◌, ℕ, true, [], ◌∷◌, Some, Option}
use Rattle.arena.specs.declared.player.Player.{Player}
use Rattle.arena.specs.declared.player.Player.TheVariants.{Controller, Environment}
use Rattle.arena.specs.Game.{Game}
use Rattle.arena.specs.Play.{Past, Reaches, Play, past_of, Controllers}

-- A strategy of the controller: its reply to the past, the state and the input just picked. `None` is no pick.
abbrev pub ControllerStrategy : Type 0
ControllerStrategy = Past → ℕ → ℕ → Option ℕ

-- A strategy of the environment: its input after the past, at the state. `None` is no pick.
abbrev pub EnvironmentStrategy : Type 0
EnvironmentStrategy = Past → ℕ → Option ℕ

-- Each reply of the past is the one that the strategy picked.
abbrev pub ControllerFollowed : ControllerStrategy → Past → Type 0
ControllerFollowed c [] = Unit {0}
ControllerFollowed c (r ∷ past) = ControllerFollowed c past × (c past r.state r.input ≡ Some r.reply)

-- Each input of the past is the one that the strategy picked.
abbrev pub EnvironmentFollowed : EnvironmentStrategy → Past → Type 0
EnvironmentFollowed e [] = Unit {0}
EnvironmentFollowed e (r ∷ past) = EnvironmentFollowed e past × (e past r.state ≡ Some r.input)

-- The controller wins state q by the strategy c: whatever the environment picks, c has a legal reply, and each endless play
-- that follows c is the controller's. (A play that ends where no input is open is won too: no reply is asked for there.)
pub record ControllerWinsBy (g : Game) (q : ℕ) (c : ControllerStrategy) : Type 0 where
  pub replies :
      (past : Past) (p x : ℕ) → Reaches g q past p → ControllerFollowed c past → g.moves.opened p x ≡ true →
      (y : ℕ) × (next : ℕ) × (c past p x ≡ Some y) × (g.moves.leads p x y ≡ Some next)
  pub endless : (p : Play g q) → ((n : ℕ) → ControllerFollowed c (past_of p n)) → Controllers p

-- The environment wins state q by the strategy e: whatever the controller replies, e has an open input, and no endless play
-- that follows e is the controller's. (A play that ends where every reply is barred is won too.)
pub record EnvironmentWinsBy (g : Game) (q : ℕ) (e : EnvironmentStrategy) : Type 0 where
  pub inputs :
      (past : Past) (p : ℕ) → Reaches g q past p → EnvironmentFollowed e past →
      (x : ℕ) × (e past p ≡ Some x) × (g.moves.opened p x ≡ true)
  pub endless : (p : Play g q) → ((n : ℕ) → EnvironmentFollowed e (past_of p n)) → ¬ Controllers p

-- The controller wins state q: one strategy of it wins every play from there.
abbrev pub ControllerWins : Game → ℕ → Type 0
ControllerWins g q = (c : ControllerStrategy) × ControllerWinsBy g q c

-- The environment wins state q: one strategy of it wins every play from there.
abbrev pub EnvironmentWins : Game → ℕ → Type 0
EnvironmentWins g q = (e : EnvironmentStrategy) × EnvironmentWinsBy g q e

-- The player wins state q.
abbrev pub Wins : Game → Player → ℕ → Type 0
Wins g Controller q = ControllerWins g q
Wins g Environment q = EnvironmentWins g q

-- The other side.
abbrev pub other : Player → Player
other Controller = Environment
other Environment = Controller

-- No state of any game is won by both sides.
abbrev pub NotBoth : Type 0
NotBoth = (g : Game) (p : Player) (q : ℕ) → Wins g p q → Wins g (other p) q → ⊥
