-- Small games whose winners are known beforehand. Assumes nothing.
use Rattle.std.specs.Prelude.{◌≡◌, Bool, true, false, cond, not, ◌&&◌, ◌||◌, Some, None, ◌==◌, nat_lt}
use Rattle.arena.specs.declared.player.Player.TheVariants.{Controller, Environment}
use Rattle.arena.specs.Game.{Game, Lawful, barring}
use Rattle.arena.specs.Winner.{Wins}

-- The game of one state, one input, one reply and one set of each kind: the input is open or not, the reply legal (it leads
-- back to the state) or not, the state in the assumption set or not, and in the guarantee set or not.
abbrev pub one_state : Bool → Bool → Bool → Bool → Game
one_state open_there legal assumed guaranteed = record {
  moves = record {
    states = 1;
    inputs = 1;
    replies = 1;
    opened = λ q x. open_there && (q == 0 && x == 0);
    leads = λ q x y. cond (legal && (q == 0 && (x == 0 && y == 0))) (Some 0) None;
  };
  goals = record {
    assumptions = 1;
    guarantees = 1;
    assumed = λ i q. assumed && (i == 0 && q == 0);
    guaranteed = λ j q. guaranteed && (j == 0 && q == 0);
    start = λ q. (q == 0);
  };
}

-- The controller's game of one state: nothing can be picked against it; or it has a reply, and the state is guaranteed, or
-- never assumed.
abbrev pub controllers_one_state : Bool → Bool → Bool → Bool → Bool
controllers_one_state open_there legal assumed guaranteed = not open_there || (legal && (guaranteed || not assumed))

-- In a game of one state the controller wins if it is the controller's, and else the environment does.
abbrev pub OneState : Type 0
OneState =
    (o l a g : Bool) → Wins (one_state o l a g) (cond (controllers_one_state o l a g) Controller Environment) 0

-- Every game of one state is lawful.
abbrev pub OneStateLawful : Type 0
OneStateLawful = (o l a g : Bool) → Lawful (one_state o l a g)

-- Where the one reply is barred besides, the game of one state is the one whose reply is not legal.
abbrev pub OneStateBarred : Type 0
OneStateBarred =
    (o l a g : Bool) → barring (λ q x y. true) (one_state o l a g).moves ≡ (one_state o false a g).moves

-- The game of matching: two states, inputs and replies, all open. The next state is 1 if the reply equals the input, else 0;
-- both states are assumed, and state 1 is guaranteed.
abbrev pub matching : Game
matching = record {
  moves = record {
    states = 2;
    inputs = 2;
    replies = 2;
    opened = λ q x. nat_lt q 2 && nat_lt x 2;
    leads = λ q x y. cond (nat_lt q 2 && (nat_lt x 2 && nat_lt y 2)) (Some (cond (x == y) 1 0)) None;
  };
  goals = record {
    assumptions = 1;
    guarantees = 1;
    assumed = λ i q. nat_lt i 1 && nat_lt q 2;
    guaranteed = λ j q. nat_lt j 1 && (q == 1);
    start = λ q. nat_lt q 2;
  };
}

-- The controller sees the input before it replies, so it wins the game of matching from both states.
abbrev pub RepliesSecond : Type 0
RepliesSecond = Wins matching Controller 0 × Wins matching Controller 1

-- What is known of the small games.
pub record Known : Type 0 where
  pub one_state : OneState
  pub one_state_lawful : OneStateLawful
  pub one_state_barred : OneStateBarred
  pub replies_second : RepliesSecond
