-- The game that rules spell. Assumes nothing.
use Rattle.std.specs.Prelude.{◌≡◌, ℕ, ◌+◌, ◌*◌, ◌^◌, ◌<◌, Bool, cond, ◌&&◌, List, Some, None, nat_lt}
use Rattle.arena.specs.Game.{GameMoves, GameGoals}
use Rattle.image.specs.declared.kind.Kind.TheVariants.{Rules}
use Rattle.image.specs.Format.{input_bits_of, output_bits_of, state_bits_of, assumptions_of, guarantees_of}
use Rattle.image.specs.Opening.{is_image}
use Rattle.rules.specs.Rows.{step_holds, member_holds, start_holds, rows_hold}

-- The bytes are judged to be rules.
abbrev pub is_rules : List ℕ → Bool
is_rules bs = is_image Rules bs

-- How many states there are: one for each choice of signals that are on.
abbrev pub state_count : List ℕ → ℕ
state_count bs = 2 ^ state_bits_of bs

-- How many inputs there are.
abbrev pub input_count : List ℕ → ℕ
input_count bs = 2 ^ input_bits_of bs

-- How many replies there are.
abbrev pub reply_count : List ℕ → ℕ
reply_count bs = 2 ^ output_bits_of bs

-- The state in which the input signals are as in input x, and the output signals as in reply y.
abbrev pub state_from : List ℕ → ℕ → ℕ → ℕ
state_from bs x y = x + input_count bs * y

-- The moves that rules spell. Input x is open at q if every row of the environment, in section 0, holds at q and x: its masks for
-- the next state name input signals alone. Reply y to it leads to the state of both, if every row of the controller, in section 1,
-- holds at q and that state.
abbrev pub rules_moves : List ℕ → GameMoves
rules_moves bs = record {
  states = state_count bs;
  inputs = input_count bs;
  replies = reply_count bs;
  opened = λ q x. nat_lt q (state_count bs) && (nat_lt x (input_count bs) && rows_hold bs 0 (step_holds q x));
  leads = λ q x y.
      cond
      (nat_lt q (state_count bs) && (nat_lt x (input_count bs) && (nat_lt y (reply_count bs) && rows_hold bs 1 (step_holds q (state_from bs x y)))))
      (Some (state_from bs x y)) None;
}

-- The goals that rules spell: a state is in a set if every row of that set holds, assumptions in section 2 and guarantees in
-- section 3, and a start if every row of section 4 holds. So a set without rows has all states.
abbrev pub rules_goals : List ℕ → GameGoals
rules_goals bs = record {
  assumptions = assumptions_of bs;
  guarantees = guarantees_of bs;
  assumed = λ i q. nat_lt i (assumptions_of bs) && (nat_lt q (state_count bs) && rows_hold bs 2 (member_holds i q));
  guaranteed = λ j q. nat_lt j (guarantees_of bs) && (nat_lt q (state_count bs) && rows_hold bs 3 (member_holds j q));
  start = λ q. nat_lt q (state_count bs) && rows_hold bs 4 (start_holds q);
}

-- The rows of the environment ask nothing of the reply: whatever reply follows an input, they hold at the state of both exactly if
-- they hold at the input alone.
abbrev pub InputsAlone : List ℕ → Type 0
InputsAlone bs = (q x y : ℕ) → x < input_count bs → rows_hold bs 0 (step_holds q (state_from bs x y)) ≡ rows_hold bs 0 (step_holds q x)
