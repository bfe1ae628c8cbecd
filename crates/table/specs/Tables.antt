-- The game that a table spells. Assumes nothing.
use Rattle.std.specs.Prelude.{ℕ, ◌+◌, ◌*◌, Bool, cond, ◌&&◌, List, Some, None, Option, ◌==◌, nat_lt}
use Rattle.arena.specs.Game.{GameMoves, GameGoals}
use Rattle.image.specs.declared.kind.Kind.TheVariants.{Table}
use Rattle.image.specs.Bytes.{byte_at, number_at}
use Rattle.image.specs.Format.{states_of, inputs_of, replies_of, assumptions_of, guarantees_of, section_at}
use Rattle.image.specs.Opening.{is_image}

-- The bytes are judged to be a table.
abbrev pub is_table : List ℕ → Bool
is_table bs = is_image Table bs

-- The flag in cell c of section i says yes.
abbrev pub flag_at : List ℕ → ℕ → ℕ → Bool
flag_at bs i c = byte_at bs (section_at bs i + c) == 1

-- The next state of state q, input x and reply y, as a number.
abbrev pub target_at : List ℕ → ℕ → ℕ → ℕ → ℕ
target_at bs q x y = number_at bs (section_at bs 1 + 2 * ((q * inputs_of bs + x) * replies_of bs + y))

-- The state that a next state names: none at 65535.
abbrev pub target_of : ℕ → Option ℕ
target_of n = cond (n == 65535) None (Some n)

-- The moves that a table spells: open flags in section 0, next states in section 1.
abbrev pub table_moves : List ℕ → GameMoves
table_moves bs = record {
  states = states_of bs;
  inputs = inputs_of bs;
  replies = replies_of bs;
  opened = λ q x. nat_lt q (states_of bs) && (nat_lt x (inputs_of bs) && flag_at bs 0 (q * inputs_of bs + x));
  leads = λ q x y.
      cond (nat_lt q (states_of bs) && (nat_lt x (inputs_of bs) && nat_lt y (replies_of bs)))
      (target_of (target_at bs q x y)) None;
}

-- The goals that a table spells: assumptions in section 2, guarantees in section 3, starts in section 4.
abbrev pub table_goals : List ℕ → GameGoals
table_goals bs = record {
  assumptions = assumptions_of bs;
  guarantees = guarantees_of bs;
  assumed = λ i q. nat_lt i (assumptions_of bs) && (nat_lt q (states_of bs) && flag_at bs 2 (i * states_of bs + q));
  guaranteed = λ j q. nat_lt j (guarantees_of bs) && (nat_lt q (states_of bs) && flag_at bs 3 (j * states_of bs + q));
  start = λ q. nat_lt q (states_of bs) && flag_at bs 4 q;
}
