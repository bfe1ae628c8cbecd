-- What holds of the bytes of rules, and that the game they spell is lawful.
use Rattle.std.specs.Prelude.{◌≡◌, ℕ, ◌+◌, ◌*◌, ◌<◌, ◌≤◌, true, ◌&&◌, List, Some, nat_lt}
use Rattle.std.proofs.Common.{sym, subst, arith}
use Rattle.std.proofs.lemmas.Nat.{pow_pos, pow-add, mul-add-lt}
use Rattle.std.proofs.Math.Pow.{pow_mono}
use Rattle.std.proofs.lemmas.Bool.{and_parts, ltb-true, ltb-false}
use Rattle.arena.specs.Game.{LawfulMoves, LawfulGoals}
use Rattle.arena.proofs.Guarded.{both_inside, given_where, guarded_goals_lawful}
use Rattle.image.specs.declared.kind.Kind.TheVariants.{Rules}
use Rattle.image.specs.Format.{input_bits_of, output_bits_of, state_bits_of}
use Rattle.image.proofs.Sounding.{Sound, sound, at_least, at_most, few_bits}
use Rattle.rules.specs.Games.{is_rules, state_count, input_count, reply_count, state_from, rules_moves, rules_goals}

-- The state of an input and a reply is one of the game's.
state_inside : (bs : List ℕ) (x y : ℕ) → x < input_count bs → y < reply_count bs → state_from bs x y < state_count bs
state_inside bs x y l m =
    omega (arith, mul-add-lt y (input_count bs) x (reply_count bs) m l, pow-add 2 (input_bits_of bs) (output_bits_of bs))

module _ (bs : List ℕ) (s : Sound Rules bs) where
  pub few_inputs : input_bits_of bs ≤ 6
  few_inputs = at_most Rules bs s 0 (omega arith)

  few_outputs : output_bits_of bs ≤ 6
  few_outputs = at_most Rules bs s 1 (omega arith)

  pub few_signals : state_bits_of bs ≤ 10
  few_signals = ltb-false 10 (state_bits_of bs) (few_bits Rules bs s 1 (omega arith))

  -- The state of an input and a reply, by the counts that were read, fits two bytes.
  pub state_small : (n r x y : ℕ) → n ≡ input_count bs → r ≡ reply_count bs → x < n → y < r → x + n * y < 1024
  state_small n r x y e f l m =
      subst (λ (k : ℕ). x + k * y < 1024) (sym e)
      (omega (arith, state_inside bs x y (omega (arith, e, l)) (omega (arith, f, m)), pow_mono few_signals))

  -- A reply that leads somewhere is one of the game's, and so is where it leads.
  legal :
      (q x y p : ℕ) → (rules_moves bs).leads q x y ≡ Some p →
      ((q < state_count bs) × (x < input_count bs) × (y < reply_count bs)) × (p < state_count bs)
  legal q x y p e =
      let led = given_where (nat_lt q (state_count bs) && _) (Some (state_from bs x y)) p e in
      let t = and_parts _ _ led.0 in
      let v = and_parts _ _ t.1 in
      let a = ltb-true _ _ v.0 in
      let b = ltb-true _ _ (and_parts _ _ v.1).0 in
      ((ltb-true _ _ t.0, a, b), subst (λ (n : ℕ). n < state_count bs) (named led.1) (state_inside bs x y a b))
    where
      named : Some (state_from bs x y) ≡ Some p → state_from bs x y ≡ p
      named h = cc

  pub lawful_moves : LawfulMoves (rules_moves bs)
  lawful_moves = record {
    some_state = pow_pos (state_bits_of bs);
    few_states = pow_mono few_signals;
    some_input = pow_pos (input_bits_of bs);
    few_inputs = pow_mono few_inputs;
    some_reply = pow_pos (output_bits_of bs);
    few_replies = pow_mono few_outputs;
    opened_inside = λ q x e. both_inside q _ x _ _ e;
    leads_from_inside = λ q x y p e. (legal q x y p e).0;
    leads_inside = λ q x y p e. (legal q x y p e).1;
  }

  pub lawful_goals : LawfulGoals (state_count bs) (rules_goals bs)
  lawful_goals =
      guarded_goals_lawful _ _ _ _ _ _ (at_least Rules bs s 3 (omega arith)) (at_most Rules bs s 3 (omega arith)) (at_least Rules bs s 4 (omega arith))
      (at_most Rules bs s 4 (omega arith))

-- Bytes that are judged to be rules have few signals.
pub rules_few_signals : (bs : List ℕ) → is_rules bs ≡ true → state_bits_of bs ≤ 10
rules_few_signals bs e = few_signals bs (sound Rules bs e)

-- And few inputs and replies together.
pub rules_few_choices : (bs : List ℕ) → is_rules bs ≡ true → input_count bs * reply_count bs ≤ 1024
rules_few_choices bs e =
    omega (arith, pow-add 2 (input_bits_of bs) (output_bits_of bs), pow_mono (rules_few_signals bs e))

-- Bytes that are judged to be rules spell lawful moves.
pub rules_moves_lawful : (bs : List ℕ) → is_rules bs ≡ true → LawfulMoves (rules_moves bs)
rules_moves_lawful bs e = lawful_moves bs (sound Rules bs e)

-- And lawful goals.
pub rules_goals_lawful : (bs : List ℕ) → is_rules bs ≡ true → LawfulGoals (state_count bs) (rules_goals bs)
rules_goals_lawful bs e = lawful_goals bs (sound Rules bs e)
