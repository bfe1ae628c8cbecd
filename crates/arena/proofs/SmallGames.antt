-- Who wins the small games.
use Rattle.std.proofs.Common.{◌≡◌, ℕ, zero, suc, ◌<◌, Bool, true, false, cond, ◌&&◌, eqb, ltb, [], ◌∷◌, Some, None, sym, refl, ◌∙◌, arith}
use Rattle.std.proofs.lemmas.Option.{cond_some}
use Rattle.std.proofs.lemmas.Bool.{and_parts, and_from, eqb-true, eq-eqb, lt-ltb, cond-true, false≢true}
use Rattle.arena.specs.Play.{Past, Reaches, Play, Again}
use Rattle.arena.specs.Winner.{ControllerWinsBy, EnvironmentWinsBy}
use Rattle.arena.specs.Examples.{one_state, OneState, OneStateLawful, OneStateBarred, matching, Known}

-- ── The game of one state ──────────────────────────────────────────────────────────────────────
module _ (o l a g : Bool) where
  -- From state 0 only state 0 is reached.
  stays : (past : Past) (p : ℕ) → Reaches (one_state o l a g) 0 past p → p ≡ 0
  stays [] p r = sym r
  stays (round ∷ past) p r = sym (cond_some _ 0 p r.1.is_legal).1

  stays_endless : (p : Play (one_state o l a g) 0) (n : ℕ) → p.state n ≡ 0
  stays_endless p zero = p.begins
  stays_endless p (suc n) = sym (cond_some _ 0 _ (p.goes_on n).is_legal).1

  -- An endless play visits a set that holds the state again and again.
  again : (p : Play (one_state o l a g) 0) (i : ℕ) → i < 1 → Again p (λ q. true && (eqb i 0 && eqb q 0))
  again p i b n = (n, omega arith, and_from true _ refl (and_from _ _ (eq-eqb i 0 (omega arith)) (eq-eqb _ 0 (stays_endless p n))))

-- The controller always gives reply 0.
controller_closed : (l a g : Bool) → ControllerWinsBy (one_state false l a g) 0 (λ past q x. Some 0)
controller_closed l a g = record {
  replies = λ past p x r f e. absurd (false≢true e);
  endless = λ p f. absurd (false≢true (p.goes_on 0).is_open);
}

-- It has a reply to every open input.
replied : (a g : Bool) (p x : ℕ) → (one_state true true a g).moves.opened p x ≡ true →
    (y : ℕ) × (next : ℕ) × (Some 0 ≡ Some y) × ((one_state true true a g).moves.leads p x y ≡ Some next)
replied a g p x e =
    let t = and_parts (eqb p 0) (eqb x 0) e in
    (0, 0, refl, cond-true _ (Some 0) None (and_from _ _ t.0 (and_from _ _ t.1 refl)))

controller_guaranteed : (a : Bool) → ControllerWinsBy (one_state true true a true) 0 (λ past q x. Some 0)
controller_guaranteed a = record {
  replies = λ past p x r f e. replied a true p x e;
  endless = λ p f visits j b. again true true a true p j b;
}

controller_unassumed : (g : Bool) → ControllerWinsBy (one_state true true false g) 0 (λ past q x. Some 0)
controller_unassumed g = record {
  replies = λ past p x r f e. replied false g p x e;
  endless = λ p f visits j b. absurd (false≢true (visits 0 (omega arith) 0).2);
}

-- The environment always picks input 0, which is open wherever it comes.
picked : (l a g : Bool) (past : Past) (p : ℕ) → Reaches (one_state true l a g) 0 past p →
    (one_state true l a g).moves.opened p 0 ≡ true
picked l a g past p r = and_from (eqb p 0) true (eq-eqb p 0 (stays true l a g past p r)) refl

environment_barred : (a g : Bool) → EnvironmentWinsBy (one_state true false a g) 0 (λ past q. Some 0)
environment_barred a g = record {
  inputs = λ past p r f. (0, refl, picked false a g past p r);
  endless = λ p f c. false≢true (cond_some _ 0 _ (p.goes_on 0).is_legal).0;
}

environment_unguaranteed : EnvironmentWinsBy (one_state true true true false) 0 (λ past q. Some 0)
environment_unguaranteed = record {
  inputs = λ past p r f. (0, refl, picked true true false past p r);
  endless = λ p f c. false≢true (c (λ i b. again true true true false p i b) 0 (omega arith) 0).2;
}

one_state_known : OneState
one_state_known false l a g = (_, controller_closed l a g)
one_state_known true false a g = (_, environment_barred a g)
one_state_known true true a true = (_, controller_guaranteed a)
one_state_known true true false false = (_, controller_unassumed false)
one_state_known true true true false = (_, environment_unguaranteed)

-- What two tests after a first say of the numbers tested.
both_zero : (b : Bool) (m n : ℕ) → (b && (eqb m 0 && eqb n 0)) ≡ true → (m < 1) × (n < 1)
both_zero b m n e =
    let t = and_parts (eqb m 0) (eqb n 0) (and_parts b _ e).1 in
    let a = eqb-true m 0 t.0 in
    let c = eqb-true n 0 t.1 in
    (omega arith, omega arith)

one_state_lawful : OneStateLawful
one_state_lawful o l a g = record {
  moves = record {
    some_state = omega arith;
    few_states = omega arith;
    some_input = omega arith;
    few_inputs = omega arith;
    some_reply = omega arith;
    few_replies = omega arith;
    opened_inside = λ q x e. both_zero o q x e;
    leads_from_inside = λ q x y p e. asked q x y p e;
    leads_inside = λ q x y p e. let z = (cond_some _ 0 p e).1 in omega arith;
  };
  goals = record {
    some_assumption = omega arith;
    few_assumptions = omega arith;
    some_guarantee = omega arith;
    few_guarantees = omega arith;
    assumed_inside = λ i q e. both_zero a i q e;
    guaranteed_inside = λ j q e. both_zero g j q e;
    starts_inside = λ q e. let z = eqb-true q 0 e in omega arith;
  };
}
  where
    asked :
        (q x y p : ℕ) → (one_state o l a g).moves.leads q x y ≡ Some p → (q < 1) × (x < 1) × (y < 1)
    asked q x y p e =
        let t = and_parts (eqb q 0) (eqb x 0 && eqb y 0) (and_parts l _ (cond_some _ 0 p e).0).1 in
        let u = both_zero (eqb q 0) x y (and_from _ _ t.0 t.1) in
        let z = eqb-true q 0 t.0 in
        (omega arith, u.0, u.1)

one_state_barred : OneStateBarred
one_state_barred o l a g = refl

-- ── The game of matching ───────────────────────────────────────────────────────────────────────

-- The controller repeats the input.
matches : (q : ℕ) → ControllerWinsBy matching q (λ past p x. Some x)
matches q = record {
  replies = λ past p x r f e.
      let t = and_parts (ltb p 2) (ltb x 2) e in
      (x, cond (eqb x x) 1 0, refl, cond-true _ (Some (cond (eqb x x) 1 0)) None (and_from _ _ t.0 (and_from _ _ t.1 t.1)));
  endless = λ p f visits j b n. (suc n, omega arith, and_from _ _ (lt-ltb j 1 b) (eq-eqb _ 1 (moved p n (f (suc n)).1)));
}
  where
    moved : (p : Play matching q) (n : ℕ) → Some (p.input n) ≡ Some (p.reply n) → p.state (suc n) ≡ 1
    moved p n e =
        let same : p.input n ≡ p.reply n = cc in
        sym (cond_some _ (cond (eqb (p.input n) (p.reply n)) 1 0) _ (p.goes_on n).is_legal).1 ∙ cond-true _ 1 0 (eq-eqb _ _ same)

pub known : Known
known = record {
  one_state = one_state_known;
  one_state_lawful = one_state_lawful;
  one_state_barred = one_state_barred;
  replies_second = ((_, matches 0), (_, matches 1));
}
