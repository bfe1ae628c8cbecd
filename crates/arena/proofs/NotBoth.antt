-- No state is won by both sides: the two strategies are played against one another, and the one endless play that comes of
-- it would be the controller's and not the controller's.
use Rattle.std.proofs.Common.{◌≡◌, ℕ, zero, suc, true, [], ◌∷◌, Some, refl, ap, subst}
use Rattle.arena.specs.declared.player.Player.TheVariants.{Controller, Environment}
use Rattle.arena.specs.Game.{Game}
use Rattle.arena.specs.Play.{Past, Round, Reaches, Step, Play, past_of}
use Rattle.arena.specs.Winner.{
  ControllerStrategy,
  EnvironmentStrategy,
  ControllerFollowed,
  EnvironmentFollowed,
  ControllerWinsBy,
  EnvironmentWinsBy,
  NotBoth,
}

-- How far the two have come.
record Met (g : Game) (q : ℕ) (c : ControllerStrategy) (e : EnvironmentStrategy) : Type 0 where
  past : Past
  state : ℕ
  reached : Reaches g q past state
  by_c : ControllerFollowed c past
  by_e : EnvironmentFollowed e past

module _ (g : Game) (q : ℕ) (c : ControllerStrategy) (e : EnvironmentStrategy)
    (wc : ControllerWinsBy g q c) (we : EnvironmentWinsBy g q e) where
  abbrev picked : (a : Met g q c e) → (x : ℕ) × (e a.past a.state ≡ Some x) × (g.moves.opened a.state x ≡ true)
  picked a = we.inputs a.past a.state a.reached a.by_e

  abbrev answered :
      (a : Met g q c e) →
      (y : ℕ) × (next : ℕ) × (c a.past a.state (picked a).0 ≡ Some y) × (g.moves.leads a.state (picked a).0 y ≡ Some next)
  answered a = wc.replies a.past a.state (picked a).0 a.reached a.by_c (picked a).2

  abbrev round : Met g q c e → Round
  round a = record { state = a.state; input = (picked a).0; reply = (answered a).0 }

  abbrev step : (a : Met g q c e) → Step g a.state (picked a).0 (answered a).0 (answered a).1
  step a = record { is_open = (picked a).2; is_legal = (answered a).3 }

  abbrev onwards : Met g q c e → Met g q c e
  onwards a = record {
    past = round a ∷ a.past;
    state = (answered a).1;
    reached = (a.reached, step a);
    by_c = (a.by_c, (answered a).2);
    by_e = (a.by_e, (picked a).1);
  }

  abbrev met : ℕ → Met g q c e
  met zero = record { past = []; state = q; reached = refl; by_c = tt; by_e = tt }
  met (suc n) = onwards (met n)

  abbrev play : Play g q
  play = record {
    state = λ n. (met n).state;
    input = λ n. (picked (met n)).0;
    reply = λ n. (answered (met n)).0;
    begins = refl;
    goes_on = λ n. step (met n);
  }

  same_past : (n : ℕ) → (met n).past ≡ past_of play n
  same_past zero = refl
  same_past (suc n) = ap (λ ps. round (met n) ∷ ps) (same_past n)

  clash : ⊥
  clash =
      we.endless play (λ n. subst (EnvironmentFollowed e) (same_past n) (met n).by_e)
      (wc.endless play (λ n. subst (ControllerFollowed c) (same_past n) (met n).by_c))

pub not_both : NotBoth
not_both g Controller q wc we = clash g q wc.0 we.0 wc.1 we.1
not_both g Environment q we wc = clash g q wc.0 we.0 wc.1 we.1
