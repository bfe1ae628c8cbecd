-- Games that answer alike are the same.
use Rattle.std.proofs.Common.{◌≡◌, ℕ}
use Rattle.arena.specs.Game.{Game}

pub same_game :
    (g h : Game) → g.moves.states ≡ h.moves.states → g.moves.inputs ≡ h.moves.inputs → g.moves.replies ≡ h.moves.replies →
    ((q x : ℕ) → g.moves.opened q x ≡ h.moves.opened q x) → ((q x y : ℕ) → g.moves.leads q x y ≡ h.moves.leads q x y) →
    g.goals.assumptions ≡ h.goals.assumptions → g.goals.guarantees ≡ h.goals.guarantees →
    ((i q : ℕ) → g.goals.assumed i q ≡ h.goals.assumed i q) → ((j q : ℕ) → g.goals.guaranteed j q ≡ h.goals.guaranteed j q) →
    ((q : ℕ) → g.goals.start q ≡ h.goals.start q) → g ≡ h
same_game g h states inputs replies opened leads assumptions guarantees assumed guaranteed start = λ i.
    record {
      moves = record {
        states = states i;
        inputs = inputs i;
        replies = replies i;
        opened = λ q x. opened q x i;
        leads = λ q x y. leads q x y i;
      };
      goals = record {
        assumptions = assumptions i;
        guarantees = guarantees i;
        assumed = λ j q. assumed j q i;
        guaranteed = λ j q. guaranteed j q i;
        start = λ q. start q i;
      };
    }
