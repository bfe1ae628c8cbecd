-- The worked image spells its game.
use Rattle.std.proofs.Common.{◌≡◌, ℕ, ◌+◌, ◌*◌, ◌%◌, Bool, cond, not, ◌&&◌, eqb, leb, Some, None, refl, ap}
use Rattle.rules.specs.Games.{rules_moves, rules_goals, state_from}
use Rattle.rules.specs.Rows.{step_holds, member_holds, start_holds, rows_hold}
use Rattle.rules.specs.Worked.{Worked, worked_bytes, worked_game}
use Rattle.arena.proofs.Same.{same_game}
use Rattle.search.specs.First.{every, first, lowest, some}
use Rattle.search.proofs.Comparing.{one, two, three}

opened : (q x : ℕ) → (rules_moves worked_bytes).opened q x ≡ worked_game.moves.opened q x
unfolding some every
opened = two 4 2 (λ q x. rows_hold worked_bytes 0 (step_holds q x)) (λ q x. not (eqb (q % 2) 1 && eqb x 1)) refl

leads : (q x y : ℕ) → (rules_moves worked_bytes).leads q x y ≡ worked_game.moves.leads q x y
unfolding some every
leads q x y =
    ap (λ (b : Bool). cond b (Some (x + 2 * y)) None)
    (three 4 2 2 (λ q x y. rows_hold worked_bytes 1 (step_holds q (state_from worked_bytes x y))) (λ q x y. not (leb 2 q && eqb y 1)) refl q x y)

assumed : (i q : ℕ) → (rules_goals worked_bytes).assumed i q ≡ worked_game.goals.assumed i q
unfolding some every
assumed = two 1 4 (λ i q. rows_hold worked_bytes 2 (member_holds i q)) (λ i q. eqb (q % 2) 1) refl

guaranteed : (j q : ℕ) → (rules_goals worked_bytes).guaranteed j q ≡ worked_game.goals.guaranteed j q
unfolding some every
guaranteed = two 1 4 (λ j q. rows_hold worked_bytes 3 (member_holds j q)) (λ j q. leb 2 q) refl

start : (q : ℕ) → (rules_goals worked_bytes).start q ≡ worked_game.goals.start q
unfolding some every
start = one 4 (λ q. rows_hold worked_bytes 4 (start_holds q)) (λ q. eqb q 0) refl

pub worked : Worked
unfolding first lowest
worked = record {
  lawful = refl;
  spells = same_game _ _ refl refl refl opened leads refl refl assumed guaranteed start;
}
