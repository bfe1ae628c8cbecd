-- Games whose answers are tested against their counts first, so that nothing is outside.
use Rattle.std.proofs.Common.{◌≡◌, ℕ, ◌<◌, ◌≤◌, Bool, true, false, cond, ◌&&◌, ltb, Some, None, Option, refl}
use Rattle.std.proofs.lemmas.Option.{none-some}
use Rattle.std.proofs.lemmas.Bool.{and_parts, ltb-true}
use Rattle.arena.specs.Game.{LawfulGoals}

-- Two tests and another hold only where both numbers are below their bounds.
pub both_inside : (a b c d : ℕ) (f : Bool) → (ltb a b && (ltb c d && f)) ≡ true → (a < b) × (c < d)
both_inside a b c d f e = let t = and_parts _ _ e in (ltb-true _ _ t.0, ltb-true _ _ (and_parts _ _ t.1).0)

-- What is given only where a test holds is given where it holds.
pub given_where : (b : Bool) (o : Option ℕ) (p : ℕ) → cond b o None ≡ Some p → (b ≡ true) × (o ≡ Some p)
given_where true o p e = (refl, e)
given_where false o p e = absurd (none-some p e)

-- Goals over n states, with m and k sets, are lawful if each test asks first whether its numbers are below their bounds.
pub guarded_goals_lawful :
    (n m k : ℕ) (assumed guaranteed : ℕ → ℕ → Bool) (start : ℕ → Bool) → 1 ≤ m → m ≤ 8 → 1 ≤ k → k ≤ 8 →
    LawfulGoals n
    (record {
      assumptions = m;
      guarantees = k;
      assumed = λ i q. ltb i m && (ltb q n && assumed i q);
      guaranteed = λ j q. ltb j k && (ltb q n && guaranteed j q);
      start = λ q. ltb q n && start q;
    })
guarded_goals_lawful n m k assumed guaranteed start some_m few_m some_k few_k = record {
  some_assumption = some_m;
  few_assumptions = few_m;
  some_guarantee = some_k;
  few_guarantees = few_k;
  assumed_inside = λ i q e. both_inside i m q n _ e;
  guaranteed_inside = λ j q e. both_inside j k q n _ e;
  starts_inside = λ q e. ltb-true _ _ (and_parts _ _ e).0;
}
