-- The worked image spells its game.
use Rattle.std.proofs.Common.{◌≡◌, ℕ, ◌+◌, ◌*◌, Bool, true, false, cond, ◌&&◌, eqb, ltb, Some, None, Option, refl, ap, ◌∙◌, arith}
use Rattle.std.proofs.Math.Bool.{and-true}
use Rattle.std.proofs.lemmas.Bool.{eqb-true, false≢true}
use Rattle.std.proofs.lemmas.Bool.Decides.{nat_tests}
use Rattle.arena.proofs.Same.{same_game}
use Rattle.search.specs.First.{every, first, lowest}
use Rattle.search.proofs.Comparing.{one, two, three}
use Rattle.table.specs.Tables.{flag_at, target_at, target_of, table_moves, table_goals}
use Rattle.table.specs.Worked.{Worked, worked_bytes, worked_game}

opened : (q x : ℕ) → (table_moves worked_bytes).opened q x ≡ worked_game.moves.opened q x
unfolding every
opened q x = two 2 1 (λ q x. flag_at worked_bytes 0 (q * 1 + x)) (λ q x. true) refl q x ∙ ap (λ (b : Bool). ltb q 2 && b) (and-true (ltb x 1))

assumed : (i q : ℕ) → (table_goals worked_bytes).assumed i q ≡ worked_game.goals.assumed i q
unfolding every
assumed i q = two 1 2 (λ i q. flag_at worked_bytes 2 (i * 2 + q)) (λ i q. true) refl i q ∙ ap (λ (b : Bool). ltb i 1 && b) (and-true (ltb q 2))

guaranteed : (j q : ℕ) → (table_goals worked_bytes).guaranteed j q ≡ worked_game.goals.guaranteed j q
unfolding every
guaranteed j q =
    two 1 2 (λ j q. flag_at worked_bytes 3 (j * 2 + q)) (λ j q. eqb q 1) refl j q ∙ ap (λ (b : Bool). ltb j 1 && b) (inside q)
  where
    inside : (q : ℕ) → (ltb q 2 && eqb q 1) ≡ eqb q 1
    inside q = grind (arith, nat_tests)

start : (q : ℕ) → (table_goals worked_bytes).start q ≡ worked_game.goals.start q
unfolding every
start q = one 2 (flag_at worked_bytes 4) (λ q. eqb q 0) refl q ∙ inside q
  where
    inside : (q : ℕ) → (ltb q 2 && eqb q 0) ≡ eqb q 0
    inside q = grind (arith, nat_tests)

-- An answer tells just this number.
abbrev tells : Option ℕ → ℕ → Bool
tells None n = false
tells (Some p) n = eqb p n

leads : (q x y : ℕ) → (table_moves worked_bytes).leads q x y ≡ worked_game.moves.leads q x y
unfolding every
leads q x y =
    led (ltb q 2) (ltb x 1) (ltb y 2) (target_of (target_at worked_bytes q x y))
    (three 2 1 2 (λ q x y. tells (target_of (target_at worked_bytes q x y)) y) (λ q x y. true) refl q x y)
  where
    led :
        (a b c : Bool) (o : Option ℕ) → (a && (b && (c && tells o y))) ≡ (a && (b && (c && true))) →
        cond (a && (b && c)) o None ≡ cond (a && (b && c)) (Some y) None
    led true true true (Some p) e = ap Some (eqb-true p y e)
    led true true true None e = absurd (false≢true e)
    led true true false o e = refl
    led true false c o e = refl
    led false b c o e = refl

pub worked : Worked
unfolding first lowest
worked = record {
  lawful = refl;
  spells = same_game _ _ refl refl refl opened leads refl refl assumed guaranteed start;
}
