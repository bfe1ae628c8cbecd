-- What masking does to the bits of a number.
use Rattle.std.proofs.Common.{◌≡◌, ℕ, zero, suc, ◌+◌, ◌*◌, ◌%◌, ◌^◌, ◌<◌, Bool, true, false, not, ◌&&◌, ◌||◌, eqb, sym, refl, ap, ◌∙◌, ap₂, min, arith}
use Rattle.std.specs.Int.{bit_at}
use lib.Bits.{bit_and}
use Rattle.std.proofs.lemmas.Nat.{pow_pos, mod-pow-add, and_le_l, mod_below}
use Rattle.std.proofs.lemmas.Nat.Bits.{bit_at_and, bit_at-zero, bit_at-lt}
use Rattle.std.proofs.lemmas.Bool.Decides.{nat_tests}
use Rattle.rules.specs.Signals.{has, masks_hold}
use Rattle.search.specs.First.{some}
use Rattle.search.proofs.Searching.{some_more}

-- A mask keeps a signal that both have, and loses one that it alone has.
keeps : (a b k : ℕ) → (has a k && has b k) ≡ not (eqb (bit_at (bit_and a b) k) (bit_at 0 k))
keeps a b k =
    kept (bit_at a k) (bit_at b k) (bit_at-lt a k) (bit_at-lt b k)
    ∙ ap₂ (λ (m n : ℕ). not (eqb m n)) (sym (bit_at_and a b k)) (sym (bit_at-zero k))
  where
    kept : (x y : ℕ) → x < 2 → y < 2 → (eqb x 1 && eqb y 1) ≡ not (eqb (min x y) 0)
    kept x y l m = grind (arith, nat_tests)

loses : (a b k : ℕ) → (has a k && not (has b k)) ≡ not (eqb (bit_at (bit_and a b) k) (bit_at a k))
loses a b k =
    lost (bit_at a k) (bit_at b k) (bit_at-lt a k) (bit_at-lt b k)
    ∙ ap (λ (m : ℕ). not (eqb m (bit_at a k))) (sym (bit_at_and a b k))
  where
    lost : (x y : ℕ) → x < 2 → y < 2 → (eqb x 1 && not (eqb y 1)) ≡ not (eqb (min x y) x)
    lost x y l m = grind (arith, nat_tests)

-- Numbers differ below bit k + 1 exactly if they differ below bit k or in it.
differ_more :
    (m n k : ℕ) → (not (eqb (m % 2 ^ k) (n % 2 ^ k)) || not (eqb (bit_at m k) (bit_at n k))) ≡ not (eqb (m % 2 ^ suc k) (n % 2 ^ suc k))
differ_more m n k =
    joined (bit_at m k) (bit_at n k) (2 ^ k) (m % 2 ^ k) (n % 2 ^ k) (bit_at-lt m k) (bit_at-lt n k) (mod_below m (2 ^ k) (pow_pos k))
    (mod_below n (2 ^ k) (pow_pos k))
    ∙ ap₂ (λ (a b : ℕ). not (eqb a b)) (sym (one_bit_more m)) (sym (one_bit_more n))
  where
    one_bit_more : (n : ℕ) → n % 2 ^ suc k ≡ bit_at n k * 2 ^ k + n % 2 ^ k
    one_bit_more n = ap (λ (e : ℕ). n % 2 ^ e) (omega arith) ∙ mod-pow-add n 1 k

    joined :
        (d e p g h : ℕ) → d < 2 → e < 2 → g < p → h < p → (not (eqb g h) || not (eqb d e)) ≡ not (eqb (d * p + g) (e * p + h))
    joined zero zero p g h a b l m = grind (arith, nat_tests)
    joined zero (suc zero) p g h a b l m = grind (arith, nat_tests)
    joined (suc zero) zero p g h a b l m = grind (arith, nat_tests)
    joined (suc zero) (suc zero) p g h a b l m = grind (arith, nat_tests)
    joined (suc (suc d)) e p g h a b l m = absurd (omega arith)
    joined zero (suc (suc e)) p g h a b l m = absurd (omega arith)
    joined (suc zero) (suc (suc e)) p g h a b l m = absurd (omega arith)

-- Of the signals below k, masks hold at a state exactly if the true mask keeps some of it, or the false mask loses some.
masks_below :
    (t f q k : ℕ) →
    some k (λ s. (has t s && has q s) || (has f s && not (has q s)))
    ≡ (not (eqb (bit_and t q % 2 ^ k) (0 % 2 ^ k)) || not (eqb (bit_and f q % 2 ^ k) (f % 2 ^ k)))
unfolding some
masks_below t f q zero = ap₂ (λ (a b : Bool). a || b) (none (bit_and t q) 0) (none (bit_and f q) f)
  where
    none : (m n : ℕ) → false ≡ not (eqb (m % 1) (n % 1))
    none m n = grind (arith, nat_tests)
masks_below t f q (suc k) =
    some_more k (λ s. (has t s && has q s) || (has f s && not (has q s)))
    ∙ ap₂ (λ (a b : Bool). a || b) (masks_below t f q k) (ap₂ (λ (a b : Bool). a || b) (keeps t q k) (loses f q k))
    ∙ shuffle (not (eqb (bit_and t q % 2 ^ k) (0 % 2 ^ k))) (not (eqb (bit_and f q % 2 ^ k) (f % 2 ^ k))) _ _
    ∙ ap₂ (λ (a b : Bool). a || b) (differ_more (bit_and t q) 0 k) (differ_more (bit_and f q) f k)
  where
    shuffle : (a b c d : Bool) → ((a || b) || (c || d)) ≡ ((a || c) || (b || d))
    shuffle true b c d = refl
    shuffle false true true d = refl
    shuffle false true false d = refl
    shuffle false false c d = refl

-- Masks hold at a state exactly if the true mask keeps some of it, or the false mask loses some.
pub masks_by_and :
    (t f q : ℕ) → t < 65536 → f < 65536 → masks_hold t f q ≡ (not (eqb (bit_and t q) 0) || not (eqb (bit_and f q) f))
masks_by_and t f q l m =
    masks_below t f q 16
    ∙ ap₂ (λ (a b : Bool). a || b) (ap (λ (n : ℕ). not (eqb n 0)) (small (bit_and t q) (omega (arith, and_le_l t q, l))))
    (ap₂ (λ (n k : ℕ). not (eqb n k)) (small (bit_and f q) (omega (arith, and_le_l f q, m))) (small f m))
  where
    small : (n : ℕ) → n < 65536 → n % 65536 ≡ n
    small n b = omega (arith, b)
