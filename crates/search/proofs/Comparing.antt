-- Tests that say the same below a bound, which is computed, say the same beside the test of that bound.
use Rattle.std.proofs.Common.{◌≡◌, ℕ, ◌<◌, Bool, true, false, ◌&&◌, ltb, refl}
use Rattle.std.proofs.Math.Bool.{beq}
use Rattle.std.specs.Cmp.{booleans_Decides}
use Rattle.std.proofs.lemmas.Bool.{ltb-true}
use Rattle.search.specs.First.{every}
use Rattle.search.proofs.Searching.{each_passes}

-- Two tests that say the same below n say the same beside the test that a number is below n.
guarded : (n : ℕ) (f g : ℕ → Bool) → ((q : ℕ) → q < n → f q ≡ g q) → (q : ℕ) → (ltb q n && f q) ≡ (ltb q n && g q)
guarded n f g agree q = go (ltb q n) refl
  where
    go : (b : Bool) → ltb q n ≡ b → (b && f q) ≡ (b && g q)
    go true e = agree q (ltb-true q n e)
    go false e = refl

-- Tests of one, two or three numbers that say the same below the bounds say the same beside the tests of the bounds.
pub one : (n : ℕ) (f g : ℕ → Bool) → every n (λ q. beq (f q) (g q)) ≡ true → (q : ℕ) → (ltb q n && f q) ≡ (ltb q n && g q)
one n f g e = guarded n f g (λ q l. (booleans_Decides _ _).0 (each_passes n (λ q. beq (f q) (g q)) e q l))

pub two :
    (n m : ℕ) (f g : ℕ → ℕ → Bool) → every n (λ q. every m (λ x. beq (f q x) (g q x))) ≡ true →
    (q x : ℕ) → (ltb q n && (ltb x m && f q x)) ≡ (ltb q n && (ltb x m && g q x))
two n m f g e q x =
    guarded n (λ p. ltb x m && f p x) (λ p. ltb x m && g p x) (λ p l. one m (f p) (g p) (each_passes n _ e p l) x) q

pub three :
    (n m k : ℕ) (f g : ℕ → ℕ → ℕ → Bool) → every n (λ q. every m (λ x. every k (λ y. beq (f q x y) (g q x y)))) ≡ true →
    (q x y : ℕ) → (ltb q n && (ltb x m && (ltb y k && f q x y))) ≡ (ltb q n && (ltb x m && (ltb y k && g q x y)))
three n m k f g e q x y =
    guarded n (λ p. ltb x m && (ltb y k && f p x y)) (λ p. ltb x m && (ltb y k && g p x y))
    (λ p l. two m k (f p) (g p) (each_passes n _ e p l) x y) q
