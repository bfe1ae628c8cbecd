use Rattle.std.proofs.Common.{◌≡◌, ℕ, ◌/◌, ◌^◌, ◌<◌, ◌≤◌, Bool, true, false, eqb, ltb, sym, refl, ◌∙◌, arith}
use Rattle.std.proofs.lemmas.Nat.{pow_pos, div_below, le-div}
use Rattle.std.proofs.lemmas.Bool.{ltb-true, ltb-false, lt-ltb, le-leb, eq-eqb, ne_eqb}
use Rattle.std.proofs.Math.Pow.{pow_mono}
use Rattle.image.proofs.cell.has_only_bits.Goals as goal

-- From 16 bits on every number of two bytes fits.
wide_enough : (n b : ℕ) → n < 65536 → 16 ≤ b → n < 2 ^ b
wide_enough n b l w = omega (arith, l, pow_mono w)

pub returns-then-bits-ge16 : goal.returns-then-bits-ge16
returns-then-bits-ge16 c =
    le-leb 16 c.args.bits c.if-bits-ge16.true
    ∙ sym (lt-ltb _ _ (wide_enough c.args.mask c.args.bits (omega arith) c.if-bits-ge16.true))

-- A number holds no whole p exactly if it is below p.
no_whole : (n p : ℕ) → 0 < p → eqb (n / p) 0 ≡ ltb n p
no_whole n p pos = go (ltb n p) refl
  where
    go : (b : Bool) → ltb n p ≡ b → eqb (n / p) 0 ≡ b
    go true e = eq-eqb (n / p) 0 (omega (arith, div_below n p 1 pos (omega (arith, ltb-true _ _ e))))
    go false e = ne_eqb (n / p) 0 (λ z. omega (arith, le-div 1 n p pos (omega (arith, ltb-false _ _ e)), z))

pub returns-else-bits-ge16 : goal.returns-else-bits-ge16
returns-else-bits-ge16 c = no_whole c.args.mask (2 ^ c.args.bits) (pow_pos c.args.bits)
