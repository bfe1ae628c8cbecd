-- The rows of the environment ask nothing of the reply.
use Rattle.std.proofs.Common.{◌≡◌, ℕ, ◌+◌, ◌*◌, ◌^◌, ◌<◌, ◌≤◌, Bool, true, not, ◌||◌, eqb, List, sym, ap, ◌∙◌, subst, ap₂, arith}
use lib.Bits.{bit_and, and_block, and_zero_l}
use Rattle.image.specs.declared.kind.Kind.TheVariants.{Rules}
use Rattle.image.specs.Bytes.{number_at}
use Rattle.image.specs.Format.{input_bits_of}
use Rattle.image.proofs.Fields.{next_mask}
use Rattle.std.proofs.Math.Pow.{pow_mono}
use Rattle.image.proofs.Sounding.{Sound, sound}
use Rattle.rules.specs.Games.{is_rules, input_count, InputsAlone}
use Rattle.rules.specs.Rows.{row_count, row_at, masks_at_hold}
use Rattle.rules.specs.Signals.{masks_hold}
use Rattle.search.proofs.Searching.{every_same}
use Rattle.rules.proofs.Masking.{masks_by_and}
use Rattle.rules.specs.Ruling.{few_inputs}

-- A mask over the lowest signals keeps nothing of those above.
low_mask : (a t x y : ℕ) → t < 2 ^ a → x < 2 ^ a → bit_and t (x + 2 ^ a * y) ≡ bit_and t x
low_mask a t x y l m =
    ap₂ bit_and (omega arith) (omega arith)
    ∙ and_block a 0 y t x l m
    ∙ ap (λ (n : ℕ). n * 2 ^ a + bit_and t x) (and_zero_l y)
    ∙ omega arith

-- Two masks over the lowest signals hold at a state exactly if they hold at what it has of those.
low_masks_hold : (a t f x y : ℕ) → a ≤ 6 → t < 2 ^ a → f < 2 ^ a → x < 2 ^ a → masks_hold t f (x + 2 ^ a * y) ≡ masks_hold t f x
low_masks_hold a t f x y few l m n =
    masks_by_and t f (x + 2 ^ a * y) small_t small_f
    ∙ ap₂ (λ (u v : ℕ). not (eqb u 0) || not (eqb v f)) (low_mask a t x y l n) (low_mask a f x y m n)
    ∙ sym (masks_by_and t f x small_t small_f)
  where
    small_t : t < 65536
    small_t = omega (arith, l, pow_mono few)

    small_f : f < 65536
    small_f = omega (arith, m, pow_mono few)

-- Where no test found anything in the bytes, whether rows hold does not depend on the reply.
pub inputs_alone : (bs : List ℕ) → Sound Rules bs → InputsAlone bs
inputs_alone bs s q x y l =
    every_same (row_count bs 0) _ _
    (λ r m.
    ap (λ (b : Bool). masks_at_hold bs (row_at bs 0 r) q || b)
    (low_masks_hold (input_bits_of bs) _ _ x y (few_inputs bs s) (next_mask bs s r 0 m (omega arith))
    (subst (λ (at : ℕ). number_at bs at < input_count bs) (omega arith) (next_mask bs s r 1 m (omega arith))) l))

-- And so it is where the bytes are judged to be rules.
pub rules_inputs_alone : (bs : List ℕ) → is_rules bs ≡ true → InputsAlone bs
rules_inputs_alone bs e = inputs_alone bs (sound Rules bs e)
