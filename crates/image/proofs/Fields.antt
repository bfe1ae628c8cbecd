-- What the fields of rules hold.
use Rattle.std.proofs.Common.{◌≡◌, ℕ, ◌+◌, ◌*◌, ◌/◌, ◌%◌, ◌^◌, ◌<◌, true, leb, List, subst, arith}
use Rattle.std.proofs.lemmas.Bool.{ltb-true, le-leb, cond-true}
use Rattle.image.specs.declared.cell.Cell.{Cell}
use Rattle.image.specs.declared.cell.Cell.TheVariants.{InputMask}
use Rattle.image.specs.declared.kind.Kind.TheVariants.{Rules}
use Rattle.image.specs.Bytes.{number_at}
use Rattle.image.specs.Format.{input_bits_of, section_at, section_size, cell_of, value_at, allowed}
use Rattle.image.specs.Judging.{cell_offset}
use Rattle.image.proofs.Sounding.{Sound, cell_allowed}

-- The third and the fourth field of a row of the environment are masks over the inputs.
input_field : (r f : ℕ) → f < 2 → cell_of Rules 0 (4 * r + (2 + f)) ≡ InputMask
input_field r f l =
    cond-true (leb 2 ((4 * r + (2 + f)) % 4)) InputMask _ (le-leb 2 ((4 * r + (2 + f)) % 4) (omega (arith, l)))

-- So these name input signals alone.
pub next_mask :
    (bs : List ℕ) → Sound Rules bs → (r f : ℕ) → r < section_size bs 0 / 8 → f < 2 →
    number_at bs (section_at bs 0 + 8 * r + (4 + 2 * f)) < 2 ^ input_bits_of bs
next_mask bs s r f l m =
    subst (λ (at : ℕ). number_at bs at < 2 ^ input_bits_of bs) (omega arith)
    (ltb-true _ _
    (subst (λ (e : Cell). allowed e bs (value_at e bs (cell_offset Rules bs 0 (4 * r + (2 + f)))) ≡ true) (input_field r f m)
    (cell_allowed Rules bs s 0 (4 * r + (2 + f)) (omega arith) (omega (arith, l, m)))))
