use Rattle.std.proofs.Common.{◌≡◌, ℕ, ◌+◌, ◌*◌, ◌/◌, ◌<◌, true, false, not, List, Some, None, sym, ap, ap₂, ◌∙◌, subst₂, arith, below_more}
use Rattle.std.specs.Option.{option_map}
use Rattle.image.specs.declared.cell.Cell.{Cell}
use Rattle.image.specs.declared.kind.Kind.{Kind}
use Rattle.image.specs.Format.{section_at, section_size, cell_of, width_of, value_at, allowed}
use Rattle.image.specs.Judging.{cell_bad, cell_offset, bad_cell}
use Rattle.search.proofs.Searching.{lowest_here, lowest_none}
use Rattle.image.proofs.candidate.Candidate.first_bad.Goals as goal

-- The walk over the cells of section i, which begins at o and has s bytes, w to a cell. The bounds were read from cs.
module _ (k : Kind) (bs cs : List ℕ) (i o s w : ℕ)
    (at : o ≡ section_at bs i) (sized : s ≡ section_size bs i) (wide : w ≡ width_of k i) (read : cs ≡ bs) where
  -- The offset a at which the cell was read.
  offset : (c a : ℕ) → a ≡ o + w * c → a ≡ cell_offset k bs i c
  offset c a same = same ∙ ap₂ (λ (x y : ℕ). x + y * c) at wide

  -- What was told of the cell, which holds e.
  told : (c a : ℕ) (e : Cell) → a ≡ o + w * c → e ≡ cell_of k i c → not (allowed e cs (value_at e cs a)) ≡ cell_bad k bs i c
  told c a e same holds =
      ap (λ (xs : List ℕ). not (allowed e xs (value_at e xs a))) read
      ∙ ap₂ (λ (x : Cell) (y : ℕ). not (allowed x bs (value_at x bs y))) holds (offset c a same)

  -- The cell that was told to be bad, and none before it, is the first bad one.
  found :
      (c a : ℕ) (e : Cell) → c < s / w → ((d : ℕ) → d < c → cell_bad k bs i d ≡ false) → a ≡ o + w * c → e ≡ cell_of k i c →
      true ≡ not (allowed e cs (value_at e cs a)) → Some a ≡ bad_cell k bs i
  found c a e m before same holds here =
      ap Some (offset c a same)
      ∙ ap (option_map (cell_offset k bs i))
      (lowest_here _ (cell_bad k bs i) c (subst₂ (λ (a b : ℕ). c < a / b) sized wide m) before
      (sym (here ∙ told c a e same holds)))

  -- One more cell passed.
  passed :
      (c a : ℕ) (e : Cell) → ((d : ℕ) → d < c → cell_bad k bs i d ≡ false) → a ≡ o + w * c → e ≡ cell_of k i c →
      false ≡ not (allowed e cs (value_at e cs a)) → (d : ℕ) → d < c + 1 → cell_bad k bs i d ≡ false
  passed c a e before same holds here = below_more _ _ before (sym (here ∙ told c a e same holds))

  -- Where every cell passed, none is bad.
  none_bad : ((d : ℕ) → d < s / w → cell_bad k bs i d ≡ false) → None ≡ bad_cell k bs i
  none_bad none =
      ap (option_map (cell_offset k bs i))
      (lowest_none _ (cell_bad k bs i) (λ d l. none d (subst₂ (λ (a b : ℕ). d < a / b) (sym sized) (sym wide) l)))

pub returns-then-is_bad : goal.returns-then-is_bad
returns-then-is_bad g c =
    found c.args.self.kind c.args.self.bytes.now _ c.args.pair _ _ _ c.read-section.ensures.begins
    c.read-section.ensures.sized c.width-width.ensures c.read-bounds.ensures c.loop-cell.cell _ _ c.loop-cell-test.true c.loop-cell.invariant
    (omega arith) (c.requires.told _ _ c.held.ensures) c.if-is_bad.ensures

pub loop-cell-preserved : goal.loop-cell-preserved
loop-cell-preserved g c =
    passed c.args.self.kind c.args.self.bytes.now _ c.args.pair _ _ _ c.read-section.ensures.begins
    c.read-section.ensures.sized c.width-width.ensures c.read-bounds.ensures c.loop-cell.cell _ _ c.loop-cell.invariant (omega arith) (c.requires.told _ _ c.held.ensures)
    c.if-is_bad.ensures

pub returns : goal.returns
returns g c =
    none_bad c.args.self.kind c.args.self.bytes.now _ c.args.pair _ _ _ c.read-section.ensures.begins
    c.read-section.ensures.sized c.width-width.ensures c.read-bounds.ensures (λ d l. c.loop-cell.invariant d (omega arith))
