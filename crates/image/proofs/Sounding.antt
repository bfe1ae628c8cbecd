-- What the judging found of an image.
use Rattle.std.proofs.Common.{◌≡◌, ℕ, ◌+◌, ◌/◌, ◌<◌, ◌≤◌, Bool, true, false, cond, ◌||◌, ltb, List, length, get_or, Some, None, Ok, Err, Option, Result, sym, refl, ap, ◌∙◌, subst, arith}
use Rattle.std.specs.Option.{option_map}
use Rattle.std.proofs.lemmas.Option.{none-some}
use Rattle.std.proofs.lemmas.Bool.{or_parts, not-false, false≢true, ltb-false}
use Rattle.image.specs.declared.kind.Kind.{Kind}
use Rattle.image.specs.declared.kind.Kind.TheVariants.{Table, Rules}
use Rattle.image.specs.declared.refusal.Refusal.{Refusal}
use Rattle.image.specs.declared.refusal.Refusal.TheVariants.{Length, Header, Pair, Section, Value}
use Rattle.image.specs.Bytes.{number_at}
use Rattle.image.specs.Format.{
  kind_of,
  pairs_of,
  bounds_of,
  too_many_bits,
  section_at,
  section_size,
  size_fits,
  cell_of,
  width_of,
  value_at,
  allowed,
}
use Rattle.image.specs.Judging.{
  judged,
  judged_as,
  refused_at,
  right_length,
  number_bad,
  number_offset,
  bad_number,
  misplaced,
  misplaced_pair,
  wrong_length,
  section_of_wrong_length,
  cell_bad,
  cell_offset,
  bad_cell,
  bad_value,
}
use Rattle.image.specs.Opening.{is_image, says_kind, same_kind, built_in}
use Rattle.search.specs.First.{first, lowest}
use Rattle.search.proofs.Searching.{none_passes, first_none_all}

-- No test found anything.
pub record Sound (k : Kind) (bs : List ℕ) : Type 0 where
  pub numbers : bad_number k bs ≡ None
  pub ordered : misplaced_pair k bs ≡ None
  pub sizes : section_of_wrong_length k bs ≡ None
  pub values : bad_value k bs ≡ None

-- A refusal is no kind.
no_kind : (e : Refusal) (k : Kind) → Err e ≡ Ok k → ⊥
no_kind e k h = let z : ◌≡◌ {A = ℕ} 0 1 = cc in omega arith

granted :
    (o : Option ℕ) (f : ℕ → Refusal) (later : Result Kind Refusal) (k : Kind) → refused_at o f later ≡ Ok k →
    (o ≡ None) × (later ≡ Ok k)
granted (Some n) f later k e = absurd (no_kind (f n) k e)
granted None f later k e = (refl, e)

all_granted : (j k : Kind) (bs : List ℕ) → judged_as (Some j) bs ≡ Ok k → Sound k bs
all_granted j k bs e =
    let n = granted (bad_number j bs) Header _ k e in
    let p = granted (misplaced_pair j bs) Pair _ k n.1 in
    let s = granted (section_of_wrong_length j bs) Section _ k p.1 in
    let v = granted (bad_value j bs) Value _ k s.1 in
    let same : j ≡ k = cc in
    subst (λ (i : Kind). Sound i bs) same (record { numbers = n.0; ordered = p.0; sizes = s.0; values = v.0 })

-- What is an image of a kind is judged so, and what is judged so is one.
judged_of_image : (k : Kind) (bs : List ℕ) → is_image k bs ≡ true → judged bs ≡ Ok k
unfolding is_image
judged_of_image k bs e = go k (judged bs) e
  where
    go : (k : Kind) (r : Result Kind Refusal) → says_kind k r ≡ true → r ≡ Ok k
    go Table (Ok Table) h = refl
    go Table (Ok Rules) h = absurd (false≢true h)
    go Rules (Ok Table) h = absurd (false≢true h)
    go Rules (Ok Rules) h = refl
    go k (Err x) h = absurd (false≢true h)

pub image_of_judged : (k : Kind) (bs : List ℕ) → judged bs ≡ Ok k → is_image k bs ≡ true
unfolding is_image
image_of_judged k bs e = ap (says_kind k) e ∙ same k
  where
    same : (k : Kind) → same_kind k k ≡ true
    same Table = refl
    same Rules = refl

-- The built-in image of each kind is one.
pub built_in_lawful : (k : Kind) → is_image k (built_in k) ≡ true
unfolding is_image first lowest
built_in_lawful Table = refl
built_in_lawful Rules = refl

pub sound : (k : Kind) (bs : List ℕ) → is_image k bs ≡ true → Sound k bs
sound k bs e = by_length (right_length bs) (judged_of_image k bs e)
  where
    by_kind : (o : Option Kind) → judged_as o bs ≡ Ok k → Sound k bs
    by_kind None h = absurd (no_kind (Header 0) k h)
    by_kind (Some j) h = all_granted j k bs h

    by_length : (b : Bool) → cond b (judged_as (kind_of bs) bs) (Err Length) ≡ Ok k → Sound k bs
    by_length true h = by_kind (kind_of bs) h
    by_length false h = absurd (no_kind Length k h)

-- Where no pair is misplaced, each section lies in the image.
pub section_inside :
    (k : Kind) (bs : List ℕ) → misplaced_pair k bs ≡ None → (i : ℕ) → i < pairs_of k →
    section_at bs i + section_size bs i ≤ length bs
section_inside k bs e i l = ltb-false _ _ (or_parts _ _ (none_passes (pairs_of k) (misplaced k bs) e i l)).1

-- What comes of a place does, only where there is one.
nothing : (f : ℕ → ℕ) (o : Option ℕ) → option_map f o ≡ None → o ≡ None
nothing f (Some n) e = absurd (none-some (f n) (sym e))
nothing f None e = refl

module _ (k : Kind) (bs : List ℕ) (s : Sound k bs) where
  module _ (h : ℕ) (l : h < 5) where
    abbrev value : ℕ
    value = number_at bs (number_offset h)

    fine : number_bad k bs h ≡ false
    fine = none_passes 5 (number_bad k bs) (nothing number_offset (lowest 5 (number_bad k bs)) s.numbers) h l

    below_fine : (ltb ((get_or (bounds_of k) h (0, 0)).1) value || too_many_bits k bs h) ≡ false
    below_fine = (or_parts (ltb value ((get_or (bounds_of k) h (0, 0)).0)) _ fine).1

    -- Each header number is at least its least value.
    pub at_least : (get_or (bounds_of k) h (0, 0)).0 ≤ number_at bs (number_offset h)
    at_least = ltb-false _ _ (or_parts (ltb value ((get_or (bounds_of k) h (0, 0)).0)) _ fine).0

    -- Each header number is at most its greatest value.
    pub at_most : number_at bs (number_offset h) ≤ (get_or (bounds_of k) h (0, 0)).1
    at_most = ltb-false _ _ (or_parts _ (too_many_bits k bs h) below_fine).0

    -- No header number makes too many bits.
    pub few_bits : too_many_bits k bs h ≡ false
    few_bits = (or_parts (ltb ((get_or (bounds_of k) h (0, 0)).1) value) _ below_fine).1

  -- Each section has a length that it may have.
  pub sized : (i : ℕ) → i < pairs_of k → size_fits k bs i ≡ true
  sized i l = not-false _ (none_passes (pairs_of k) (wrong_length k bs) s.sizes i l)

  -- Each section lies in the image.
  pub inside : (i : ℕ) → i < pairs_of k → section_at bs i + section_size bs i ≤ length bs
  inside = section_inside k bs s.ordered

  -- Each cell holds what it may.
  pub cell_allowed :
      (i c : ℕ) → i < pairs_of k → c < section_size bs i / width_of k i →
      allowed (cell_of k i c) bs (value_at (cell_of k i c) bs (cell_offset k bs i c)) ≡ true
  cell_allowed i c l m =
      not-false _
      (none_passes _ (cell_bad k bs i) (nothing (cell_offset k bs i) _ (first_none_all (pairs_of k) (bad_cell k bs) s.values i l)) c m)
