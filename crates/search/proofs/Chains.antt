-- What the chains of the library over the numbers below n give, where their closures compute a function of the number.
use Rattle.std.proofs.Common.{◌≡◌, ℕ, ◌+◌, ◌<◌, Bool, true, false, List, is_some, IsSomeAnd, IfSome, IsTrue, MatchOption, Some, None, Option, sym, refl, ap, ◌∙◌, subst, arith}
use Rattle.std.proofs.iter.Yields.{nat_range_steps}
use Rattle.std.proofs.iter.runs.Sources.{range_runs}
use Rattle.std.specs.Bool.{⊤}
use Rattle.std.specs.Fn.{Called, CalledAt}
use Rattle.std.specs.Iterator.{YieldsThen}
use Rattle.std.specs.Iterator.Runs.{Run, SomeRun, AllItemsGive, IsFirstToGive}
use Rattle.std.specs.List.{FoldsTo}
use Rattle.std.specs.Option.{option_map}
use Rattle.std.specs.declared.ops.Range.{Range}
use Rattle.std.proofs.lemmas.Iterator.{YieldsList-from_range}
use Rattle.std.proofs.lemmas.Iterator.Adapters.{option_map_id}
use Rattle.std.proofs.lemmas.Iterator.Search.{all_from_yields_List, find_from_yields_List}
use Rattle.search.specs.First.{first, lowest, every}
use Rattle.search.proofs.Searching.{first_none, first_here}
use denote.Param.Members.{Mut}
use denote.Ref.{Bor}

-- `find` over the numbers below m, which is n, by its clause `ran`.
pub lowest_from_find :
    {F : Type 0} {g : Mut F (Bor ℕ × Unit {0}) Bool} (n m : ℕ) (test : ℕ → Bool) (u : Range ℕ) (f : F) (r : Option ℕ) → m ≡ n →
    ((x : ℕ) (b : Bool) (q : F) → CalledAt g f x b q → (q ≡ f) × (b ≡ test x)) →
    (xs : List ℕ) × (j : F) × YieldsThen nat_range_steps (record { start = 0; end = m }) xs r u
    × FoldsTo (λ p x q. CalledAt g p x false q) f xs j × MatchOption r ⊤ (λ x. (h : F) × CalledAt g j x true h) →
    r ≡ lowest n test
unfolding lowest
lowest_from_find n m test u f r e computes ran =
    sym (option_map_id r) ∙ find_from_yields_List test u f r ran (YieldsList-from_range 0 m n refl (omega (arith, e))) computes

-- `find` and then `map`.
pub mapped_from_find :
    {F B : Type 0} {g : Mut F (Bor ℕ × Unit {0}) Bool} (n m : ℕ) (test : ℕ → Bool) (v : ℕ → B) (u : Range ℕ) (f : F) (o : Option ℕ) (r : Option B) →
    m ≡ n → ((x : ℕ) (b : Bool) (q : F) → CalledAt g f x b q → (q ≡ f) × (b ≡ test x)) →
    (xs : List ℕ) × (j : F) × YieldsThen nat_range_steps (record { start = 0; end = m }) xs o u
    × FoldsTo (λ p x q. CalledAt g p x false q) f xs j × MatchOption o ⊤ (λ x. (h : F) × CalledAt g j x true h) →
    MatchOption o (r ≡ None) (λ x. r ≡ Some (v x)) → r ≡ option_map v (lowest n test)
mapped_from_find {B = B} n m test v u f o r e computes ran made =
    made_of o r made ∙ ap (option_map v) (lowest_from_find n m test u f o e computes ran)
  where
    made_of : (o : Option ℕ) (r : Option B) → MatchOption o (r ≡ None) (λ x. r ≡ Some (v x)) → r ≡ option_map v o
    made_of None r e = e
    made_of (Some x) r e = e

-- `all` over the numbers below m, which is n, by its clause `ran`.
pub every_from_all :
    {F : Type 0} {g : Mut F (ℕ × Unit {0}) Bool} (n m : ℕ) (test : ℕ → Bool) (u : Range ℕ) (f : F) (r : Bool) → m ≡ n →
    ((x : ℕ) (b : Bool) (q : F) → Called g f (x, tt) b q → (q ≡ f) × (b ≡ test x)) →
    (xs : List ℕ) × (o : Option ℕ) × (j : F) × YieldsThen nat_range_steps (record { start = 0; end = m }) xs o u
    × FoldsTo (λ p x q. Called g p (x, tt) true q) f xs j × MatchOption o (r ≡ true) (λ x. (r ≡ false) × ((h : F) × Called g j (x, tt) false h)) →
    r ≡ every n test
unfolding every
every_from_all n m test u f r e computes ran = all_from_yields_List test u f r ran (YieldsList-from_range 0 m n refl (omega (arith, e))) computes

module _ {F B : Type 0} {g : Mut F (ℕ × Unit {0}) (Option B)} (n : ℕ) (h : ℕ → Option B) (f : F)
    (computes : (x : ℕ) (o : Option B) (q : F) → Called g f (x, tt) o q → (q ≡ f) × (o ≡ h x))
    (p : Run nat_range_steps) (from : p.from ≡ record { start = 0; end = n }) where
  keeps : (a : ℕ × Unit {0}) (o : Option B) (q : F) → Called g f a o q → q ≡ f
  keeps a o q called = (computes a.0 o q called).0

  -- Item k is k, and there are n of them at most.
  item : (k : ℕ) → k < p.len → p.at k ≡ Some k
  item k l =
      sym (option_map_id (p.at k)) ∙ (range_runs p p.seen).3 k l ∙ ap Some (omega (arith, ap (λ (s : Range ℕ). s.start) from))

  begins : p.from.start ≡ 0
  begins = ap (λ (s : Range ℕ). s.start) from

  ends : p.from.end ≡ n
  ends = ap (λ (s : Range ℕ). s.end) from

  -- Where every item gave none, and where item i was the first to give y.
  none_gave : p.whole ≡ true → AllItemsGive p g f None → None ≡ first n h
  none_gave whole none =
      sym
      (first_none n h
      (λ k l.
      sym (computes k None f
      (subst (λ (o : Option ℕ). IfSome o (λ x. Called g f (x, tt) None f)) (item k (omega (arith, l, begins, ends, (range_runs p p.seen).1 whole)))
      (none keeps k))).1))

  one_gave : (y : B) (i : ℕ) → i < p.len → IsFirstToGive p g f (Some y) None i → Some y ≡ first n h
  one_gave y i l firsts =
      let hit : Some y ≡ h i =
      (computes i (Some y) f (subst (λ (o : Option ℕ). IsSomeAnd o (λ x. Called g f (x, tt) (Some y) f)) (item i l) (firsts keeps).0)).1 in
      hit
      ∙ sym
      (first_here n h i (omega (arith, l, begins, ends, (range_runs p p.seen).0))
      (λ k b.
      sym (computes k None f
      (subst (λ (o : Option ℕ). IsSomeAnd o (λ x. Called g f (x, tt) None f)) (item k (omega (arith, b, l))) ((firsts keeps).1 k b))).1)
      (sym (ap is_some hit)))

-- `find_map` over the numbers below m, which is n, by its clause `runs`.
pub first_from_find_map :
    {F B : Type 0} {g : Mut F (ℕ × Unit {0}) (Option B)} (n m : ℕ) (h : ℕ → Option B) (f : F) (r : Option B) → m ≡ n →
    ((x : ℕ) (o : Option B) (q : F) → Called g f (x, tt) o q → (q ≡ f) × (o ≡ h x)) →
    SomeRun nat_range_steps (record { start = 0; end = m }) (λ p. MatchOption r (IsTrue p.whole × AllItemsGive p g f None)
    (λ y. (i : ℕ) × (i < p.len) × (p.len ≡ i + 1) × IsFirstToGive p g f (Some y) None i)) →
    r ≡ first n h
first_from_find_map n m h f None e computes (p, from, c) = none_gave n h f computes p (from ∙ ap (λ (k : ℕ). record { start = 0; end = k }) e) c.0 c.1
first_from_find_map n m h f (Some y) e computes (p, from, c) =
    one_gave n h f computes p (from ∙ ap (λ (k : ℕ). record { start = 0; end = k }) e) y c.0 c.1 c.3
