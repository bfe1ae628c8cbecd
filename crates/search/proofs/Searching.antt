-- What a bounded search finds.
use Rattle.std.proofs.Common.{◌≡◌, ℕ, zero, suc, ◌+◌, ◌<◌, Bool, true, false, cond, ◌&&◌, ◌||◌, List, [], ◌∷◌, ◌++◌, find, is_some, Some, None, Decides, Option, sym, refl, ap, ap₂, ◌∙◌, subst, ⊎_elim, arith}
use Rattle.std.specs.List.{range_with_len, list_all, list_any}
use Rattle.std.specs.Option.{option_or, option_map}
use Rattle.std.proofs.Math.Bool.{and-true, or-false}
use Rattle.std.proofs.lemmas.Bool.{and_parts, and_from, cases_eq, false≢true}
use Rattle.std.proofs.lemmas.Option.{none-some}
use Rattle.std.proofs.lemmas.List.Folds.{find-append, list_any-append, list_all-append}
use Rattle.search.specs.First.{first, lowest, every, some}

-- ── Tests of all numbers, and of some ─────────────────────────────────────────────────────────
-- One more number comes last.
below_more : (n : ℕ) → range_with_len 0 (suc n) ≡ range_with_len 0 n ++ n ∷ []
below_more n = from 0 n ∙ ap (λ (k : ℕ). range_with_len 0 n ++ k ∷ []) (omega arith)
  where
    from : (a n : ℕ) → range_with_len a (suc n) ≡ range_with_len a n ++ (a + n) ∷ []
    from a zero = ap (λ (k : ℕ). k ∷ []) (omega arith)
    from a (suc n) =
        ap (λ (ks : List ℕ). a ∷ ks) (from (a + 1) n ∙ ap (λ (k : ℕ). range_with_len (a + 1) n ++ k ∷ []) (omega arith))

-- Every number below n + 1 passes if those below n do, and n does.
pub every_more : (n : ℕ) (test : ℕ → Bool) → every (suc n) test ≡ (every n test && test n)
unfolding every
every_more n test =
    ap (list_all test) (below_more n) ∙ list_all-append test (range_with_len 0 n) (n ∷ [])
    ∙ ap (λ (b : Bool). list_all test (range_with_len 0 n) && b) (and-true (test n))

-- Some number below n + 1 passes if one below n does, or n does.
pub some_more : (n : ℕ) (test : ℕ → Bool) → some (suc n) test ≡ (some n test || test n)
unfolding some
some_more n test =
    ap (list_any test) (below_more n) ∙ list_any-append test (range_with_len 0 n) (n ∷ [])
    ∙ ap (λ (b : Bool). list_any test (range_with_len 0 n) || b) (or-false (test n))

-- Below 0 every number passes.
pub every_none : (test : ℕ → Bool) → every 0 test ≡ true
unfolding every
every_none test = refl

-- And none does.
pub some_none : (test : ℕ → Bool) → some 0 test ≡ false
unfolding some
some_none test = refl

-- Where every number passes, each one below the bound does.
pub each_passes : (n : ℕ) (test : ℕ → Bool) → every n test ≡ true → (k : ℕ) → k < n → test k ≡ true
each_passes zero test e k l = absurd (omega arith)
each_passes (suc n) test e k l =
    let t = and_parts (every n test) (test n) (sym (every_more n test) ∙ e) in
    ⊎_elim (λ (same : k ≡ n). ap test same ∙ t.1) (λ (other : k ≡ n → ⊥). each_passes n test t.0 k (omega (arith, l, other)))
    (cases_eq k n)

-- Tests that agree below the bound say the same of all.
pub every_same : (n : ℕ) (f g : ℕ → Bool) → ((k : ℕ) → k < n → f k ≡ g k) → every n f ≡ every n g
every_same zero f g same = every_none f ∙ sym (every_none g)
every_same (suc n) f g same =
    every_more n f ∙ ap₂ (λ (a b : Bool). a && b) (every_same n f g (λ k l. same k (omega arith))) (same n (omega arith))
    ∙ sym (every_more n g)

-- The test of every number is true just if each number below the bound passes.
pub decides_every :
    (n : ℕ) (test : ℕ → Bool) (P : ℕ → Type 0) → ((k : ℕ) → Decides (test k) (P k)) → Decides (every n test) ((k : ℕ) → k < n → P k)
decides_every n test P each = (λ e k l. (each k).0 (each_passes n test e k l), all n)
  where
    all : (n : ℕ) → ((k : ℕ) → k < n → P k) → every n test ≡ true
    all zero p = every_none test
    all (suc n) p = every_more n test ∙ and_from _ _ (all n (λ k l. p k (omega arith))) ((each n).1 (p n (omega arith)))

-- ── The first answer ──────────────────────────────────────────────────────────────────────────
module _ {A : Type 0} where
  -- Nothing is found where no place answers.
  pub first_none : (n : ℕ) (f : ℕ → Option A) → ((k : ℕ) → k < n → f k ≡ None) → first n f ≡ None
  unfolding first
  first_none zero f none = refl
  first_none (suc n) f none =
      let before = first_none n f (λ k l. none k (omega arith)) in
      let here = none n (omega arith) in
      cc

  -- The first place that answers gives the answer.
  pub first_here :
      (n : ℕ) (f : ℕ → Option A) (i : ℕ) → i < n → ((k : ℕ) → k < i → f k ≡ None) → is_some (f i) ≡ true → first n f ≡ f i
  unfolding first
  first_here zero f i l none some = absurd (omega arith)
  first_here (suc n) f i l none some =
      ⊎_elim
      (λ (same : i ≡ n).
      let before = first_none n f (λ k b. none k (omega arith)) in
      let here = ap f same in
      cc)
      (λ (other : i ≡ n → ⊥).
      let found = first_here n f i (omega (arith, other)) none some in
      let kept = answer_kept (f i) (f n) some in
      cc)
      (cases_eq i n)
    where
      answer_kept : (o p : Option A) → is_some o ≡ true → option_or o p ≡ o
      answer_kept (Some x) p e = refl
      answer_kept None p e = absurd (false≢true e)

  -- Where nothing is found, no place answers.
  pub first_none_all : (n : ℕ) (f : ℕ → Option A) → first n f ≡ None → (k : ℕ) → k < n → f k ≡ None
  unfolding first
  first_none_all zero f e k l = absurd (omega arith)
  first_none_all (suc n) f e k l =
      ⊎_elim (λ (same : k ≡ n). ap f same ∙ none_right (first n f) (f n) e)
      (λ (other : k ≡ n → ⊥). first_none_all n f (none_left (first n f) (f n) e) k (omega (arith, other)))
      (cases_eq k n)
    where
      none_left : (o p : Option A) → option_or o p ≡ None → o ≡ None
      none_left (Some x) p h = h
      none_left None p h = refl

      none_right : (o p : Option A) → option_or o p ≡ None → p ≡ None
      none_right (Some x) p h = absurd (none-some x (sym h))
      none_right None p h = h

  -- A search by a test, in which each number that passes gives an answer.
  module _ (test : ℕ → Bool) (answer : ℕ → A) where
    abbrev told : ℕ → Option A
    told k = cond (test k) (Some (answer k)) None

    told_none : (k : ℕ) → test k ≡ false → told k ≡ None
    told_none k e = cc

    told_some : (k : ℕ) → test k ≡ true → told k ≡ Some (answer k)
    told_some k e = cc

    none_told : (k : ℕ) → told k ≡ None → test k ≡ false
    none_told k e = go (test k) e
      where
        go : (b : Bool) → cond b (Some (answer k)) None ≡ None → b ≡ false
        go true h = absurd (none-some (answer k) (sym h))
        go false h = refl

    -- The first number that passes gives its answer.
    pub found :
        (n i : ℕ) → i < n → ((k : ℕ) → k < i → test k ≡ false) → test i ≡ true →
        Some (answer i) ≡ first n (λ k. cond (test k) (Some (answer k)) None)
    found n i l before here =
        let some = told_some i here in
        sym (first_here n told i l (λ k b. told_none k (before k b)) (ap is_some some) ∙ some)

    -- Where no number passes, nothing is found.
    pub not_found :
        (n : ℕ) → ((k : ℕ) → k < n → test k ≡ false) → None ≡ first n (λ k. cond (test k) (Some (answer k)) None)
    not_found n none = sym (first_none n told (λ k b. told_none k (none k b)))

    -- Where nothing is found, no number passes.
    pub passed :
        (n : ℕ) → first n (λ k. cond (test k) (Some (answer k)) None) ≡ None → (k : ℕ) → k < n → test k ≡ false
    passed n e k l = none_told k (first_none_all n told e k l)

-- ── The lowest number that passes ─────────────────────────────────────────────────────────────
-- It is the first answer of a search in which each number that passes answers itself.
pub lowest_first : (n : ℕ) (test : ℕ → Bool) → lowest n test ≡ first n (λ k. cond (test k) (Some k) None)
unfolding lowest first
lowest_first zero test = refl
lowest_first (suc n) test =
    ap (find test) (below_more n) ∙ find-append test (range_with_len 0 n) (n ∷ [])
    ∙ ap (λ (o : Option ℕ). option_or o (cond (test n) (Some n) None)) (lowest_first n test)

-- And where each gives an answer, the first one found is that of the lowest number.
pub answer_of_lowest :
    {A : Type 0} (n : ℕ) (test : ℕ → Bool) (answer : ℕ → A) →
    first n (λ k. cond (test k) (Some (answer k)) None) ≡ option_map answer (lowest n test)
unfolding first
answer_of_lowest {A = A} n test answer = go n ∙ ap (option_map answer) (sym (lowest_first n test))
  where
    join :
        (n : ℕ) (o : Option ℕ) (b : Bool) →
        option_or (option_map answer o) (cond b (Some (answer n)) None) ≡ option_map answer (option_or o (cond b (Some n) None))
    join n (Some x) b = refl
    join n None true = refl
    join n None false = refl

    go :
        (n : ℕ) →
        first n (λ k. cond (test k) (Some (answer k)) None) ≡ option_map answer (first n (λ k. cond (test k) (Some k) None))
    go zero = refl
    go (suc n) =
        ap (λ (o : Option A). option_or o (cond (test n) (Some (answer n)) None)) (go n)
        ∙ join n (first n (λ k. cond (test k) (Some k) None)) (test n)

-- A number that passes, and none before it, is the one found.
pub lowest_here :
    (n : ℕ) (test : ℕ → Bool) (i : ℕ) → i < n → ((k : ℕ) → k < i → test k ≡ false) → test i ≡ true → Some i ≡ lowest n test
lowest_here n test i l before here = found test (λ k. k) n i l before here ∙ sym (lowest_first n test)

-- Where no number passes, none is found.
pub lowest_none : (n : ℕ) (test : ℕ → Bool) → ((k : ℕ) → k < n → test k ≡ false) → None ≡ lowest n test
lowest_none n test none = not_found test (λ k. k) n none ∙ sym (lowest_first n test)

-- Where none is found, no number below the bound passes.
pub none_passes : (n : ℕ) (test : ℕ → Bool) → lowest n test ≡ None → (k : ℕ) → k < n → test k ≡ false
none_passes n test e k l = passed test (λ k. k) n (sym (lowest_first n test) ∙ e) k l

-- The first number that answers itself lies below the bound and passes.
first_passes :
    (n : ℕ) (test : ℕ → Bool) (x : ℕ) → first n (λ k. cond (test k) (Some k) None) ≡ Some x → (x < n) × (test x ≡ true)
unfolding first
first_passes zero test x e = absurd (none-some x e)
first_passes (suc n) test x e =
    go (first n (λ k. cond (test k) (Some k) None)) (test n) (first_passes n test x) refl e
  where
    here : (b : Bool) → test n ≡ b → cond b (Some n) None ≡ Some x → (x < suc n) × (test x ≡ true)
    here true t h = let same : n ≡ x = cc in (omega arith, subst (λ (k : ℕ). test k ≡ true) same t)
    here false t h = absurd (none-some x h)

    go :
        (o : Option ℕ) (b : Bool) → (o ≡ Some x → (x < n) × (test x ≡ true)) → test n ≡ b → option_or o (cond b (Some n) None) ≡ Some x →
        (x < suc n) × (test x ≡ true)
    go (Some y) b before t h = let p = before h in (omega arith, p.1)
    go None b before t h = here b t h

-- What is found lies below the bound and passes.
pub lowest_passes : (n : ℕ) (test : ℕ → Bool) (x : ℕ) → lowest n test ≡ Some x → (x < n) × (test x ≡ true)
lowest_passes n test x e = first_passes n test x (sym (lowest_first n test) ∙ e)

-- Where some number below the bound passes, the search finds one.
pub lowest_finds : (n : ℕ) (test : ℕ → Bool) (x : ℕ) → x < n → test x ≡ true → (y : ℕ) × (lowest n test ≡ Some y)
lowest_finds n test x l t = go (lowest n test) refl
  where
    go : (o : Option ℕ) → lowest n test ≡ o → (y : ℕ) × (o ≡ Some y)
    go (Some y) e = (y, refl)
    go None e = absurd (false≢true (sym (none_passes n test e x l) ∙ t))
