-- Bounded search. Assumes nothing.
use Rattle.std.specs.Prelude.{ℕ, zero, suc, Bool, find, None, Option}
use Rattle.std.specs.List.{range_with_len, list_all, list_any}
use Rattle.std.specs.Option.{option_or}

-- The lowest number below n that passes the test.
unfoldable pub lowest : ℕ → (ℕ → Bool) → Option ℕ
lowest n test = find test (range_with_len 0 n)

-- Every number below n passes the test.
unfoldable pub every : ℕ → (ℕ → Bool) → Bool
every n test = list_all test (range_with_len 0 n)

-- Some number below n passes the test.
unfoldable pub some : ℕ → (ℕ → Bool) → Bool
some n test = list_any test (range_with_len 0 n)

-- The first answer among f 0, f 1 and so on, below f n.
unfoldable pub first : {A : Type 0} → ℕ → (ℕ → Option A) → Option A
first zero f = None
first (suc n) f = option_or (first n f) (f n)
