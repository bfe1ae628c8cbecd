-- What bytes are opened as. Assumes nothing.
use Rattle.std.specs.Prelude.{ℕ, Bool, true, false, cond, List, [], ◌∷◌, Ok, Err, Result}
use Rattle.image.specs.declared.kind.Kind.{Kind}
use Rattle.image.specs.declared.kind.Kind.TheVariants.{Table, Rules}
use Rattle.image.specs.declared.refusal.Refusal.{Refusal}
use Rattle.image.specs.Judging.{judged}

-- The two kinds are the same.
abbrev pub same_kind : Kind → Kind → Bool
same_kind Table Table = true
same_kind Table Rules = false
same_kind Rules Table = false
same_kind Rules Rules = true

-- The judging says: an image of this kind.
abbrev pub says_kind : Kind → Result Kind Refusal → Bool
says_kind k (Ok j) = same_kind k j
says_kind k (Err e) = false

-- The bytes are judged to be an image of this kind.
unfoldable pub is_image : Kind → List ℕ → Bool
is_image k bs = says_kind k (judged bs)

-- The built-in table has one state, one input, which is closed, and one reply, which leads to the state; both sets are empty, and
-- there is no start. The built-in rules have one signal on each side and one set of each kind, and a row of the environment whose
-- masks are all zero: it never holds, so that no input is open.
abbrev pub built_in : Kind → List ℕ
built_in Table =
    1 ∷ 0 ∷ 1 ∷ 0 ∷ 1 ∷ 0 ∷ 1 ∷ 0 ∷ 1 ∷ 0 ∷ 1 ∷ 0 ∷
    32 ∷ 0 ∷ 1 ∷ 0 ∷ 33 ∷ 0 ∷ 2 ∷ 0 ∷ 35 ∷ 0 ∷ 1 ∷ 0 ∷ 36 ∷ 0 ∷ 1 ∷ 0 ∷ 37 ∷ 0 ∷ 1 ∷ 0 ∷
    0 ∷ 0 ∷ 0 ∷ 0 ∷ 0 ∷ 0 ∷ []
built_in Rules =
    2 ∷ 0 ∷ 1 ∷ 0 ∷ 1 ∷ 0 ∷ 0 ∷ 0 ∷ 1 ∷ 0 ∷ 1 ∷ 0 ∷
    32 ∷ 0 ∷ 8 ∷ 0 ∷ 40 ∷ 0 ∷ 0 ∷ 0 ∷ 40 ∷ 0 ∷ 0 ∷ 0 ∷ 40 ∷ 0 ∷ 0 ∷ 0 ∷ 40 ∷ 0 ∷ 0 ∷ 0 ∷
    0 ∷ 0 ∷ 0 ∷ 0 ∷ 0 ∷ 0 ∷ 0 ∷ 0 ∷ []

-- The kind that is opened, given what the judging says.
abbrev pub kind_after : Result Kind Refusal → Kind
kind_after (Ok k) = k
kind_after (Err e) = Table

-- The bytes that are opened, given what the judging says: the bytes themselves, or the built-in table where they are refused.
abbrev pub bytes_after : Result Kind Refusal → List ℕ → List ℕ
bytes_after (Ok k) bs = bs
bytes_after (Err e) bs = built_in Table

-- The kind that any byte string is opened as.
abbrev pub opened_kind : List ℕ → Kind
opened_kind bs = kind_after (judged bs)

-- The bytes that any byte string is opened as.
abbrev pub opened_bytes : List ℕ → List ℕ
opened_bytes bs = bytes_after (judged bs) bs

-- The bytes of an image of kind j, taken as one of kind k: themselves if the kinds are the same, and else the built-in image.
abbrev pub bytes_as : Kind → Kind → List ℕ → List ℕ
bytes_as k j bs = cond (same_kind k j) bs (built_in k)
