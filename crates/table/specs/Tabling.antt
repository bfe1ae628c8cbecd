-- What holds of the bytes of a table, and that the game they spell is lawful.
use Rattle.std.specs.Prelude.{◌≡◌, ℕ, ◌+◌, ◌*◌, ◌/◌, ◌<◌, Bool, true, false, cond, ◌&&◌, ◌||◌, ltb, List, length, Some, None, ◌==◌, nat_eq, nat_lt, slice_index, refl}
use Rattle.std.proofs.Common.{sym, ◌∙◌, ⊎_elim, arith}
use Rattle.std.proofs.lemmas.Bool.{and_parts, or_cases, false≢true, ltb-true, eqb-true}
use Rattle.std.proofs.lemmas.Nat.{mul-add-lt}
use Rattle.std.proofs.lemmas.Option.{none-some}
use Rattle.arena.specs.Game.{LawfulMoves, LawfulGoals}
use Rattle.arena.proofs.Guarded.{both_inside, given_where, guarded_goals_lawful}
use Rattle.image.specs.declared.kind.Kind.TheVariants.{Table}
use Rattle.image.specs.Format.{states_of, inputs_of, replies_of, section_at, section_size, table_sizes}
use Rattle.image.proofs.Sounding.{Sound, sound, at_least, at_most, sized, inside, cell_allowed}
use Rattle.table.specs.Tables.{is_table, target_at, target_of, table_moves, table_goals}

module _ (bs : List ℕ) (s : Sound Table bs) where
  -- Each section has its length.
  exactly_sized : (i : ℕ) → i < 5 → section_size bs i ≡ slice_index (table_sizes bs) i
  exactly_sized i l = eqb-true _ _ (sized Table bs s i l)

  -- The cell of a row and a column of flags lies in the image.
  pub flag_inside :
      (i row rows column columns : ℕ) → i < 5 → slice_index (table_sizes bs) i ≡ rows * columns → row < rows → column < columns →
      section_at bs i + (row * columns + column) < length bs
  flag_inside i row rows column columns l e r c = omega (arith, mul-add-lt row columns column rows r c, exactly_sized i l, inside Table bs s i l)

  -- The cell of a state, an input and a reply is one of the next states.
  target_counted :
      (q x y : ℕ) → q < states_of bs → x < inputs_of bs → y < replies_of bs →
      (q * inputs_of bs + x) * replies_of bs + y < section_size bs 1 / 2
  target_counted q x y a b c =
      omega (
        arith,
        mul-add-lt (q * inputs_of bs + x) (replies_of bs) y (inputs_of bs * states_of bs) (mul-add-lt q (inputs_of bs) x (states_of bs) a b) c,
        exactly_sized 1 (omega arith),
      )

  -- It names a state of the game, or none.
  target_lawful :
      (q x y p : ℕ) → q < states_of bs → x < inputs_of bs → y < replies_of bs →
      target_of (target_at bs q x y) ≡ Some p → p < states_of bs
  target_lawful q x y p a b c e = named _ (cell_allowed Table bs s 1 _ (omega arith) (target_counted q x y a b c)) e
    where
      named : (n : ℕ) → (nat_lt n (states_of bs) || n == 65535) ≡ true → target_of n ≡ Some p → p < states_of bs
      named n h t = go (n == 65535) refl t
        where
          go : (b : Bool) → (n == 65535) ≡ b → cond b None (Some n) ≡ Some p → p < states_of bs
          go true f u = absurd (none-some p u)
          go false f u =
              ⊎_elim (λ (l : ltb n (states_of bs) ≡ true). let same : n ≡ p = cc in omega (arith, ltb-true _ _ l))
              (λ (g : nat_eq n 65535 ≡ true). absurd (false≢true (sym f ∙ g))) (or_cases _ _ h)

  -- A reply that leads somewhere is one of the game's, and so is where it leads.
  legal :
      (q x y p : ℕ) → (table_moves bs).leads q x y ≡ Some p →
      ((q < states_of bs) × (x < inputs_of bs) × (y < replies_of bs)) × (p < states_of bs)
  legal q x y p e =
      let led = given_where (nat_lt q (states_of bs) && _) (target_of (target_at bs q x y)) p e in
      let t = and_parts _ _ led.0 in
      let v = and_parts _ _ t.1 in
      let a = ltb-true _ _ t.0 in
      let b = ltb-true _ _ v.0 in
      let c = ltb-true _ _ v.1 in
      ((a, b, c), target_lawful q x y p a b c led.1)

  pub lawful_moves : LawfulMoves (table_moves bs)
  lawful_moves = record {
    some_state = at_least Table bs s 0 (omega arith);
    few_states = at_most Table bs s 0 (omega arith);
    some_input = at_least Table bs s 1 (omega arith);
    few_inputs = at_most Table bs s 1 (omega arith);
    some_reply = at_least Table bs s 2 (omega arith);
    few_replies = at_most Table bs s 2 (omega arith);
    opened_inside = λ q x e. both_inside q _ x _ _ e;
    leads_from_inside = λ q x y p e. (legal q x y p e).0;
    leads_inside = λ q x y p e. (legal q x y p e).1;
  }

  pub lawful_goals : LawfulGoals (states_of bs) (table_goals bs)
  lawful_goals =
      guarded_goals_lawful _ _ _ _ _ _ (at_least Table bs s 3 (omega arith)) (at_most Table bs s 3 (omega arith)) (at_least Table bs s 4 (omega arith))
      (at_most Table bs s 4 (omega arith))

-- So it does in bytes that are judged to be a table.
pub table_flag_inside :
    (bs : List ℕ) (i row rows column columns : ℕ) → is_table bs ≡ true → i < 5 → slice_index (table_sizes bs) i ≡ rows * columns →
    row < rows → column < columns → section_at bs i + (row * columns + column) < length bs
table_flag_inside bs i row rows column columns e = flag_inside bs (sound Table bs e) i row rows column columns

-- Bytes that are judged to be a table spell lawful moves.
pub table_moves_lawful : (bs : List ℕ) → is_table bs ≡ true → LawfulMoves (table_moves bs)
table_moves_lawful bs e = lawful_moves bs (sound Table bs e)

-- And lawful goals.
pub table_goals_lawful : (bs : List ℕ) → is_table bs ≡ true → LawfulGoals (states_of bs) (table_goals bs)
table_goals_lawful bs e = lawful_goals bs (sound Table bs e)
