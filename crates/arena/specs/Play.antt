-- How a game is played: a step, the rounds so far, and the play that never ends. Assumes nothing.
use Rattle.std.specs.Prelude.{◌≡◌, ℕ, zero, suc, ◌<◌, ◌≤◌, Bool, true, List, [], ◌∷◌, Some}
use Rattle.arena.specs.Game.{Game}

-- From state q the environment may pick the input x, and the controller then the reply y, which leads to state p.
pub record Step (g : Game) (q x y p : ℕ) : Type 0 where
  pub is_open : g.moves.opened q x ≡ true
  pub is_legal : g.moves.leads q x y ≡ Some p

-- A round that was played: at this state, this input was picked and this reply given.
pub record Round : Type 0 where
  pub state : ℕ
  pub input : ℕ
  pub reply : ℕ

-- The past: the rounds so far, the newest first.
abbrev pub Past : Type 0
Past = List Round

-- The rounds of the past lead from state q to state p.
abbrev pub Reaches : Game → ℕ → Past → ℕ → Type 0
Reaches g q [] p = q ≡ p
Reaches g q (r ∷ past) p = Reaches g q past r.state × Step g r.state r.input r.reply p

-- A play from state q that never ends: the state, the input and the reply of every round.
pub record Play (g : Game) (q : ℕ) : Type 0 where
  pub state : ℕ → ℕ
  pub input : ℕ → ℕ
  pub reply : ℕ → ℕ
  pub begins : state 0 ≡ q
  pub goes_on : (n : ℕ) → Step g (state n) (input n) (reply n) (state (suc n))

-- The first n rounds of an endless play.
abbrev pub past_of : {g : Game} {q : ℕ} → Play g q → ℕ → Past
past_of p zero = []
past_of p (suc n) = record { state = p.state n; input = p.input n; reply = p.reply n } ∷ past_of p n

-- The play visits the set again and again: from any round n on, at some round m. (This is a function that finds the next
-- visit; read classically it is the usual notion.)
abbrev pub Again : {g : Game} {q : ℕ} → Play g q → (ℕ → Bool) → Type 0
Again p set = (n : ℕ) → (m : ℕ) × (n ≤ m) × (set (p.state m) ≡ true)

-- The endless play is the controller's: if it visits every assumption set again and again, then every guarantee set too.
-- Otherwise it is the environment's.
abbrev pub Controllers : {g : Game} {q : ℕ} → Play g q → Type 0
Controllers {g} p =
    ((i : ℕ) → i < g.goals.assumptions → Again p (g.goals.assumed i)) →
    (j : ℕ) → j < g.goals.guarantees → Again p (g.goals.guaranteed j)
