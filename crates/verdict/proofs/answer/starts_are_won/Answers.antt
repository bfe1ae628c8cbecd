use Rattle.std.proofs.Common.{◌≡◌, ℕ, Bool, true, false, not, ◌||◌, get_or, Decides, sym, refl, ◌∙◌, rules, tests}
use Rattle.std.proofs.lemmas.Bool.{false≢true}
use Rattle.arena.specs.declared.player.Player.TheVariants.{Environment}
use Rattle.arena.specs.Game.{starts}
use Rattle.search.specs.First.{every}
use Rattle.search.proofs.Chains.{every_from_all}
use Rattle.search.proofs.Searching.{decides_every}
use Rattle.verdict.specs.Answers.{is_controller}
use Rattle.verdict.proofs.answer.starts_are_won.Goals as goal

-- A test that holds where another does not, or where both do, is that the one implies the other.
implies : (a b : Bool) → Decides (not a || b) (a ≡ true → b ≡ true)
implies true b = (λ e _. e, λ h. h refl)
implies false b = (λ _ e. absurd (false≢true e), λ _. refl)

pub returns : goal.returns
returns g c =
    let arena = c.args.arena.now in
    let won : ℕ → Bool = λ q. is_controller (get_or c.args.winners.now q Environment) in
    let test : ℕ → Bool = λ q. not (starts (g.A.Arena.goals arena) q) || won q in
    let told : c.all.result ≡ every _ test =
    every_from_all (g.A.Moves.moves arena).states _ test _ _ c.all.result c.states.ensures (λ x b q k. search (rules, tests)) c.all.ensures.ran in
    let decided = decides_every (g.A.Moves.moves arena).states test _ (λ q. implies (starts (g.A.Arena.goals arena) q) (won q)) in (
      (λ e q s. decided.0 (sym told ∙ e) q ((g.met.A.Arena.lawful arena).starts_inside q s) s),
      λ h. told ∙ decided.1 (λ q l. h q),
    )
