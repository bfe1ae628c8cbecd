use Rattle.std.proofs.Common.{◌≡◌, ◌++◌, get_or, rules, append_assoc, append-nil, codes}
use Rattle.std.proofs.Output.{has_written_append, has_written_of_eq}
use Rattle.std.proofs.lemmas.List.{at_drop_more, at_drop_all}
use Rattle.arena.specs.declared.player.Player.TheVariants.{Controller}
use Rattle.verdict.specs.Text.{state_line, state_lines, yes_or_no, newline}
use Rattle.verdict.proofs.text.VerdictsDisplay.fmt.Goals as goal
use Rattle.verdict.proofs.text.VerdictsDisplay.fmt.Goals.{then-self, else-self}

pub loop-state-preserved : goal.loop-state-preserved
loop-state-preserved g c = λ plain.
    let before = c.loop-state.invariant plain in
    let q = c.loop-state.state-counter in
    let winners = c.deref-winner-items.result.now in (
      before.0 ++ state_line q (get_or winners q Controller),
      has_written_append _ _ _ _ _ _ before.1 (search rules),
      rw (append_assoc, ← at_drop_more (state_lines q) winners q Controller c.loop-state-test.true) before.2,
    )

pub returns-clause-writes : goal.returns-clause-writes
returns-clause-writes g c = λ plain ok.
    let before = c.loop-state.invariant plain in
    let q = c.loop-state.state-counter in
    let winners = c.deref-winner-items.result.now in
    let lines = rw (at_drop_all (state_lines q) winners q c.loop-state-test.false, append-nil) at before.2 in
    let answer : c.if-self.answer.now ≡ yes_or_no c.args.self.now.realizable =
    elim c.if-self.branch [ then-self w ↦ search rules | else-self w ↦ search rules ] in
    let last = codes "realizable " ++ (yes_or_no c.args.self.now.realizable ++ newline) in
    has_written_of_eq _ _ (before.0 ++ last) _ _
    (rw (lines, c.deref-winner-items.ensures.value) (simp append_assoc))
    (has_written_append _ _ _ _ last _ before.1 (search rules))
