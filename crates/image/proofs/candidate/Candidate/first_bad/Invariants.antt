use Rattle.std.proofs.Common.{◌≡◌, ℕ, ◌<◌, false}
use Rattle.image.specs.Judging.{cell_bad}
use Rattle.image.proofs.candidate.Candidate.first_bad.Given as goal

abbrev pub invariant-loop-cell : goal.invariant-loop-cell
invariant-loop-cell g l = (k : ℕ) → k < l.cell → cell_bad l.self.kind l.self.bytes.now l.pair k ≡ false
