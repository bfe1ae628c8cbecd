use Rattle.std.proofs.Common.{tests, rules}
use Rattle.image.specs.Format.{pairs_of}
use Rattle.image.specs.Judging.{bad_cell}
use Rattle.search.proofs.Chains.{first_from_find_map}
use Rattle.image.proofs.candidate.Candidate.bad_value.Goals as goal

pub returns : goal.returns
returns c =
    first_from_find_map (pairs_of c.args.self.kind) _ (bad_cell c.args.self.kind c.args.self.bytes.now) _ c.find_map.result
    c.pairs.ensures (λ x o q k. search (rules, tests)) c.find_map.ensures.runs
