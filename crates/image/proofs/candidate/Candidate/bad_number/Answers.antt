use Rattle.std.proofs.Common.{sym, refl, ◌∙◌, rules, tests}
use Rattle.image.specs.Judging.{number_bad, number_offset}
use Rattle.search.proofs.Chains.{lowest_from_find, mapped_from_find}
use Rattle.search.proofs.Searching.{lowest_passes}
use Rattle.image.proofs.candidate.Candidate.bad_number.Goals as goal

-- What was found is one of the five.
pub map-requires : goal.map-requires
map-requires c = λ x e.
    let bad = number_bad c.args.self.kind c.args.self.bytes.now in
    let found = lowest_from_find 5 _ bad _ _ c.find.result refl (λ x b q k. search (rules, tests)) c.find.ensures.ran in
    (lowest_passes 5 bad x (sym found ∙ e)).0

pub returns : goal.returns
returns c =
    mapped_from_find 5 _ (number_bad c.args.self.kind c.args.self.bytes.now) number_offset _ _ c.find.result c.map.result refl
    (λ x b q k. search (rules, tests)) c.find.ensures.ran (search rules)
