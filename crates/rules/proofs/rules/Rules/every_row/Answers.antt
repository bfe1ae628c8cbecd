use Rattle.std.proofs.Common.{◌≡◌, rules, ℕ, List, arith, tests, ◌∙◌}
use Rattle.std.specs.List.{range_with_len}
use Rattle.std.proofs.lemmas.Iterator.{YieldsList-from_range, YieldsList-from_map_by}
use Rattle.std.proofs.lemmas.Iterator.Search.{all_from_yields_List}
use Rattle.std.proofs.lemmas.List.Folds.{list_all-map}
use Rattle.rules.specs.Rows.{row_count, row_at, rows_hold}
use Rattle.search.specs.First.{every}
use Rattle.rules.proofs.rules.Rules.every_row.Goals as goal

-- The closure's calls leave it as it is, and answer as the test does. So the chain answers as the test does at every row.
pub returns : goal.returns
unfolding every
returns g c = λ test told.
    let bs = c.args.self.now.bytes.now in
    let i = c.args.pair in
    let row : ℕ → List ℕ × ℕ = λ r. (bs, row_at bs i r) in
    let passes = λ (p : List ℕ × ℕ). test p.0 p.1 in
    let chain : c.all.result ≡ rows_hold bs i test =
    all_from_yields_List passes _ _ c.all.result c.all.ensures.ran
    (YieldsList-from_map_by _ (λ r. (r.bytes.now, r.at)) row (YieldsList-from_range 0 (row_count bs i) (row_count bs i) (cc) (omega arith)) c.map.ensures.closure
    (λ x r q k. search (rules, tests)))
    (λ r b q k. (
      g.met.F.Fn.1.step_stays c.args.holds (r, tt) b q (record { met = k.met }),
      told r b ((g.met.F.FnMut.1.post_iff c.args.holds (r, tt) b).1 (q, record { met = k.met })),
    ))
    ∙ list_all-map passes row (range_with_len 0 (row_count bs i)) in
    search (rules, chain)
