-- `Marks::count_open` meets its contract: it counts the open ones of all marks.
-- Assumes nothing.
use Rattle.std.proofs.Common.{rules, tests, arith, ◌≡◌, ◌<◌, ◌^◌, ◌∙◌, ◌==◌, cond, count_by}
use Rattle.std.proofs.lemmas.Iterator.{YieldsList-from_map, YieldsList-from_slice}
use Rattle.std.proofs.lemmas.Iterator.Consumers.{fits_by_from_yields_list}
use Rattle.std.proofs.lemmas.List.Sums.{count_by-le-length}
use Rattle.promise.proofs.Standing.{square}
use Rattle.marks.proofs.Counts.{counts_open}
use Rattle.marks.proofs.lent.Marks.count_open.Goals as goal

pub sum-requires-clause-fits : goal.sum-requires-clause-fits
sum-requires-clause-fits c =
    let few : count_by (λ m. m == 0) c.all.result.now < 2 ^ 64 =
    omega (
      arith,
      count_by-le-length (λ m. m == 0) c.all.result.now,
      c.all.ensures.size,
      square _ c.args.self.now.shape.few,
    )
    in
    fits_by_from_yields_list (λ m. cond (m == 0) 1 0) c.all.result.now c.map.result _
    (YieldsList-from_map _ _ (YieldsList-from_slice _ (cc)) c.map.ensures.closure (λ x r q k. search (rules, tests)))
    few

pub returns : goal.returns
returns c =
    let counted : c.sum.result ≡ count_by (λ m. m == 0) c.all.result.now = search rules in
    counted ∙ counts_open c.all.ensures
