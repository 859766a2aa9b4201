-- `hierarchy::rungs::next_rung` meets its contract: a rung leads on, and the first that does is found.
-- Assumes nothing.
use Rattle.std.proofs.Common.{◌≡◌, ℕ, Some, rules, ap}
use Rattle.std.proofs.lemmas.Iterator.{first_from_Range}
use Rattle.std.specs.Option.{is_some}
use Rattle.promise.specs.Hierarchy.{Under, Direct, NextRung}
use Rattle.hierarchy.proofs.Climbing.{next_found}
use Rattle.hierarchy.proofs.rungs.next_rung.Goals as goal
use Rattle.hierarchy.proofs.rungs.next_rung.Goals.{After-find}

-- the next rung is found
found :
    (c : After-find)
    → let m = c.args.heads.now.marks in
    (next : ℕ) × (c.find.result ≡ Some next) × NextRung m.classes m.bytes.now c.args.goal c.args.rung next
found c =
    let h = c.args.heads.now in
    let s = c.steps_from-steps in
    let n = s.result.heads.now.marks.classes in
    let t = s.result.heads.now.marks.bytes.now in
    let On : ℕ → Type 0 = λ k. Direct n t s.result.from k × Under h.marks.classes h.marks.bytes.now k c.args.goal in
    let first =
    first_from_Range _ _ _ _ On (λ k. ¬ On k) c.find.ensures.ran (λ x q k. search rules)
    (λ x q k. (search rules, search rules))
    in
    next_found _ h.found.sound c.requires (rw (s.ensures.heads, s.ensures.from) at first)

pub unwrap-requires : goal.unwrap-requires
unwrap-requires c = ap is_some (found c).1

pub returns : goal.returns
returns c =
    let f = found (goal.at.returns c).After-find in
    let same : f.0 ≡ c.unwrap.result = cc (f.1, c.unwrap.ensures) in
    rw same at f.2
