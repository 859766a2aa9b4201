-- `steps::heads::head_of` meets its contract: what is found is the first equal class.
-- Assumes nothing.
use Rattle.std.proofs.Common.{rules}
use Rattle.std.proofs.lemmas.Iterator.{first_from_Range}
use Rattle.promise.specs.Hierarchy.{Equal}
use Rattle.steps.proofs.HeadsFound.{first_equal}
use Rattle.steps.proofs.heads.head_of.Goals as goal

pub returns : goal.returns
returns c =
    let p = c.requires in
    let m = c.args.marks.now in
    let Same = Equal m.classes m.bytes.now c.args.a in
    rw c.unwrap_or.ensures
    (first_equal _ p.0 p.1
    (first_from_Range _ _ _ _ Same (λ k. ¬ Same k) c.find.ensures.ran
    (λ x q k. search rules)
    (λ x q k. (search rules, search rules))))
