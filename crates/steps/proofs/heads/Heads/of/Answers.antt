-- `steps::heads::Heads::of` meets its contract: every class passed has its head.
-- Assumes nothing.
use Rattle.std.proofs.Common.{arith, rules}
use Rattle.promise.specs.Hierarchy.{HeadOf}
use Rattle.steps.proofs.HeadsFound.{stored_more}
use Rattle.steps.proofs.heads.Heads.of.Goals as goal

pub loop-a-preserved : goal.loop-a-preserved
loop-a-preserved c =
    let m = c.args.marks.now in
    let p = c.loop-a.invariant in
    record {
      size = search rules;
      passed = stored_more (HeadOf m.classes m.bytes.now) _ _ _ 0 (omega (arith, p.size)) p.passed c.head_of.ensures;
    }
