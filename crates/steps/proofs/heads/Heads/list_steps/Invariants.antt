-- `steps::heads::Heads::list_steps` meets its contract: the direct steps passed are noted, and they are few.
-- Assumes nothing.
use Rattle.std.proofs.Common.{◌+◌, ◌*◌, ◌≤◌}
use Rattle.promise.specs.Hierarchy.{Direct}
use Rattle.promise.proofs.Hierarchy.{dec_direct}
use Rattle.buffers.proofs.Noting.{SoFar}
use Rattle.steps.proofs.heads.Heads.list_steps.Given as goal

abbrev pub invariant-loop-b : goal.invariant-loop-b
invariant-loop-b l =
    let n = l.self.marks.classes in
    let t = l.self.marks.bytes.now in
    record {
      few : l.count ≤ 128 * l.a + l.b;
      noted : SoFar (Direct n t) (dec_direct n t) n l.fn.steps l.count l.steps l.a l.b;
    }

abbrev pub invariant-loop-a : goal.invariant-loop-a
invariant-loop-a l =
    let n = l.self.marks.classes in
    let t = l.self.marks.bytes.now in
    record {
      few : l.count ≤ 128 * l.a;
      noted : SoFar (Direct n t) (dec_direct n t) n l.fn.steps l.count l.steps l.a 0;
    }
