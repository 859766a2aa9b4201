-- `book::writing::list_marked` meets its contract: the pairs passed that have the mark are noted.
-- Assumes nothing.
use Rattle.std.proofs.Common.{◌<◌, arith}
use Rattle.buffers.proofs.Noting.{so_far_none, few, hit, miss, row_end, all_few, all_noted}
use Rattle.book.proofs.writing.list_marked.Goals as goal
use Rattle.book.proofs.writing.list_marked.Goals.{In-loop-b, then-a-b+then-is, else-a-b}
use Rattle.book.proofs.writing.list_marked.Goals.{else-a-b-via-then-a-b+else-is, else-a-b-via-else-a-b}

-- the pairs noted so far are few
so_few : (c : In-loop-b) → c.loop-b.count < 16384
so_few c = few c.loop-b.invariant c.args.marks.now.shape.few (omega arith) (omega arith)

pub loop-a-init : goal.loop-a-init
loop-a-init c = so_far_none _

pub overflow_mul-count : goal.overflow_mul-count
overflow_mul-count c = omega (arith, so_few (goal.at.overflow_mul-count c).In-loop-b)

pub put_pair-requires : goal.put_pair-requires
put_pair-requires c = (
  omega (arith, so_few (goal.at.put_pair-requires c).In-loop-b),
  omega (arith, c.args.marks.now.shape.few),
  omega (arith, c.args.marks.now.shape.few),
)

pub overflow_add-count : goal.overflow_add-count
overflow_add-count c = omega (arith, so_few (goal.at.overflow_add-count c).In-loop-b)

pub loop-b-preserved : goal.loop-b-preserved
loop-b-preserved c =
    elim c.if-a-b.branch [
      | then-a-b+then-is w ↦
          rw (w.out-is, w.count-is)
          (hit c.loop-b.invariant (w.if-a-b.true, w.is.ensures.0 w.if-is.true) w.put_pair.auto.out
          w.put_pair.ensures)
      | else-a-b w ↦
          rw (w.out-is, w.count-is)
          (miss c.loop-b.invariant (λ p.
          elim w.else-a-b.branch [
            | else-a-b-via-then-a-b+else-is v ↦ cc (v.is.ensures.1 p.1)
            | else-a-b-via-else-a-b v ↦ p.0 v.if-a-b.false
          ]))
    ]

pub loop-a-preserved : goal.loop-a-preserved
loop-a-preserved c = row_end c.loop-b.invariant (omega arith)

pub returns : goal.returns
returns c =
    let h = all_noted (omega arith) c.loop-a.invariant in
    record {
      pairs = h.0;
      listed = h.1;
      noted = h.2;
      few = all_few c.args.marks.now.shape.few (omega arith) c.loop-a.invariant;
    }
