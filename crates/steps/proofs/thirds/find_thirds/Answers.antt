-- `steps::thirds::find_thirds` meets its contract: the flags show the third heads among the classes passed.
-- Assumes nothing.
use Rattle.marks.proofs.Answers.{refuted}
use Rattle.steps.proofs.Between.{thirds_none, thirds_add, thirds_known, thirds_pass}
use Rattle.steps.proofs.thirds.find_thirds.Goals as goal
use Rattle.steps.proofs.thirds.find_thirds.Goals.{then-is_above+then-not-thirds-c, else-is_above}
use Rattle.steps.proofs.thirds.find_thirds.Goals.{else-is_above-via-then-is_above+else-not-thirds-c}
use Rattle.steps.proofs.thirds.find_thirds.Goals.{else-is_above-via-else-is_above}

pub loop-c-init : goal.loop-c-init
loop-c-init c = thirds_none c.args.heads.now.marks.shape.few

pub loop-c-preserved : goal.loop-c-preserved
loop-c-preserved c =
    let h = c.loop-c.invariant in
    let above = c.is_above.ensures in
    elim c.if-is_above.branch [
      | then-is_above+then-not-thirds-c w ↦
          rw w.thirds-is (thirds_add h (above.0 w.if-is_above.true) w.add_third.ensures)
      | else-is_above w ↦
          rw w.thirds-is (thirds_pass h
          (elim w.else-is_above.branch [
            | else-is_above-via-then-is_above+else-not-thirds-c w' ↦
                thirds_known h c.args.heads.now.found.sound c.loop-c-test.true w'.if-not-thirds-c.false
            | else-is_above-via-else-is_above w' ↦
                λ b l down p.
                refuted w'.if-is_above.false above
                (record { head = p.head; differ = p.not_lower; under = p.above })
          ]))
    ]
