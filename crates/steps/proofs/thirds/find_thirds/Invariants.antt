-- `steps::thirds::find_thirds` meets its contract: the flags show the third heads among the classes passed.
-- Assumes nothing.
use Rattle.steps.proofs.Between.{ThirdsBelow}
use Rattle.steps.proofs.thirds.find_thirds.Given as goal

abbrev pub invariant-loop-c : goal.invariant-loop-c
invariant-loop-c l = ThirdsBelow l.heads.marks.classes l.heads.marks.bytes.now l.a l.thirds l.c
