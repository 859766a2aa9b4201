-- `fresh_marks` meets its contract: each turn of the loop sets one more mark of the diagonal.
-- Assumes nothing.
use mathlib.Core.Path.{sym, ◌∙◌}
use native.Mathlib.Omega.{arith}
use borrow.Author.Count.{below_more}
use Rattle.order.proofs.Bytes.{rest_trans}
use Rattle.marks.proofs.Shape.{stored, elsewhere, rest_store}
use Rattle.marks.proofs.fresh.fresh_marks.Goals as goal

pub loop-a-preserved : goal.loop-a-preserved
loop-a-preserved c =
    let h = c.loop-a.invariant in
    let at = c.index.ensures in
    let i = c.loop-a-test.true in
    record {
      rest = rest_trans h.rest (rest_store 1 _ at);
      on =
          below_more _ _ (λ a l. elsewhere 1 _ at a a i (omega arith) (λ e _. omega arith) ∙ h.on a l)
          (stored 1 _ at (omega arith));
      off = λ a b ha hb p. elsewhere 1 _ at a b i hb (λ e f. p (e ∙ sym f)) ∙ h.off a b ha hb p;
    }
