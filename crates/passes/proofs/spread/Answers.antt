-- `passes::spread` meets its contract: a flagged row is marked, and another stays.
-- Assumes nothing.
use mathlib.Core.Path.{◌∙◌}
use mathlib.Core.Logic.{inl, inr, ⊎_elim}
use mathlib.Core.Bool.{Bool, false≢true}
use mathlib.Core.Path.{sym}
use mathlib.Core.List.{List}
use Prim.Native.Nat.{ℕ, ◌+◌, ◌<◌}
use native.Mathlib.Omega.{arith}
use borrow.Author.Count.{below_more}
use Rattle.order.proofs.Bytes.{rest_trans}
use Rattle.promise.specs.Clips.{Flagged}
use Rattle.passes.proofs.Rows.{RowChanged, row_changed}
use Rattle.passes.proofs.spread.Goals as goal
use Rattle.passes.proofs.spread.Goals.{then-xs-x, else-xs-x}
use Rattle.passes.proofs.spread.Invariants.{RowsMarked}

module _ {n v k : ℕ} {xs ys : List Bool} {t u : List ℕ} (h : RowsMarked n xs ys v k t u) (hk : k < n) where
  marked : {w : List ℕ} → Flagged xs k → RowChanged n k ys v u w → RowsMarked n xs ys v (k + 1) t w
  marked f r =
      record {
        passed =
            below_more _ _ (λ x l y hy. rw (r.other x y hy (λ e. omega arith)) (h.passed x l y hy))
            (λ y hy.
            ⊎_elim (λ p. inl ((f, p.0), p.1)) (λ p. inr (λ z. p.0 z.1, p.1 ∙ h.later k y (omega arith) hk hy))
            (r.row y hy));
        later = λ x y l hx hy. r.other x y hy (λ e. omega arith) ∙ h.later x y (omega arith) hx hy;
        rest = rest_trans h.rest r.rest;
      }

  passed_over : ¬ Flagged xs k → RowsMarked n xs ys v (k + 1) t u
  passed_over f =
      record {
        passed = below_more _ _ h.passed (λ y hy. inr (λ z. f z.0, h.later k y (omega arith) hk hy));
        later = λ x y l. h.later x y (omega arith);
        rest = h.rest;
      }

pub loop-x-preserved : goal.loop-x-preserved
loop-x-preserved c =
    let h = c.loop-x.invariant in
    elim c.if-xs-x.branch [
      | then-xs-x w ↦
          rw w.table-is
          (marked h c.loop-x-test.true w.if-xs-x.true
          (row_changed (omega arith) c.loop-x-test.true (omega arith) w.mark_row.ensures))
      | else-xs-x w ↦ rw w.table-is (passed_over h c.loop-x-test.true (λ f. false≢true (sym w.if-xs-x.false ∙ f)))
    ]
