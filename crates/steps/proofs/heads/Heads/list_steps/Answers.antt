-- `steps::heads::Heads::list_steps` meets its contract: the direct steps passed are noted.
-- Assumes nothing.
use Rattle.std.proofs.Common.{◌+◌, ◌≤◌, ℕ, zero, suc, List, refl, arith, add-one}
use Rattle.order.specs.Tables.{Sound}
use Rattle.promise.specs.Hierarchy.{Head, Direct}
use Rattle.promise.proofs.Hierarchy.{dec_direct}
use Rattle.promise.proofs.Standing.{square}
use Rattle.promise.proofs.Triangles.{steps_few}
use Rattle.marks.proofs.Answers.{refuted}
use Rattle.buffers.proofs.Noting.{SoFar, so_far_none, hit, miss, row_end, all_noted}
use Rattle.steps.specs.HeadsFound.{StepsNoted}
use Rattle.steps.proofs.heads.Heads.list_steps.Goals as goal
use Rattle.steps.proofs.heads.Heads.list_steps.Goals.{then-leads_to, else-leads_to}

-- a class that is no head has no direct step
no_steps :
    {n : ℕ} {t : List ℕ} {a count : ℕ} {out out₁ : List ℕ} → ¬ Head n t a
    → SoFar (Direct n t) (dec_direct n t) n out count out₁ a 0
    → SoFar (Direct n t) (dec_direct n t) n out count out₁ (a + 1) 0
no_steps {n} {t} {a} {count} {out} {out₁} not-head h = row_end (go n) refl
  where
    go : (b : ℕ) → SoFar (Direct n t) (dec_direct n t) n out count out₁ a b
    go zero = h
    go (suc b) = rw (← add-one b) (miss (go b) (λ d. not-head d.from))

-- 128 classes have at most 4096 direct steps
steps_fit :
    {n : ℕ} {t out out₁ : List ℕ} {count : ℕ} → Sound n t → n ≤ 128 → StepsNoted n t out count out₁ → count ≤ 4096
steps_fit {n} sound few (l, p, noted) = omega (arith, noted.counted, steps_few sound p, square n few)

pub loop-a-init : goal.loop-a-init
loop-a-init c = record { few = omega arith; noted = so_far_none _ }

pub loop-a-preserved-then-not-is_head : goal.loop-a-preserved-then-not-is_head
loop-a-preserved-then-not-is_head c =
    let h = c.loop-a.invariant in
    record { few = omega (arith, h.few); noted = no_steps (refuted c.if-not-is_head.true c.is_head.ensures) h.noted }

pub loop-b-preserved : goal.loop-b-preserved
loop-b-preserved c =
    let h = c.loop-b.invariant in
    let direct = rw (c.steps_from-from_a.ensures.heads, c.steps_from-from_a.ensures.from) at c.leads_to.ensures in
    elim c.if-leads_to.branch [
      | then-leads_to w ↦
          rw (w.steps-is, w.count-is) (record {
            few = omega (arith, h.few);
            noted = hit h.noted (direct.0 w.if-leads_to.true) w.put_pair.auto.out w.put_pair.ensures;
          })
      | else-leads_to w ↦
          rw (w.steps-is, w.count-is) (record {
            few = omega (arith, h.few);
            noted = miss h.noted (refuted w.if-leads_to.false direct);
          })
    ]

pub loop-a-preserved : goal.loop-a-preserved
loop-a-preserved c =
    let h = c.loop-b.invariant in
    record { few = omega (arith, h.few, c.args.self.now.marks.shape.few); noted = row_end h.noted (omega arith) }

pub returns : goal.returns
returns c =
    let f = c.args.self.now in
    let all = all_noted (omega arith) c.loop-a.invariant.noted in
    record {
      noted = all;
      few = steps_fit f.found.sound f.marks.shape.few all;
    }
