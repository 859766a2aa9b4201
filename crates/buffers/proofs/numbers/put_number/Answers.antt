-- `buffers::numbers::put_number` meets its contract: behind the digits that are left stand the others.
-- Assumes nothing.
use Rattle.std.proofs.Common.{◌≡◌, ◌+◌, ◌-◌, [], length, arith, append_assoc, append-nil, ◌∙◌}
use Rattle.buffers.specs.Decimal.{decimal}
use Rattle.buffers.proofs.Placing.{put_none, put_front}
use Rattle.buffers.proofs.Decimals.{last_digits, last_more, last_all}
use Rattle.buffers.proofs.numbers.put_number.Goals as goal

pub loop-left-init : goal.loop-left-init
loop-left-init c =
    let all : c.args.at + c.count_digits.result - c.args.at ≡ length (decimal c.args.number) = omega arith in
    record {
      above = omega arith;
      others = [];
      whole = simp (all, append-nil) (last_all c.args.number);
      put = put_none (omega arith);
    }

pub loop-left-preserved : goal.loop-left-preserved
loop-left-preserved c =
    let l = c.loop-left in
    let h = l.invariant in
    let more = last_more (l.left - 1 - c.args.at) (l.left - c.args.at) l.rest (omega arith) in
    record {
      above = omega arith;
      others = _;
      whole = h.whole ∙ rw (more, append_assoc);
      put = put_front _ (omega arith) h.put;
    }

pub returns : goal.returns
unfolding last_digits
returns c =
    let h = c.loop-left.invariant in
    let none : c.loop-left.left - c.args.at ≡ 0 = omega arith in
    let here : c.loop-left.left ≡ c.args.at = omega arith in
    rw (h.whole, none) (rw here at h.put)
