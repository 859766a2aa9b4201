-- `lines::put_settled` meets its contract: hierarchy refuses nothing, and what it wrote is listed.
-- Assumes nothing.
use Rattle.std.proofs.Common.{◌≡◌, ◌/◌, ◌≤◌, length, refl, rules, arith, tests}
use Rattle.std.specs.Simd.{first_chunks}
use Rattle.std.proofs.lemmas.Iterator.{YieldsList-from_slice, YieldsList-from_range, YieldsList-from_zip}
use Rattle.std.proofs.lemmas.Iterator.{YieldsList-from_take, YieldsList-from_map}
use Rattle.std.proofs.lemmas.Iterator.Consumers.{YieldsList-from_copied, YieldsList-at}
use Rattle.lines.proofs.LineByLine.{pair_of, drained}
use Rattle.lines.proofs.Saying.{given, settled_put}
use Rattle.lines.proofs.put_settled.Goals as goal

pub unwrap-count-requires : goal.unwrap-count-requires
unwrap-count-requires c = rw (given c.hierarchy.result c.requires c.hierarchy.ensures).counted refl

pub put_lines-requires-clause-room : goal.put_lines-requires-clause-room
put_lines-requires-clause-room c =
    let g = given c.hierarchy.result c.requires c.hierarchy.ensures in
    let counted : c.map-of_steps.result.iter.n ≡ length g.l = cc in
    omega arith

pub returns : goal.returns
returns c =
    let g = given c.hierarchy.result c.requires c.hierarchy.ensures in
    let n = c.args.session.classes in
    let numbers = YieldsList-from_range 0 n n refl (omega arith) in
    let heads = YieldsList-at c.copied.ensures.source (YieldsList-from_slice c.hierarchy.new.heads cc) in
    let classes =
    YieldsList-from_zip (YieldsList-at c.zip-of_classes.ensures.first numbers)
    (YieldsList-at c.zip-of_classes.ensures.second (YieldsList-from_copied heads))
    in
    let counted : c.take.result.n ≡ length g.l = cc in
    let chunks = first_chunks 2 (length c.hierarchy.new.steps / 2) c.hierarchy.new.steps in
    let pairs = YieldsList-at c.take.ensures.source (YieldsList-from_slice chunks cc) in
    let steps = YieldsList-at c.map-of_steps.ensures.source (YieldsList-from_take (length g.l) pairs counted) in
    let room : 8192 ≤ length c.hierarchy.new.steps = omega arith in
    settled_put g room (drained _ c.put_lines-behind.ensures.put.1 classes)
    (drained _ c.put_lines.ensures.put.1
    (YieldsList-from_map _ pair_of steps c.map-of_steps.ensures.closure (λ x r q k. search (rules, tests))))
    c.put_lines-behind.ensures.put.2 c.put_lines.ensures.put.2
