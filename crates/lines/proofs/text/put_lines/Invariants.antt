-- `lines::text::put_lines` meets its contract: the lines of the pairs that have come stand there.
-- Assumes nothing.
use Rattle.std.proofs.Common.{◌+◌, ◌*◌, ◌≤◌}
use Rattle.buffers.specs.Placed.{Put}
use Rattle.lines.specs.Put.{lines}
use Rattle.lines.proofs.text.put_lines.Given as goal

abbrev pub invariant-loop-first : goal.invariant-loop-first
invariant-loop-first g l =
    let it = goal.iterator-loop-first g in
    it.can_next l.first-iterator × it.is_finite l.first-iterator
    × Put (lines l.letter l.yielded) l.at l.initial.text l.behind l.text
    × (l.behind + 10 * it.remaining l.first-iterator ≤ l.at + 10 * it.remaining l.fn.pairs)
