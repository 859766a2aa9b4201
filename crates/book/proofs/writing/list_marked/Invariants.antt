-- `book::writing::list_marked` meets its contract: the pairs passed that have the mark are noted.
-- Assumes nothing.
use Rattle.promise.proofs.Write.{Off, dec_off}
use Rattle.buffers.proofs.Noting.{SoFar}
use Rattle.marks.specs.Bytes.{byte_of}
use Rattle.book.proofs.writing.list_marked.Given as goal

abbrev pub invariant-loop-b : goal.invariant-loop-b
invariant-loop-b l =
    let n = l.marks.classes in
    let t = l.marks.bytes.now in
    let m = byte_of l.wanted in
    SoFar (Off n t m) (dec_off n t m) n l.fn.out l.count l.out l.a l.b

abbrev pub invariant-loop-a : goal.invariant-loop-a
invariant-loop-a l =
    let n = l.marks.classes in
    let t = l.marks.bytes.now in
    let m = byte_of l.wanted in
    SoFar (Off n t m) (dec_off n t m) n l.fn.out l.count l.out l.a 0
