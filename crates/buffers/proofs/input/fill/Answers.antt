-- `buffers::input::fill` meets its contract: what a read gives stands behind what came before it.
-- Assumes nothing.
use Rattle.std.proofs.Common.{ℕ, ◌+◌, ◌≤◌, ◌≡◌, List, ◌++◌, length, take, rules}
use Rattle.std.proofs.Math.Seq.{length-take-le, take-append-add, take-append-le}
use Rattle.std.proofs.KnownBytes.{Consumes-trans}
use borrow.Rule.Slice.PartMut.{put_mid, post_of}
use Rattle.buffers.proofs.input.fill.Goals as goal

-- a read put bytes into the buffer from index a on, of which n are those that came
behind :
    (a k n : ℕ) (buffer part : List ℕ) → a ≤ length buffer → n ≤ length part
    → take (a + n) (put_mid a k buffer part) ≡ take a buffer ++ take n part
behind a k n buffer part within some =
    rw (length-take-le a buffer within, take-append-le n part (post_of a k buffer) some)
    at (take-append-add (take a buffer) (part ++ post_of a k buffer) n)

pub loop-count-preserved : goal.loop-count-preserved
loop-count-preserved g c =
    let l = c.loop-count in (
      search rules,
      rw (behind l.count _ c.in_ok-got.got l.buffer c.read.new.buf l.invariant.0 c.in_ok-got.ensures.bound.0)
          (Consumes-trans _ _ _ _ _ l.invariant.1 c.in_ok-got.ensures.bytes.0),
    )
