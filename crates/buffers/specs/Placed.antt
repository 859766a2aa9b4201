-- Bytes in a lent buffer.
-- Assumes nothing.
use Rattle.std.specs.Prelude.{◌≡◌, List, ◌++◌, ℕ, ◌+◌, ◌≤◌, length, take, drop}
use Rattle.promise.specs.Calls.{over}

-- the buffer out with the bytes w from index at on; at index 0 that is `over w out`
abbrev pub place : List ℕ → ℕ → List ℕ → List ℕ
place w at out = take at out ++ over w (drop at out)

-- the bytes w stand from index at on, and no other byte is changed
pub record Placed (w : List ℕ) (at : ℕ) (out out' : List ℕ) : Type 0 where
  pub bytes : out' ≡ place w at out

-- the bytes w were put from index at on, up to the index behind
pub record Put (w : List ℕ) (at : ℕ) (out : List ℕ) (behind : ℕ) (out' : List ℕ) : Type 0 where
  pub placed : Placed w at out out'
  pub ends : behind ≡ at + length w
  pub fits : behind ≤ length out
