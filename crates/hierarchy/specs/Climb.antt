-- A climb, rung by rung: what it needs and what it leaves.
-- Assumes nothing.
use Rattle.std.specs.Prelude.{◌≡◌, List, ℕ, ◌+◌, ◌≤◌, ◌<◌, length}
use Rattle.promise.specs.Hierarchy.{Under, Head, Ladder, Above, Number}
use Rattle.buffers.specs.Placed.{Placed}

-- rung is a head under the goal, but not the goal's own head
pub record BelowGoal (n : ℕ) (t : List ℕ) (goal rung : ℕ) : Type 0 where
  pub goal_below : goal < n
  pub head : Head n t rung
  pub under : Under n t rung goal
  pub not_yet : ¬ Under n t goal rung

-- a climb to the goal has come to rung, with this many rungs before it; the heads strictly above rung and under the
-- goal bound what is left
pub record Reached (n : ℕ) (t : List ℕ) (goal rung before : ℕ) : Type 0 where
  pub goal_below : goal < n
  pub head : Head n t rung
  pub under : Under n t rung goal
  pub left : ℕ
  pub number : Number (Above n t goal rung) n left
  pub few : before + left ≤ n

-- With the rungs before it, the ladder from rung on makes count rungs. It is written behind them if out has room for
-- all, and otherwise no byte is written.
pub record Climbed (n : ℕ) (t : List ℕ) (goal rung before : ℕ) (out : List ℕ) (count : ℕ) (out' : List ℕ) : Type 0 where
  pub rungs : List ℕ
  pub ladder : Ladder n t goal rung rungs
  pub counted : count ≡ before + length rungs
  pub written : count ≤ length out → Placed rungs before out out'
  pub unwritten : length out < count → out' ≡ out
