-- What the functions that write the fields of a book need, and what they leave.
-- Assumes nothing.
use Rattle.std.specs.Prelude.{List, [], ◌∷◌, ℕ, ◌+◌, ◌*◌, ◌≤◌, length}
use Rattle.order.specs.Tables.{Pair, bytes_of}
use Rattle.promise.specs.Refusals.{no_room}
use Rattle.promise.specs.Calls.{Counted, started, Call, TooShort}
use Rattle.promise.specs.Book.{field, PairsMarked, BookOf, write}
use Rattle.buffers.specs.Placed.{Put}
use Rattle.buffers.specs.Noted.{Noted}
use Rattle.standing.specs.Left.{left}

-- the pairs off the diagonal that are marked m were counted, and written if there is room for all of them
pub record PairsNoted (n : ℕ) (t : List ℕ) (m : ℕ) (out : List ℕ) (count : ℕ) (out' : List ℕ) : Type 0 where
  pub pairs : List Pair
  pub listed : PairsMarked n t m pairs
  pub noted : Noted out pairs count out'
  pub few : count ≤ 128 * 128

-- there is room for their field from index at on
pub record FieldFits (n : ℕ) (t : List ℕ) (m : ℕ) (out : List ℕ) (at : ℕ) : Type 0 where
  pub pairs : List Pair
  pub listed : PairsMarked n t m pairs
  pub room : at + 3 + 2 * length pairs ≤ length out

-- their field was put there, up to the index behind
pub record FieldPut (n : ℕ) (t : List ℕ) (tag m : ℕ) (out : List ℕ) (at behind : ℕ) (out' : List ℕ) : Type 0 where
  pub pairs : List Pair
  pub listed : PairsMarked n t m pairs
  pub put : Put (field tag (bytes_of pairs)) at out behind out'

-- there is room for the book
pub record BookFits (n : ℕ) (t out : List ℕ) : Type 0 where
  pub yes_pairs : List Pair
  pub no_pairs : List Pair
  pub yes_listed : PairsMarked n t 1 yes_pairs
  pub no_listed : PairsMarked n t 2 no_pairs
  pub room : 10 + 2 * (length yes_pairs + length no_pairs) ≤ length out

-- the book was put at the front of out
pub record BookPut (n : ℕ) (t out : List ℕ) (size : ℕ) (out' : List ℕ) : Type 0 where
  pub book : List ℕ
  pub is : BookOf n t book
  pub put : Put book 0 out size out'

-- write, where none of the refusals 1 to 4 is due
abbrev pub write_left : ℕ → List ℕ → List ℕ → Call (Counted × List ℕ)
write_left n t out = left (no_room (TooShort (BookOf n t) out) ∷ []) (write (started n) t out)
