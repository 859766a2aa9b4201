-- What a checked table gives.
-- Assumes nothing.
use Rattle.std.specs.Prelude.{◌≡◌, List, ℕ}
use Rattle.promise.specs.declared.Session.{Session}
use Rattle.marks.specs.declared.lent.Marks.{Marks}

-- the marks of this session's classes in these bytes
pub record MarksOf (s : Session) (t : List ℕ) (marks : Marks) : Type 0 where
  pub classes : marks.classes ≡ s.classes
  pub bytes : marks.bytes.now ≡ t
