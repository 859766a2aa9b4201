-- What a call that takes facts in leaves where it is accepted, a tell, an answer or a clip: a session and a table
-- that stand.
-- Assumes nothing.
use mathlib.Core.Path.{◌≡◌, refl}
use mathlib.Core.List.{List, []}
use Prim.Native.Nat.{ℕ, ◌+◌, ◌≤◌}
use native.Mathlib.Omega.{arith}
use lib.ListN.{length}
use Rattle.order.specs.Facts.{Fact, Facts, ◌and◌, ◌with◌, Within}
use Rattle.order.specs.Tables.{TableOf, Marks, opens}
use Rattle.order.proofs.Sets.{within_and}
use Rattle.order.proofs.Tables.{table_sound, table_and}
use Rattle.promise.specs.declared.Session.{Session}
use Rattle.promise.specs.Runs.{StandsFor}
use Rattle.promise.proofs.Standing.{Stands, standing_passed, first_stands}

-- the marks of the table after an accepted fact
abbrev pub MarksAfter : Session → List ℕ → Fact → List ℕ → Type 0
MarksAfter s t f u = TableOf s.classes (Marks s.classes t with f) u

-- the facts of F, taken in
pub record Leaves (F : Facts) (s : Session) (t : List ℕ) (s' : Session) (t' : List ℕ) : Type 0 where
  pub within : Within s.classes F
  pub classes : s'.classes ≡ s.classes
  pub marks : TableOf s.classes (Marks s.classes t and F) t'
  pub size : length t ≡ length t'
  pub count : s'.tests + opens s.classes t' ≤ s.tests + opens s.classes t

pub stands_of : {S : Facts} {s : Session} {t : List ℕ} → StandsFor S s t → Stands s t
stands_of {s = s} h = (standing_passed [] s h.stands).0

module _ {F : Facts} {s : Session} {t : List ℕ} {s' : Session} {t' : List ℕ} (h : Leaves F s t s' t') where
  pub leaves_keeps : Stands s t → Stands s' t'
  leaves_keeps st =
      record {
        some = rw h.classes st.some;
        few = rw h.classes st.few;
        room = rw h.classes (omega (arith, st.room, h.size));
        sound = rw h.classes (table_sound h.marks);
        count = rw h.classes (omega (arith, st.count, h.count));
      }

  pub leaves_stands : {S : Facts} → StandsFor S s t → StandsFor (S and F) s' t'
  leaves_stands st =
      record {
        within = rw h.classes (within_and st.within h.within);
        table = rw h.classes ((table_and F st.within st.table).1 h.marks);
        stands = first_stands [] (leaves_keeps (stands_of st)) refl;
      }
