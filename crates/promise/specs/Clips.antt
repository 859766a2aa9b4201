-- Trial clips: "Our lab plays a clip on every receiver and notes the set that played it." Document 02, item 1.
-- Assumes nothing.
use Rattle.std.specs.Prelude.{◌≡◌, Bool, false, true, List, [], ◌∷◌, ℕ, ◌≤◌, zero, suc, length, get_or}
use Rattle.order.specs.Facts.{Fact, ◌and◌, Below}
use Rattle.order.specs.Tables.{TableOf, Marks, SomeContradicts}
use Rattle.promise.specs.Refusals.{Condition, standing, no_such_class, contradicted}
use Rattle.promise.specs.declared.Session.{Session}
use Rattle.promise.specs.declared.Reply.{Reply}
use Rattle.promise.specs.Calls.{Call, changes}

-- 0 is false, any other number true
abbrev pub truth_of : ℕ → Bool
truth_of zero = false
truth_of (suc k) = true

-- the flag of x is set; where there is none it is not
abbrev pub Flagged : List Bool → ℕ → Type 0
Flagged flags x = get_or flags x false ≡ true

-- flags that are bytes
abbrev pub flags_of : List ℕ → List Bool
flags_of [] = []
flags_of (byte ∷ bytes) = truth_of byte ∷ flags_of bytes

-- "Then no member of the set lies under a non-member": the noes of a clip, for n classes; a member's flag is set
pub record ClipNo (n : ℕ) (played : List Bool) (f : Fact) : Type 0 where
  pub below : Below n f
  pub member : Flagged played f.lower
  pub non_member : ¬ Flagged played f.upper
  pub is_no : f.holds ≡ false

-- "a class of n or more" is a member
pub record MemberBeyond (n : ℕ) (played : List Bool) : Type 0 where
  pub class : ℕ
  pub beyond : n ≤ class
  pub member : Flagged played class

-- "Refusals: 1 to 4, then 5 for a class of n or more, then 6", "if one of them contradicts"
abbrev pub clip_refusals : Session → List ℕ → List Bool → List Condition
clip_refusals s t played =
    no_such_class (MemberBeyond s.classes played)
    ∷ contradicted (SomeContradicts s.classes t (ClipNo s.classes played))
    ∷ []

-- With session s and table t a clip is handed over that these classes played. Accepted, the marks are those of t and
-- of the noes of the clip. "Clips aren't counted as tests": the session stays what it is.
abbrev pub clip : Session → List ℕ → List Bool → Call (Reply × List ℕ)
clip s t played =
    changes (standing s t (clip_refusals s t played)) s s s.classes
    (TableOf s.classes (Marks s.classes t and ClipNo s.classes played)) t

-- Flags that are bytes fit where every class below n has one, and no class of 128 or more.
pub record FlagsFit (n : ℕ) (bytes : List ℕ) : Type 0 where
  pub enough : n ≤ length bytes
  pub few : length bytes ≤ 128

-- 5 too where they do not fit
abbrev pub bytes_refusals : Session → List ℕ → List ℕ → List Condition
bytes_refusals s t bytes = no_such_class (¬ FlagsFit s.classes bytes) ∷ clip_refusals s t (flags_of bytes)

-- a clip is handed over whose flags are bytes
abbrev pub clip_bytes : Session → List ℕ → List ℕ → Call (Reply × List ℕ)
clip_bytes s t bytes =
    changes (standing s t (bytes_refusals s t bytes)) s s s.classes
    (TableOf s.classes (Marks s.classes t and ClipNo s.classes (flags_of bytes))) t
