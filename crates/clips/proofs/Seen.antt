-- What is seen of flags and marks before a clip is taken in; and flags that are bytes.
-- Assumes nothing.
use mathlib.Core.Path.{◌≡◌, refl, sym, ◌∙◌}
use mathlib.Core.Logic.{◌↔◌}
use mathlib.Core.Bool.{Bool, true, false, ◌&&◌, not}
use mathlib.Core.List.{List}
use Prim.Native.Nat.{ℕ, ◌+◌, ◌-◌, ◌≤◌, ◌<◌}
use native.Mathlib.Omega.{arith}
use lib.Dec.{eqb}
use lib.ListN.{get_or, drop, length}
use Rattle.std.specs.List.{list_any, zip}
use Rattle.std.proofs.lemmas.Bool.{false≢true, false_from_ne_true, not-true, not_from_false}
use Rattle.std.proofs.lemmas.Bool.Decides.{nat_tests}
use Rattle.std.proofs.lemmas.List.{get_or-drop, length-drop}
use Rattle.std.proofs.lemmas.List.Elements.{All-from_get_or}
use Rattle.std.proofs.lemmas.List.Folds.{list_any_at, list_any_none}
use Rattle.std.proofs.lemmas.Slice.Zip.{length-zip, get_or-zip}
use Rattle.order.specs.Tables.{mark, SomeContradicts}
use Rattle.order.proofs.Decide.{stable}
use Rattle.promise.specs.Clips.{Flagged, ClipNo, MemberBeyond}
use Rattle.promise.proofs.Flags.{dec_flagged, flag_there}
use Rattle.promise.proofs.Clips.{contrary, contrary_pair}
use Rattle.marks.specs.Shape.{RowOf}
use Rattle.standing.proofs.Clear.{raised, stays_down}
use Rattle.clips.specs.Seen.{UnderMembers}

-- no flag from n on is set
pub none_set :
    {n : ℕ} {played : List Bool} {r : Bool} → r ≡ list_any (λ b. b) (drop n played)
    → (not r ≡ true) ↔ (¬ MemberBeyond n played)
none_set {n} {played} {r} e = (
  λ up b.
      let l = flag_there played b.class b.member in
      let k = b.class - n in
      let here = rest k (omega (arith, b.beyond)) ∙ b.member in
      let within : k < length (drop n played) = omega (arith, length-drop n played, b.beyond) in
      false≢true (sym (not-true r up) ∙ e ∙ list_any_at (λ x. x) (drop n played) k false within here),
  λ none. not_from_false r
      (e ∙ list_any_none (λ x. x) (drop n played)
      (All-from_get_or (λ x. x ≡ false) (drop n played) false (λ k l.
      false_from_ne_true _ (λ up.
      none (record { class = n + k; beyond = omega arith; member = rw get_or-drop at up }))))),
)
  where
    rest : (k : ℕ) {a : ℕ} → n + k ≡ a → get_or (drop n played) k false ≡ get_or played a false
    rest k e = rw (get_or-drop, e) refl

-- a mark in the row of a class is that of being under a class that is no member
abbrev pub broken : ℕ × Bool → Bool
broken p = eqb p.0 1 && not p.1

-- the row of a class shows it under members only
pub row_closed :
    {n a : ℕ} {t : List ℕ} {played : List Bool} {flag : Bool} (row : List ℕ) → RowOf n t a row → n ≤ length played
    → flag ≡ raised broken false (zip row played) → (not flag ≡ true) ↔ UnderMembers n t played a
row_closed {n} {a} {t} {played} row of_a few e =
    let q = stays_down broken (λ p. closed p.0 p.1) (0, false) (zip row played)
    (omega (arith, length-zip row played, of_a.size)) e in
    (λ up. record { at = λ b l. rw (both b l) at (q.0 up b l) }, λ h. q.1 (λ b l. rw (both b l) (h.at b l)))
  where
    closed : (m : ℕ) (member : Bool) → ((eqb m 1 && not member) ≡ false) ↔ (m ≡ 1 → member ≡ true)
    closed m member = (λ e p. grind (arith, nat_tests), λ h. grind (arith, nat_tests))

    both : (b : ℕ) → b < n → get_or (zip row played) b (0, false) ≡ (mark n t a b, get_or played b false)
    both b l =
        let pair = get_or-zip row played b (0, false) (omega (arith, of_a.size)) (omega arith) in
        cc (pair, of_a.at b l)

-- none of the noes of a clip contradicts exactly where each member is under members only
pub noes_agree :
    {n : ℕ} {t : List ℕ} {played : List Bool} {r : Bool}
    → (r ≡ true) ↔ ((a : ℕ) → a < n → Flagged played a → UnderMembers n t played a)
    → (r ≡ true) ↔ (¬ SomeContradicts n t (ClipNo n played))
noes_agree {n} {t} {played} h = (
  λ e c.
      let q = contrary_pair n played t c in
      q.2.2.0.1 ((h.0 e q.0 q.1 q.2.2.0.0).at q.2.0 q.2.1 q.2.2.1),
  λ none. h.1 (λ a ha p.
      record { at = λ b hb m. stable (dec_flagged played b) (λ q. none (contrary n played t ha hb ((p, q), m))) }),
)
