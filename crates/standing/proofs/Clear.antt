-- A flag that is folded by `or` stays down exactly where no item raises it: of the marks, and of the rows of a pair.
-- Assumes nothing.
use mathlib.Core.Path.{◌≡◌, refl, sym, ◌∙◌}
use mathlib.Core.Logic.{◌↔◌}
use mathlib.Core.Bool.{Bool, true, false, ◌||◌, not}
use mathlib.Core.List.{List, [], ◌∷◌}
use Prim.Native.Nat.{ℕ, ◌<◌}
use native.Mathlib.Omega.{arith}
use lib.Dec.{ltb}
use lib.ListN.{get_or, length}
use Rattle.std.specs.List.{fold, list_any, zip}
use Rattle.std.proofs.lemmas.Bool.{false≢true, false_from_ne_true, not-true, not_from_false, ltb-false, le-ltb}
use Rattle.std.proofs.lemmas.Bool.Decides.{nat_tests}
use Rattle.std.proofs.lemmas.List.Elements.{All-from_get_or}
use Rattle.std.proofs.lemmas.List.Folds.{list_any_at, list_any_none}
use Rattle.std.proofs.lemmas.Slice.Zip.{length-zip, get_or-zip}
use Rattle.order.specs.Tables.{mark}
use Rattle.marks.specs.Shape.{AllOf, RowOf}
use Rattle.standing.specs.Soundness.{Asks, against, SmallMarks, RowsAgree}

module _ {X : Type 0} (raises : X → Bool) where
  -- a flag that is raised by the items that a test picks
  abbrev pub raised : Bool → List X → Bool
  raised = fold (λ flag x. flag || raises x)

  raised_any : (flag : Bool) (xs : List X) → raised flag xs ≡ (flag || list_any raises xs)
  raised_any true [] = refl
  raised_any false [] = refl
  raised_any true (x ∷ xs) = raised_any true xs
  raised_any false (x ∷ xs) = raised_any (raises x) xs

  -- a flag that was down stays down exactly where the test picks none of n items
  pub stays_down :
      {P : X → Type 0} → ((x : X) → (raises x ≡ false) ↔ P x) → (d : X) (xs : List X) {n : ℕ} {flag : Bool}
      → length xs ≡ n → flag ≡ raised false xs → (not flag ≡ true) ↔ ((k : ℕ) → k < n → P (get_or xs k d))
  stays_down told d xs {n} {flag} size e =
      let same : flag ≡ list_any raises xs = e ∙ raised_any false xs in (
        λ up k l. (told _).0
            (false_from_ne_true _
            (λ r. false≢true (sym (not-true flag up) ∙ same ∙ list_any_at raises xs k d (omega arith) r))),
        λ all. not_from_false flag
            (same ∙ list_any_none raises xs
            (All-from_get_or (λ x. raises x ≡ false) xs d (λ k l. (told _).1 (all k (omega arith))))),
      )

-- the test of what is asked at a class
against_down : (settled : Bool) (x y : ℕ) → (against settled x y ≡ false) ↔ Asks settled x y
against_down true x y =
    (λ e. (λ p. grind (arith, nat_tests), λ p. grind (arith, nat_tests)), λ h. grind (arith, nat_tests))
against_down false x y = (λ e p q. grind (arith, nat_tests), λ h. grind (arith, nat_tests))

module _ {n : ℕ} {t : List ℕ} {flag : Bool} where
  pub marks_clear :
      (marks : List ℕ) → AllOf n t marks → flag ≡ raised (ltb 2) false marks → (not flag ≡ true) ↔ SmallMarks n t
  marks_clear marks all e =
      let q = stays_down (ltb 2) (λ m. (ltb-false 2 m, le-ltb 2 m)) 0 marks all.size e in
      (λ up. record { at = λ i l. rw (← all.at i l) (q.0 up i l) }, λ h. q.1 (λ i l. rw (all.at i l) (h.at i l)))

  pub rows_clear :
      {settled : Bool} {a b : ℕ} (row_a row_b : List ℕ) → RowOf n t a row_a → RowOf n t b row_b
      → flag ≡ raised (λ (p : ℕ × ℕ). against settled p.0 p.1) false (zip row_a row_b)
      → (not flag ≡ true) ↔ RowsAgree n t settled a b
  rows_clear {settled} {a} {b} row_a row_b of_a of_b e =
      let size : length (zip row_a row_b) ≡ n = omega (arith, length-zip row_a row_b, of_a.size, of_b.size) in
      let q = stays_down _ (λ p. against_down settled p.0 p.1) (0, 0) (zip row_a row_b) size e in
      (λ up. record { at = λ c l. rw (both c l) at (q.0 up c l) }, λ h. q.1 (λ c l. rw (both c l) (h.at c l)))
    where
      both : (c : ℕ) → c < n → get_or (zip row_a row_b) c (0, 0) ≡ (mark n t a c, mark n t b c)
      both c l =
          let pair = get_or-zip row_a row_b c (0, 0) (omega (arith, of_a.size)) (omega (arith, of_b.size)) in
          cc (pair, of_a.at c l, of_b.at c l)
