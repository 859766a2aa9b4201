-- What the soundness test looks at is soundness: small marks, a yes diagonal, and for each pair the rows of its two
-- classes.
-- Assumes nothing.
use mathlib.Core.Path.{◌≡◌}
use mathlib.Core.List.{List}
use Prim.Native.Nat.{ℕ, ◌+◌, ◌*◌, ◌/◌, ◌%◌, ◌<◌, ◌≤◌}
use native.Mathlib.Omega.{arith}
use lib.ListN.{get_or}
use Rattle.order.specs.Tables.{mark, Sound}
use Rattle.order.proofs.Bytes.{pair_below, pair_at}
use Rattle.standing.specs.Soundness.{SmallMarks, DiagonalYes, PairStands, ClassStands}

module _ {n : ℕ} {t : List ℕ} where
  pub small_of : Sound n t → SmallMarks n t
  unfolding mark
  small_of s =
      record {
        at = λ i l.
            let p = pair_at n i l in
            let m : get_or t (i / n * n + i % n) 0 ≤ 2 = s.small (i / n) (i % n) p.1 p.2 in
            rw p.3 at m;
      }

  -- what is asked of a pair follows from soundness
  pub pair_of : Sound n t → (a b : ℕ) → a < n → b < n → PairStands n t a b
  pair_of s a b ha hb =
      record {
        yes_pair = λ e.
            record {
              at = λ c hc. (
                λ p. s.transitive a b c ha hb hc e p,
                λ p. s.pruned b c a c hb hc ha hc p e (s.diagonal c hc),
              );
            };
        open_pair = λ e.
            record { at = λ c hc p q. omega (arith, e, s.pruned a b a c ha hb ha hc q (s.diagonal a ha) p) };
      }

  -- and gives it
  pub sound_of : SmallMarks n t → DiagonalYes n t → ((a b : ℕ) → a < n → b < n → PairStands n t a b) → Sound n t
  unfolding mark
  sound_of small diagonal stands =
      record {
        small = small_at;
        diagonal = diagonal.at;
        transitive = λ a b c ha hb hc p q. (((stands a b ha hb).yes_pair p).at c hc).0 q;
        pruned = λ a b c d ha hb hc hd p q r.
            which (small_at a b ha hb)
            (λ e. omega (
              arith,
              (((stands c a hc ha).yes_pair q).at d hd).1 p,
              (((stands a b ha hb).yes_pair e).at d hd).0 r,
            ))
            (λ e. ((stands a b ha hb).open_pair e).at d hd r ((((stands c a hc ha).yes_pair q).at d hd).1 p));
      }
    where
      small_at : (a b : ℕ) → a < n → b < n → mark n t a b ≤ 2
      small_at a b ha hb = small.at (a * n + b) (pair_below n a b ha hb)

      -- a mark that is neither yes nor open is no
      which : {m : ℕ} → m ≤ 2 → ¬ (m ≡ 1) → ¬ (m ≡ 0) → m ≡ 2
      which small not_yes not-open = omega arith

  -- the same, class by class
  pub class_of : Sound n t → (a : ℕ) → a < n → ClassStands n t a
  class_of s a ha = record { pairs = λ b hb. pair_of s a b ha hb }

  pub diagonal_of : Sound n t → DiagonalYes n t
  diagonal_of s = record { at = s.diagonal }

  pub sound_of_classes : SmallMarks n t → DiagonalYes n t → ((a : ℕ) → a < n → ClassStands n t a) → Sound n t
  sound_of_classes small diagonal stands = sound_of small diagonal (λ a b ha hb. (stands a ha).pairs b hb)
