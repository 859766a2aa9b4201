-- Third heads, found row by row: the flags of the classes above each head above a go up.
-- Assumes nothing.
use Rattle.std.proofs.Common.{◌≡◌, ◌↔◌, ◌+◌, ◌<◌, ◌≤◌, ℕ, List, Bool, true, false, get_or, sym, ◌∙◌, arith}
use Rattle.std.proofs.Common.{below_more, replicate}
use Rattle.std.proofs.lemmas.List.{get_or-replicate}
use mathlib.Core.Bool.{false≢true}
use Rattle.order.specs.Tables.{Sound}
use Rattle.promise.specs.Hierarchy.{Third}
use Rattle.promise.proofs.Hierarchy.{heads_equal}
use Rattle.steps.specs.Between.{HeadAbove, ThirdAdded}

-- the flag of b is down exactly where no third head below k stands between a and b
pub record ThirdsBelow (n : ℕ) (t : List ℕ) (a : ℕ) (flags : List Bool) (k : ℕ) : Type 0 where
  pub at : (b : ℕ) → b < n → (get_or flags b false ≡ false) ↔ ((c : ℕ) → c < k → ¬ Third n t a b c)

-- flags that were made down
pub thirds_none : {n : ℕ} {t : List ℕ} {a : ℕ} → n ≤ 128 → ThirdsBelow n t a (replicate 128 false) 0
thirds_none few =
    record { at = λ b l. (λ _ c z. absurd (omega arith), λ _. get_or-replicate 128 b false false (omega arith)) }

module _ {n : ℕ} {t : List ℕ} {a k : ℕ} {flags : List Bool} (h : ThirdsBelow n t a flags k) where
  -- k is a head above a
  pub thirds_add :
      {flags' : List Bool} → HeadAbove n t a k → ThirdAdded n t k flags flags' → ThirdsBelow n t a flags' (k + 1)
  thirds_add above added =
      record {
        at = λ b l. (
          λ down. let d = (added.at b l).0 down
              in below_more (λ c. ¬ Third n t a b c) k ((h.at b l).0 d.0) (λ p. d.1 p.not_upper p.under),
          λ none. (added.at b l).1 (
            (h.at b l).1 (λ c z. none c (omega arith)),
            λ differ under. none k (omega arith)
                (record {
                  head = above.head;
                  not_lower = above.differ;
                  not_upper = differ;
                  above = above.under;
                  under = under;
                }),
          ),
        );
      }

  -- k stands between a and no class whose flag is down
  pub thirds_pass :
      ((b : ℕ) → b < n → get_or flags b false ≡ false → ¬ Third n t a b k) → ThirdsBelow n t a flags (k + 1)
  thirds_pass none =
      record {
        at = λ b l. (
          λ down. below_more (λ c. ¬ Third n t a b c) k ((h.at b l).0 down) (none b l down),
          λ all. (h.at b l).1 (λ c z. all c (omega arith)),
        );
      }

  -- the flag of k is up: a third head d between a and k stands between a and whatever k does
  pub thirds_known :
      Sound n t → k < n → get_or flags k false ≡ true → (b : ℕ) → b < n → get_or flags b false ≡ false
      → ¬ Third n t a b k
  thirds_known sound below up b l down p =
      false≢true (sym ((h.at k below).1 (λ d z q. (h.at b l).0 down d z (third d q))) ∙ up)
    where
      third : (d : ℕ) → Third n t a k d → Third n t a b d
      third d q =
          record {
            head = q.head;
            not_lower = q.not_lower;
            not_upper = λ e. q.not_upper (heads_equal n t sound q.head p.head (q.under, rw (← e) at p.under));
            above = q.above;
            under = sound.transitive d k b q.head.below below l q.under p.under;
          }
