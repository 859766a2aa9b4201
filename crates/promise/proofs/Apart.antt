-- Open pairs need not hold together.
-- Assumes nothing.
use mathlib.Core.Path.{◌≡◌, refl}
use mathlib.Core.Logic.{inl}
use mathlib.Core.List.{List, [], ◌∷◌}
use Prim.Native.Nat.{ℕ}
use native.Mathlib.Omega.{arith}
use Rattle.order.specs.Facts.{Facts, under, not_under, Only, ◌with◌, Within}
use Rattle.order.specs.Tables.{mark, TableOf}
use Rattle.order.specs.Orders.{Order, Agrees, Possible}
use Rattle.order.proofs.Sets.{entails_subset, and_none}
use Rattle.order.proofs.Tables.{table_unique, table_of_equals}
use Rattle.order.proofs.Exactness.{open_possible}
use Rattle.promise.specs.declared.Kind.{Kind}
use Rattle.promise.specs.Runs.{Intake, Made, Run, FromFresh}
use Rattle.promise.proofs.Runs.{fresh_run_table}
use Rattle.promise.proofs.Table.{Mark, p2, p3, three, nines, replied}
use Rattle.promise.proofs.Worked.{met}

-- only "0 not under 2" is known
abbrev pub Known : Facts
Known = Only (not_under 0 2)

-- P3's table is that of this fact
pub p3_table : TableOf 3 Known p3
p3_table =
    table_of_equals (entails_subset (λ f i. inl i)) (entails_subset (and_none Known (λ f i. i)))
    (fresh_run_table told)
  where
    made : List Made
    made = record { call = Intake.fact Kind.Told (not_under 0 2); number = 0 } ∷ []

    told : FromFresh 3 (nines 9) made (three 0) p3
    told =
        record {
          reply = replied 0 0 (three 0);
          table = p2;
          began = met Mark.p2_fresh;
          accepted = refl;
          run = Run.call (met Mark.p3_told) refl Run.stop;
        }

-- "(0, 1) and (1, 2) are both open, though no order has both"
abbrev pub Apart : List ℕ → Type 1
Apart t =
    (mark 3 t 0 1 ≡ 0) × (mark 3 t 1 2 ≡ 0)
    × ((R : ℕ → ℕ → Type 0) → Order 3 R → Agrees Known R → ¬ (R 0 1 × R 1 2))

-- "Open pairs need not hold together": so it is in every table of this fact
pub open_apart : {t : List ℕ} → TableOf 3 Known t → Apart t
unfolding mark
open_apart h =
    let same = table_unique h p3_table in (
      same.at 0 1 (omega arith) (omega arith),
      same.at 1 2 (omega arith) (omega arith),
      λ R o g both.
          g.lacks 0 2 refl (o.transitive 0 1 2 (omega arith) (omega arith) (omega arith) both.0 both.1),
    )

pub p3_apart : Apart p3
p3_apart = open_apart p3_table

-- each of the two is possible by itself
pub each_possible : Possible 3 (Known with under 0 1) × Possible 3 (Known with under 1 2)
each_possible = (
  (open_possible within p3_table 0 1 (omega arith) (omega arith) p3_apart.0).0,
  (open_possible within p3_table 1 2 (omega arith) (omega arith) p3_apart.1).0,
)
  where
    within : Within 3 Known
    within f e = rw e (record { lower_below = omega arith; upper_below = omega arith })
