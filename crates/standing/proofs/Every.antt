-- A test that all classes are put to says yes exactly where each passes it.
-- Assumes nothing.
use mathlib.Core.Path.{◌≡◌}
use mathlib.Core.Logic.{◌↔◌}
use mathlib.Core.Bool.{Bool, true, false}
use mathlib.Core.List.{List}
use Prim.Native.Nat.{ℕ, ◌<◌}
use native.Mathlib.Omega.{arith}
use denote.Param.Members.{Mut}
use lib.ListN.{get_or}
use Rattle.std.proofs.Common.{Option, length, refl}
use Rattle.std.proofs.iter.Yields.{nat_range_steps}
use Rattle.std.specs.declared.ops.Range.{Range}
use Rattle.std.specs.Bool.{MatchBool}
use Rattle.std.specs.Fn.{Called}
use Rattle.std.specs.Iterator.{YieldsThen}
use Rattle.std.specs.List.{FoldsTo, range_with_len, AllWithin, HoldsAt}
use Rattle.std.specs.Option.{MatchOption}
use Rattle.std.proofs.lemmas.Bool.{false≢true, MatchBool-at_true}
use Rattle.std.proofs.lemmas.Iterator.{cases_from_all, YieldsList-from_range}
use Rattle.std.proofs.lemmas.Iterator.Search.{true_from_All}
use Rattle.std.proofs.lemmas.List.FromFn.{length-range_with_len, get_or-range_with_len}

-- what the clause of `all` says, over the numbers below n
pub every :
    {F : Type 0} {g : Mut F (ℕ × Unit {0}) Bool} {s u : Range ℕ} {f : F} {r : Bool} (n : ℕ) (P : ℕ → Type 0)
    → ((xs : List ℕ) × (o : Option ℕ) × (j : F) × YieldsThen nat_range_steps s xs o u
    × FoldsTo (λ p x q. Called g p (x, tt) true q) f xs j
    × MatchOption o (r ≡ true) (λ x. (r ≡ false) × ((h : F) × Called g j (x, tt) false h)))
    → s ≡ record { start = 0; end = n }
    → ((x : ℕ) (b : Bool) (q : F) → Called g f (x, tt) b q → (q ≡ f) × ((b ≡ true) ↔ P x))
    → (r ≡ true) ↔ ((k : ℕ) → k < n → P k)
every {u = u} {f = f} {r = r} n P ran is told = (
  λ e k l. rw (place k 0 l) at (MatchBool-at_true _ _ e cases k 0 (omega arith) (omega (arith, size))),
  λ p. true_from_All P (λ x. ¬ P x) r all (λ x yes no. no yes) cases
      (λ k d l. let within : k < n = omega (arith, size) in rw (place k d within) (p k within)),
)
  where
    all : List ℕ
    all = range_with_len 0 n

    size : length all ≡ n
    size = length-range_with_len 0 n

    place : (k d : ℕ) → k < n → get_or all k d ≡ k
    place k d l = omega (arith, get_or-range_with_len 0 n k d l)

    cases : MatchBool r (AllWithin P all 0 (length all)) ((k : ℕ) × (k < length all) × HoldsAt (λ x. ¬ P x) all k)
    cases =
        cases_from_all u f r P (λ x. ¬ P x) ran (YieldsList-from_range 0 n n is (omega arith))
        (λ x q k. let h = told x true q k in (h.0, h.1.0 refl))
        (λ x q k p. false≢true ((told x false q k).1.1 p))
