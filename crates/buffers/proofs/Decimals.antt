-- Numbers as text: they read back, have no leading zero, and are as long as they need be.
-- Assumes nothing.
use mathlib.Core.Path.{◌≡◌, refl, sym, ◌∙◌, ap}
use mathlib.Core.List.{List, [], ◌∷◌, ◌++◌}
use Prim.Native.Nat.{ℕ, zero, suc, ◌+◌, ◌-◌, ◌*◌, ◌/◌, ◌%◌, ◌^◌, ◌<◌, ◌≤◌}
use native.Mathlib.Decide.{dec_lt}
use native.Mathlib.Omega.{arith}
use lib.ListN.{length, get_or, length-append, get_or-append}
use Rattle.std.proofs.Common.{add-one}
use Rattle.std.proofs.lemmas.List.{length_push, places}
use Rattle.buffers.specs.Decimal.{digit_0, digits, decimal}

-- any bound that suffices gives the same digits
enough : (j k x : ℕ) → x ≤ j → x ≤ k → digits j x ≡ digits k x
unfolding digits
enough zero zero x h g = refl
enough zero (suc k) zero h g = refl
enough zero (suc k) (suc x) h g = absurd (omega arith)
enough (suc j) zero zero h g = refl
enough (suc j) zero (suc x) h g = absurd (omega arith)
enough (suc j) (suc k) zero h g = refl
enough (suc j) (suc k) (suc x) h g = rw (enough j k (suc x / 10) (omega arith) (omega arith))

digits_some : (k x : ℕ) → 0 < x → x ≤ k → digits k x ≡ decimal x
unfolding digits decimal
digits_some k zero some h = absurd (omega arith)
digits_some zero (suc x) some h = absurd (omega arith)
digits_some (suc k) (suc x) some h = rw (enough k (suc x) (suc x / 10) (omega arith) (omega arith))

-- a number below 10 is one digit
pub decimal_one : (x : ℕ) → x < 10 → decimal x ≡ (digit_0 + x) ∷ []
unfolding digits decimal
decimal_one x h =
    let none : x / 10 ≡ 0 = omega arith in
    let same : x % 10 ≡ x = omega arith in
    rw (none, same, enough x 0 0 (omega arith) (omega arith))

-- any other is its last digit behind the others
pub decimal_more : (x : ℕ) → 10 ≤ x → decimal x ≡ decimal (x / 10) ++ (digit_0 + x % 10) ∷ []
unfolding decimal
decimal_more x h = rw (digits_some x (x / 10) (omega arith) (omega arith))

pub one_longer : (x : ℕ) → 10 ≤ x → length (decimal x) ≡ length (decimal (x / 10)) + 1
one_longer x h = rw (decimal_more x h) (length-append (decimal (x / 10)) ((digit_0 + x % 10) ∷ []))

-- what one digit has, and a number once its other digits have it, every number has
decimal_by_steps :
    (P : ℕ → List ℕ → Type 0) → ((x : ℕ) → x < 10 → P x ((digit_0 + x) ∷ []))
    → ((x : ℕ) (w : List ℕ) → 10 ≤ x → P (x / 10) w → P x (w ++ (digit_0 + x % 10) ∷ []))
    → (x : ℕ) → P x (decimal x)
decimal_by_steps P one more x = go x x (omega arith)
  where
    next : (x : ℕ) → Dec (x < 10) → P (x / 10) (decimal (x / 10)) → P x (decimal x)
    next x (yes l) p = rw (decimal_one x l) (one x l)
    next x (no l) p = rw (decimal_more x (omega arith)) (more x _ (omega arith) p)

    go : (k x : ℕ) → x ≤ k → P x (decimal x)
    go zero x h = rw (decimal_one x (omega arith)) (one x (omega arith))
    go (suc k) x h = next x (dec_lt x 10) (go k (x / 10) (omega arith))

-- a number with k digits more than one has its kth power of ten in it, and not the next
pub digits_counted : (k x : ℕ) → 10 ^ k ≤ x → x < 10 * 10 ^ k → length (decimal x) ≡ k + 1
digits_counted zero x low high = ap (λ (w : List ℕ). length w) (decimal_one x (omega arith))
digits_counted (suc k) x low high =
    omega (arith, one_longer x (omega arith), digits_counted k (x / 10) (omega arith) (omega arith))

-- the last k digits of x
unfoldable pub last_digits : ℕ → ℕ → List ℕ
last_digits zero x = []
last_digits (suc k) x = last_digits k (x / 10) ++ (digit_0 + x % 10) ∷ []

pub last_more : (j k x : ℕ) → k ≡ j + 1 → last_digits k x ≡ last_digits j (x / 10) ++ (digit_0 + x % 10) ∷ []
unfolding last_digits
last_more j k x e = rw (e, add-one)

-- they are all of them
pub last_all : (x : ℕ) → decimal x ≡ last_digits (length (decimal x)) x
unfolding last_digits
last_all =
    decimal_by_steps (λ x w. w ≡ last_digits (length w) x)
    (λ x h. let same : x % 10 ≡ x = omega arith in rw same)
    (λ x w h e. rw (last_more (length w) _ x (length_push w (digit_0 + x % 10)), ← e))

-- the number that digits make, behind those that made v
unfoldable pub value_from : ℕ → List ℕ → ℕ
value_from v [] = v
value_from v (d ∷ w) = value_from (10 * v + (d - digit_0)) w

value_more : (v : ℕ) (w : List ℕ) (d : ℕ) → value_from v (w ++ d ∷ []) ≡ 10 * value_from v w + (d - digit_0)
unfolding value_from
value_more v [] d = refl
value_more v (x ∷ w) d = value_more (10 * v + (x - digit_0)) w d

-- w is the number x as text: its value, only digits, no leading zero, and at most k digits below the kth power of ten
pub record Written (x : ℕ) (w : List ℕ) : Type 0 where
  pub value : value_from 0 w ≡ x
  pub each : (i : ℕ) → i < length w → (digit_0 ≤ get_or w i 0) × (get_or w i 0 < digit_0 + 10)
  pub leads : get_or w 0 0 ≡ digit_0 → w ≡ digit_0 ∷ []
  pub some : 0 < length w
  pub short : (k : ℕ) → 0 < k → x < 10 ^ k → length w ≤ k

written_one : (x : ℕ) → x < 10 → Written x ((digit_0 + x) ∷ [])
unfolding value_from
written_one x h =
    record {
      value = omega arith;
      each = λ i l. (grind (arith, places), grind (arith, places));
      leads = λ e. ap (λ (d : ℕ). d ∷ []) e;
      some = omega arith;
      short = λ k some l. omega arith;
    }

written_more : (x : ℕ) (w : List ℕ) → 10 ≤ x → Written (x / 10) w → Written x (w ++ (digit_0 + x % 10) ∷ [])
unfolding value_from
written_more x w h p =
    let d = digit_0 + x % 10 in
    record {
      value = value_more 0 w d ∙ omega (arith, p.value);
      each = λ i l. (grind (arith, places, p.each i), grind (arith, places, p.each i));
      leads = λ e.
          let zero-alone = p.leads (sym (get_or-append w (d ∷ []) 0 0 p.some) ∙ e) in
          absurd (omega (arith, p.value, ap (λ (u : List ℕ). value_from 0 u) zero-alone));
      some = omega (arith, length-append w (d ∷ []));
      short = less;
    }
  where
    less : (k : ℕ) → 0 < k → x < 10 ^ k → length (w ++ (digit_0 + x % 10) ∷ []) ≤ k
    less zero some l = absurd (omega arith)
    less (suc zero) some l = absurd (omega arith)
    less (suc (suc k)) some l =
        omega (arith, length_push w (digit_0 + x % 10), p.short (suc k) (omega arith) (omega arith))

pub decimal_written : (x : ℕ) → Written x (decimal x)
decimal_written = decimal_by_steps Written written_one written_more

-- any usize has at most 20 digits
pub decimal_longest : (x : ℕ) → x < 18446744073709551616 → length (decimal x) ≤ 20
decimal_longest x h = (decimal_written x).short 20 (omega arith) (omega arith)
