-- Numbers as text: "decimal without leading zeros".
-- Assumes nothing.
use Rattle.std.specs.Prelude.{List, [], ◌∷◌, ◌++◌, ℕ, zero, suc, ◌+◌, ◌/◌, ◌%◌}

-- the byte of the digit 0
abbrev pub digit_0 : ℕ
digit_0 = 48

-- the digits of x, at most k of them, and none for 0
unfoldable pub digits : ℕ → ℕ → List ℕ
digits zero x = []
digits (suc k) zero = []
digits (suc k) (suc x) = digits k (suc x / 10) ++ (digit_0 + suc x % 10) ∷ []

-- the last digit of x, which also 0 has, behind the others; there are not more than x of these
unfoldable pub decimal : ℕ → List ℕ
decimal x = digits x (x / 10) ++ (digit_0 + x % 10) ∷ []
