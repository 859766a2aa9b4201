-- Whether the input is too long: exactly where a byte came behind the full buffer.
-- Assumes nothing.
use Rattle.std.proofs.Common.{◌≡◌, ℕ, ◌<◌, List, length, take, inl, inr, refl, arith, length-take-le}
use Rattle.buffers.specs.Placed.{Put}
use Rattle.lines.specs.Lines.{refusal_line}
use Rattle.printing.specs.Answers.{Answered, Input, Decided}

read : {buffer : List ℕ} {count behind : ℕ} → Input buffer count behind → length (take count buffer) ≡ count
read {buffer} {count} input = length-take-le count buffer input.held.within

module _ {buffer : List ℕ} {count behind : ℕ} (input : Input buffer count behind) {table text text' : List ℕ} {size : ℕ}
  where
    -- more came: the line of 15
    pub more_decided : 0 < behind → Put (refusal_line 15 32768) 0 text size text'
        → Decided buffer count behind table text size text'
    more_decided more put =
        record {
          written = refusal_line 15 32768;
          output =
              record {
                number = 15;
                first = inl (omega (arith, read input, input.size, input.held.full (λ z. omega arith)), refl);
                refused = λ _. refl;
                whole = λ e. absurd (omega (arith, e));
                accepted = λ e. absurd (omega (arith, e));
              };
          put = put;
        }

    -- no more came: what is written of the book
    pub whole_decided : behind ≡ 0 → Answered (take count buffer) table text size text'
        → Decided buffer count behind table text size text'
    whole_decided none answered =
        record {
          written = answered.written;
          output =
              record {
                number = 0;
                first = inr (λ long. omega (arith, read input, input.size, input.held.within), refl);
                refused = λ e. absurd (e refl);
                whole = λ _. none;
                accepted = λ _. answered.printed;
              };
          put = answered.put;
        }
