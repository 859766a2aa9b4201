-- `reading::fields::Field::follow` meets its contract: the facts from here on follow all of them.
-- Assumes nothing.
use Rattle.std.proofs.Common.{◌≡◌, ◌+◌, ◌-◌}
use Rattle.promise.specs.Book.{length_of}
use Rattle.reading.specs.Parts.{width_of}
use Rattle.reading.proofs.Advance.{FactsLeft}
use Rattle.reading.proofs.fields.Field.follow.Given as goal

abbrev pub invariant-loop-at : goal.invariant-loop-at
invariant-loop-at l =
    record {
      left :
          FactsLeft l.facts l.self.place l.self.bytes.now (length_of l.self.bytes.now) l.initial.session l.initial.table
          l.at l.session l.table;
      end : l.at-end ≡ 3 + length_of l.self.bytes.now;
      step : l.at-step ≡ width_of l.facts;
    }

abbrev pub decreases-loop-at : goal.decreases-loop-at
decreases-loop-at l = l.at-end - l.at
