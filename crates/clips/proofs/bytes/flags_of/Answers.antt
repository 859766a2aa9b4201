-- `clips::bytes::flags_of` meets its contract.
-- Assumes nothing.
use Rattle.std.proofs.Common.{rules, arith}
use Rattle.promise.specs.Clips.{Flagged, flags_of}
use Rattle.promise.proofs.Flags.{flag_set, flag_there, flags_length}
use Rattle.passes.proofs.FromFn.{Says, flags_of as made}
use Rattle.clips.proofs.bytes.flags_of.Goals as goal

says : (c : goal.After-from_fn) → Says c.from_fn.ensures.items 128 (Flagged (flags_of c.args.played.now))
says _ x b f k l = search (rules, flag_set)

pub returns : goal.returns
returns c =
    let played = c.args.played.now in
    let flags = made c.from_fn.ensures.items _ (says c) (omega arith) in
    record {
      at = λ a. (
        λ p. (flags.at a (omega (arith, flag_there (flags_of played) a p, flags_length played))).1 p,
        λ p. (flags.at a (omega (arith, flag_there c.from_fn.result a p, c.from_fn.ensures.items.long))).0 p,
      );
    }
