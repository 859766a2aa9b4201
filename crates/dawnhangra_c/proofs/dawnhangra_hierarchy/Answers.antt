-- `dawnhangra_c::dawnhangra_hierarchy` meets its contract: what C gets is the image of what the call gave.
-- Assumes nothing.
use mathlib.Core.Path.{refl}
use Rattle.promise.specs.Hierarchy.{hierarchy}
use Rattle.promise.proofs.Crossing.{writes_crosses}
use Rattle.dawnhangra_c.proofs.dawnhangra_hierarchy.Goals as goal

pub returns : goal.returns
returns c = rw c.from.ensures (writes_crosses (hierarchy _ _ _ _) (λ o. refl) c.hierarchy.ensures)
