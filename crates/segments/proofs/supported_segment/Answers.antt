-- `segments::supported_segment` meets its contract. Assumes nothing.
use Rattle.std.proofs.Common.{◌∙◌}
use Rattle.regions.specs.RangeLaws.{less_none}
use Rattle.support.specs.Support.{beneath, shapes_under, supported}
use Rattle.segments.proofs.supported_segment.Goals as goal

pub returns : goal.returns
unfolding supported shapes_under beneath
returns c =
    c.carries.ensures
    ∙ rw (c.floors-ys.ensures, c.reached-xs.ensures, c.reached-zs.ensures, c.footprint-f.ensures, less_none, less_none)
