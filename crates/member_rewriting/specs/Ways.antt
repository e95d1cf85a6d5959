-- The two ways of leading a route to its tap, as a test and a depth. Definitions of inner contracts.
-- Assumes nothing.
use Rattle.std.specs.Prelude.{Bool, true, false, Float}
use Rattle.std.specs.Float.{nan}
use Rattle.member_rewriting.specs.declared.Way.{Way}
use Rattle.member_rewriting.specs.declared.Way.TheVariants.{Trunk, Corridor}

-- through the trunk if the bundle counts as interior, else by a corridor
unfoldable pub way_of : Bool → Float → Way
way_of true depth = Trunk
way_of false depth = Corridor depth

unfoldable pub is_trunk : Way → Bool
is_trunk Trunk = true
is_trunk (Corridor depth) = false

-- how deep a corridor is; of a trunk it says nothing
unfoldable pub depth_of : Way → Float
depth_of Trunk = nan
depth_of (Corridor depth) = depth
