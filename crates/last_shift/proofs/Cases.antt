-- Why both conditions stand: two closed cases, worked out by the definitions. Both were run as jobs as well. Assumes nothing.
use Rattle.std.specs.Prelude.{◌≡◌, refl, Bool, true, not, ◌&&◌}
use Rattle.std.specs.Float.{binary64}
use Rattle.std.specs.Float.Ieee.{of_bits, lt, le, eq, neg, add, sub}
use Rattle.geometry.specs.declared.Point.{Point}
use Rattle.geometry.specs.Enters.{enters, passes_inside}
use Rattle.board.specs.declared.PlacedNode.{PlacedNode}
use Rattle.drawing.specs.Build.{pt}
use Rattle.drawing.specs.Normal.{shifted, shifted_node}

-- 18 and 18 + 2 ^ -40 less -2 ^ 30: two places before the shift, one after it
abbrev closes : Bool
closes =
    let a = of_bits binary64 0x4032_0000_0000_0000 in
    let c = of_bits binary64 0x4032_0000_0000_0100 in
    let o = of_bits binary64 0xc1d0_0000_0000_0000 in
    not (eq a c) && eq (sub binary64 a o) (sub binary64 c o)

pub gap_closes : closes ≡ true
unfolding of_bits eq sub add neg
gap_closes = refl

-- a node at (-2 ^ 30, 50) of 2 ^ 28 + 2 ^ -24 by 100, and the run at x = -3 * 2 ^ 28 from y = 5 to y = 200: all coordinates are whole numbers, so their shift by (-2 ^ 30, 0) is exact. The run lies along the node before the shift and enters it after it
abbrev node : PlacedNode
node = record { id = 2; body = record { corner = pt (of_bits binary64 0xc1d0_0000_0000_0000) (of_bits binary64 0x4049_0000_0000_0000); width = of_bits binary64 0x41b0_0000_0000_0001; height = of_bits binary64 0x4059_0000_0000_0000 } }

abbrev first : Point
first = pt (of_bits binary64 0xc1c8_0000_0000_0000) (of_bits binary64 0x4014_0000_0000_0000)

abbrev last : Point
last = pt (of_bits binary64 0xc1c8_0000_0000_0000) (of_bits binary64 0x4069_0000_0000_0000)

abbrev corner : Point
corner = pt (of_bits binary64 0xc1d0_0000_0000_0000) (of_bits binary64 0)

pub far_side : (not (enters first last node.body) && enters (shifted corner first) (shifted corner last) (shifted_node corner node).body) ≡ true
unfolding passes_inside shifted shifted_node of_bits lt le eq sub add neg
far_side = refl
