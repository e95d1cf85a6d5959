-- `binary64::total_key` meets its contract: each arm returns what `key_of` picks by the arm's test. Assumes nothing.
use mathlib.Core.Path.{◌≡◌, sym, ap, ◌∙◌}
use Prim.Native.Nat.{◌+◌, ◌-◌, ◌^◌}
use native.Mathlib.Omega.{arith}
use mathlib.Core.Bool.{Bool, true, false, not, cond, true≢false}
use borrow.Author.Tests.{le-leb, lt-leb}
use lib.Dec.{T}
use lib.Ieee.{Float, nan, inf, fin, binary64, fits, to_bits, is_nan, ne}
use lib.Ieee.Bits.{to_bits-lt}
use lib.Ieee.Compare.{differs_from_itself, nan_differs}
use denote.Floats.{passes}
use Rattle.binary64.specs.Order.{total_key, key_of}
use Rattle.binary64.proofs.total_key.Goals as goal

at-nan : (x : Float) → ne x x ≡ true → 0xfff8_0000_0000_0000 ≡ total_key x
unfolding total_key key_of to_bits
at-nan x e = rw (differs_from_itself x (rw e tt))

number : (x : Float) → ne x x ≡ false → T (not (is_nan x))
unfolding is_nan
number nan e = absurd (true≢false (sym nan_differs ∙ e))
number (inf s) e = tt
number (fin s m d) e = tt

pub returns-then-x : goal.returns-then-x
returns-then-x c = at-nan c.args.x c.if-x.true

pub float_to_bits-b : goal.float_to_bits-b
float_to_bits-b c = number c.args.x c.if-x.false

pub overflow_sub-result : goal.overflow_sub-result
overflow_sub-result c = omega (arith, to_bits-lt binary64 c.args.x (passes (fits binary64 c.args.x) c.well_formed.0.1))

pub returns-then-b-ge9223372036854775808 : goal.returns-then-b-ge9223372036854775808
unfolding total_key key_of
returns-then-b-ge9223372036854775808 c =
    let b = to_bits binary64 c.args.x in
    sym (ap (λ (t : Bool). cond t (2 ^ 64 - 1 - b) (b + 2 ^ 63)) (le-leb (2 ^ 63) b c.if-b-ge9223372036854775808.true))

pub returns : goal.returns
unfolding total_key key_of
returns c =
    let b = to_bits binary64 c.args.x in
    sym (ap (λ (t : Bool). cond t (2 ^ 64 - 1 - b) (b + 2 ^ 63)) (lt-leb (2 ^ 63) b c.if-b-ge9223372036854775808.false))
