-- Every planned x has magnitude at most 2 ^ 30: it lies in a stretch of a member's run, so between two given coordinates; and there are as many planned x as bundles. Whatever was granted, and whether collectors of one role are separated or not.
-- Assumes nothing.
use Rattle.std.specs.Prelude.{◌≡◌, ℕ, ◌^◌, Bool, true, false, ◌&&◌, cond, List, pos, length, Float, Option, Some, None}
use Rattle.std.proofs.Math.Path.{refl, subst}
use Rattle.std.proofs.Common.{sym, mul-one, zero-mul, arith, true≢false}
use Rattle.std.proofs.Math.Dec.{T}
use Rattle.std.specs.Float.{fin}
use Rattle.std.specs.Float.Ieee.{binary64, add, sub, le, ne}
use Rattle.std.specs.Float.Ieee.Fits.{and_l, and_r}
use Rattle.std.specs.Float.Ieee.Positive.{den}
use Rattle.binary64.specs.Accepted.{two_to, zero64}
use Rattle.binary64.specs.Value.{over, under, num_parts, at_most→le, le_trans_finite}
use Rattle.binary64.specs.Range.{Within, within_mono, between_bounded, add_within, sub_within}
use Rattle.binary64.specs.Monotone.{add_mono, sub_mono}
use Rattle.geometry.specs.declared.Point.{Point}
use Rattle.geometry.specs.declared.Role.{Role}
use Rattle.geometry.specs.declared.Role.TheVariants.{Input, Output}
use Rattle.geometry.specs.Points.{Route}
use Rattle.geometry.specs.Stretch.{shortened, stretch, holds}
use Rattle.board.specs.Board.{Board}
use Rattle.search.specs.Search.{search_of}
use Rattle.sorting.specs.Lists.{Every}
use Rattle.plan.specs.Depths.{parting_pitch, corridor_of}
use Rattle.plan.specs.Plan.{Plan, going, plan_of}
use Rattle.plan.proofs.SmallNumbers.{Small, Numbers}
use Rattle.plan.proofs.Numbers.{pitch_small, rail_small}
use Rattle.plan.proofs.CarriedNumbers.{Windowed, OfBound, Traits}
use Rattle.plan.proofs.Carried.{carried}
use Rattle.plan.proofs.Placed.{any, all_points, found_held}
use Rattle.ranges.proofs.Corridors.{Signs, pitch_not_below}

abbrev top : Float
top = two_to 30

abbrev bottom : Float
bottom = fin true 1 (pos 30)

top_within : Within 30 top
top_within = record { is_finite = tt; size = omega arith }

bottom_within : Within 30 bottom
bottom_within = record { is_finite = tt; size = omega arith }

to_top : (x : Float) → Within 30 x → T (le x top)
to_top x h = at_most→le x top h.is_finite tt (let p = num_parts x in let s = h.size in omega (arith, zero-mul (den x), mul-one (over x), mul-one (under x)))

from_bottom : (x : Float) → Within 30 x → T (le bottom x)
from_bottom x h = at_most→le bottom x tt h.is_finite (let p = num_parts x in let s = h.size in omega (arith, zero-mul (den x), mul-one (over x), mul-one (under x)))

-- between a coordinate and one less a pitch, and between one and a pitch and a coordinate
less_pitch : (x y pitch z : Float) → Within 30 x → Within 30 y → Within 20 pitch → T (le zero64 pitch) → T (le x z) → T (le z (sub binary64 y pitch)) → Within 30 z
unfolding top_within
less_pitch x y pitch z s t w n l h =
    let d : Within 31 (sub binary64 y pitch) = sub_within 30 y pitch (omega arith) t (within_mono 20 30 pitch (omega arith) w) in
    let f = between_bounded (2 ^ 31) x (sub binary64 y pitch) z (within_mono 30 31 x (omega arith) s) d l h in
    let e : sub binary64 top zero64 ≡ top = unfold sub add in refl in
    let m : T (le (sub binary64 y pitch) top) = subst (λ (k : Float). T (le (sub binary64 y pitch) k)) e (sub_mono y top pitch zero64 t.is_finite tt w.is_finite tt (to_top y t) n) in
    between_bounded (2 ^ 30) x top z s top_within l (le_trans_finite z (sub binary64 y pitch) top f.is_finite d.is_finite tt h m)

plus_pitch : (x y pitch z : Float) → Within 30 x → Within 30 y → Within 20 pitch → T (le zero64 pitch) → T (le (add binary64 x pitch) z) → T (le z y) → Within 30 z
unfolding bottom_within
plus_pitch x y pitch z s t w n l h =
    let d : Within 31 (add binary64 x pitch) = add_within 30 x pitch (omega arith) s (within_mono 20 30 pitch (omega arith) w) in
    let f = between_bounded (2 ^ 31) (add binary64 x pitch) y z d (within_mono 30 31 y (omega arith) t) l h in
    let e : add binary64 bottom zero64 ≡ bottom = unfold add in refl in
    let m : T (le bottom (add binary64 x pitch)) = subst (λ (k : Float). T (le k (add binary64 x pitch))) e (add_mono bottom x zero64 pitch tt s.is_finite tt w.is_finite (from_bottom x s) n) in
    between_bounded (2 ^ 30) bottom y z bottom_within t (le_trans_finite bottom (add binary64 x pitch) z tt d.is_finite f.is_finite m l) h

module _ (b : Board) (routes : List Route) (good : Numbers b routes) (signs : Signs b) where
  abbrev pitch : Float
  pitch = parting_pitch b

  shortened_within : (role : Role) (x y z : Float) → Within 30 x → Within 30 y → holds z (shortened role pitch x y) ≡ true → Within 30 z
  shortened_within Input x y z s t = go (le x (sub binary64 y pitch))
    where
      go : (k : Bool) → holds z (cond k (Some (x, sub binary64 y pitch)) None) ≡ true → Within 30 z
      go true e =
          let a : T (le x z && le z (sub binary64 y pitch)) = subst T (sym e) tt in
          less_pitch x y pitch z s t (pitch_small b routes good).0 (pitch_not_below b routes good signs) (and_l (le x z) (le z (sub binary64 y pitch)) a) (and_r (le x z) (le z (sub binary64 y pitch)) a)
      go false e = absurd (true≢false (sym e))
  shortened_within Output x y z s t = go (le (add binary64 x pitch) y)
    where
      go : (k : Bool) → holds z (cond k (Some (add binary64 x pitch, y)) None) ≡ true → Within 30 z
      go true e =
          let a : T (le (add binary64 x pitch) z && le z y) = subst T (sym e) tt in
          plus_pitch x y pitch z s t (pitch_small b routes good).0 (pitch_not_below b routes good signs) (and_l (le (add binary64 x pitch) z) (le z y) a) (and_r (le (add binary64 x pitch) z) (le z y) a)
      go false e = absurd (true≢false (sym e))

  stretch_within : (role : Role) (p q : Point) (z : Float) → Within 30 p.x → Within 30 q.x → holds z (stretch role pitch p q) ≡ true → Within 30 z
  stretch_within role p q z s t = go (ne p.y q.y) (le q.x p.x) (shortened role pitch p.x q.x) (shortened_within role p.x q.x z s t)
    where
      go : (c d : Bool) (k : Option (Float × Float)) → (holds z k ≡ true → Within 30 z) → holds z (cond c None (cond d None k)) ≡ true → Within 30 z
      go true d k f e = absurd (true≢false (sym e))
      go false true k f e = absurd (true≢false (sym e))
      go false false k f e = f e

  -- nothing is asked of the bounds
  abbrev traits : Traits search_of b routes
  traits =
      record {
        P = Within 30;
        Q = λ x. Unit {0};
        weaker = λ x s. tt;
        plus = λ x d f s. tt;
        minus = λ x d f s. tt;
        none = tt;
        end = λ u. tt;
        points = all_points routes;
        corridor = λ role e. any (corridor_of b role e);
        pitch_fits = (pitch_small b routes good).1;
        rail_fits = (rail_small b routes good).1;
        reserve_fits = good.reserve.1;
        found = λ u r v w h s. found_held b routes (Small 30) good.points (Within 30) u (λ x p q k l. stretch_within u.role p q x k.0 l.0) r v w h;
      }

  -- THE RANGE AND THE SIZE of a plan
  pub planned_within : (separate : Bool) (v : ℕ) → Every (Windowed b) b.bundles → (p : Plan) → plan_of b routes separate v ≡ going p → Every (OfBound (Within 30)) p.xs × (length p.xs ≡ length b.bundles)
  planned_within separate v w p e = carried search_of b routes traits separate v w p e
