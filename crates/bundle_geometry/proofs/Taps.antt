-- The taps of a bundle written one after the other, and what is read of them.
-- Assumes nothing.
use Rattle.std.specs.Prelude.{Some, None, Option, ℕ, suc, ◌+◌, ◌-◌, ◌≤◌, ◌<◌, ◌≡◌, refl, List, [], ◌∷◌, ◌++◌, map, Bool, true, false, ◌&&◌, length, get_or, slice_get, take, drop, set, Float}
use Rattle.std.specs.List.{list_all}
use Rattle.std.specs.Float.{binary64}
use Rattle.std.specs.Float.Ieee.{eq, div}
use Rattle.std.proofs.Common.{sym, ap, ◌∙◌, arith}
use Rattle.std.proofs.lemmas.List.{take_more, take_more_set, take_all}
use Rattle.std.proofs.lemmas.Option.{none-some, same_Some, slice_get-get_or}
use Rattle.std.proofs.Math.Seq.{length-take-le}
use mathlib.Core.List.{append_assoc, append-nil}
use Rattle.binary64.specs.Order.{least, greatest}
use Rattle.geometry.specs.declared.Point.{Point}
use Rattle.geometry.specs.declared.Role.{Role}
use Rattle.geometry.specs.Points.{Route}
use Rattle.board.specs.declared.Member.{Member}
use Rattle.plan.specs.Depths.{number, lane_count}
use Rattle.plan.proofs.TableReads.{rest_cons, rest_none}
use Rattle.drawing.specs.Build.{TapOn, route_at, trunk_met, tap_then, trunk_taps, lowest, highest, rail_tap, rail_taps, rail_low, rail_high, center, all_at}
use Rattle.checks.specs.LentRows.{bare_tap, taps_in, taps_of, tapped_in, rail_place}

-- ---- taps on a trunk

taps_end : (ms : List Member) (ps : List Point) (m : Member) (p : Point) → length ps ≡ length ms → taps_of (ms ++ (m ∷ [])) (ps ++ (p ∷ [])) ≡ taps_of ms ps ++ (record { edge = m.edge; place = p } ∷ [])
unfolding taps_of
taps_end [] [] m p e = refl
taps_end [] (q ∷ ps) m p e = absurd (omega arith)
taps_end (n ∷ ms) [] m p e = absurd (omega arith)
taps_end (n ∷ ms) (q ∷ ps) m p e = ap (λ (l : List TapOn). record { edge = n.edge; place = q } ∷ l) (taps_end ms ps m p (omega arith))

unfoldable pub prepend : List TapOn → Option (List TapOn) → Option (List TapOn)
prepend ts None = None
prepend ts (Some us) = Some (ts ++ us)

prepend_nil : (o : Option (List TapOn)) → prepend [] o ≡ o
unfolding prepend
prepend_nil None = refl
prepend_nil (Some us) = refl

prepend_then : (ts : List TapOn) (k i : ℕ) (p : Point) (o : Option (List TapOn)) → prepend ts (tap_then (Some (k, p)) i o) ≡ prepend (ts ++ (record { edge = i; place = p } ∷ [])) o
unfolding prepend tap_then
prepend_then ts k i p None = refl
prepend_then ts k i p (Some us) = ap (λ (l : List TapOn). Some l) (sym (append_assoc ts (record { edge = i; place = p } ∷ []) us))

module _ (role : Role) (pitch x : Float) (ms : List Member) (rs : List Route) where
  abbrev pub trunk_rest : ℕ → Option (List TapOn)
  trunk_rest i = trunk_taps role pitch x (drop i ms) rs

  abbrev pub trunk_at : List Point → ℕ → Option (List TapOn)
  trunk_at t i = prepend (taps_of (take i ms) (take i t)) (trunk_rest i)

  pub trunk_start : (t : List Point) → trunk_at t 0 ≡ trunk_taps role pitch x ms rs
  unfolding taps_of
  trunk_start t = prepend_nil (trunk_taps role pitch x ms rs)

  rest_next : (i : ℕ) (d : Member) → i < length ms → trunk_rest i ≡ tap_then (trunk_met role pitch x (route_at rs (get_or ms i d).edge)) (get_or ms i d).edge (trunk_rest (i + 1))
  unfolding trunk_taps
  rest_next i d h = rw (rest_cons ms i d h)

  pub trunk_off : (t : List Point) (i : ℕ) (d : Member) → i < length ms → trunk_met role pitch x (route_at rs (get_or ms i d).edge) ≡ None → tapped_in false ms t ≡ trunk_at t i
  unfolding tapped_in prepend tap_then
  trunk_off t i d h e = rw (rest_next i d h, e)

  pub trunk_on : (t : List Point) (i k : ℕ) (d : Member) (p : Point) → length t ≡ length ms → i < length ms → trunk_met role pitch x (route_at rs (get_or ms i d).edge) ≡ Some (k, p) → trunk_at (set t i p) (i + 1) ≡ trunk_at t i
  trunk_on t i k d p l h e =
      let a : take (i + 1) (set t i p) ≡ take i t ++ (p ∷ []) = take_more_set t i p (omega arith) in
      let b : take (i + 1) ms ≡ take i ms ++ (get_or ms i d ∷ []) = take_more ms i d h in
      let q : length (take i t) ≡ length (take i ms) = length-take-le i t (omega arith) ∙ sym (length-take-le i ms (omega arith)) in
      let w : taps_of (take (i + 1) ms) (take (i + 1) (set t i p)) ≡ taps_of (take i ms) (take i t) ++ (record { edge = (get_or ms i d).edge; place = p } ∷ []) = rw (a, b) (taps_end (take i ms) (take i t) (get_or ms i d) p q) in
      ap (λ (ts : List TapOn). prepend ts (trunk_rest (i + 1))) w
      ∙ sym (prepend_then (taps_of (take i ms) (take i t)) k (get_or ms i d).edge p (trunk_rest (i + 1)))
      ∙ sym (ap (λ (o : Option (List TapOn)). prepend (taps_of (take i ms) (take i t)) o) (rest_next i d h ∙ ap (λ (c : Option (ℕ × Point)). tap_then c (get_or ms i d).edge (trunk_rest (i + 1))) e))

  pub trunk_end : (t : List Point) (i : ℕ) → length t ≡ length ms → length ms ≤ i → tapped_in true ms t ≡ trunk_at t i
  unfolding tapped_in trunk_taps prepend
  trunk_end t i l h = rw (rest_none ms i h, take_all i ms h, take_all i t (omega arith), append-nil (taps_of ms t))

-- ---- what is read of taps does not depend on their edges

abbrev pub bare : TapOn → TapOn
bare t = bare_tap t.place

pub bare_of : (ms : List Member) (ps : List Point) → length ps ≡ length ms → taps_in ps ≡ map bare (taps_of ms ps)
unfolding taps_of
bare_of [] [] e = refl
bare_of [] (p ∷ ps) e = absurd (omega arith)
bare_of (m ∷ ms) [] e = absurd (omega arith)
bare_of (m ∷ ms) (p ∷ ps) e = ap (λ (l : List TapOn). bare_tap p ∷ l) (bare_of ms ps (omega arith))

pub lowest_any : (y : Float) (ts : List TapOn) → lowest y (map bare ts) ≡ lowest y ts
unfolding lowest
lowest_any y [] = refl
lowest_any y (t ∷ ts) = lowest_any (least y t.place.y) ts

pub highest_any : (y : Float) (ts : List TapOn) → highest y (map bare ts) ≡ highest y ts
unfolding highest
highest_any y [] = refl
highest_any y (t ∷ ts) = highest_any (greatest y t.place.y) ts

pub all_any : (x : Float) (ts : List TapOn) → all_at x (map bare ts) ≡ all_at x ts
unfolding all_at
all_any x [] = refl
all_any x (t ∷ ts) = ap (λ (b : Bool). eq t.place.x x && b) (all_any x ts)

pub rail_low_any : (y : Float) (ts : List TapOn) → rail_low (map bare ts) y ≡ rail_low ts y
unfolding rail_low
rail_low_any y [] = refl
rail_low_any y (t ∷ ts) = refl

pub rail_high_any : (y : Float) (ts : List TapOn) → rail_high (map bare ts) y ≡ rail_high ts y
unfolding rail_high
rail_high_any y [] = refl
rail_high_any y (t ∷ []) = refl
rail_high_any y (t ∷ u ∷ ts) = rail_high_any y (u ∷ ts)

-- ---- how far taps reach, point after point

module _ (ps : List Point) (i : ℕ) where
  abbrev pub taps_rest : List TapOn
  taps_rest = taps_in (drop i ps)

  abbrev pub taps_later : List TapOn
  taps_later = taps_in (drop (i + 1) ps)

  pub low_next : (y : Float) (d : Point) → i < length ps → lowest (least y (get_or ps i d).y) taps_later ≡ lowest y taps_rest
  unfolding lowest
  low_next y d h = rw (rest_cons ps i d h)

  pub high_next : (y : Float) (d : Point) → i < length ps → highest (greatest y (get_or ps i d).y) taps_later ≡ highest y taps_rest
  unfolding highest
  high_next y d h = rw (rest_cons ps i d h)

  pub low_end : (y : Float) → length ps ≤ i → lowest y taps_rest ≡ y
  unfolding lowest
  low_end y h = rw (rest_none ps i h)

  pub high_end : (y : Float) → length ps ≤ i → highest y taps_rest ≡ y
  unfolding highest
  high_end y h = rw (rest_none ps i h)

-- ---- every tap

pub all_taps : (x : Float) (ps : List Point) → list_all (λ p. eq p.x x) ps ≡ all_at x (taps_in ps)
unfolding all_at
all_taps x [] = refl
all_taps x (p ∷ ps) = ap (λ (b : Bool). eq p.x x && b) (all_taps x ps)

-- ---- the first and the last

pub rail_none : (ps : List Point) (y : Float) → None ≡ slice_get ps 0 → (y ≡ rail_low (taps_in ps) y) × (y ≡ rail_high (taps_in ps) y)
unfolding rail_low rail_high
rail_none [] y e = (refl, refl)
rail_none (p ∷ ps) y e = absurd (none-some p e)

pub rail_first : (ps : List Point) (a : Point) (y : Float) → Some a ≡ slice_get ps 0 → least a.y y ≡ rail_low (taps_in ps) y
unfolding rail_low
rail_first [] a y e = absurd (none-some a (sym e))
rail_first (p ∷ ps) a y e = ap (λ (q : Point). least q.y y) (same_Some _ _ e)

pub rail_last : (ps : List Point) (b : Point) (y : Float) → Some b ≡ slice_get ps (length ps - 1) → greatest b.y y ≡ rail_high (taps_in ps) y
unfolding rail_high
rail_last [] b y e = absurd (none-some b (sym e))
rail_last (p ∷ []) b y e = ap (λ (q : Point). greatest q.y y) (same_Some _ _ e)
rail_last (p ∷ q ∷ ps) b y e =
    let z : length (p ∷ q ∷ ps) - 1 ≡ suc (length (q ∷ ps) - 1) = omega arith in
    rail_last (q ∷ ps) b y (e ∙ ap (slice_get (p ∷ q ∷ ps)) z)

last_lane : (ms : List Member) (m : Member) → Some m ≡ slice_get ms (length ms - 1) → lane_count ms ≡ m.tap_lane + 1
unfolding lane_count
last_lane [] m e = absurd (none-some m (sym e))
last_lane (n ∷ []) m e = ap (λ (k : Member). k.tap_lane + 1) (sym (same_Some _ _ e))
last_lane (n ∷ k ∷ ms) m e =
    let z : length (n ∷ k ∷ ms) - 1 ≡ suc (length (k ∷ ms) - 1) = omega arith in
    last_lane (k ∷ ms) m (e ∙ ap (slice_get (n ∷ k ∷ ms)) z)

pub center_some : (ms : List Member) (m : Member) → Some m ≡ slice_get ms (length ms - 1) → div binary64 (number m.tap_lane) (number 2) ≡ center ms
unfolding center
center_some ms m e =
    let a : m.tap_lane + 1 - 1 ≡ m.tap_lane = omega arith in
    rw (last_lane ms m e, a)

pub center_none : (ms : List Member) → None ≡ slice_get ms (length ms - 1) → div binary64 (number 0) (number 2) ≡ center ms
unfolding center lane_count
center_none [] e = refl
center_none (m ∷ ms) e =
    let h : length (m ∷ ms) - 1 < length (m ∷ ms) = omega arith in
    absurd (none-some _ (e ∙ slice_get-get_or (m ∷ ms) (length (m ∷ ms) - 1) m h))

-- ---- taps on the rail

pub rail_listed : (end : Point) (middle pitch : Float) (ms : List Member) → taps_of ms (map (rail_place end middle pitch) ms) ≡ rail_taps end middle pitch ms
unfolding taps_of rail_taps rail_tap
rail_listed end middle pitch [] = refl
rail_listed end middle pitch (m ∷ ms) = ap (λ (l : List TapOn). rail_tap end middle pitch m ∷ l) (rail_listed end middle pitch ms)
