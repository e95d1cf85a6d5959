-- The numbers of a route read in pairs, and the routes' starts with their counts.
-- Assumes nothing.
use Rattle.std.specs.Prelude.{◌≡◌, refl, ℕ, zero, suc, ◌+◌, ◌*◌, ◌<◌, Bool, ◌&&◌, leb, List, [], ◌∷◌, length, drop, get_or, Float}
use Rattle.std.proofs.Common.{sym, ◌∙◌, ap, arith}
use Rattle.std.specs.List.{list_all, zip, range_with_len}
use Rattle.std.specs.Float.{nan}
use Rattle.binary64.specs.Accepted.{is_coordinate}
use Rattle.geometry.specs.declared.Point.{Point}
use Rattle.geometry.specs.Points.{point_at, points_from}
use Rattle.search_calls.specs.Entry.{places_fit, points_fit, routes_fit}
use Rattle.search.specs.Stretches.{routes}
use Rattle.search_calls.proofs.RefusalSteps.{routes_next, routes_end}

-- two numbers that are accepted as coordinates
abbrev pub is_pair : List Float → Bool
is_pair q = is_coordinate (get_or q 0 nan) && is_coordinate (get_or q 1 nan)

-- the points of s from point i on, as pairs
pub pairs_fit : (pairs : List (List Float)) (s : List Float) (i n : ℕ) → length pairs ≡ n → ((j : ℕ) → j < n → point_at (get_or pairs j []) 0 ≡ point_at s (i + j)) → list_all is_pair pairs ≡ points_fit (points_from s i n)
unfolding points_fit points_from point_at
pairs_fit [] s i zero e h = refl
pairs_fit [] s i (suc n) e h = absurd (omega arith)
pairs_fit (q ∷ qs) s i zero e h = absurd (omega arith)
pairs_fit (q ∷ qs) s i (suc n) e h =
    let z : i + 0 ≡ i = omega arith in
    let p : point_at q 0 ≡ point_at s i = h 0 (omega arith) ∙ ap (point_at s) z in
    let x : get_or q 0 nan ≡ get_or s (2 * i) nan = ap (λ (r : Point). r.x) p in
    let y : get_or q 1 nan ≡ get_or s (2 * i + 1) nan = ap (λ (r : Point). r.y) p in
    let rest = pairs_fit qs s (suc i) n (omega arith) (λ j l. let f : i + suc j ≡ suc i + j = omega arith in h (suc j) (omega arith) ∙ ap (point_at s) f) in
    rw (x, y, rest)

pub all_places : (points : List Float) (starts counts : List ℕ) → length starts ≡ length counts → list_all (λ (p : ℕ × ℕ). leb (2 * (p.0 + p.1)) (length points)) (zip starts counts) ≡ places_fit points starts counts
unfolding places_fit
all_places points [] [] e = refl
all_places points [] (c ∷ cs) e = absurd (omega arith)
all_places points (s ∷ ss) [] e = absurd (omega arith)
all_places points (s ∷ ss) (c ∷ cs) e = ap (λ (b : Bool). leb (2 * (s + c)) (length points) && b) (all_places points ss cs (omega arith))

-- ---- route after route

module _ (points : List Float) (starts counts : List ℕ) (paired : length starts ≡ length counts) where
  abbrev pub route_fits : ℕ → Bool
  route_fits m = points_fit (points_from points (get_or starts m 0) (get_or counts m 0))

  routes_from : (k m : ℕ) → m + k ≡ length starts → list_all route_fits (range_with_len m k) ≡ routes_fit (routes points (drop m starts) (drop m counts))
  routes_from zero m e = sym (routes_end points starts counts paired m (omega arith))
  routes_from (suc k) m e = ap (λ (b : Bool). route_fits m && b) (routes_from k (m + 1) (omega arith)) ∙ sym (routes_next points starts counts paired m (omega arith))

  pub all_routes : list_all route_fits (range_with_len 0 (length starts)) ≡ routes_fit (routes points starts counts)
  all_routes = routes_from (length starts) 0 (omega arith)
