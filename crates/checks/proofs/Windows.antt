-- A bundle's members and taps as the tables have them, and as slices of just these.
-- Assumes nothing.
use Rattle.std.specs.Prelude.{ℕ, zero, suc, ◌+◌, ◌-◌, ◌≤◌, ◌<◌, ◌≡◌, refl, List, length, get_or, take, drop}
use Rattle.std.proofs.Common.{arith, sym, drop-cons}
use Rattle.geometry.specs.declared.Point.{Point}
use Rattle.board.specs.declared.Member.{Member}
use Rattle.plan.specs.BoardTables.{no_member}
use Rattle.plan.specs.MemberColumns.{edges_of, lanes_of}
use Rattle.plan.proofs.MemberColumns.{edge_got, lane_got, edges_long}
use Rattle.checks.specs.CheckRows.{no_point, taps_from, Tabled}
use Rattle.checks.specs.MemberSlices.{members_from}
use Rattle.checks.specs.LentRows.{taps_of}

pub window_members : (ms : List Member) (n s : ℕ) → s + n ≤ length ms → members_from (edges_of ms) (lanes_of ms) s n ≡ take n (drop s ms)
unfolding members_from
window_members ms zero s h = refl
window_members ms (suc n) s h = rw (edge_got ms s, lane_got ms s, window_members ms n (suc s) (omega arith), drop-cons ms s no_member (omega arith))

pub window_taps : (ms : List Member) (t : List Point) (n s : ℕ) → s + n ≤ length ms → s + n ≤ length t → taps_from (edges_of ms) t s n ≡ taps_of (take n (drop s ms)) (take n (drop s t))
unfolding taps_from taps_of
window_taps ms t zero s h k = refl
window_taps ms t (suc n) s h k = rw (edge_got ms s, window_taps ms t n (suc s) (omega arith) (omega arith), drop-cons ms s no_member (omega arith), drop-cons t s no_point (omega arith))

-- taps at the same places
pub taps_same : (edges : List ℕ) (s t : List Point) (first n : ℕ) → ((k : ℕ) → k < n → get_or s (first + k) no_point ≡ get_or t (first + k) no_point) → taps_from edges s first n ≡ taps_from edges t first n
unfolding taps_from
taps_same edges s t first zero h = refl
taps_same edges s t first (suc n) h =
    let e : first + 0 ≡ first = omega arith in
    let a : get_or s first no_point ≡ get_or t first no_point = rw e at (h 0 (omega arith)) in
    rw (a, taps_same edges s t (suc first) n (λ k l. let u : suc first + k ≡ first + suc k = omega arith in rw u (h (suc k) (omega arith))))

-- the taps of a row's members, lent as two slices
pub taps_lent_are : (ms : List Member) (t : List Point) (first n : ℕ) → Tabled first n (edges_of ms) t → taps_of (take (first + n - first) (drop first ms)) (take (first + n - first) (drop first t)) ≡ taps_from (edges_of ms) t first n
taps_lent_are ms t first n h =
    let e : first + n - first ≡ n = omega arith in
    let k : first + n ≤ length ms = omega (arith, h.members, edges_long ms) in
    rw e (sym (window_taps ms t n first k h.places))

pub tabled_members : (ms : List Member) (t : List Point) (first n : ℕ) → Tabled first n (edges_of ms) t → first + n ≤ length ms
tabled_members ms t first n h = omega (arith, h.members, edges_long ms)
