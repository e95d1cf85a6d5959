-- What the reader leaves in its tables is what the drawing asks for.
-- Assumes nothing.
use Prim.Native.Nat.{ℕ, ◌+◌}
use mathlib.Core.Path.{◌≡◌, sym, ap, subst}
use mathlib.Core.Bool.{Bool}
use mathlib.Core.List.{List, [], ◌∷◌, map}
use native.Mathlib.Omega.{arith}
use lib.ListN.{length, get_or, drop}
use lib.Ieee.{Float}
use Rattle.geometry.specs.declared.Point.{Point}
use Rattle.board.specs.declared.Bundle.{Bundle}
use Rattle.board.specs.Board.{Board}
use Rattle.wire.proofs.All.{All}
use Rattle.job.specs.declared.Job as code
use Rattle.job.proofs.GoodRecords.{GoodBundle}
use Rattle.job.proofs.GoodTables.{starts}
use Rattle.plan.specs.declared.tables.BoardTables.{BoardTables}
use Rattle.plan.specs.Lent.{board_lent}
use Rattle.turns.specs.TurnTables.{Follow, Once, Room}
use Rattle.draw_job.specs.Lengths.{once}
use Rattle.draw_job.specs.JobTables.{Lent}
use Rattle.job_tables.proofs.Ready.{good, members_lent, edges_lent}
use Rattle.job_tables.specs.Came.{job_in, Came}

-- windows that start one behind the other
follow_from : (ports all n : ℕ) (us : List Bundle) → map (λ (u : Bundle). u.first) us ≡ starts n (map (λ (u : Bundle). u.count) us) → All (GoodBundle ports all) us → Follow n all us
unfolding Follow starts All
follow_from ports all n [] e h = tt
follow_from ports all n (u ∷ us) e h =
    let p : u.first ≡ n = ap (λ (l : List ℕ). get_or l 0 0) e in
    let q : map (λ (v : Bundle). v.first) us ≡ starts (n + u.count) (map (λ (v : Bundle). v.count) us) = ap (λ (l : List ℕ). drop 1 l) e in
    (omega (arith, p), h.0.window, follow_from ports all (u.first + u.count) us (rw p q) h.1)

-- the members follow one another, and no edge stands twice in a role: as the tables are lent
module _ (j : code.Job) (buffer : List Float) (came : Came j buffer) (t : BoardTables) (lent : board_lent t ≡ (job_in j buffer).board) where
  pub follow : Follow 0 (length t.members.now) t.bundles.now
  follow = subst (λ (b : Board). Follow 0 (length b.members) b.bundles) (sym lent) (follow_from _ _ 0 _ (good j buffer came).member_starts (good j buffer came).bundles)

  pub once_a_role : Once t.members.now t.bundles.now
  once_a_role = subst (λ (b : Board). Once b.members b.bundles) (sym lent) (once (job_in j buffer) (good j buffer came))

  -- the slices are as long as the tables, and have room
  module _ (taps : List Point) (points : List Float) (counts : List ℕ) (mask : List Bool) (scratch : List Float) (work : Lent j taps points counts mask scratch) where
    pub exact : length counts ≡ length t.edges.now
    exact = omega (arith, work.counts_long, edges_lent j buffer came t lent)

    pub room : Room (length t.members.now) taps points counts mask
    room = subst (λ (n : ℕ). Room n taps points counts mask) (sym (members_lent j buffer came t lent)) work.room
