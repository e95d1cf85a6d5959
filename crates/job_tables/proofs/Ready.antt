-- What the reader leaves in its tables is what the plan asks for.
-- Assumes nothing.
use Rattle.std.specs.Prelude.{ℕ, ◌+◌, ◌-◌, ◌≤◌, ◌<◌, ◌≡◌, refl, Ok, List, [], ◌∷◌, map, length, get_or, take, Float}
use Rattle.std.proofs.Math.Path.{sym}
use Rattle.std.proofs.Common.{ap, ◌∙◌, subst, arith, get_or-take, length-take-le}
use Rattle.limits.specs.Limits.{point_numbers}
use Rattle.geometry.specs.Points.{Route, points_from}
use Rattle.route.specs.Window.{points_length, points_drop, points_take}
use Rattle.board.specs.declared.Edge.{Edge}
use Rattle.board.specs.Board as board
use Rattle.wire.proofs.All.{All, all_at}
use Rattle.job.specs.declared.Job as code
use Rattle.job.specs.Job.{read_job, given_routes}
use Rattle.job.specs.Job as job
use Rattle.job.specs.AllTables.{JobTold}
use Rattle.job.proofs.GoodRecords.{GoodPort, GoodEdge, GoodBundle, GoodMember}
use Rattle.job.proofs.Sound.{accepted_sound}
use Rattle.job.proofs.Sound as sound
use Rattle.plan.specs.declared.tables.BoardTables.{BoardTables}
use Rattle.plan.specs.Depths.{no_port}
use Rattle.plan.specs.BoardTables.{Sound, RoutesIn, given_route, no_bundle, no_member, no_edge}
use Rattle.plan.specs.BoardTables as tables
use Rattle.plan.specs.Lent.{board_lent}
use Rattle.job_tables.specs.Came.{job_in, Came}

-- a row of a table with a count
row_at : {A : Type 0} (P : A → Type 0) (rows : List A) (n : ℕ) (d : A) → n ≤ length rows → All P (take n rows) → (i : ℕ) → i < n → P (get_or rows i d)
row_at P rows n d k h i l = subst P (get_or-take n rows i d l) (all_at P (take n rows) i d h (omega (arith, length-take-le n rows k, l)))

-- a window of the points is the points of a window
window_points : (buffer : List Float) (total first count : ℕ) → first + count ≤ total → points_from buffer first count ≡ board.window first count (points_from buffer 0 total)
window_points buffer total first count h =
    let z : 0 + first ≡ first = omega arith in
    sym (ap (take count) (points_drop buffer 0 total first) ∙ ap (λ (a : ℕ). take count (points_from buffer a (total - first))) z ∙ points_take buffer first (total - first) count (omega arith))

same_routes : (nodes total : ℕ) (buffer : List Float) (es : List Edge) → All (GoodEdge nodes total) es → map (given_route buffer) es ≡ map (board.route_of (points_from buffer 0 total)) es
unfolding All
same_routes nodes total buffer [] h = refl
same_routes nodes total buffer (e ∷ es) h =
    ap (λ (r : Route). r ∷ map (given_route buffer) es) (window_points buffer total e.first e.count h.0.window)
    ∙ ap (λ (rs : List Route). board.route_of (points_from buffer 0 total) e ∷ rs) (same_routes nodes total buffer es h.1)

module _ (j : code.Job) (buffer : List Float) (bytes : List ℕ) (t : JobTold (Ok j) buffer (read_job bytes)) where
  pub read_accepted : read_job bytes ≡ job.accepted (job_in j buffer)
  read_accepted = sym t.is

  pub came : length buffer ≡ point_numbers → Came j buffer
  came long = record { bytes = bytes; is = read_accepted; fits = t.fits; long = long }

module _ (j : code.Job) (buffer : List Float) (from : Came j buffer) where
  pub good : sound.Sound (job_in j buffer)
  good = (accepted_sound from.bytes (job_in j buffer) from.is).0

  pub tables_sound : Sound j.nodes.items j.ports.items j.bundles.items j.members.items
  tables_sound =
      let fits = from.fits in
      record {
        nodes_few = omega (arith, fits.nodes);
        ports_few = omega (arith, fits.ports);
        bundles_few = omega (arith, fits.bundles);
        members_few = omega (arith, fits.members);
        ports_on = λ i h. (all_at (GoodPort _ _) j.ports.items i no_port good.ports h).node;
        bundles_on = λ i h.
            let g = all_at (GoodBundle _ _) j.bundles.items i no_bundle good.bundles h in
            record { port_in = g.port; members_in = g.window; members_few = g.count };
        edges_low = λ i h. omega (arith, (all_at (GoodMember _) j.members.items i no_member good.members h).edge, fits.edges);
        lanes_few = λ i h. (all_at (GoodMember _) j.members.items i no_member good.members h).lane;
      }

  pub routes_in : RoutesIn buffer j.edges.items j.members.items
  routes_in = record {
    edges_few = from.fits.edges;
    members_on = λ i h. (all_at (GoodMember _) j.members.items i no_member good.members h).edge;
    routes_short = λ i h. (all_at (GoodEdge _ _) j.edges.items i no_edge good.edges h).count;
    routes_in = λ i h. omega (arith, (all_at (GoodEdge _ _) j.edges.items i no_edge good.edges h).window, points_length buffer 0 j.points, from.fits.points, from.long);
  }

  -- the routes in the slice are the job's
  pub given_same : tables.given_routes buffer j.edges.items ≡ given_routes (job_in j buffer)
  given_same =
      same_routes (length j.nodes.items) j.points buffer j.edges.items
      (subst (λ (n : ℕ). All (GoodEdge (length j.nodes.items) n) j.edges.items) (points_length buffer 0 j.points) good.edges)

  -- the same of the tables as they are lent
  module _ (t : BoardTables) (lent : board_lent t ≡ (job_in j buffer).board) where
    pub bundles_lent : length t.bundles.now ≡ length j.bundles.items
    bundles_lent = ap (λ (b : board.Board). length b.bundles) lent

    pub members_lent : length t.members.now ≡ length j.members.items
    members_lent = ap (λ (b : board.Board). length b.members) lent

    pub edges_lent : length t.edges.now ≡ length j.edges.items
    edges_lent = ap (λ (b : board.Board). length b.edges) lent

    pub routes_lent : RoutesIn buffer t.edges.now t.members.now
    routes_lent = subst (λ (b : board.Board). RoutesIn buffer b.edges b.members) (sym lent) routes_in

    pub given_lent : tables.given_routes buffer t.edges.now ≡ given_routes (job_in j buffer)
    given_lent = ap (λ (b : board.Board). tables.given_routes buffer b.edges) lent ∙ given_same
