-- The tables of a job that was read have room for their rows. These laws were said of a count and of rows beside it; no function's proof cites them now.
-- Assumes nothing.
use Prim.Native.Nat.{◌≤◌}
use mathlib.Core.List.{List}
use lib.ListN.{length}
use lib.Ieee.{Float}
use Rattle.limits.specs.Limits.{max_nodes, max_ports, max_edges, max_bundles, max_members}
use Rattle.job.specs.declared.Job as code
use Rattle.job_tables.specs.Came.{Came}

module _ (j : code.Job) (buffer : List Float) (from : Came j buffer) where
  pub nodes_in : length j.nodes.items ≤ max_nodes
  nodes_in = from.fits.nodes

  pub ports_in : length j.ports.items ≤ max_ports
  ports_in = from.fits.ports

  pub edges_in : length j.edges.items ≤ max_edges
  edges_in = from.fits.edges

  pub bundles_in : length j.bundles.items ≤ max_bundles
  bundles_in = from.fits.bundles

  pub members_in : length j.members.items ≤ max_members
  members_in = from.fits.members
