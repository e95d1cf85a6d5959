-- The members as columns of numbers: what the lent rows hold as lists of edges and of lanes. No function's proof cites the definitions here.
-- Assumes nothing.
use Rattle.std.specs.Prelude.{◌≡◌, List, ℕ, ◌≤◌, ◌<◌, length, get_or}
use Rattle.limits.specs.Limits.{max_members}
use Rattle.board.specs.declared.Edge.{Edge}
use Rattle.board.specs.declared.Member.{Member}
use Rattle.plan.specs.Prepared.{Rowed}
use Rattle.plan.specs.Lent.{board_with}
use Rattle.plan.specs.declared.tables.BoardTables.{BoardTables}
use Rattle.plan.specs.MemberColumns.{edges_of, lanes_of}
use Rattle.plan.proofs.MemberColumns.{edge_got, lane_got}
use Rattle.planner.specs.Members.{member_at, edge_row, WindowsOf}

-- the edges and the lanes are the members'
pub record MembersIn (members : List Member) (edges lanes : List ℕ) : Type 0 where
  pub edge_is : (i : ℕ) → i < length members → get_or edges i 0 ≡ (member_at members i).edge
  pub lane_is : (i : ℕ) → i < length members → get_or lanes i 0 ≡ (member_at members i).tap_lane

-- starts, counts, edges and lanes are those of the members and their given routes, and no route stands behind them
pub record RowsOf (table : List Edge) (members : List Member) (starts counts edges lanes : List ℕ) : Type 0 where
  pub starts_long : length starts ≡ max_members
  pub counts_long : length counts ≡ max_members
  pub edges_long : length edges ≡ max_members
  pub lanes_long : length lanes ≡ max_members
  pub start_is : (i : ℕ) → i < length members → get_or starts i 0 ≡ (edge_row table members i).first
  pub count_is : (i : ℕ) → i < length members → get_or counts i 0 ≡ (edge_row table members i).count
  pub told : MembersIn members edges lanes
  pub no_start : (i : ℕ) → length members ≤ i → get_or starts i 0 ≡ 0
  pub no_count : (i : ℕ) → length members ≤ i → get_or counts i 0 ≡ 0

-- the columns of the lent rows are the members'
pub members_in : (members : List Member) → MembersIn members (edges_of members) (lanes_of members)
members_in members = record { edge_is = λ i h. edge_got members i; lane_is = λ i h. lane_got members i }

pub rowed : (t : BoardTables) (edges lanes : List ℕ) → MembersIn t.members.now edges lanes → (table : List Edge) → Rowed (board_with t table) edges lanes
rowed t edges lanes m table = record { few = t.sound.members_few; edge_is = m.edge_is; lane_is = m.lane_is }

-- windows and columns together, and each of them alone
pub rows_of : (table : List Edge) (members : List Member) (starts counts edges lanes : List ℕ) → length edges ≡ max_members → length lanes ≡ max_members → WindowsOf table members starts counts
    → MembersIn members edges lanes → RowsOf table members starts counts edges lanes
rows_of table members starts counts edges lanes he hl w m = record {
  starts_long = w.starts_long;
  counts_long = w.counts_long;
  edges_long = he;
  lanes_long = hl;
  start_is = w.start_is;
  count_is = w.count_is;
  told = m;
  no_start = w.no_start;
  no_count = w.no_count;
}

pub windows_of : (table : List Edge) (members : List Member) (starts counts edges lanes : List ℕ) → RowsOf table members starts counts edges lanes → WindowsOf table members starts counts
windows_of table members starts counts edges lanes w = record {
  starts_long = w.starts_long;
  counts_long = w.counts_long;
  start_is = w.start_is;
  count_is = w.count_is;
  no_start = w.no_start;
  no_count = w.no_count;
}
