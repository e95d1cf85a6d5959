-- The limits of a job, from document 01's section "The job", and the sizes of lists and buffers that follow from them. Each has the name of its const in src. Definitions only.
-- Assumes nothing.
use Rattle.std.specs.Prelude.{ℕ, ◌+◌, ◌*◌}

-- ---- "Limits: 128 nodes, 256 ports, 256 edges, 64 points a route, 2,048 points in all, 32 bundles, 64 members each, 256 members in all, lane 255, grants 2,000,000 and 20,000,000."

abbrev pub max_nodes : ℕ
max_nodes = 128

abbrev pub max_ports : ℕ
max_ports = 256

abbrev pub max_edges : ℕ
max_edges = 256

abbrev pub max_route_points : ℕ
max_route_points = 64

abbrev pub max_points : ℕ
max_points = 2048

abbrev pub max_bundles : ℕ
max_bundles = 32

abbrev pub max_bundle_members : ℕ
max_bundle_members = 64

abbrev pub max_members : ℕ
max_members = 256

abbrev pub max_lane : ℕ
max_lane = 255

abbrev pub max_tap_visits : ℕ
max_tap_visits = 2000000

abbrev pub max_geometry_visits : ℕ
max_geometry_visits = 20000000

-- ---- buffers

-- "The program sheet reads a job on standard input, at most 65,536 bytes of it"; a place in a job is below it
abbrev pub job_room : ℕ
job_room = 65536

-- "2, answer buffer under 65,536 bytes"
abbrev pub answer_room : ℕ
answer_room = 65536

-- F-5, "number 2": the plan's buffer has room for the largest plan: length, version, visits left, and for each bundle a mark and a number
abbrev pub plan_room : ℕ
plan_room = 4 + 1 + 4 + 9 * max_bundles

-- ---- tables

-- the keys of a table: as many as the longest has rows
abbrev pub key_room : ℕ
key_room = max_edges

-- the coordinates of all given points
abbrev pub point_numbers : ℕ
point_numbers = 2 * max_points

-- the coordinates of all taps
abbrev pub tap_numbers : ℕ
tap_numbers = 2 * max_members

-- ---- present routes

-- "A rewritten route has at most two points more per rewriting", and an edge stands once in one role's bundles
abbrev pub slot_points : ℕ
slot_points = max_route_points + 2 * 2

-- the coordinates of a slot
abbrev pub slot_numbers : ℕ
slot_numbers = 2 * slot_points

-- the coordinates of the slots of all routes
abbrev pub all_slot_numbers : ℕ
all_slot_numbers = slot_numbers * max_edges

-- up to so many routes have slots of their own, since clearing those of all would take most of a small job's time; their slots have room for what the plan's search works in
abbrev pub few_routes : ℕ
few_routes = 91

abbrev pub few_slot_numbers : ℕ
few_slot_numbers = slot_numbers * few_routes

-- the points of all routes drawn: two more for each member
abbrev pub max_drawn_points : ℕ
max_drawn_points = max_points + 2 * max_members

-- ---- the search

-- the runs of a bundle's members, one for each point at most
abbrev pub bundle_runs : ℕ
bundle_runs = max_bundle_members * max_route_points

-- the plan's list of candidates: one for each run, and the desired x
abbrev pub candidate_room : ℕ
candidate_room = bundle_runs + 1

-- the coordinates of a route, and of the routes of a bundle's members, each in a row of its own
abbrev pub route_numbers : ℕ
route_numbers = 2 * max_route_points

abbrev pub member_numbers : ℕ
member_numbers = max_bundle_members * route_numbers

-- what the plan's search works in: two numbers kept for each run, and room to sort its candidates
abbrev pub search_work : ℕ
search_work = 2 * bundle_runs + candidate_room

-- the longest list of a search that is called by itself: 2,048 points in routes of at most 64 have at most 2,016 runs, each with one candidate, and there is the desired x
abbrev pub largest_list : ℕ
largest_list = 2017

-- the scratch of such a search, and of both searches of a promotion
abbrev pub search_scratch : ℕ
search_scratch = max_points

abbrev pub promotion_scratch : ℕ
promotion_scratch = 2 * search_scratch

-- what both work in: two numbers kept for each run, and room to sort the longest list
abbrev pub entry_work : ℕ
entry_work = 2 * largest_list + promotion_scratch

-- promotion_collector_candidates "keeps at most 32": MAX_INTERIOR_PROMOTION_CANDIDATES
abbrev pub most_kept : ℕ
most_kept = 32

-- ---- bytes, field by field as sections "The job" and "The answer" list them

-- the head up to the counts; nodes, ports, edges, points, bundles, members
abbrev pub largest_job : ℕ
largest_job = 62 + 36 * max_nodes + 17 * max_ports + 22 * max_edges + 16 * max_points + 19 * max_bundles + 6 * max_members

-- the head up to the counts; nodes, routes, points, bundles, taps
abbrev pub largest_answer : ℕ
largest_answer = 36 + 20 * max_nodes + 6 * max_edges + 16 * max_drawn_points + 71 * max_bundles + 20 * max_members

-- an answer for tables of any content: every slot full, and all taps at every bundle
abbrev pub any_answer_room : ℕ
any_answer_room = 36 + 20 * max_nodes + 6 * max_edges + 16 * (slot_points * max_edges) + 71 * max_bundles + 20 * (max_members * max_bundles)

-- ---- the bundle page, from document 02's F-4

-- "id right-aligned in 10 columns"
abbrev pub id_columns : ℕ
id_columns = 10

-- "Each line has 76 bytes": the id; a space, I or R, a space; three numbers in 20 columns with a space or the newline behind each
abbrev pub line_bytes : ℕ
line_bytes = id_columns + 66

-- a line for each bundle
abbrev pub page_room : ℕ
page_room = max_bundles * line_bytes

-- ---- the list of crossings

-- F-7: "19 when .. there are more than 1,024 crossings"
abbrev pub max_crossings : ℕ
max_crossings = 1024

-- the coordinates of that many places; the ids of that many entries
abbrev pub crossing_numbers : ℕ
crossing_numbers = 2 * max_crossings

-- an entry of the list: a point and two ids
abbrev pub crossing_bytes : ℕ
crossing_bytes = 16 + 4 + 4

-- the largest list: a count, and the entries
abbrev pub crossings_room : ℕ
crossings_room = 2 + crossing_bytes * max_crossings
