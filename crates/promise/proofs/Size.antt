-- What holds of the bytes that the stage writes, whatever the job's bytes are: how many there are, which number they carry, and what is left of the buffer.
-- Assumes nothing.
use Rattle.std.specs.Prelude.{ℕ, ◌+◌, ◌%◌, ◌≤◌, ◌<◌, ◌≡◌, refl, Bool, true, false, cond, List, [], ◌∷◌, ◌++◌, eqb, ltb, length, get_or, take, drop}
use Rattle.std.proofs.Common.{sym, ap, ◌∙◌, subst, inl, inr, arith, take_at, drop_at, eqb-true, ltb-true, ltb-false, lt-ltb, le-ltb}
use Rattle.std.proofs.lemmas.List.{length-map}
use Rattle.std.proofs.lemmas.List.Edits.{sets, sets-eq}
use Rattle.std.proofs.Math.Seq.{length-sets}
use Rattle.std.proofs.lemmas.Bool.{eqb-false}
use Rattle.limits.specs.Limits.{answer_room, largest_answer}
use Rattle.geometry.specs.Points.{Route}
use Rattle.board.specs.Board.{Board}
use Rattle.board.specs.declared.Edge.{Edge}
use Rattle.board.specs.declared.Bundle.{Bundle}
use Rattle.wire.specs.Bytes as wire
use Rattle.job.specs.Job.{Job, given_routes, read_job}
use Rattle.job.specs.Job as job
use Rattle.job.proofs.GoodTables.{sum}
use Rattle.job.proofs.Sound.{accepted_sound}
use Rattle.plan.specs.Plan.{Plan, Step}
use Rattle.plan.specs.Plan as plan
use Rattle.drawing.specs.Build.{Drawn}
use Rattle.drawing.specs.Normal.{page_of}
use Rattle.drawing.specs.Sheet.{Turn, Progress, blank}
use Rattle.drawing.specs.Sheet as drawing
use Rattle.search.specs.Search.{search_of}
use Rattle.ranges.proofs.Looks.{is_spent, spent_at, spent_short, short_spent}
use Rattle.ranges.specs.Clamp.{clamp_due}
use Rattle.ranges.proofs.Thirteen.{is_refused, refused_exactly, refused_at}
use Rattle.answer.specs.Answer.{Sheet, spot_of, lines_of, head_bytes, body_bytes, answer_bytes, notice_bytes}
use Rattle.answer.proofs.Stores.{total_points, total_taps, answer_length, answer_at_most, notice_length}
use Rattle.promise.proofs.Counted.{points_in, taps_in, counts, moved_counts}
use Rattle.promise.proofs.Refusals.{FromTo, ReaderNumber, reader_numbers, due_read, read_due}
use Rattle.promise.specs.Order.{turns_of}
use Rattle.promise.specs.Due.{Stops, ten, eleven, twelve, Due, two, in_reading, thirteen, fourteen, in_sheet}
use Rattle.promise.proofs.SheetRefusals.{stops_sheet, sheet_stops}
use Rattle.promise.specs.Stage.{Comes, normalized, tap_told, bundles_told, page_told, Finished, answer_of, Told, refused, drawn, planned, sheet_drawn, after_sheet, after_plan, after_reading, told, told_bytes, written, stage_of}

-- ---- what a job comes to

-- how a job comes to what is finished
pub record ComesTo (bytes : List ℕ) (f : Finished) : Type 0 where
  pub is_read : read_job bytes ≡ job.accepted f.said
  pub is_planned : planned f.said ≡ plan.going f.plan_used
  pub is_drawn : sheet_drawn f.said f.plan_used ≡ drawing.going f.sheet_made

abbrev pub comes_of : (bytes : List ℕ) (f : Finished) → ComesTo bytes f → Comes bytes (answer_of f)
comes_of bytes f c = record { said = f.said; is_read = c.is_read; plan_made = f.plan_used; is_planned = c.is_planned; sheet_made = f.sheet_made; is_drawn = c.is_drawn; is_answer = refl }

-- what was told, taken apart
pub data Cause (bytes : List ℕ) : Told → Type 0 where
  a_refusal : (n : ℕ) → FromTo 1 15 n → ((room : ℕ) → answer_room ≤ room → Due bytes room n) → Cause bytes (refused n)
  a_sheet : (f : Finished) → ComesTo bytes f → Cause bytes (drawn f)

stops_number : (b : Board) (allow : Bool) (t : Turn) (s : Progress) (n : ℕ) → Stops b allow t s n → FromTo 1 15 n
stops_number b allow t s n (ten e) = (omega arith, omega arith)
stops_number b allow t s n (eleven rs e m f v g) = (omega arith, omega arith)
stops_number b allow t s n (twelve rs e v f) = (omega arith, omega arith)

sheet_cause : (bytes : List ℕ) (j : Job) → read_job bytes ≡ job.accepted j → (p : Plan) → planned j ≡ plan.going p → (o : drawing.Outcome) → sheet_drawn j p ≡ o → Cause bytes (after_sheet j p o)
unfolding after_sheet
sheet_cause bytes j r p q (drawing.refused n v) e = go (eqb n 14) refl
  where
    go : (t : Bool) → eqb n 14 ≡ t → Cause bytes (refused n)
    go true h =
        let s = spent_short j.board j.flags.permits_crossings (turns_of j.board p.xs) (given_routes j) j.grants.geometry_visits (ap is_spent e ∙ h) in
        subst (λ (k : ℕ). Cause bytes (refused k)) (sym (eqb-true n 14 h)) (a_refusal 14 (omega arith, omega arith) (λ room l. fourteen l j r p q s))
    go false h =
        let k = sheet_stops j.board j.flags.permits_crossings (turns_of j.board p.xs) (blank (given_routes j) j.grants.geometry_visits) n v (eqb-false n 14 h) e in
        a_refusal n (stops_number j.board j.flags.permits_crossings k.0 k.1 n k.3) (λ room l. in_sheet l j r p q k.0 k.1 k.2 n k.3)
sheet_cause bytes j r p q (drawing.going u) e = a_sheet _ (record { is_read = r; is_planned = q; is_drawn = e })

-- the plan is refused exactly where the clamp fails
pub clamp_is : (j : Job) → is_refused (planned j) ≡ clamp_due j.board (given_routes j) search_of j.grants.tap_visits
clamp_is j = refused_exactly j.board (given_routes j) search_of j.flags.separates_collectors j.grants.tap_visits

plan_cause : (bytes : List ℕ) (j : Job) → read_job bytes ≡ job.accepted j → (s : Step) → planned j ≡ s → Cause bytes (after_plan j s)
unfolding after_plan
plan_cause bytes j r (plan.refused v) e = a_refusal 13 (omega arith, omega arith) (λ room l. thirteen l j r (sym (clamp_is j) ∙ ap is_refused e))
plan_cause bytes j r (plan.going p) e = sheet_cause bytes j r p e (sheet_drawn j p) refl

all_numbers : (n : ℕ) → ReaderNumber n → FromTo 1 15 n
all_numbers n (inl h) = (h.0, omega (arith, h.1))
all_numbers n (inr e) = (omega arith, omega arith)

reading_cause : (bytes : List ℕ) (o : job.Outcome) → read_job bytes ≡ o → Cause bytes (after_reading o)
unfolding after_reading
reading_cause bytes (job.refusal n) e =
    a_refusal n (all_numbers n (reader_numbers bytes n e)) (λ room l. in_reading l n (read_due bytes n e))
reading_cause bytes (job.accepted j) e = plan_cause bytes j e (planned j) refl

pub cause : (bytes : List ℕ) → Cause bytes (told bytes)
cause bytes = reading_cause bytes (read_job bytes) refl

-- ---- at most 52,484 bytes

lines_count : (es : List Edge) (rs : List Route) → (length (lines_of es rs) ≤ length es) × (total_points (lines_of es rs) ≤ points_in rs)
unfolding lines_of total_points sum
lines_count [] rs = (omega arith, omega arith)
lines_count (e ∷ es) [] = (omega arith, omega arith)
lines_count (e ∷ es) (r ∷ rs) = let h = lines_count es rs in (omega (arith, h.0), omega (arith, h.1))

bundles_count : (es : List Edge) (us : List Bundle) (ds : List Drawn) → (length (bundles_told es us ds) ≤ length us) × (total_taps (bundles_told es us ds) ≤ taps_in ds)
unfolding bundles_told total_taps sum
bundles_count es [] ds = (omega arith, omega arith)
bundles_count es (u ∷ us) [] = (omega arith, omega arith)
bundles_count es (u ∷ us) (d ∷ ds) =
    let h = bundles_count es us ds in
    let k = length-map d.taps (tap_told es) in
    (omega (arith, h.0), omega (arith, h.1, k))

-- of every plan
pub sheet_size : (bytes : List ℕ) (j : Job) → read_job bytes ≡ job.accepted j → (p : Plan) (u : Progress) → sheet_drawn j p ≡ drawing.going u → length (answer_bytes (answer_of (record { said = j; plan_used = p; sheet_made = u }))) ≤ largest_answer
unfolding page_told page_of
sheet_size bytes j r p u e =
    let b = j.board in
    let a = (accepted_sound bytes j r).0 in
    let k = counts b _ j.points _ _ u e in
    let m = moved_counts (record { nodes = b.nodes; routes = u.routes; drawn = u.drawn }) in
    let q = (normalized b u).sheet in
    let n = length-map q.nodes spot_of in
    let l = lines_count b.edges q.routes in
    let t = bundles_count b.edges b.bundles q.drawn in
    answer_at_most (page_told b p.left u.left (normalized b u))
    (omega (arith, n, m.nodes, a.node_total))
    (omega (arith, l.0, a.edge_total))
    (omega (arith, l.1, m.points, k.points_of, a.point_counts, a.point_total, a.member_counts, a.member_total))
    (omega (arith, t.0, a.bundle_total))
    (omega (arith, t.1, m.taps, k.taps_of, a.member_counts, a.member_total))

told_size : (bytes : List ℕ) (t : Told) → Cause bytes t → length (told_bytes t) ≤ largest_answer
unfolding told_bytes
told_size bytes t (a_refusal n h d) = omega (arith, notice_length n)
told_size bytes t (a_sheet f c) = sheet_size bytes f.said c.is_read f.plan_used f.sheet_made c.is_drawn

-- a buffer that is too short, and one that is not
pub short : (bytes : List ℕ) (room : ℕ) → room < answer_room → written bytes room ≡ []
unfolding written
short bytes room h = ap (λ (t : Bool). cond t [] (told_bytes (told bytes))) (lt-ltb room answer_room h)

pub roomy : (bytes : List ℕ) (room : ℕ) → answer_room ≤ room → written bytes room ≡ told_bytes (told bytes)
unfolding written
roomy bytes room h = ap (λ (t : Bool). cond t [] (told_bytes (told bytes))) (le-ltb room answer_room h)

pub data Room (room : ℕ) : Type 0 where
  too_short : room < answer_room → Room room
  enough : answer_room ≤ room → Room room

pub room_of : (room : ℕ) → Room room
room_of room = go (ltb room answer_room) refl
  where
    go : (b : Bool) → ltb room answer_room ≡ b → Room room
    go true e = too_short (ltb-true room answer_room e)
    go false e = enough (ltb-false room answer_room e)

-- THE SIZE: whatever the job's bytes are, at most 52,484 bytes are written, and never more than the buffer has
pub written_size : (bytes : List ℕ) (room : ℕ) → (length (written bytes room) ≤ largest_answer) × (length (written bytes room) ≤ room)
written_size bytes room = go (room_of room)
  where
    go : Room room → (length (written bytes room) ≤ largest_answer) × (length (written bytes room) ≤ room)
    go (too_short h) = rw (short bytes room h) (omega arith, omega arith)
    go (enough h) =
        let s = told_size bytes (told bytes) (cause bytes) in
        rw (roomy bytes room h) (s, omega arith)

-- ---- the number

-- the number that is due is the one of the notice
pub due_written : (bytes : List ℕ) (room : ℕ) → answer_room ≤ room → (n : ℕ) → Due bytes room n → written bytes room ≡ notice_bytes n
unfolding after_sheet after_plan after_reading told_bytes
due_written bytes room h n (two l) = absurd (omega arith)
due_written bytes room h n (in_reading l m d) = roomy bytes room h ∙ rw (due_read bytes m d)
due_written bytes room h n (thirteen l j e q) = roomy bytes room h ∙ rw (e, (refused_at (planned j) (clamp_is j ∙ q)).1)
due_written bytes room h n (fourteen l j e p q s) =
    roomy bytes room h
    ∙ rw (e, q, (spent_at (sheet_drawn j p) (short_spent j.board j.flags.permits_crossings (turns_of j.board p.xs) (given_routes j) j.grants.geometry_visits s)).1)
due_written bytes room h n (in_sheet l j e p q t s a m d) =
    roomy bytes room h
    ∙ rw (e, q, (stops_sheet j.board j.flags.permits_crossings (turns_of j.board p.xs) (blank (given_routes j) j.grants.geometry_visits) t s a m d).1)

due_number : (bytes : List ℕ) (room n : ℕ) → Due bytes room n → FromTo 1 15 n
due_number bytes room n (two l) = (omega arith, omega arith)
due_number bytes room n (in_reading l m d) = all_numbers m (reader_numbers bytes m (due_read bytes m d))
due_number bytes room n (thirteen l j e q) = (omega arith, omega arith)
due_number bytes room n (fourteen l j e p q s) = (omega arith, omega arith)
due_number bytes room n (in_sheet l j e p q t s a m d) = stops_number j.board j.flags.permits_crossings t s m d

-- byte 5 of a notice and of an answer
pub notice_byte : (n : ℕ) → get_or (notice_bytes n) 5 1 ≡ n % 256
unfolding notice_bytes wire.bytes
notice_byte n = refl

answer_byte : (s : Sheet) → get_or (answer_bytes s) 5 1 ≡ 0
unfolding answer_bytes body_bytes head_bytes wire.bytes
answer_byte s = refl

-- one number at most is due
pub due_once : (bytes : List ℕ) (room m n : ℕ) → Due bytes room m → Due bytes room n → m ≡ n
due_once bytes room m n d e = go (room_of room)
  where
    short_two : (k : ℕ) → room < answer_room → Due bytes room k → k ≡ 2
    short_two k h (two l) = refl
    short_two k h (in_reading l i r) = absurd (omega arith)
    short_two k h (thirteen l j r q) = absurd (omega arith)
    short_two k h (fourteen l j r p q s) = absurd (omega arith)
    short_two k h (in_sheet l j r p q t s a i f) = absurd (omega arith)

    go : Room room → m ≡ n
    go (too_short h) = short_two m h d ∙ sym (short_two n h e)
    go (enough h) =
        let same : notice_bytes m ≡ notice_bytes n = sym (due_written bytes room h m d) ∙ due_written bytes room h n e in
        let f : m % 256 ≡ n % 256 = sym (notice_byte m) ∙ ap (λ (l : List ℕ). get_or l 5 1) same ∙ notice_byte n in
        let k = due_number bytes room m d in
        let l = due_number bytes room n e in
        omega (arith, f, k.0, k.1, l.0, l.1)

-- NUMBER 0, exactly when no refusal is due; where no byte 5 is written, 1 stands for it
pub zero_written : (bytes : List ℕ) (room : ℕ) → ((n : ℕ) → Due bytes room n → ⊥) → (get_or (written bytes room) 5 1 ≡ 0) × (6 < length (written bytes room))
unfolding told_bytes
zero_written bytes room none = go (room_of room)
  where
    of_cause : (t : Told) → Cause bytes t → answer_room ≤ room → (get_or (told_bytes t) 5 1 ≡ 0) × (6 < length (told_bytes t))
    of_cause t (a_refusal n h d) l = absurd (none n (d room l))
    of_cause t (a_sheet f c) l = (answer_byte (answer_of f), omega (arith, answer_length (answer_of f)))

    go : Room room → (get_or (written bytes room) 5 1 ≡ 0) × (6 < length (written bytes room))
    go (too_short h) = absurd (none 2 (two h))
    go (enough h) = rw (roomy bytes room h) (of_cause (told bytes) (cause bytes) h)

pub due_not_zero : (bytes : List ℕ) (room n : ℕ) → Due bytes room n → (get_or (written bytes room) 5 1 ≡ 0 → ⊥) × (length (written bytes room) ≤ 6)
due_not_zero bytes room n d = go (room_of room)
  where
    go : Room room → (get_or (written bytes room) 5 1 ≡ 0 → ⊥) × (length (written bytes room) ≤ 6)
    go (too_short h) = rw (short bytes room h) ((λ (e : ◌≡◌ {A = ℕ} 1 0). absurd (omega arith)), omega arith)
    go (enough h) =
        let k = due_number bytes room n d in
        let l = notice_length n in
        rw (due_written bytes room h n d) ((λ (e : get_or (notice_bytes n) 5 1 ≡ 0). omega (arith, notice_byte n, e, k.0, k.1)), omega arith)

-- ---- the buffer

-- what is written stands at the front, every later byte is as it was, and the buffer is as long
pub record Over (buffer front after : List ℕ) : Type 0 where
  pub at_front : take (length front) after ≡ front
  pub behind : drop (length front) after ≡ drop (length front) buffer
  pub as_long : length after ≡ length buffer

pub over : (buffer front : List ℕ) → length front ≤ length buffer → Over buffer front (sets buffer 0 front)
over buffer front h =
    let k : 0 + length front ≤ length buffer = omega (arith, h) in
    let z : 0 + length front ≡ length front = omega arith in
    let e : sets buffer 0 front ≡ front ++ drop (length front) buffer = sets-eq front buffer 0 k ∙ ap (λ (n : ℕ). front ++ drop n buffer) z in
    record {
      at_front = ap (take (length front)) e ∙ take_at front (drop (length front) buffer) (length front) refl;
      behind = ap (drop (length front)) e ∙ drop_at front (drop (length front) buffer) (length front) refl;
      as_long = length-sets buffer 0 front;
    }

pub written_over : (bytes buffer : List ℕ) → Over buffer (written bytes (length buffer)) (stage_of bytes buffer)
written_over bytes buffer = over buffer (written bytes (length buffer)) (written_size bytes (length buffer)).1
