-- The flags of an accepted job are the bits of its byte 5. Assumes nothing.
use Rattle.std.specs.Prelude.{ℕ, ◌+◌, ◌/◌, ◌%◌, ◌≤◌, ◌≡◌, Bool, true, false, cond, List, leb, eqb, length, get_or, take, drop, Option, Some, None}
use Rattle.std.proofs.Common.{sym, ap, ◌∙◌, subst, arith, length-drop, leb-true, ne_eqb, eq-eqb}
use Rattle.board.specs.Board.{Board}
use Rattle.geometry.specs.declared.Point.{Point}
use Rattle.wire.specs.Bytes.{number}
use Rattle.wire.proofs.BytesLaws.{number_one}
use Rattle.wire.specs.Read.{got, after, field}
use Rattle.wire.specs.ReadLaws.{field_at}
use Rattle.job.specs.declared.Flags.{Flags}
use Rattle.job.specs.declared.Header.{Header}
use Rattle.job.specs.LoopSteps.{came, got_both}
use Rattle.job.proofs.Kept.{field_takes}
use Rattle.job.proofs.GoodRecords.{picked}
use Rattle.job.proofs.Sound.{outcome_came, guarded}
use Rattle.job.specs.Job.{flags_of, options, grants, counts, header, Tables, tables, some_twice, resolved, Job, refusal, accepted, or_nine, settled, outcome, fields, version, lengths_fit, read_job}

pub record FlagsAre (n : ℕ) (f : Flags) : Type 0 where
  pub listed : n ≤ 7
  pub separates : f.separates_collectors ≡ eqb (n % 2) 1
  pub permits : f.permits_crossings ≡ eqb (n / 2 % 2) 1
  pub grid : f.on_grid ≡ eqb (n / 4) 1

-- a field of one byte at a place
byte_at : (s : List ℕ) (at n : ℕ) (t : List ℕ) → field 1 (drop at s) ≡ got n t → (n ≡ get_or s at 0) × (t ≡ drop (at + 1) s)
byte_at s at n t e =
    let f = field_takes 1 (drop at s) n t e in
    let d = length-drop at s in
    let h : at + 1 ≤ length s = omega (arith, f.0, d) in
    let g = got_both n (number (take 1 (drop at s))) t (drop (at + 1) s) (sym e ∙ field_at 1 at s h) in
    (g.0 ∙ number_one s at (omega arith), g.1)

flags_are : (n : ℕ) (s : List ℕ) (f : Flags) (t : List ℕ) → flags_of n s ≡ got f t → FlagsAre n f
unfolding flags_of
flags_are n s f t e =
    let p = picked (leb n 7) (record { separates_collectors = eqb (n % 2) 1; permits_crossings = eqb (n / 2 % 2) 1; on_grid = eqb (n / 4) 1 }) f s t 6 e in
    record {
      listed = leb-true n 7 p.0;
      separates = ap (λ (x : Flags). x.separates_collectors) (sym p.1);
      permits = ap (λ (x : Flags). x.permits_crossings) (sym p.1);
      grid = ap (λ (x : Flags). x.on_grid) (sym p.1);
    }

header_flags : (s : List ℕ) (at : ℕ) (h : Header) (t : List ℕ) → header (drop at s) ≡ got h t → FlagsAre (get_or s at 0) h.flags
header_flags s at h t e =
    let a = came (after (field 1 (drop at s)) flags_of) _ h t e in
    let b = came (options a.value.on_grid a.rest) _ h t a.second in
    let c = came (grants b.rest) _ h t b.second in
    let d = came (counts c.rest) _ h t c.second in
    let q = got_both _ h d.rest t d.second in
    let m = came (field 1 (drop at s)) flags_of a.value a.rest a.first in
    let n = byte_at s at m.value m.rest m.first in
    subst (λ (x : Flags). FlagsAre (get_or s at 0) x) (ap (λ (x : Header). x.flags) q.0)
    (subst (λ (z : ℕ). FlagsAre z a.value) n.0 (flags_are m.value m.rest a.value a.rest m.second))

nine_flags : (k : Option Board) (h : Header) (ps : List Point) (j : Job) → or_nine k h ps ≡ accepted j → h.flags ≡ j.flags
unfolding or_nine
nine_flags None h ps j e = let z : ◌≡◌ {A = ℕ} 0 1 = cc in absurd (omega arith)
nine_flags (Some b) h ps j e = let z : ◌≡◌ {A = Job} (record { flags = h.flags; grants = h.grants; board = b; points = ps }) j = cc in ap (λ (x : Job). x.flags) z

settled_flags : (h : Header) (t : Tables) (j : Job) → settled h t ≡ accepted j → h.flags ≡ j.flags
unfolding settled
settled_flags h t j e = go (some_twice t) e
  where
    go : (b : Bool) → cond b (refusal 8) (or_nine (resolved h.options t) h t.edges.points) ≡ accepted j → h.flags ≡ j.flags
    go true q = let z : ◌≡◌ {A = ℕ} 0 1 = cc in absurd (omega arith)
    go false q = nine_flags (resolved h.options t) h t.edges.points j q

pub flags_read : (s : List ℕ) (j : Job) → read_job s ≡ accepted j → FlagsAre (get_or s 5 0) j.flags
unfolding read_job version fields
flags_read s j e =
    let a = outcome_came (field 1 (drop 4 s)) version j (guarded (lengths_fit s) (outcome (field 1 (drop 4 s)) version) 1 j e) in
    let v = guarded (eqb a.value 1) (fields header a.rest) 3 j a.second in
    let b = outcome_came (header a.rest) _ j v in
    let c = outcome_came (tables b.value.flags.on_grid b.value.counts b.rest) _ j b.second in
    let r = byte_at s 4 a.value a.rest a.first in
    subst (FlagsAre (get_or s 5 0)) (settled_flags b.value c.value j c.second)
    (header_flags s 5 b.value b.rest (subst (λ (z : List ℕ). header z ≡ got b.value b.rest) r.1 b.first))

-- a bit that is clear
pub no_separation : (s : List ℕ) (j : Job) → read_job s ≡ accepted j → get_or s 5 0 % 2 ≡ 0 → j.flags.separates_collectors ≡ false
no_separation s j e h = (flags_read s j e).separates ∙ ne_eqb (get_or s 5 0 % 2) 1 (λ z. omega arith)

pub no_crossings : (s : List ℕ) (j : Job) → read_job s ≡ accepted j → get_or s 5 0 / 2 % 2 ≡ 0 → j.flags.permits_crossings ≡ false
no_crossings s j e h =
    let f = flags_read s j e in
    f.permits ∙ ne_eqb (get_or s 5 0 / 2 % 2) 1 (λ z. omega arith)

-- bit 2 is set
pub on_grid_bit : (s : List ℕ) (j : Job) → read_job s ≡ accepted j → get_or s 5 0 / 4 % 2 ≡ 1 → j.flags.on_grid ≡ true
on_grid_bit s j e h =
    let f = flags_read s j e in
    let l = f.listed in
    f.grid ∙ eq-eqb (get_or s 5 0 / 4) 1 (omega arith)
