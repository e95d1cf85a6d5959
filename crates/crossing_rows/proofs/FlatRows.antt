-- Rows kept in slices of numbers, as the walk kept them before they were rows: their places at 2 i and 2 i + 1 of one, their ids at 2 i and 2 i + 1 of another, and a count beside, 1,025 for more. No function's proof cites these laws now.
-- Assumes nothing.
use Rattle.std.specs.Prelude.{ℕ, zero, suc, ◌+◌, ◌*◌, ◌≤◌, ◌<◌, ◌≡◌, refl, List, [], ◌∷◌, ◌++◌, map, Bool, true, false, not, cond, leb, length, get_or, set, Float}
use Rattle.std.proofs.Common.{sym, ap, ◌∙◌, subst, append_assoc, append-nil, arith, length-set, length-append, leb-false, le-leb, true≢false}
use Rattle.std.proofs.Math.Seq.{get_or-set_same, get_or-set_other}
use Rattle.std.proofs.lemmas.Bool.{lt-leb}
use Rattle.geometry.specs.declared.Point.{Point}
use Rattle.geometry.specs.Points.{Route, runs, point_at, put_point}
use Rattle.route.specs.Window.{put_other, put_here}
use Rattle.route.specs.Slots.{routes_of}
use Rattle.board.specs.declared.DrawnBundle.{DrawnBundle}
use Rattle.board.specs.declared.Edge.{Edge}
use Rattle.limits.specs.Limits.{max_crossings, crossing_numbers}
use Rattle.crossing_rows.specs.declared.Row.{Row}
use Rattle.crossing_rows.specs.Rows.{row, run_rows, route_rows, sheet_rows, id_of, rows_met}

-- ---- how the slices hold them: row i has its place at point i of places, its ids at 2 i and 2 i + 1 of names
unfoldable pub row_at : List Float → List ℕ → ℕ → Row
row_at places names i = row (point_at places i) (get_or names (2 * i) 0) (get_or names (2 * i + 1) 0)

unfoldable pub rows_from : List Float → List ℕ → ℕ → ℕ → List Row
unfolding row_at
rows_from places names i zero = []
rows_from places names i (suc k) = row_at places names i ∷ rows_from places names (suc i) k

-- how many, where 1,025 stands for any number above 1,024
abbrev pub capped : ℕ → ℕ
capped n = cond (leb n max_crossings) n (suc max_crossings)

-- the slices and the count n hold the rows l; of more than 1,024 only that they are more
pub record Kept (l : List Row) (places : List Float) (names : List ℕ) (n : ℕ) : Type 0 where
  pub count : n ≡ capped (length l)
  pub rows : length l ≤ max_crossings → rows_from places names 0 n ≡ l

-- a walk that met the rows new, whatever was kept before it
abbrev pub Grown : List Float → List ℕ → ℕ → List Float → List ℕ → ℕ → List Row → Type 0
Grown places names n places' names' n' new = (l : List Row) → Kept l places names n → Kept (l ++ new) places' names' n'

-- room for 1,024 rows
abbrev pub Room : List Float → List ℕ → Type 0
Room places names = (crossing_numbers ≤ length places) × (crossing_numbers ≤ length names)

-- ---- the slices

rows_last : (p : List Float) (m : List ℕ) (i k : ℕ) → rows_from p m i (suc k) ≡ rows_from p m i k ++ (row_at p m (i + k) ∷ [])
unfolding rows_from
rows_last p m i zero = let z : i + 0 ≡ i = omega arith in rw z
rows_last p m i (suc k) = let z : i + suc k ≡ suc i + k = omega arith in rw z (ap (λ (l : List Row). row_at p m i ∷ l) (rows_last p m (suc i) k))

rows_same : (p q : List Float) (m n : List ℕ) (i k : ℕ) → ((j : ℕ) → j < i + k → row_at q n j ≡ row_at p m j) → rows_from q n i k ≡ rows_from p m i k
unfolding rows_from
rows_same p q m n i zero f = refl
rows_same p q m n i (suc k) f =
    let a : row_at q n i ≡ row_at p m i = f i (omega arith) in
    let b : rows_from q n (suc i) k ≡ rows_from p m (suc i) k = rows_same p q m n (suc i) k (λ j h. f j (omega arith)) in
    rw (a, b)

abbrev pub put_name : List ℕ → ℕ → ℕ → ℕ → List ℕ
put_name m n u e = set (set m (2 * n) u) (2 * n + 1) e

module _ (p : List Float) (m : List ℕ) (n : ℕ) (z : Point) (u e : ℕ) where
  row_other : (j : ℕ) → j < n → row_at (put_point p n z) (put_name m n u e) j ≡ row_at p m j
  unfolding row_at
  row_other j h =
      rw (
        put_other p n j z (λ d. omega arith),
        get_or-set_other (set m (2 * n) u) (2 * n + 1) (2 * j) e 0 (λ d. omega arith),
        get_or-set_other m (2 * n) (2 * j) u 0 (λ d. omega arith),
        get_or-set_other (set m (2 * n) u) (2 * n + 1) (2 * j + 1) e 0 (λ d. omega arith),
        get_or-set_other m (2 * n) (2 * j + 1) u 0 (λ d. omega arith),
      )

  row_here : 2 * n + 1 < length p → 2 * n + 1 < length m → row_at (put_point p n z) (put_name m n u e) n ≡ row z u e
  unfolding row_at
  row_here h k =
      rw (
        put_here p n z h,
        get_or-set_other (set m (2 * n) u) (2 * n + 1) (2 * n) e 0 (λ d. omega arith),
        get_or-set_same m (2 * n) u 0 (omega arith),
        get_or-set_same (set m (2 * n) u) (2 * n + 1) e 0 (rw (length-set m (2 * n) u) k),
      )

-- ---- the count

count_small : (k n : ℕ) → n ≡ capped k → n < max_crossings → k ≡ n
count_small k n e h = go (leb k max_crossings) e
  where
    go : (t : Bool) → n ≡ cond t k (suc max_crossings) → k ≡ n
    go true e = sym e
    go false e = absurd (omega arith)

count_large : (k n : ℕ) → n ≡ capped k → max_crossings ≤ n → max_crossings ≤ k
count_large k n e h = go (leb k max_crossings) refl e
  where
    go : (t : Bool) → leb k max_crossings ≡ t → n ≡ cond t k (suc max_crossings) → max_crossings ≤ k
    go true d e = omega arith
    go false d e = let g = leb-false k max_crossings d in omega arith

one_more : {A : Type 0} (l : List A) (x : A) → length (l ++ (x ∷ [])) ≡ length l + 1
one_more l x = length-append l (x ∷ [])

-- ---- one row kept
module _ (p : List Float) (m : List ℕ) (n : ℕ) (z : Point) (u e : ℕ) where
  pub keep_more : n < max_crossings → crossing_numbers ≤ length p → crossing_numbers ≤ length m → Grown p m n (put_point p n z) (put_name m n u e) (n + 1) (row z u e ∷ [])
  keep_more h P M l k =
      let c : length l ≡ n = count_small (length l) n k.count h in
      let d : length (l ++ (row z u e ∷ [])) ≡ n + 1 = one_more l (row z u e) ∙ ap (λ (x : ℕ). x + 1) c in
      let y : n + 1 ≡ suc n = omega arith in
      let f : n + 1 ≤ max_crossings = omega arith in
      record {
        count = rw (d, le-leb (n + 1) max_crossings f);
        rows = λ g.
            ap (rows_from (put_point p n z) (put_name m n u e) 0) y
            ∙ rows_last (put_point p n z) (put_name m n u e) 0 n
            ∙ ap (λ (x : List Row). x ++ (row_at (put_point p n z) (put_name m n u e) (0 + n) ∷ [])) (rows_same p (put_point p n z) m (put_name m n u e) 0 n (λ j i. row_other p m n z u e j (omega arith)) ∙ k.rows (omega arith))
            ∙ ap (λ (x : Row). l ++ (x ∷ [])) (ap (row_at (put_point p n z) (put_name m n u e)) (omega arith) ∙ row_here p m n z u e (omega arith) (omega arith));
      }

  pub keep_none : max_crossings ≤ n → Grown p m n p m (suc max_crossings) (row z u e ∷ [])
  keep_none h l k =
      let c : max_crossings ≤ length l = count_large (length l) n k.count h in
      let d : length (l ++ (row z u e ∷ [])) ≡ length l + 1 = one_more l (row z u e) in
      let f : max_crossings < length l + 1 = omega arith in
      record {
        count = rw (d, lt-leb (length l + 1) max_crossings f);
        rows = λ g. absurd (omega arith);
      }

-- ---- walks one after the other

pub grown_none : (p : List Float) (m : List ℕ) (n : ℕ) → Grown p m n p m n []
grown_none p m n l k = subst (λ (x : List Row). Kept x p m n) (sym (append-nil l)) k

pub grown_then : (p q r : List Float) (m o s : List ℕ) (i j k : ℕ) (x y : List Row) → Grown p m i q o j x → Grown q o j r s k y → Grown p m i r s k (x ++ y)
grown_then p q r m o s i j k x y f g l h = subst (λ (z : List Row). Kept z r s k) (append_assoc l x y) (g (l ++ x) (f l h))

-- what a loop has met, and what is left for it to meet
pub record SoFar (p₀ : List Float) (m₀ : List ℕ) (n₀ : ℕ) (p : List Float) (m : List ℕ) (n : ℕ) (rest all : List Row) : Type 0 where
  pub met : List Row
  pub grown : Grown p₀ m₀ n₀ p m n met
  pub is : met ++ rest ≡ all

module _ (p₀ : List Float) (m₀ : List ℕ) (n₀ : ℕ) where
  pub so_far : (rest all : List Row) → all ≡ rest → SoFar p₀ m₀ n₀ p₀ m₀ n₀ rest all
  so_far rest all e = record { met = []; grown = grown_none p₀ m₀ n₀; is = sym e }

  pub further : (p : List Float) (m : List ℕ) (n : ℕ) (q : List Float) (o : List ℕ) (k : ℕ) (rest new rest' all : List Row) → SoFar p₀ m₀ n₀ p m n rest all → Grown p m n q o k new → rest ≡ new ++ rest' → SoFar p₀ m₀ n₀ q o k rest' all
  further p m n q o k rest new rest' all s g e = record {
    met = s.met ++ new;
    grown = grown_then p₀ p q m₀ m o n₀ n k s.met new s.grown g;
    is = append_assoc s.met new rest' ∙ ap (λ (x : List Row). s.met ++ x) (sym e) ∙ s.is;
  }

  pub at_last : (p : List Float) (m : List ℕ) (n : ℕ) (rest all : List Row) → SoFar p₀ m₀ n₀ p m n rest all → rest ≡ [] → Grown p₀ m₀ n₀ p m n all
  at_last p m n rest all s e = subst (Grown p₀ m₀ n₀ p m n) (sym (append-nil s.met) ∙ ap (λ (x : List Row). s.met ++ x) (sym e) ∙ s.is) s.grown

pub grown_as : (p : List Float) (m : List ℕ) (n : ℕ) (q : List Float) (o : List ℕ) (k : ℕ) (x y : List Row) → x ≡ y → Grown p m n q o k x → Grown p m n q o k y
grown_as p m n q o k x y e g = subst (Grown p m n q o k) e g

-- ---- one route, the collector first
pub route_grown : (d : DrawnBundle) (e : ℕ) (r : Route) (p q w : List Float) (m o s : List ℕ) (i j k : ℕ) → Grown p m i q o j (run_rows d.collector d.id e (runs r)) → Grown q o j w s k (run_rows d.spine d.id e (runs r)) → Grown p m i w s k (route_rows d e r)
unfolding route_rows
route_grown d e r p q w m o s i j k f g = grown_then p q w m o s i j k (run_rows d.collector d.id e (runs r)) (run_rows d.spine d.id e (runs r)) f g

-- ---- from nothing
pub kept_all : (p : List Float) (m : List ℕ) (q : List Float) (o : List ℕ) (n : ℕ) (all : List Row) → Grown p m 0 q o n all → Kept all q o n
unfolding rows_from
kept_all p m q o n all g = g [] (record { count = refl; rows = λ h. refl })

-- ---- crossings permitted, or not

pub none_kept : (permitted : Bool) (table : List Edge) (drawn : List DrawnBundle) (points : List Float) (counts : List ℕ) (p : List Float) (m : List ℕ) → not permitted ≡ true → Kept (rows_met permitted table drawn points counts) p m 0
unfolding rows_from rows_met
none_kept true table drawn points counts p m e = absurd (true≢false (sym e))
none_kept false table drawn points counts p m e = record { count = refl; rows = λ h. refl }

pub permitted_kept : (permitted : Bool) (table : List Edge) (drawn : List DrawnBundle) (points : List Float) (counts ids : List ℕ) (p : List Float) (m : List ℕ) (n : ℕ) → not permitted ≡ false → ids ≡ map id_of table
    → Kept (sheet_rows drawn ids (routes_of points counts)) p m n → Kept (rows_met permitted table drawn points counts) p m n
unfolding rows_met
permitted_kept true table drawn points counts ids p m n e i k = subst (λ (l : List ℕ). Kept (sheet_rows drawn l (routes_of points counts)) p m n) i k
permitted_kept false table drawn points counts ids p m n e i k = absurd (true≢false e)
