-- Laws of the kept pairs: each holds the x that its run's stretch holds, so candidates are tried on them as on the runs themselves, visit by visit.
-- Assumes nothing.
use Rattle.std.specs.Prelude.{◌≡◌, Bool, true, false, ◌&&◌, ℕ, zero, suc, ◌+◌, ◌-◌, ◌*◌, ◌≤◌, ◌<◌, get_or, take, drop, T, Float, Option, Some, None}
use Rattle.std.proofs.Math.Path.{refl, ap}
use Rattle.std.proofs.Common.{sym, ◌∙◌, arith, length-append, length-take-le, get_or-take, take_at, drop_at}
use mathlib.Core.List.{List, [], ◌∷◌, ◌++◌, map, append_assoc, append-nil, map-append, map-map}
use Rattle.std.proofs.Math.ListN.{length}
use Rattle.std.proofs.lemmas.List.{length-map}
use Rattle.std.specs.Float.{nan, inf, fin}
use Rattle.std.specs.Float.Ieee.{of_bits, lt, eq, le}
use Rattle.binary64.specs.Value.{le_trans_finite}
use Rattle.geometry.specs.declared.Point.{Point}
use Rattle.geometry.specs.declared.Role.{Role}
use Rattle.geometry.specs.Stretch.{holds}
use Rattle.geometry.specs.Points.{points_from, runs, point_at, put_point}
use Rattle.route.specs.Window.{points_take, points_drop, points_same, point_same, points_length, runs_length, put_after}
use Rattle.search.specs.Stretches.{stretches, members, all_runs, runs_in, routes}
use Rattle.search.specs.Search.{Tried, after, held, lacked, unpaid, spent, tried_on, tried_on_all, tried}
use Rattle.search.proofs.Cost.{stretches_length}
use Rattle.search.specs.Kept.{kept, spanned, members_from}

-- ---- a kept pair holds what the stretch holds
abbrev again : Option (Float × Float) → Option (Float × Float)
again s = spanned (kept s)

abbrev again_all : List (List (Option (Float × Float))) → List (List (Option (Float × Float)))
again_all ms = map (map again) ms

abbrev one : Float
one = (kept None).x

abbrev naught : Float
naught = (kept None).y

both_false : (a b : Bool) → (T a → T b → T (le one naught)) → (a && b) ≡ false
unfolding of_bits le lt eq
both_false true true h = absurd (h tt tt)
both_false true false h = refl
both_false false b h = refl

pub none_held : (x : Float) → holds x (spanned (kept None)) ≡ false
unfolding of_bits le lt eq
none_held nan = refl
none_held (inf true) = refl
none_held (inf false) = refl
none_held (fin s m e) = both_false (le one (fin s m e)) (le (fin s m e) naught) (λ a b. le_trans_finite one (fin s m e) naught tt tt tt a b)

again_holds : (x : Float) (s : Option (Float × Float)) → holds x (again s) ≡ holds x s
again_holds x None = none_held x
again_holds x (Some (low, high)) = refl

-- ---- candidates tried on them
-- what follows an outcome is the same where it is so for all visits left
after_same : {A : Type 0} (t : Tried) (f g h k : ℕ → A) (a : A) → ((v : ℕ) → f v ≡ h v) → ((v : ℕ) → g v ≡ k v) → after t f g a ≡ after t h k a
after_same (held v) f g h k a p q = p v
after_same (lacked v) f g h k a p q = q v
after_same unpaid f g h k a p q = refl

on_kept : (x : Float) (ss : List (Option (Float × Float))) (v : ℕ) → tried_on x (map again ss) v ≡ tried_on x ss v
unfolding tried_on
on_kept x [] v = refl
on_kept x (s ∷ ss) zero = refl
on_kept x (s ∷ ss) (suc v) = rw (again_holds x s, on_kept x ss v)

all_kept : (x : Float) (ms : List (List (Option (Float × Float)))) (v : ℕ) → tried_on_all x (again_all ms) v ≡ tried_on_all x ms v
unfolding tried_on_all
all_kept x [] v = refl
all_kept x (m ∷ ms) v =
    rw (on_kept x m v) (after_same (tried_on x m v) (tried_on_all x (again_all ms)) lacked (tried_on_all x ms) lacked unpaid (all_kept x ms) (λ w. refl))

pub tried_kept : (ms : List (List (Option (Float × Float)))) (xs found : List Float) (v : ℕ) → tried (again_all ms) xs found v ≡ tried ms xs found v
unfolding tried
tried_kept ms [] found v = refl
tried_kept ms (x ∷ xs) found v =
    rw (all_kept x ms v) (after_same (tried_on_all x ms v) (tried (again_all ms) xs (found ++ (x ∷ []))) (tried (again_all ms) xs found) (tried ms xs (found ++ (x ∷ []))) (tried ms xs found) spent (tried_kept ms xs (found ++ (x ∷ []))) (tried_kept ms xs found))

-- ---- the pairs that a first pass keeps
-- one more run's
pub kept_step : (ks ls : List Float) (k : ℕ) (p : Point) (s : Option (Float × Float)) (ss : List (Option (Float × Float))) → 2 * (k + 1) ≤ length ks → p ≡ kept s → ls ≡ put_point ks k p
    → points_from ks 0 k ++ map kept (s ∷ ss) ≡ points_from ls 0 (k + 1) ++ map kept ss
kept_step ks ls k p s ss h e f =
    sym (rw (f, put_after ks k p (omega arith), e) (append_assoc (points_from ks 0 k) (kept s ∷ []) (map kept ss)))

-- all of them
pub kept_whole : (ks : List Float) (k : ℕ) (ss : List (Option (Float × Float))) → map kept ss ≡ points_from ks 0 k ++ [] → points_from ks 0 (length ss) ≡ map kept ss
kept_whole ks k ss e =
    let f : map kept ss ≡ points_from ks 0 k = e ∙ append-nil (points_from ks 0 k) in
    let n : length ss ≡ k = sym (length-map ss kept) ∙ ap length f ∙ points_length ks 0 k in
    ap (points_from ks 0) n ∙ sym f

-- a slice of which the front stays
pub keeps_front : (ks more : List Float) (ss : List (Option (Float × Float))) (n : ℕ) → n ≤ length ks → 2 * length ss ≤ n → points_from ks 0 (length ss) ≡ map kept ss → points_from (take n ks ++ more) 0 (length ss) ≡ map kept ss
unfolding point_at
keeps_front ks more ss n h f k =
    points_same (take n ks ++ more) ks 0 0 (length ss) (λ i q. point_same (take n ks ++ more) ks (0 + i) (0 + i) (at (2 * (0 + i)) (omega arith)) (at (2 * (0 + i) + 1) (omega arith))) ∙ k
  where
    at : (j : ℕ) → j < n → get_or (take n ks ++ more) j nan ≡ get_or ks j nan
    at j q =
        sym (get_or-take n (take n ks ++ more) j nan q) ∙ ap (λ (l : List Float). get_or l j nan) (take_at (take n ks) more n (length-take-le n ks h))
        ∙ get_or-take n ks j nan q

-- those of a member and of the members behind it
parts : (ks : List Float) (i : ℕ) (m ss : List (Option (Float × Float))) → points_from ks i (length (m ++ ss)) ≡ map kept (m ++ ss)
    → (map spanned (points_from ks i (length m)) ≡ map again m) × (points_from ks (i + length m) (length ss) ≡ map kept ss)
parts ks i m ss e =
    let l = length-append m ss in
    let f : points_from ks i (length (m ++ ss)) ≡ map kept m ++ map kept ss = e ∙ map-append kept m ss in
    let n : length (map kept m) ≡ length m = length-map m kept in
    let a : points_from ks i (length m) ≡ map kept m =
    sym (points_take ks i (length (m ++ ss)) (length m) (omega arith)) ∙ ap (take (length m)) f ∙ take_at (map kept m) (map kept ss) (length m) n in
    let q : length (m ++ ss) - length m ≡ length ss = omega arith in
    let b : points_from ks (i + length m) (length ss) ≡ map kept ss =
    ap (points_from ks (i + length m)) (sym q) ∙ sym (points_drop ks i (length (m ++ ss)) (length m)) ∙ ap (drop (length m)) f ∙ drop_at (map kept m) (map kept ss) (length m) n in
    (ap (map spanned) a ∙ map-map spanned kept m, b)

-- member by member
module _ (role : Role) (pitch : Float) (points ks : List Float) where
  pub members_kept : (i : ℕ) (starts counts : List ℕ) → length starts ≡ length counts
      → let ms = members role pitch (routes points starts counts) in
      points_from ks i (runs_in ms) ≡ map kept (all_runs ms) → members_from ks i counts ≡ again_all ms
  unfolding members routes all_runs members_from
  members_kept i [] [] h e = refl
  members_kept i [] (c ∷ cs) h e = absurd (omega arith)
  members_kept i (s ∷ ss) [] h e = absurd (omega arith)
  members_kept i (s ∷ ss) (c ∷ cs) h e =
      let m = stretches role pitch (runs (points_from points s c)) in
      let ms = members role pitch (routes points ss cs) in
      let k : length m ≡ c - 1 = stretches_length role pitch (runs (points_from points s c)) ∙ runs_length (points_from points s c) ∙ ap (λ (n : ℕ). n - 1) (points_length points s c) in
      let p = parts ks i m (all_runs ms) e in
      rw (← k, p.0) (ap (λ (l : List (List (Option (Float × Float)))). map again m ∷ l) (members_kept (i + length m) ss cs (omega arith) p.1))

-- as many runs as there were
runs_again : (ms : List (List (Option (Float × Float)))) → runs_in (again_all ms) ≡ runs_in ms
unfolding all_runs
runs_again [] = refl
runs_again (m ∷ ms) = omega (arith, length-append m (all_runs ms), length-append (map again m) (all_runs (again_all ms)), length-map m again, runs_again ms)

module _ (role : Role) (pitch : Float) (points ks : List Float) (starts counts : List ℕ) (paired : length starts ≡ length counts) where
  abbrev theirs : List (List (Option (Float × Float)))
  theirs = members role pitch (routes points starts counts)

  module _ (k : points_from ks 0 (runs_in theirs) ≡ map kept (all_runs theirs)) where
    are_again : members_from ks 0 counts ≡ again_all theirs
    are_again = members_kept role pitch points ks 0 starts counts paired k

    -- the room that the trial asks for
    pub kept_room : runs_in (members_from ks 0 counts) ≡ runs_in theirs
    kept_room = ap runs_in are_again ∙ runs_again theirs

    -- the trial on what was kept is the trial on the members' runs
    pub kept_tried : (xs found : List Float) (w : ℕ) → tried (members_from ks 0 counts) xs found w ≡ tried theirs xs found w
    kept_tried xs found w = ap (λ (ms : List (List (Option (Float × Float)))). tried ms xs found w) are_again ∙ tried_kept theirs xs found w
