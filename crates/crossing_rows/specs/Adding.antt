-- Rows added by walks one after the other. Assumes nothing.
use Rattle.std.specs.Prelude.{◌+◌, ◌≤◌, ◌<◌, ◌≡◌, List, [], ◌∷◌, ◌++◌, Result, Ok, Err, length}
use Rattle.std.proofs.Common.{sym, ap, ◌∙◌, append_assoc, append-nil, arith, length-append}
use Rattle.limits.specs.Limits.{max_crossings}
use Rattle.refusal.specs.declared.Refusal.{Refusal}
use Rattle.refusal.specs.declared.Refusal.TheVariants.{TooManyCrossings}
use Rattle.crossing_rows.specs.declared.Row.{Row}
use Rattle.crossing_rows.specs.Lent.{Adds}

pub adds_none : (old : List Row) (u : Unit {0}) → Adds old old [] (Ok u)
adds_none old u = record { kept = sym (append-nil old); many = tt }

-- no fewer with what would have come after
many_more : (l x y : List Row) → max_crossings < length (l ++ x) → max_crossings < length (l ++ (x ++ y))
many_more l x y h =
    let e = ap length (append_assoc l x y) in
    let k = length-append (l ++ x) y in
    omega (arith, e, k, h)

-- a second walk after a first
pub adds_then : (a b c x y : List Row) (u : Unit {0}) (r : Result (Unit {0}) Refusal) → Adds a b x (Ok u) → Adds b c y r → Adds a c (x ++ y) r
adds_then a b c x y u (Ok v) f g = record { kept = g.kept ∙ ap (λ (l : List Row). l ++ y) f.kept ∙ append_assoc a x y; many = tt }
adds_then a b c x y u (Err e) f g =
    let k = ap (λ (l : List Row). length (l ++ y)) f.kept in
    let m = ap length (append_assoc a x y) in
    let h = g.many.1 in
    record { kept = tt; many = (g.many.0, omega (arith, k, m, h)) }

-- none after a first that was refused
pub adds_stopped : (a b x y : List Row) (e : Refusal) → Adds a b x (Err e) → Adds a b (x ++ y) (Err e)
adds_stopped a b x y e f = record { kept = tt; many = (f.many.0, many_more a x y f.many.1) }

-- ---- a loop, whose rows so far and whose rows to come are all

pub loop_next : (a b x rest rest' all : List Row) (u : Unit {0}) → Adds a b x (Ok u) → rest ≡ x ++ rest' → a ++ rest ≡ all → b ++ rest' ≡ all
loop_next a b x rest rest' all u f e h = ap (λ (l : List Row). l ++ rest') f.kept ∙ append_assoc a x rest' ∙ ap (λ (l : List Row). a ++ l) (sym e) ∙ h

pub loop_stopped : (old a b x rest rest' all : List Row) (e : Refusal) → Adds a b x (Err e) → rest ≡ x ++ rest' → a ++ rest ≡ old ++ all → Adds old b all (Err e)
loop_stopped old a b x rest rest' all e f d h =
    let k = ap length (ap (λ (l : List Row). a ++ l) (sym d) ∙ h) in
    let m = many_more a x rest' f.many.1 in
    record { kept = tt; many = (f.many.0, omega (arith, k, m)) }

pub loop_ended : (old a rest all : List Row) (u : Unit {0}) → rest ≡ [] → a ++ rest ≡ old ++ all → Adds old a all (Ok u)
loop_ended old a rest all u e h = record { kept = sym (append-nil a) ∙ ap (λ (l : List Row). a ++ l) (sym e) ∙ h; many = tt }
