-- Laws of Booleans: what holds of the one that is chosen, and the parts of tests joined by && and ||.
-- Assumes nothing.
use Rattle.std.specs.Prelude.{◌≡◌, refl, ◌⊎◌, Bool, true, false, ◌&&◌, ◌||◌, cond, T}
use Rattle.std.proofs.Common.{inl, inr, true≢false}
use Rattle.std.proofs.lemmas.Bool.{false≢true}

-- what holds of both holds of the one that is chosen
pub either : {A : Type 0} (t : Bool) (x y : A) (P : A → Type 0) → P x → P y → P (cond t x y)
either true x y P p q = p
either false x y P p q = q

pub both_true : (a b : Bool) → (a && b) ≡ true → (a ≡ true) × (b ≡ true)
both_true true b e = (refl, e)
both_true false b e = absurd (false≢true e)

pub neither : (a b : Bool) → (a || b) ≡ false → (a ≡ false) × (b ≡ false)
neither true b e = absurd (true≢false e)
neither false b e = (refl, e)

pub or_second : (a b : Bool) → b ≡ true → (a || b) ≡ true
or_second true b e = refl
or_second false b e = e

pub or_split : (a b : Bool) → T (a || b) → T a ⊎ T b
or_split true b t = inl tt
or_split false b t = inr t

pub or_l : (a b : Bool) → T a → T (a || b)
or_l true b t = tt
or_l false b t = absurd t

pub or_r : (a b : Bool) → T b → T (a || b)
or_r true b t = tt
or_r false b t = t

-- one test of four fails
pub all_but : (a b c : Bool) → (a && (b && (false && c)) ≡ false) × (a && (b && (c && false)) ≡ false)
all_but true true true = (refl, refl)
all_but true true false = (refl, refl)
all_but true false c = (refl, refl)
all_but false b c = (refl, refl)

-- two tests that hold together are one
pub as_one : (s t : Bool) → (T s → T t) → (T t → T s) → s ≡ t
as_one true true f g = refl
as_one false false f g = refl
as_one true false f g = absurd (f tt)
as_one false true f g = absurd (g tt)

pub is_false : (b : Bool) → (T b → ⊥) → b ≡ false
is_false true t = absurd (t tt)
is_false false t = refl
