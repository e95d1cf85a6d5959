-- The numbers that are printed can stand on the page. Assumes nothing.
use Rattle.std.specs.Prelude.{ℕ, zero, suc, ◌≤◌, ◌≡◌, refl, List, [], ◌∷◌, length}
use Rattle.std.proofs.Common.{arith, lit<}
use Rattle.std.specs.Float.{binary64}
use Rattle.std.specs.Float.Ieee.{of_bits, lt}
use Rattle.limits.specs.Limits.{id_columns, page_room}
use Rattle.board.specs.declared.DrawnBundle.{DrawnBundle}
use Rattle.bundle_page.specs.PageTables.{OnPage, page_bytes, Printable, Printables}
use Rattle.bundle_page.proofs.PartsLaws.{chosen}
use Rattle.bundle_page.proofs.Exact.{page_length}

pub zero_fits : OnPage (of_bits binary64 0)
unfolding of_bits
zero_fits = record { count = 0; is = record { is_finite = tt; is = refl }; small = lit< tt }

-- 1/128
pub least_fits : OnPage (of_bits binary64 0x3F80000000000000)
unfolding of_bits
least_fits = record { count = 1; is = record { is_finite = tt; is = refl }; small = lit< tt }

-- 3/2, 9/4, 3
pub half_fits : OnPage (of_bits binary64 0x3FF8000000000000)
unfolding of_bits
half_fits = record { count = 192; is = record { is_finite = tt; is = refl }; small = lit< tt }

pub quarter_fits : OnPage (of_bits binary64 0x4002000000000000)
unfolding of_bits
quarter_fits = record { count = 288; is = record { is_finite = tt; is = refl }; small = lit< tt }

pub three_fits : OnPage (of_bits binary64 0x4008000000000000)
unfolding of_bits
three_fits = record { count = 384; is = record { is_finite = tt; is = refl }; small = lit< tt }

-- 2 ^ 32, and 1/128 more
pub large_fits : OnPage (of_bits binary64 0x41F0000000000000)
unfolding of_bits
large_fits = record { count = 549755813888; is = record { is_finite = tt; is = refl }; small = lit< tt }

pub next_fits : OnPage (of_bits binary64 0x41F0000000002000)
unfolding of_bits
next_fits = record { count = 549755813889; is = record { is_finite = tt; is = refl }; small = lit< tt }

-- 2 ^ 33 - 1/128
pub largest_fits : OnPage (of_bits binary64 0x41FFFFFFFFFFE000)
unfolding of_bits
largest_fits = record { count = 1099511627775; is = record { is_finite = tt; is = refl }; small = lit< tt }

-- ---- an upright collector
pub printed : (b : DrawnBundle) → OnPage b.collector.start.x → OnPage b.collector.start.y → OnPage b.collector.end.y → Printable b
printed b x y z =
    let s = b.collector.start.y in
    let e = b.collector.end.y in
    record { x = x; low = chosen (lt e s) e s z y; high = chosen (lt s e) e s z y }

-- ---- the three rows
pub three_rows : (a b c : DrawnBundle) (rest : List DrawnBundle) → Printable a → Printable b → Printable c → Printables 3 (a ∷ b ∷ c ∷ rest)
three_rows a b c rest p q r zero d h = p
three_rows a b c rest p q r (suc zero) d h = q
three_rows a b c rest p q r (suc (suc zero)) d h = r
three_rows a b c rest p q r (suc (suc (suc i))) d h = absurd (omega arith)

pub three_room : (a b c : DrawnBundle) (r : ℕ) (last : List ℕ) → r ≡ length (page_bytes id_columns (a ∷ b ∷ c ∷ [])) → length last ≡ page_room → r ≤ length last
three_room a b c r last e h = omega (arith, page_length id_columns (a ∷ b ∷ c ∷ []))
