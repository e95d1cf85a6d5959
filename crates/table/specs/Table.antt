-- What a contract sees of a table.
use Rattle.std.specs.Prelude.{ℕ, List, length, refl}
use Rattle.std.specs.Coded.{Coded, code_by, coded_list, coded×}

-- its rows, in order; and what stands in the places that no row has, which nobody asks
pub record Table (T : Type 0) : Type 0 where
  pub items : List T
  pub spare : List T

-- a table is stored as its two lists
abbrev pub table_code : {T : Type 0} → Coded T → Coded (Table T)
table_code {T} code =
    code_by (List T × List T) (coded× (coded_list code) (coded_list code)) (λ v. (v.items, v.spare)) (λ p. record { items = p.0; spare = p.1 }) (λ _. refl)

module _ {T : Type 0} where
  -- how many rows it has
  abbrev pub table_len : Table T → ℕ
  table_len v = length v.items
