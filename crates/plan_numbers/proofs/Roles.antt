-- The derived equality of roles is the definitions' test. Assumes nothing.
use Rattle.std.proofs.Common.{◌≡◌, refl}
use denote.Enum.Bare.{sameb}
use Rattle.geometry.specs.contracts.Role.{the_type}
use Rattle.geometry.specs.declared.Role.{Role}
use Rattle.geometry.specs.declared.Role.TheVariants.{Input, Output}
use Rattle.plan.specs.Depths.{same_role}

pub equal : (a b : Role) → sameb the_type a b ≡ same_role a b
equal Input Input = refl
equal Input Output = refl
equal Output Input = refl
equal Output Output = refl
