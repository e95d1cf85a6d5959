-- `plan_writer::put_entry` meets its contract. Assumes nothing.
use mathlib.Core.Path.{refl}
use Rattle.plan_writer.proofs.Written as laws
use Rattle.plan_writer.proofs.put_entry.Goals as goal

pub returns-in-None : goal.returns-in-None
returns-in-None c = let parts = laws.none_put _ _ _ _ _ c.in-None.is c.put8.ensures refl in record { bytes = parts.0; place = parts.1 }

pub returns-in-At : goal.returns-in-At
returns-in-At c = let parts = laws.at_put _ _ _ _ _ _ _ c.in-At.is c.put8-in-At.ensures c.put_number.ensures refl in record { bytes = parts.0; place = parts.1 }
