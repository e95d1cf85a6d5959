-- `sheet_replay::draw` is safe and ends. Assumes nothing.
use mathlib.Core.Path.{◌≡◌, refl, ◌∙◌}
use Prim.Native.Nat.{◌*◌, ◌≤◌}
use native.Mathlib.Omega.{arith}
use lib.ListN.{length}
use lib.Seq.{length-take-le}
use Rattle.limits.specs.Limits.{slot_numbers, all_slot_numbers}
use Rattle.draw_job.proofs.Phases as laws
use Rattle.sheet_replay.proofs.draw.Goals as goal

pub draw_in-requires : goal.draw_in-requires
draw_in-requires c =
    let fits = c.requires.came.fits in
    let h = fits.edges in
    let e = c.len.ensures.value in
    let slots : slot_numbers * length c.args.j.now.edges.items ≤ all_slot_numbers = omega (arith, h) in
    record {
      came = c.requires.came;
      lent = record {
        counts_long = length-take-le _ _ (omega (arith, e, h)) ∙ e;
        room = laws.room_for _ _ _ _ _ _ fits.members fits.edges refl slots (length-take-le _ _ (omega (arith, e, h)) ∙ e) (omega arith);
        spare = omega arith;
      };
    }
