-- `job_reader::read_job` meets its contract. Assumes nothing.
use Rattle.std.proofs.Common.{sym, ◌∙◌}
use Rattle.job.proofs.Steps.{head_read}
use Rattle.job_reader.proofs.read_job.Goals as goal

pub returns : goal.returns
returns c =
    let r = c.read_tables.ensures in
    record { is = r.is ∙ sym (head_read c.args.s.now _ _ (sym c.in-Ok.ensures) c.if-length-rest.false _ _ (sym c.in-Ok-byte.ensures) c.if-version-ne1.false _ _ (sym c.in_ok-h.ensures)); fits = r.fits }
