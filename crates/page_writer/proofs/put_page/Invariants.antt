use Rattle.std.proofs.Common.{◌≡◌, ◌+◌, length, drop}
use lib.Seq.{sets}
use Rattle.limits.specs.Limits.{id_columns}
use Rattle.bundle_page.specs.PageTables.{page_bytes}
use Rattle.page_writer.proofs.put_page.Given as goal

abbrev pub invariant-loop-b : goal.invariant-loop-b
invariant-loop-b l = record {
  place : l.at + length (page_bytes id_columns (drop l.b-index l.drawn)) ≡ length (page_bytes id_columns l.drawn);
  bytes : sets l.out l.at (page_bytes id_columns (drop l.b-index l.drawn)) ≡ sets l.initial.out 0 (page_bytes id_columns l.drawn);
}
