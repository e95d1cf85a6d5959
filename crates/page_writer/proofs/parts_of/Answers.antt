use Rattle.std.proofs.Common.{◌∙◌}
use Rattle.bundle_page.proofs.PartsLaws.{above_minus_one, below_2_64, truncated}
use Rattle.page_writer.proofs.parts_of.Goals as goal

pub truncating_f64_to_u64-requires : goal.truncating_f64_to_u64-requires
truncating_f64_to_u64-requires c = record { lower_bound = above_minus_one _ c.requires; upper_bound = below_2_64 _ c.requires }

pub returns : goal.returns
returns c = c.truncating_f64_to_u64.ensures ∙ truncated _ c.requires
