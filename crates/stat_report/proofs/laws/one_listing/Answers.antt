use Rattle.stat_report.proofs.Unique.{same_listing}
use Rattle.stat_report.proofs.laws.one_listing.Goals as goal

pub returns : goal.returns
returns c = same_listing
