use Rattle.stat_report.proofs.Fitting.{can_be_listed}
use Rattle.stat_report.proofs.laws.images_that_fit.Goals as goal

pub returns : goal.returns
returns c = can_be_listed
