use Rattle.auditing.proofs.Fitting.{fits_if_may_follow, may_follow_if_fits}
use Rattle.auditing.proofs.laws.packages_that_fit.Goals as goal

pub returns-clause-may_follow : goal.returns-clause-may_follow
returns-clause-may_follow c = may_follow_if_fits

pub returns-clause-fit : goal.returns-clause-fit
returns-clause-fit c = fits_if_may_follow
