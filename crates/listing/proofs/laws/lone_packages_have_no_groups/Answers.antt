use Rattle.listing.proofs.GroupLines.{lone_packages}
use Rattle.listing.proofs.laws.lone_packages_have_no_groups.Goals as goal

pub returns : goal.returns
returns c = lone_packages
