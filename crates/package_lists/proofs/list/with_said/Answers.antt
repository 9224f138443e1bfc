use Rattle.package_lists.specs.inside.Listed.{entries_in}
use Rattle.package_lists.proofs.Saying.{package_said}
use Rattle.package_lists.proofs.list.with_said.Goals as goal

pub returns-in_ok-earlier-in-Package-clause-some : goal.returns-in_ok-earlier-in-Package-clause-some
returns-in_ok-earlier-in-Package-clause-some c =
    rw (c.new-built.ensures.items, c.in_ok-earlier-in-Package.ensures, c.in-Package.is) (package_said (entries_in c.args.packages) c.in-Package.last)
