use Rattle.one_list.proofs.builds.HeldPackages.{held_is_listed}
use Rattle.one_list.proofs.matching.LawfulMatch.{later_repeats, one_proposal, promises_bound, votes_noted}
use Rattle.one_list.proofs.theorem.matched_worlds_are_safe.Goals as goal
use Rattle.package_record.proofs.BuildsRead.{build_is_read}

pub returns-clause-votes : goal.returns-clause-votes
returns-clause-votes c = λ division weights acts w made of m. (
  one_proposal division weights acts w made of m build_is_read,
  promises_bound division weights acts w made of m build_is_read,
  later_repeats division weights acts w made of m build_is_read,
)

pub returns-clause-noted : goal.returns-clause-noted
returns-clause-noted c = λ division weights acts w made of local m. votes_noted division weights acts
    w made of m build_is_read local

pub returns-clause-held : goal.returns-clause-held
returns-clause-held c = λ division weights acts w made of local m. held_is_listed division weights
    acts w made of m local
