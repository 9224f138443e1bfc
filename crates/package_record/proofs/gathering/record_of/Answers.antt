use Rattle.package_record.proofs.gathering.record_of.Goals as goal

pub returns-clause-record : goal.returns-clause-record
returns-clause-record c = rw (c.in_ok-files.ensures, c.into_vec.ensures, c.in_ok-built.ensures) at c.sized.ensures.record
