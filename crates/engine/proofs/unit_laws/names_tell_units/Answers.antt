use Rattle.engine.proofs.Names.{name_is_found, name_tells}
use Rattle.engine.proofs.unit_laws.names_tell_units.Goals as goal

pub returns-clause-once : goal.returns-clause-once
returns-clause-once c = λ d j k is ltj ltk same. name_tells d j k is ltj ltk same

pub returns-clause-name : goal.returns-clause-name
returns-clause-name c = λ d k is lt. name_is_found d k is lt
