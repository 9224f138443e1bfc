use Rattle.std.proofs.Common.{◌++◌, subst, sym}
use Rattle.claims.specs.World.{World, run, start}
use Rattle.claims.specs.Agreed.{IsAgreed, IsBuilt}
use Rattle.claims.proofs.Agreed.{repeats_agreed, lawful, agree, agreed_later, run_append, sound, value_is_agreed, stays_agreed, held_is_agreed, agreed_is_built}
use Rattle.claims.proofs.one_path.agrees_on_one_value.Goals as goal

pub returns-clause-lawful : goal.returns-clause-lawful
returns-clause-lawful g c = λ enough q events. lawful _ enough q _ (run enough events start) (sound _ enough q events)

pub returns-clause-repeats : goal.returns-clause-repeats
returns-clause-repeats g c = λ enough q events b d a p le. repeats_agreed _ enough q (IsBuilt enough start events) (run enough events start) (sound _ enough q events) b d a p le

pub returns-clause-one_value : goal.returns-clause-one_value
returns-clause-one_value g c = λ enough q early late a b x y.
    agree _ enough q _ (run enough (early ++ late) start) (sound _ enough q (early ++ late)) a b
    (let P : World _ → Type 0 = λ w. IsAgreed enough w a in subst P (sym (run_append enough early late start)) (agreed_later _ enough q (IsBuilt enough start early) (run enough early start) late a x))
    y

pub returns-clause-value : goal.returns-clause-value
returns-clause-value g c = λ enough q events. value_is_agreed _ enough q events

pub returns-clause-stays : goal.returns-clause-stays
returns-clause-stays g c = λ enough early late v e. stays_agreed enough early late v e

pub returns-clause-held : goal.returns-clause-held
returns-clause-held g c = λ enough q events i v e. held_is_agreed _ enough q events i v e

pub returns-clause-built : goal.returns-clause-built
returns-clause-built g c = λ enough q events v e. agreed_is_built _ enough q events v e
