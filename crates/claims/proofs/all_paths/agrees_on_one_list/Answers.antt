use Rattle.std.proofs.Common.{◌++◌, ◌≡◌, List, subst, sym}
use Rattle.claims.specs.AgreedList.{Cluster, Entry, after_acts, beginning, lookup}
use Rattle.claims.proofs.Agreed.{is_agreed, lawful, repeats_agreed}
use Rattle.claims.proofs.AgreedList.{all_restored, ordered, held_listed, listed_fine, after_acts-append, after_acts_longer}
use Rattle.claims.proofs.all_paths.agrees_on_one_list.Goals as goal

pub returns-clause-grows : goal.returns-clause-grows
returns-clause-grows g c = λ enough may early late.
    let P : Cluster _ → Type 0 = λ d. (more : List (Entry _)) × (d.list ≡ more ++ (after_acts enough may early beginning).list) in
    subst P (sym (after_acts-append enough may early late beginning)) (after_acts_longer enough may late (after_acts enough may early beginning))

pub returns-clause-allowed : goal.returns-clause-allowed
returns-clause-allowed g c = λ enough may q m events. (ordered _ enough q may m events).allowed

pub returns-clause-held : goal.returns-clause-held
returns-clause-held g c = λ enough may q m events i p v e. held_listed _ enough q may m _ (after_acts enough may events beginning) (ordered _ enough q may m events) i p v e

pub returns-clause-value : goal.returns-clause-value
returns-clause-value g c = λ enough may q m events p. (ordered _ enough q may m events).values p

pub returns-clause-built : goal.returns-clause-built
returns-clause-built g c = λ enough may q m events p v e. listed_fine _ enough q may m _ (after_acts enough may events beginning) (ordered _ enough q may m events) p v e

pub returns-clause-proposed : goal.returns-clause-proposed
returns-clause-proposed g c = λ enough may q m acts p b h. (((ordered _ enough q may m acts).sound p).said _ h).2.1

pub returns-clause-told : goal.returns-clause-told
returns-clause-told g c = λ enough may q m acts p v h. let o = ordered _ enough q may m acts in is_agreed enough ((after_acts enough may acts beginning).at p) v (lookup (after_acts enough may acts beginning).list p) ((o.sound p).said _ h) (o.values p)

pub returns-clause-repeats : goal.returns-clause-repeats
returns-clause-repeats g c = λ enough may q m acts p b d a h le. repeats_agreed _ enough q _ ((after_acts enough may acts beginning).at p) ((ordered _ enough q may m acts).sound p) b d a h le

pub returns-clause-lawful : goal.returns-clause-lawful
returns-clause-lawful g c = λ enough may q m acts p. lawful _ enough q _ ((after_acts enough may acts beginning).at p) ((ordered _ enough q may m acts).sound p)

pub returns-clause-restored : goal.returns-clause-restored
returns-clause-restored g c = λ enough may acts p i. (all_restored enough may acts p i).facts
