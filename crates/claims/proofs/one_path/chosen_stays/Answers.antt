use Rattle.claims.specs.Votes.{Has}
use Rattle.claims.proofs.Synod.{repeats, one_value}
use Rattle.claims.proofs.one_path.chosen_stays.Goals as goal

pub returns-clause-repeats : goal.returns-clause-repeats
returns-clause-repeats g c = λ q qs ps bs vs law b d chosen p le. repeats _ q qs (Has ps) (Has bs) (Has vs) law b chosen d.claim le d.value p

pub returns-clause-one_value : goal.returns-clause-one_value
returns-clause-one_value g c = λ q qs ps bs vs law a b x y. one_value _ q qs (Has ps) (Has bs) (Has vs) law a b x y
