use Rattle.std.proofs.Common.{Err, ap, inl, inr}
use Rattle.node.specs.Step.{taken_by}
use Rattle.lone_node.proofs.Refused.{stops_or_runs}
use Rattle.lone_node.proofs.Room.{not_full}
use Rattle.lone_node.proofs.taking.finish.Goals as goal

pub offer-requires : goal.offer-requires
offer-requires g c = record {
  before = c.args.node.now;
  logged = c.requires.logged;
  asked = c.requires.ready.asked;
  taken = taken_by c.args.node.now.node c.args.ready;
  takes = c.requires.ready.takes;
  state = c.in-Ok.ensures.taken.state;
  sends = c.in-Ok.ensures.taken.tells.sends;
  on_log = c.in-Ok.ensures.on_log;
}

pub returns-in-Err-clause-on_log : goal.returns-in-Err-clause-on_log
returns-in-Err-clause-on_log g c = λ kept on runs.
    elim (c.in-Err.ensures.still_on_log kept on) [
      | inl device ↦ absurd (stops_or_runs c.args.node.now.node c.finish.new.self.node
          (c.in-Err.ensures.stops (ap Err device)) runs)
      | inr still ↦ still.0
    ]

pub returns-in-Ok-clause-room : goal.returns-in-Ok-clause-room
returns-in-Ok-clause-room g c =
    not_full c.args.node.now c.requires.logged c.args.ready c.in-Ok.ensures.within
