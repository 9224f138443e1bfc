use Rattle.std.proofs.Common.{refl}
use Rattle.simulator.proofs.Restarting.{has_node_there, member_within, place_within, restarts_there}
use Rattle.simulator.proofs.StateWith.{IsBut}
use Rattle.simulator.proofs.world_state.WorldState.restart.Goals as goal
use Rattle.simulator.specs.declared.world_state.WorldState.{WorldState}

pub restarted-requires-clause-member : goal.restarted-requires-clause-member
restarted-requires-clause-member c =
    member_within c.args.self.now c.args.me c.requires.standing c.requires.reached c.requires.may

pub restarted-requires-clause-node : goal.restarted-requires-clause-node
restarted-requires-clause-node c =
    has_node_there c.args.self.now c.args.me c.requires.standing c.requires.reached c.requires.may
    c.index.result.now c.index.ensures

pub put-requires : goal.put-requires
put-requires c =
    place_within c.args.self.now c.args.me c.requires.standing c.requires.reached c.requires.may

pub returns-in-Ok-clause-does : goal.returns-in-Ok-clause-does
returns-in-Ok-clause-does c =
    let s = c.args.self.now in
    let n = c.in-Ok.node in
    let t : WorldState = record s { nodes = c.put.new.nodes } in
    let but : IsBut s t = record { tree = refl; units = refl; weights = refl; tables = refl } in
    record {
      restarts = (restarts_there s c.args.me c.requires.standing c.requires.reached c.requires.may
          c.index.result.now c.index.ensures n c.in-Ok.ensures t but c.put.ensures).0;
      is_done = c.nothing.ensures;
    }

pub returns-in-Ok-clause-standing : goal.returns-in-Ok-clause-standing
returns-in-Ok-clause-standing c =
    let s = c.args.self.now in
    let n = c.in-Ok.node in
    let t : WorldState = record s { nodes = c.put.new.nodes } in
    let but : IsBut s t = record { tree = refl; units = refl; weights = refl; tables = refl } in
    (restarts_there s c.args.me c.requires.standing c.requires.reached c.requires.may
    c.index.result.now c.index.ensures n c.in-Ok.ensures t but c.put.ensures).1
