use Rattle.std.proofs.Common.{◌≡◌, ◌∙◌, [], Some, ap, append-nil, sym}
use Rattle.std.specs.Option.{option_copied}
use Rattle.world.specs.Headline.{holds}
use Rattle.check_worlds.proofs.Knowing.{node_up}
use Rattle.check_worlds.proofs.nodes.both.Goals as goal

pub returns : goal.returns
returns c =
    let w = c.args.world.now.world in
    let one = node_up _ c.requires.one in
    let other = node_up _ c.requires.other in
    let path = c.args.path.now in
    let a : holds w c.args.j one.0 path ≡ Some c.in_ok-one.one.now =
    sym (c.held.ensures one.0 one.1) ∙ ap option_copied c.in_ok-one.was in
    let b : holds w c.args.k other.0 path ≡ Some c.in_ok-other.other.now =
    sym (c.held-2.ensures other.0 other.1) ∙ ap option_copied c.in_ok-other.was in
    c.nodes_hold_alike.ensures w w c.agreed-list.ensures.held c.agreed-list.ensures.held
    ([], sym (append-nil w.agreed)) c.agreed-list.ensures.one_a_path
    c.args.j c.args.k one.0 other.0 path c.in_ok-one.one.now c.in_ok-other.other.now one.1 other.1 a b
