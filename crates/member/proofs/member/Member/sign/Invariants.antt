use Rattle.std.proofs.Common.{◌≡◌, map, option_map, take}
use Rattle.std.specs.Prelude.{filter_map}
use Rattle.protocol.specs.Jobs.{signature}
use Rattle.protocol.specs.State.{held_record}
use Rattle.member.proofs.member.Member.sign.Given as goal

abbrev pub invariant-loop-path : goal.invariant-loop-path
invariant-loop-path l =
    l.deps.items
    ≡ filter_map (λ path. option_map signature (held_record l.self path))
    (map (λ path. path.now) (take l.path-index l.paths))
