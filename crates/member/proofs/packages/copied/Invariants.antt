use Rattle.std.proofs.Common.{◌≡◌, map, take}
use Rattle.member.proofs.packages.copied.Given as goal

abbrev pub invariant-loop-path : goal.invariant-loop-path
invariant-loop-path l = l.copies.items ≡ map (λ path. path.now) (take l.path-index l.paths)
