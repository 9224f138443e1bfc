use Rattle.std.proofs.Common.{◌≡◌, ℕ, ◌≤◌, ◌<◌, length, map, take, true}
use Rattle.std.specs.List.{slice_index_or}
use Rattle.std.specs.Str.{bytes_eq}
use Rattle.indexmap.specs.IndexMap.{get}
use Rattle.engine.specs.Tree.{path_at}
use Rattle.member.specs.inside.Packages.{have_files, made_at, made_of}
use Rattle.member.proofs.packages.made.Given as goal

abbrev pub invariant-loop-position : goal.invariant-loop-position
invariant-loop-position l = record {
  found : have_files l.tree (get bytes_eq l.initial.files) (take l.position-index l.positions)
      ≡ true;
  made : map made_of l.packages.items
      ≡ map (made_at l.tree (get bytes_eq l.initial.files)) (take l.position-index l.positions);
  left : (k : ℕ) → l.position-index ≤ k → k < length l.positions
      → get bytes_eq l.files (path_at l.tree (slice_index_or l.positions k 0))
      ≡ get bytes_eq l.initial.files (path_at l.tree (slice_index_or l.positions k 0));
}
