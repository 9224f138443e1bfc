use Rattle.std.proofs.Common.{◌≡◌, ◌<◌, ◌∙◌, ◌⊎◌, List, ℕ}
use Rattle.std.proofs.Common.{Bool, true, false, ap, arith, length, map}
use Rattle.std.proofs.Common.{subst, sym}
use Rattle.std.specs.Prelude.{MatchResult}
use Rattle.std.specs.Str.{bytes_eq}
use Rattle.claims.specs.Deps.{is_ascending}
use Rattle.indexmap.specs.IndexMap.{get}
use Rattle.engine.specs.Tree.{Tree, path_at}
use Rattle.engine.specs.Division.{unit_at}
use Rattle.protocol.specs.State.{State}
use Rattle.protocol.specs.declared.refusal.Refusal.TheVariants.{Memory, OtherPackages}
use Rattle.member.specs.inside.Packages.{FilesByPath, files_at, have_files, made_at, made_of}
use Rattle.member.proofs.GivenFiles.{given_for_just}
use Rattle.protocol.proofs.PackageOrder.{paths_ascend}
use Rattle.member.proofs.member.Member.packages_of.Goals as goal

pub made-requires-clause-order : goal.made-requires-clause-order
made-requires-clause-order c =
    let m = c.self.inside in
    let division = c.self.invariant.member.division in
    let within : c.args.unit < length m.units.units =
    subst (λ (s : State). c.args.unit < length s.division.units) (sym c.self.view_is) c.requires in
    (λ i. is_ascending
    (map (path_at (c.self.invariant.tree i)) (c.packages-positions.ensures.value i)))
    ∙ paths_ascend m.units c.args.unit division within

pub returns-clause-made : goal.returns-clause-made
returns-clause-made c =
    let s = c.args.self.now in
    let u = c.args.unit in
    let given = c.args.packages in
    let tree : c.self.inside.tree.now ≡ s.division.tree =
    c.self.invariant.tree ∙ ap (λ (x : State). x.division.tree) c.self.view_is in
    let positions : c.packages-positions.result.now ≡ (unit_at s.division u).packages =
    c.packages-positions.ensures.value
    ∙ ap (λ (x : State). (unit_at x.division u).packages) c.self.view_is in
    let files : get bytes_eq c.in_ok-files.files ≡ files_at given =
    λ i path. c.in_ok-files.ensures path i in
    let many : length given ≡ length (unit_at s.division u).packages =
    omega (arith, c.if-as_slice-positions.false, ap length c.as_slice.ensures, ap length positions)
    in
    let tested = (λ i. have_files (tree i) (files i) (positions i))
    ∙ sym (given_for_just s.division.tree given (unit_at s.division u).packages many) in
    subst (λ (x : Tree × FilesByPath × List ℕ × Bool). MatchResult c.made.result
    (λ made. (x.3 ≡ true) × (map made_of made.items ≡ map (made_at x.0 x.1) x.2))
    (λ e. (e ≡ Memory) ⊎ ((e ≡ OtherPackages) × (x.3 ≡ false))))
    (λ i. (tree i, files i, positions i, tested i)) c.made.ensures
