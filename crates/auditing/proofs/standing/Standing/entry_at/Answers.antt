use Rattle.std.proofs.Common.{rules, ◌<◌, ◌∙◌, length}
use Rattle.listing.specs.Tree.{path_at}
use Rattle.auditing.specs.inside.Standing.{has_path}
use Rattle.auditing.proofs.Places.{kept_here, new_if_nowhere, only_one_at}
use Rattle.engine.proofs.Places.{within_place}
use Rattle.auditing.proofs.standing.Standing.entry_at.Goals as goal

pub returns-in_err-place : goal.returns-in_err-place
returns-in_err-place c =
    let s = c.args.self.now in
    let at = kept_here s c.args.earlier.now c.args.position c.index.result.now c.requires.read c.requires.listed c.index.ensures in
    let new = new_if_nowhere c.args.earlier.now (path_at s.tree.now c.args.position) (at ∙ c.in_err-place.was) in
    rw c.from_residual.ensures new

pub offset_bounds-earlier-place : goal.offset_bounds-earlier-place
offset_bounds-earlier-place c =
    let s = c.args.self.now in
    let path = path_at s.tree.now c.args.position in
    let at = kept_here s c.args.earlier.now c.args.position c.index.result.now c.requires.read c.requires.listed c.index.ensures in
    let within : c.in_ok-place.place < length c.args.earlier.now = within_place (has_path path) c.args.earlier.now c.in_ok-place.place (at ∙ c.in_ok-place.was) in
    search rules

pub returns : goal.returns
returns c =
    let s = c.args.self.now in
    let at = kept_here s c.args.earlier.now c.args.position c.index.result.now c.requires.read c.requires.listed c.index.ensures in
    only_one_at s.tree.now c.args.earlier.now (path_at s.tree.now c.args.position) c.in_ok-place.place c.index-earlier-place.result c.requires.read.allowed
    (at ∙ c.in_ok-place.was) c.index-earlier-place.is
