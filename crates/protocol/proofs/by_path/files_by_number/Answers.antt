use Rattle.std.proofs.Common.{◌≡◌, ◌∙◌, List, None, Some, length, rules, subst}
use Rattle.std.specs.Str.{bytes_eq}
use Rattle.faults.specs.Bytes.{Text}
use Rattle.package_record.specs.Content.{NamedFile}
use Rattle.indexmap.specs.IndexMap.{get}
use Rattle.protocol.specs.inside.First.{IsFirst}
use Rattle.protocol.proofs.FirstFiles.{first_has, none_has}
use Rattle.protocol.proofs.by_path.files_by_number.Goals as goal

pub files_at-requires : goal.files_at-requires
files_at-requires c =
    let builds = c.args.builds.now in
    let path = c.args.path.now in
    let some : get bytes_eq c.args.numbers.now path ≡ Some c.in-Some.number.now = search rules in
    (subst (IsFirst builds path (length builds)) some c.requires).0

pub returns-in-Some : goal.returns-in-Some
returns-in-Some c =
    let builds = c.args.builds.now in
    let path = c.args.path.now in
    let some : get bytes_eq c.args.numbers.now path ≡ Some c.in-Some.number.now = search rules in
    let first = subst (IsFirst builds path (length builds)) some c.requires in
    let d : Text × List NamedFile = (path, c.files_at.result.now) in
    let has = first_has builds path c.in-Some.number.now d first.0 first.1 (first.2 d) in
    (has.0, c.files_at.ensures d ∙ has.1)

pub returns-in-None : goal.returns-in-None
returns-in-None c =
    let builds = c.args.builds.now in
    let path = c.args.path.now in
    let none : get bytes_eq c.args.numbers.now path ≡ None = search rules in
    none_has builds path (subst (IsFirst builds path (length builds)) none c.requires)
