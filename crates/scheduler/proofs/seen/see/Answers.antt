use Rattle.std.proofs.Common.{◌≡◌, Some, sym}
use Rattle.std.specs.Prelude.{nat_eq}
use Rattle.engine.specs.Division.{number_of}
use Rattle.indexmap.specs.IndexMap.{get}
use Rattle.scheduler.specs.Waiting.{IsSeen, SeenBy}
use Rattle.scheduler.specs.declared.seen.Seen.{Seen}
use Rattle.scheduler.proofs.SeenUnits.{all_seen, all_since, one_seen}
use Rattle.scheduler.proofs.seen.see.Goals as goal

pub returns-clause-since : goal.returns-clause-since
returns-clause-since c =
    let s = c.args.member.now in
    let before : SeenBy = get nat_eq c.args.before.now in
    let a : Seen = record { promised = c.promised-promised.result; since = c.since_of-since.result } in
    let is : IsSeen s before c.args.now c.in-Some.unit a =
    (sym c.promised-promised.ensures, c.since_of-since.ensures) in
    all_since s before c.args.now (get nat_eq c.args.seen.now) c.in-Some.unit a
    (get nat_eq c.keep.new.all) c.in_ok-keep.ensures is

pub returns-clause-more : goal.returns-clause-more
returns-clause-more c =
    let a : Seen = record { promised = c.promised-promised.result; since = c.since_of-since.result } in
    all_seen c.args.member.now (get nat_eq c.args.before.now) c.args.now
    (get nat_eq c.args.seen.now) c.in-Some.unit a (get nat_eq c.keep.new.all) c.in_ok-keep.ensures

pub returns-clause-noticed : goal.returns-clause-noticed
returns-clause-noticed c =
    let a : Seen = record { promised = c.promised-promised.result; since = c.since_of-since.result } in
    let here : number_of c.args.member.now.division c.args.position ≡ Some c.in-Some.unit = cc in
    one_seen c.args.member.now (get nat_eq c.args.before.now) c.args.now
    (get nat_eq c.args.seen.now) c.in-Some.unit a (get nat_eq c.keep.new.all)
    c.in_ok-keep.ensures (number_of c.args.member.now.division c.args.position) here
