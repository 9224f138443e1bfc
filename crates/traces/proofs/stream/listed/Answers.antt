use Rattle.std.proofs.Common.{◌≡◌, ◌-◌, ◌<◌, length, None, Some, ap, ◌∙◌, arith, rules}
use Rattle.json.specs.Json.{after_end_array, parse_map, value}
use Rattle.json.proofs.Grammar.{after_end_array-shorter}
use Rattle.traces.specs.Trace.{events_from}
use Rattle.traces.specs.inside.Given.{Fails}
use Rattle.traces.specs.inside.Kept.{items_read, value_read}
use Rattle.traces.specs.inside.Listing.{answer_behind}
use Rattle.traces.proofs.EventLists.{listing_more, listing_over, none_under, read_under}
use Rattle.traces.proofs.Given.{fails_along}
use Rattle.traces.proofs.Turns.{item_refused}
use Rattle.traces.proofs.stream.listed.Goals as goal

pub returns-in_err-listed-clause-err : goal.returns-in_err-listed-clause-err
returns-in_err-listed-clause-err c =
    let p = value c.args.depth in
    let l = c.items in
    let n = l.invariant.0 in
    let going : (after_end_array l.reader ≡ None) × (c.take_end_array.new.self ≡ l.reader) = grind arith in
    let along = λ (none : value_read c.args.depth c.take_end_array.new.self ≡ None).
    none_under (events_from 0) _ (l.invariant.2 ∙ ap (parse_map (answer_behind l.listed)) (item_refused p n l.reader going.0 (rw (← going.1) none))) in
    let h : Fails c.in_err-listed.field-0.0 (items_read c.args.depth c.args.reader.now) = fails_along c.in_err-listed.field-0.0 _ _ along c.in_err-listed.ensures.err in
    search (rules, h)

pub items-preserved : goal.items-preserved
items-preserved c =
    let p = value c.args.depth in
    let l = c.items in
    let n = l.invariant.0 in
    let going : (after_end_array l.reader ≡ None) × (c.take_end_array.new.self ≡ l.reader) = grind arith in
    let more = c.in_ok-listed.ensures.ok in
    let r = c.next_listed.new.reader in
    let less : length r < length l.reader = rw (← going.1) more.shorter in (
      n - 1,
      omega (arith, l.invariant.1),
      listing_more p (parse_map (events_from 0) (items_read c.args.depth c.args.reader.now)) n l.reader r more.datum l.listed c.in_ok-listed.listed (omega (arith, l.invariant.1)) going.0 (rw (← going.1) more.reads) more.lists l.invariant.2,
      omega (arith, l.invariant.3),
    )

pub returns-clause-ok : goal.returns-clause-ok
returns-clause-ok c =
    let l = c.items in
    let r = c.take_end_array.new.self in
    let closes : after_end_array l.reader ≡ Some r = grind arith in
    let less = after_end_array-shorter l.reader r closes in
    let over = listing_over (value c.args.depth) (parse_map (events_from 0) (items_read c.args.depth c.args.reader.now)) l.invariant.0 l.reader r l.listed l.invariant.1 closes l.invariant.2 in
    let all = read_under (events_from 0) (items_read c.args.depth c.args.reader.now) _ r over in
    record { all = all.0; reads = all.1; shorter = omega (arith, l.invariant.3); lists = all.2 }
