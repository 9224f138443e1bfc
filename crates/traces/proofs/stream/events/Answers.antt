use Rattle.std.proofs.Common.{◌≡◌, ◌∙◌, ◌∷◌, None, ap, arith, rules}
use Rattle.json.specs.Json.{parse_map, value}
use Rattle.json.specs.Token.{begin_array}
use Rattle.json.proofs.Grammar.{value_is}
use Rattle.serde_json.specs.Data.{array}
use Rattle.serde_json.specs.Read.{converted, of_json}
use Rattle.serde_json.specs.View.{items_view}
use Rattle.serde_json.proofs.Views.{view-Array}
use Rattle.traces.specs.inside.Given.{Fails}
use Rattle.traces.specs.inside.Kept.{items_read, value_read}
use Rattle.traces.proofs.Given.{fails_along}
use Rattle.traces.proofs.Objects.{array_first}
use Rattle.traces.proofs.stream.events.Goals as goal

pub returns-in_err-listed-in-Some-BeginArray-clause-err : goal.returns-in_err-listed-in-Some-BeginArray-clause-err
returns-in_err-listed-in-Some-BeginArray-clause-err c =
    let ts = c.next.new.self in
    let first : c.args.reader.now ≡ begin_array ∷ ts = grind arith in
    let e = c.in_err-listed-in-Some-BeginArray.field-0.0 in
    let along = λ (none : items_read 125 ts ≡ None). ap (value_read 126) first ∙ array_first ts ∙ ap (parse_map array) none in
    let h : Fails c.in_err-listed-in-Some-BeginArray.field-0.0 (value_read 126 c.args.reader.now) = fails_along e _ _ along c.in_err-listed-in-Some-BeginArray.ensures.err in
    search (rules, h)

pub returns-in_ok-listed-in-Some-BeginArray-clause-ok : goal.returns-in_ok-listed-in-Some-BeginArray-clause-ok
returns-in_ok-listed-in-Some-BeginArray-clause-ok c =
    let ts = c.next.new.self in
    let first : c.args.reader.now ≡ begin_array ∷ ts = grind arith in
    let lists = c.in_ok-listed-in-Some-BeginArray.ensures.ok in
    let shorter = lists.shorter in
    record {
      datum = array lists.all;
      reads = ap (value_read 126) first ∙ array_first ts ∙ ap (parse_map array) lists.reads;
      shorter = rw first (omega (arith, shorter));
      kept_is = view-Array c.new.result ∙ ap (λ vs. array (items_view vs)) c.new.ensures.items;
      lists = lists.lists;
    }

pub returns-in-None-clause-err : goal.returns-in-None-clause-err
returns-in-None-clause-err c = ap (converted of_json) (ap (value 126) c.in-None.ensures.value.0 ∙ value_is 126 _)
