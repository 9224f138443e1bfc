use Rattle.std.proofs.Common.{◌≡◌, ◌∙◌, ◌∷◌, [], List, None, Some, Option, true, false, is_some, sym, ap, arith, rules}
use Rattle.json.specs.Reads.{Yields, token_of}
use Rattle.json.specs.Token.{Token, begin_object}
use Rattle.json.specs.declared.token.Token.{Token as TokenRead}
use Rattle.serde_json.specs.Data.{object}
use Rattle.serde_json.proofs.Views.{view-Object}
use Rattle.traces.specs.inside.Given.{Fails}
use Rattle.traces.specs.inside.Kept.{members_read, outer_of, whole_read}
use Rattle.traces.proofs.Given.{fails_along}
use Rattle.traces.proofs.Objects.{no_object, object_and_more, object_last, object_refused}
use Rattle.traces.proofs.stream.last_object.Goals as goal

some_left : (o : Option TokenRead) (ts r : List Token) → is_some o ≡ true → Yields ts o r → (t : Token) × (s : List Token) × (ts ≡ t ∷ s)
some_left None ts r some yields = absurd (cc)
some_left (Some t) ts r some yields = (token_of t, r, yields)

none_left : (o : Option TokenRead) (ts r : List Token) → is_some o ≡ false → Yields ts o r → ts ≡ []
none_left None ts r none yields = yields.0
none_left (Some t) ts r none yields = absurd (cc)

pub returns-then-not-opens_object-clause-err : goal.returns-then-not-opens_object-clause-err
returns-then-not-opens_object-clause-err c = no_object c.args.reader.now (grind arith)

pub returns-in_err-members-clause-err : goal.returns-in_err-members-clause-err
returns-in_err-members-clause-err c =
    let r = c.opens_object.new.reader in
    let is : c.args.reader.now ≡ begin_object ∷ r = grind arith in
    let along = λ (none : members_read 126 r ≡ None). ap outer_of (object_refused c.args.reader.now r is none) in
    let h : Fails c.in_err-members.field-0.0 (outer_of (whole_read c.args.reader.now)) = fails_along c.in_err-members.field-0.0 _ _ along c.in_err-members.ensures.err in
    search (rules, h)

pub returns-then-is_some-clause-err : goal.returns-then-is_some-clause-err
returns-then-is_some-clause-err c =
    let r = c.opens_object.new.reader in
    let is : c.args.reader.now ≡ begin_object ∷ r = grind arith in
    let keeps = c.in_ok-members.ensures.ok in
    let more = some_left c.next.result c.members.new.reader c.next.new.self (sym c.is_some.ensures ∙ c.if-is_some.true) c.next.ensures.value in
    ap outer_of (object_and_more c.args.reader.now r more.1 keeps.all more.0 is (keeps.reads ∙ ap (λ s. Some (keeps.all, s)) more.2))

pub returns-clause-ok : goal.returns-clause-ok
returns-clause-ok c =
    let r = c.opens_object.new.reader in
    let is : c.args.reader.now ≡ begin_object ∷ r = grind arith in
    let keeps = c.in_ok-members.ensures.ok in
    let last = none_left c.next.result c.members.new.reader c.next.new.self (sym c.is_some.ensures ∙ c.if-is_some.false) c.next.ensures.value in
    record {
      all = keeps.all;
      reads = object_last c.args.reader.now r keeps.all is (keeps.reads ∙ ap (λ s. Some (keeps.all, s)) last);
      kept_is = view-Object c.in_ok-members.members ∙ ap object keeps.kept_is;
      lists = keeps.lists;
    }
