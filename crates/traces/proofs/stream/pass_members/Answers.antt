use Rattle.std.proofs.Common.{◌≡◌, ◌-◌, length, None, Some, ◌∙◌, arith, rules, refl}
use Rattle.json.specs.Json.{read_key, value}
use Rattle.json.proofs.Grammar.{read_key-shorter}
use Rattle.serde_json.specs.Data.{no_members, put}
use Rattle.traces.specs.inside.Given.{Fails}
use Rattle.traces.specs.inside.Kept.{members_read, value_read}
use Rattle.traces.proofs.Given.{fails_along}
use Rattle.traces.proofs.Turns.{key_refused, member_read, member_refused, members_over}
use Rattle.traces.proofs.stream.pass_members.Goals as goal

pub members-init : goal.members-init
members-init c = (length c.args.reader.now, omega arith, (no_members, refl), omega arith)

pub returns-in_err-next_key-clause-err : goal.returns-in_err-next_key-clause-err
returns-in_err-next_key-clause-err c =
    let l = c.members in
    let along = λ (none : read_key l.reader ≡ None). l.invariant.2.1 ∙ key_refused (value c.args.depth) l.invariant.2.0 l.invariant.0 l.reader none in
    let h : Fails c.in_err-next_key.field-0.0 (members_read c.args.depth c.args.reader.now) = fails_along c.in_err-next_key.field-0.0 _ _ along c.in_err-next_key.ensures in
    search (rules, h)

pub returns-in_err-pass_value-clause-err : goal.returns-in_err-pass_value-clause-err
returns-in_err-pass_value-clause-err c =
    let l = c.members in
    let s = c.next_key.new.reader in
    let k = c.in-Some.field-0.now in
    let named : read_key l.reader ≡ Some (Some k, s) = grind arith in
    let along = λ (none : value_read c.args.depth s ≡ None). l.invariant.2.1 ∙ member_refused (value c.args.depth) l.invariant.2.0 l.invariant.0 k l.reader s named none in
    let h : Fails c.in_err-pass_value.field-0.0 (members_read c.args.depth c.args.reader.now) = fails_along c.in_err-pass_value.field-0.0 _ _ along c.in_err-pass_value.ensures.err in
    search (rules, h)

pub members-preserved : goal.members-preserved
members-preserved c =
    let p = value c.args.depth in
    let l = c.members in
    let n = l.invariant.0 in
    let s = c.next_key.new.reader in
    let k = c.in-Some.field-0.now in
    let named : read_key l.reader ≡ Some (Some k, s) = grind arith in
    let passed = c.in_ok-pass_value.ensures.ok in
    let r = c.pass_value.new.reader in
    let less = read_key-shorter l.reader (Some k) s named in
    let lesser = passed.shorter in (
      n - 1,
      omega (arith, l.invariant.1),
      (put k passed.datum l.invariant.2.0, l.invariant.2.1 ∙ member_read p l.invariant.2.0 n k l.reader s r passed.datum (omega (arith, l.invariant.1)) named passed.reads),
      omega (arith, l.invariant.3),
    )

pub returns-clause-ok : goal.returns-clause-ok
returns-clause-ok c =
    let l = c.members in
    let r = c.next_key.new.reader in
    let over : read_key l.reader ≡ Some (None, r) = grind arith in
    let less = read_key-shorter l.reader None r over in
    record {
      all = l.invariant.2.0;
      reads = l.invariant.2.1 ∙ members_over (value c.args.depth) l.invariant.2.0 l.invariant.0 l.reader r l.invariant.1 over;
      shorter = omega (arith, l.invariant.3);
    }
