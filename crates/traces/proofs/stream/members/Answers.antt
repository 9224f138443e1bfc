use Rattle.std.proofs.Common.{◌≡◌, ◌-◌, length, None, Some, sym, ap, ◌∙◌, arith, rules, refl}
use Rattle.json.specs.Json.{read_key, value}
use Rattle.json.proofs.Grammar.{read_key-shorter}
use Rattle.serde_json.specs.Data.{no_members, put}
use Rattle.serde_json.specs.View.{members_view}
use Rattle.traces.specs.inside.Given.{Fails}
use Rattle.traces.specs.inside.Kept.{members_read, value_read}
use Rattle.traces.proofs.Given.{fails_along}
use Rattle.traces.proofs.Keeping.{kept_put}
use Rattle.traces.proofs.Turns.{key_refused, member_read, member_refused, members_over}
use Rattle.traces.proofs.stream.members.Goals as goal

pub members-init : goal.members-init
members-init c = (length c.args.reader.now, omega arith, (no_members, refl, ap members_view c.new-members.ensures.empty, tt), omega arith)

pub returns-in_err-name-clause-err : goal.returns-in_err-name-clause-err
returns-in_err-name-clause-err c =
    let l = c.members in
    let along = λ (none : read_key l.reader ≡ None). l.invariant.2.1 ∙ key_refused (value 126) l.invariant.2.0 l.invariant.0 l.reader none in
    let h : Fails c.in_err-name.field-0.0 (members_read 126 c.args.reader.now) = fails_along c.in_err-name.field-0.0 _ _ along c.in_err-name.ensures in
    search (rules, h)

pub returns-in_err-value-clause-err : goal.returns-in_err-value-clause-err
returns-in_err-value-clause-err c =
    let l = c.members in
    let s = c.next_key.new.reader in
    let k = c.in-Some.name.now in
    let named : read_key l.reader ≡ Some (Some k, s) = grind arith in
    let along = λ (none : value_read 126 s ≡ None). l.invariant.2.1 ∙ member_refused (value 126) l.invariant.2.0 l.invariant.0 k l.reader s named none in
    let h : Fails c.in_err-value.field-0.0 (members_read 126 c.args.reader.now) = fails_along c.in_err-value.field-0.0 _ _ along c.in_err-value.ensures.err in
    search (rules, h)

pub members-preserved : goal.members-preserved
members-preserved c =
    let p = value 126 in
    let l = c.members in
    let n = l.invariant.0 in
    let all = l.invariant.2.0 in
    let s = c.next_key.new.reader in
    let k = c.in-Some.name.now in
    let named : read_key l.reader ≡ Some (Some k, s) = grind arith in
    let keeps = c.in_ok-value.ensures.ok in
    let v = c.in_ok-value.value in
    let r = c.member.new.reader in
    let less = read_key-shorter l.reader (Some k) s named in
    let lesser = keeps.shorter in
    let same = c.in_ok-put.ensures.ok ∙ (λ i. put k (keeps.kept_is i) (l.invariant.2.2 i)) ∙ sym (kept_put k keeps.datum all) in (
      n - 1,
      omega (arith, l.invariant.1),
      (put k keeps.datum all, l.invariant.2.1 ∙ member_read p all n k l.reader s r keeps.datum (omega (arith, l.invariant.1)) named keeps.reads, same, keeps.lists all l.invariant.2.3),
      omega (arith, l.invariant.3),
    )

pub returns-clause-ok : goal.returns-clause-ok
returns-clause-ok c =
    let l = c.members in
    let r = c.next_key.new.reader in
    let over : read_key l.reader ≡ Some (None, r) = grind arith in
    let less = read_key-shorter l.reader None r over in
    record {
      all = l.invariant.2.0;
      reads = l.invariant.2.1 ∙ members_over (value 126) l.invariant.2.0 l.invariant.0 l.reader r l.invariant.1 over;
      shorter = omega (arith, l.invariant.3);
      kept_is = l.invariant.2.2;
      lists = l.invariant.2.3;
    }
