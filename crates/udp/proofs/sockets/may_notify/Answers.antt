use Rattle.std.proofs.Common.{◌≡◌, ◌∙◌, ◌<◌, ◌≤◌, Some, arith, length, refl, rules, slice_get, true, false, sym}
use Rattle.std.proofs.lemmas.Option.{slice_get_read, slice_get_within}
use Rattle.udp.proofs.sockets.may_notify.Goals as goal

pub returns-then-has_seat-clause-no : goal.returns-then-has_seat-clause-no
returns-then-has_seat-clause-no c = λ no may.
    let seat = c.has_seat.ensures.some c.if-has_seat.true in
    may.elsewhere seat.0 seat.1

pub returns-then-sieve-clause-yes : goal.returns-then-sieve-clause-yes
returns-then-sieve-clause-yes c = λ yes. record {
  elsewhere = c.has_seat.ensures.none c.if-has_seat.false;
  address = c.in-Some.address.now;
  member = slice_get_read c.args.sieve.members.now (length c.args.sieve.members.now) c.args.notice.member c.in-Some.address.now refl
      c.in-Some.ensures.lookup.3.0 c.in-Some.ensures.lookup.1;
  known = λ closed. absurd (let bad : true ≡ false = sym c.if-sieve.true ∙ closed in cc);
}

pub returns-else-sieve-clause-yes : goal.returns-else-sieve-clause-yes
returns-else-sieve-clause-yes c = λ yes. record {
  elsewhere = c.has_seat.ensures.none c.if-has_seat.false;
  address = c.in-Some.address.now;
  member = slice_get_read c.args.sieve.members.now (length c.args.sieve.members.now) c.args.notice.member c.in-Some.address.now refl
      c.in-Some.ensures.lookup.3.0 c.in-Some.ensures.lookup.1;
  known = λ closed. let same : c.in-Some.address.now ≡ c.args.from.now = search rules in same;
}

pub returns-else-sieve-clause-no : goal.returns-else-sieve-clause-no
returns-else-sieve-clause-no c = λ no may.
    let here : slice_get c.args.sieve.members.now c.args.notice.member ≡ Some c.in-Some.address.now =
    slice_get_read c.args.sieve.members.now (length c.args.sieve.members.now) c.args.notice.member c.in-Some.address.now refl
    c.in-Some.ensures.lookup.3.0 c.in-Some.ensures.lookup.1 in
    let one : c.in-Some.address.now ≡ may.address =
    let both : Some c.in-Some.address.now ≡ Some may.address = sym here ∙ may.member in cc in
    let same : c.in-Some.address.now ≡ c.args.from.now = one ∙ may.known c.if-sieve.false in
    let yes : c.eq.result ≡ true = search rules in
    absurd (let bad : false ≡ true = sym no ∙ yes in cc)

pub returns-in-None-clause-no : goal.returns-in-None-clause-no
returns-in-None-clause-no c = λ no may.
    let within : c.args.notice.member < length c.args.sieve.members.now = slice_get_within c.args.sieve.members.now c.args.notice.member may.address may.member in
    let beyond : length c.args.sieve.members.now ≤ c.args.notice.member = c.in-None.ensures.lookup.3 in
    absurd (omega (arith, within, beyond))
