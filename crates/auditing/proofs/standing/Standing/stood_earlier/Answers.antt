use Rattle.std.proofs.Common.{◌≤◌, Any, length, take, arith, refl, sym, subst}
use Rattle.std.proofs.lemmas.Bool.{false≢true, iff_false}
use Rattle.std.proofs.lemmas.List.{take_all}
use Rattle.std.proofs.lemmas.List.Elements.{All-more, All-same}
use Rattle.claims.specs.declared.deps.Dep.{Dep}
use Rattle.auditing.specs.Allowed.{IsSignatureOf}
use Rattle.auditing.proofs.Built.{as_many, listed_here}
use Rattle.auditing.proofs.standing.Standing.stood_earlier.Goals as goal

pub offset_bounds-positions-place : goal.offset_bounds-positions-place
offset_bounds-positions-place c =
    let size = as_many c.args.self.now.tree.now c.args.built.now c.args.positions.now c.requires.listed in
    omega (arith, size, c.loop-place-test.true)

pub is_signature-requires-clause-listed : goal.is_signature-requires-clause-listed
is_signature-requires-clause-listed c =
    listed_here c.args.self.now.tree.now c.args.built.now c.args.positions.now c.loop-place.place c.index-built-place.result
    c.requires.listed c.loop-place-test.true c.index-built-place.is

pub returns-then-not-is_signature : goal.returns-then-not-is_signature
returns-then-not-is_signature c =
    let stood = λ (d : Dep). Any (IsSignatureOf d) c.args.earlier.now in (
      λ yes. absurd (false≢true yes),
      λ all.
          let here = all c.loop-place.place c.index-built-place.result c.loop-place-test.true in
          absurd (iff_false c.is_signature.ensures c.if-not-is_signature.true (subst stood (sym c.index-built-place.is) here)),
    )

pub loop-place-preserved : goal.loop-place-preserved
loop-place-preserved c =
    let stood = λ (d : Dep). Any (IsSignatureOf d) c.args.earlier.now in
    All-more stood c.args.built.now c.loop-place.place c.index-built-place.result c.loop-place-test.true c.loop-place.invariant
    (subst stood c.index-built-place.is (c.is_signature.ensures.0 c.if-not-is_signature.false))

pub returns : goal.returns
returns c =
    let stood = λ (d : Dep). Any (IsSignatureOf d) c.args.earlier.now in
    let past : length c.args.built.now ≤ c.loop-place.place = omega arith in (
      λ _. All-same stood c.args.built.now (take c.loop-place.place c.args.built.now) (sym (take_all c.loop-place.place c.args.built.now past)) c.loop-place.invariant,
      λ _. refl,
    )
