use Rattle.std.proofs.Common.{ℕ, get_or, ap, ◌∙◌}
use Rattle.std.proofs.lemmas.List.{get_or_default}
use Rattle.listing.proofs.BarePackageLemmas.{add_none, add_some}
use Rattle.listing.proofs.bare_package.add_positions.Goals as goal
use Rattle.listing.proofs.bare_package.add_positions.Goals.{in-Some+in_ok-push, in_default}

pub loop-number-preserved : goal.loop-number-preserved
loop-number-preserved c =
    let numbers = c.args.numbers.now in
    let k = c.loop-number.number-index in
    let n : ℕ = get_or numbers k 0 in
    let here = get_or_default numbers k 0 n c.loop-number-test.true in
    elim c.match-resolutions-number.branch [
      | in-Some+in_ok-push w ↦
          add_some c.args.resolutions.now numbers c.args.found.now.items c.loop-number.found.items c.match-resolutions-number.found.items k n w.in-Some.position
          c.loop-number-test.true here w.in-Some.is c.loop-number.invariant (ap (λ v. v.items) w.found-is ∙ w.in_ok-push.ensures.items)
      | in_default w ↦
          add_none c.args.resolutions.now numbers c.args.found.now.items c.loop-number.found.items c.match-resolutions-number.found.items k n
          c.loop-number-test.true here w.in_default.is c.loop-number.invariant (ap (λ v. v.items) w.found-is)
    ]
