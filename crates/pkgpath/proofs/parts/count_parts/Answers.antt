use Rattle.std.proofs.Common.{◌≡◌, ℕ, List, eqb, map, length, false, rules, tests, subst, Bor}
use Rattle.std.proofs.lemmas.Iterator.Consumers.{YieldsList-at, YieldsList-end, YieldsList-turn}
use Rattle.std.proofs.lemmas.Iterator.Splits.{YieldsList-from_slice_split}
use Rattle.std.proofs.lemmas.List.{map_push}
use Rattle.std.proofs.lemmas.List.Folds.{list_all_at}
use Rattle.faults.specs.Bytes.{comma}
use Rattle.faults.specs.Pieces.{pieces_at}
use Rattle.pkgpath.proofs.Tallies.{IsTally-empty, IsTally-flavor, IsTally-subpackage, list_all-push}
use Rattle.pkgpath.specs.Kind.{IsOfKind}
use Rattle.pkgpath.specs.PkgPath.{is_part}
use Rattle.pkgpath.specs.declared.parts.Kind.TheVariants.{Empty, Subpackage, Flavor}
use Rattle.pkgpath.proofs.parts.count_parts.Goals as goal

pub returns-in_err-kind_of : goal.returns-in_err-kind_of
returns-in_err-kind_of c =
    let turn = YieldsList-turn (YieldsList-at c.into_iter-part-iterator.ensures.into_iter_gives (YieldsList-from_slice_split _ (λ b. eqb b 44) c.args.text.now c.split-part-items.ensures.rest c.split-part-items.ensures.done c.split-part-items.ensures.closure (λ x b q k. search (rules, tests)))) c.loop-part.yielded _ c.loop-part.yielded_by _ _ c.in-Some.part c.in-Some.is c.next.ensures.steps in
    rw c.from_residual.ensures (list_all_at is_part (pieces_at comma c.args.text.now) (length c.loop-part.yielded) c.in-Some.part.now turn.0 (subst (λ (p : List ℕ). is_part p ≡ false) turn.1 c.in_err-kind_of.ensures))

pub loop-part-preserved-in-Empty : goal.loop-part-preserved-in-Empty
loop-part-preserved-in-Empty c =
    let kind : IsOfKind Empty c.in-Some.part.now = rw c.in-Empty.is at c.in_ok-kind_of.ensures in
    rw (map_push (λ (x : Bor (List ℕ)). x.now) c.loop-part.yielded c.in-Some.part) (record { parts = list_all-push is_part (map (λ (x : Bor (List ℕ)). x.now) c.loop-part.yielded) c.in-Some.part.now c.loop-part.invariant.parts kind.0; tally = IsTally-empty _ _ c.in-Some.part c.loop-part.invariant.tally kind })

pub loop-part-preserved-in-Subpackage : goal.loop-part-preserved-in-Subpackage
loop-part-preserved-in-Subpackage c =
    let kind : IsOfKind Subpackage c.in-Some.part.now = rw c.in-Subpackage.is at c.in_ok-kind_of.ensures in
    rw (map_push (λ (x : Bor (List ℕ)). x.now) c.loop-part.yielded c.in-Some.part, c.or-subpackage.ensures) (record { parts = list_all-push is_part (map (λ (x : Bor (List ℕ)). x.now) c.loop-part.yielded) c.in-Some.part.now c.loop-part.invariant.parts kind.0; tally = IsTally-subpackage _ _ c.in-Some.part c.loop-part.invariant.tally kind })

pub loop-part-preserved : goal.loop-part-preserved
loop-part-preserved c =
    let kind : IsOfKind Flavor c.in-Some.part.now = rw c.in-Flavor.is at c.in_ok-kind_of.ensures in
    rw (map_push (λ (x : Bor (List ℕ)). x.now) c.loop-part.yielded c.in-Some.part, c.or-flavor.ensures) (record { parts = list_all-push is_part (map (λ (x : Bor (List ℕ)). x.now) c.loop-part.yielded) c.in-Some.part.now c.loop-part.invariant.parts kind.0; tally = IsTally-flavor _ _ c.in-Some.part c.loop-part.invariant.tally kind })

pub returns : goal.returns
returns c =
    let end = YieldsList-end (YieldsList-at c.into_iter-part-iterator.ensures.into_iter_gives (YieldsList-from_slice_split _ (λ b. eqb b 44) c.args.text.now c.split-part-items.ensures.rest c.split-part-items.ensures.done c.split-part-items.ensures.closure (λ x b q k. search (rules, tests)))) c.loop-part.yielded _ c.loop-part.yielded_by _ _ c.in-None.is c.next.ensures.steps in
    (rw end.0 at c.loop-part.invariant.parts, rw end.0 at c.loop-part.invariant.tally)
