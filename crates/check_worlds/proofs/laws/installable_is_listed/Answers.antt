use Rattle.std.proofs.Common.{◌≡◌, [], ℕ, List, Option, None, Some, true, false, is_some, refl, subst, sym, append-nil}
use Rattle.protocol.specs.Events.{Event}
use Rattle.package_record.specs.Content.{Content}
use Rattle.engine.specs.Division.{Division}
use Rattle.world.specs.Headline.{AtEachMoment, HeldIsListed, InstallableIsHeld, holds}
use Rattle.world.specs.World.{World}
use Rattle.check_worlds.proofs.laws.installable_is_listed.Goals as goal

-- what holds at every point of a run holds at its end
at_end : (division : Division) (weights : List ℕ) (events : List Event) (last : World) (P : World → Type 0)
    → AtEachMoment division weights events last (λ early w. P w) → P last
at_end division weights events last P always =
    let there = always events [] (sym (append-nil events)) in
    subst P (sym there.2) there.3

-- an option that is some has a value
what_is : (o : Option Content) → is_some o ≡ true → (r : Content) × (o ≡ Some r)
what_is None none = absurd (let bad : false ≡ true = none in cc)
what_is (Some r) there = (r, refl)

pub returns : goal.returns
returns c division weights events last k p x path q made led at up listed shown closure =
    let held : HeldIsListed last = at_end division weights events last HeldIsListed
    (c.worlds_have_one_list.ensures.held division weights events last made led) in
    let installable : InstallableIsHeld last = at_end division weights events last InstallableIsHeld
    (c.worlds_have_one_list.ensures.installable division weights events last made led) in
    let is = what_is (holds last k x q) (installable k p x path q at up listed shown closure) in
    (is.0, is.1, (held.paths k x q is.0 at is.1).1)
