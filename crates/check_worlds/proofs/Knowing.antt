-- Consequences of the public contracts.
use Rattle.std.proofs.Common.{◌≡◌, ◌++◌, ◌∷◌, [], ℕ, List, Option, None, Some, Result, Ok, Err, true, false, refl, subst, sym, append-nil, ap, ◌∙◌}
use Rattle.std.specs.Prelude.{OnErr, OnOk}
use Rattle.protocol.specs.Events.{Event}
use Rattle.simulator.specs.History.{History, taken}
use Rattle.engine.specs.Division.{Division}
use Rattle.world.specs.Happening.{up_of}
use Rattle.world.specs.Headline.{AtEachMoment}
use Rattle.world.specs.World.{World, WorldNode}
use Rattle.world.specs.declared.fault.WorldFault.{WorldFault}

-- what holds at every point of a run holds at its end
pub at_end : (division : Division) (weights : List ℕ) (events : List Event) (last : World) (P : World → Type 0)
    → AtEachMoment division weights events last (λ early w. P w) → P last
at_end division weights events last P always =
    let there = always events [] (sym (append-nil events)) in
    subst P (sym there.2) there.3

-- if there is a node that is up, there is a node
pub node_up : (o : Option WorldNode) → up_of o ≡ true → (x : WorldNode) × (o ≡ Some x) × (x.up ≡ true)
node_up None up = absurd (let bad : false ≡ true = up in cc)
node_up (Some x) up = (x, refl, up)

-- a step appends to the events taken
pub more_taken : {T : Type 0} (r : Result T WorldFault) (old new : History) (e : Event)
    → OnOk r (taken new ≡ taken old ++ e ∷ []) → OnErr r (new ≡ old)
    → (late : List Event) × (taken new ≡ taken old ++ late)
more_taken (Ok done) old new e kept same = (e ∷ [], kept)
more_taken (Err f) old new e kept same = ([], ap taken same ∙ sym (append-nil (taken old)))
