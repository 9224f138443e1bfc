-- What the events of a run lead to.
use Rattle.std.proofs.Common.{◌≡◌, ◌∙◌, ◌++◌, ℕ, List, [], ap, map, subst, sym}
use Rattle.protocol.specs.Events.{Event, event_view}
use Rattle.protocol.specs.declared.event.Event as declared
use Rattle.listing.specs.Tree.{Tree}
use Rattle.cluster_turns.specs.State.{ClusterState, IsWorldOf, taken}
use Rattle.check_turns.specs.Going.{GoesOn}
use Rattle.check_turns.specs.Listed.{LeadToOneList}
use Rattle.world.proofs.Growth.{at_end}
use Rattle.world.specs.Happening.{Leads}
use Rattle.world.specs.Headline.{HasOneAPath, HasOneList}
use Rattle.world.specs.World.{IsMade, World, start}

pub one_list : {D P : Type 0} (tree : Tree) (weights : List ℕ) (first now : ClusterState D P)
    → first.division.tree ≡ tree → first.weights ≡ weights → first.events ≡ []
    → IsWorldOf first (start first.division weights) → GoesOn first now
    → ((w : World) → IsWorldOf now w → HasOneList now.division now.weights (taken now) w)
    → (events : List declared.Event) → events ≡ now.events
    → LeadToOneList tree weights (map event_view events)
one_list tree weights first now over weigh none is (es, goes) lists events same =
    let h = goes.happened (start first.division weights) is in
    let told : map event_view events ≡ es =
    ap (map event_view) same ∙ goes.kept
    ∙ ap (λ (l : List declared.Event). map event_view l ++ es) none in
    record {
      division = first.division;
      of_tree = over;
      made = subst (IsMade first.division) weigh is.made;
      world = h.0;
      led = subst (λ (l : List Event). Leads (start first.division weights) l h.0) (sym told) h.1;
      one_a_path = at_end now.division now.weights (λ early w. HasOneAPath w) (taken now) h.0
          (lists h.0 h.2).one_a_path;
    }
