-- A run, event by event.
use Rattle.std.proofs.Common.{◌≡◌, ◌⊎◌, ◌+◌, ◌++◌, ◌∷◌, ℕ, List, [], length, map, sym, ap, ◌∙◌, append_assoc, append-nil, arith}
use Rattle.protocol.specs.Events.{Event, event_view}
use Rattle.protocol.specs.declared.event.Event as declared
use Rattle.listing.specs.Tree.{Tree}
use Rattle.world.specs.Happening.{IsRefused}
use Rattle.world.specs.declared.fault.WorldFault.{WorldFault}
use Rattle.world.specs.declared.fault.WorldFault.TheVariants.{Memory}
use Rattle.simulator.specs.History.{History, IsHistory, StoppedAt, taken}

-- of all events, these are still to come, and this one is next
module _ (all : List Event) (coming : List declared.Event) (e : declared.Event)
    (behind : List declared.Event) (next : coming ≡ e ∷ behind) where
  -- it follows those that were taken
  among : (old : List Event) → old ++ map event_view coming ≡ all
      → old ++ event_view e ∷ map event_view behind ≡ all
  among old before = ap (λ es. old ++ map event_view es) (sym next) ∙ before

  -- one more was taken
  pub one_more : (old new : List Event) → old ++ map event_view coming ≡ all
      → new ≡ old ++ event_view e ∷ [] → new ++ map event_view behind ≡ all
  one_more old new before more =
      ap (λ l. l ++ map event_view behind) more
      ∙ append_assoc old (event_view e ∷ []) (map event_view behind)
      ∙ among old before

  -- the run stopped there
  pub stopped_there : (tree : Tree) (weights : List ℕ) (h : History) → IsHistory h
      → h.world.division.tree ≡ tree
      → h.world.weights ≡ weights → taken h ++ map event_view coming ≡ all → (f : WorldFault)
      → (f ≡ Memory) ⊎ IsRefused h.world (event_view e) f
      → (place : ℕ) → place ≡ length (taken h) + 1 → StoppedAt tree weights all place f
  stopped_there tree weights h is of weigh before f refused place number = record {
    history = h;
    is_history = is;
    of_tree = of;
    weigh = weigh;
    event = event_view e;
    behind = map event_view behind;
    among = sym (among (taken h) before);
    number = number;
    refused = refused;
  }

-- no event is still to come: all were taken
pub all_taken : (all : List Event) (coming : List declared.Event) → length coming ≡ 0
    → (old : List Event) → old ++ map event_view coming ≡ all → old ≡ all
all_taken all [] none old before = sym (append-nil old) ∙ before
all_taken all (e ∷ es) none old before = absurd (omega (arith, none))
