-- At the start no node runs. The world's nodes, which are up then and have no notes, all stop.
use Rattle.std.proofs.Common.{◌≡◌, ◌≤◌, ◌<◌, ℕ, zero, suc, List, [], ◌∷◌, ◌++◌, Some, length, slice_get, refl, sym, subst, ◌∙◌, arith, inl, inr}
use Rattle.std.specs.Prelude.{Contains}
use Rattle.std.proofs.lemmas.Bool.{cases_eq}
use Rattle.engine.specs.Division.{Division}
use Rattle.protocol.specs.Events.{Event, Stop}
use Rattle.laws.proofs.Places.{one_alike, some_alike}
use Rattle.laws.specs.Hosts.{Down, at_start}
use Rattle.laws.specs.Worlds.{IsNodeOf, IsWorldOf}
use Rattle.one_list.proofs.uses.HostedNodes.{set_elsewhere, set_there}
use Rattle.world.proofs.EventParts.{leads_together}
use Rattle.world.specs.Happening.{Leads, Stops}
use Rattle.world.specs.World.{World, down_node, fresh_node, start, with_node}

module _ (division : Division) (weights : List ℕ) where
  -- This number of nodes stopped, and the others are as at the start.
  record HaveStopped (count : ℕ) (events : List Event) (w : World) : Type 0 where
    led : Leads (start division weights) events w
    down : (k : ℕ) → k < count → slice_get w.nodes k ≡ Some (down_node [] [])
    fresh : (k : ℕ) → count ≤ k → k < length weights → slice_get w.nodes k ≡ Some fresh_node
    sent : w.sent ≡ []

  stopped : (count : ℕ) → count ≤ length weights
      → (events : List Event) × (w : World) × HaveStopped count events w
  stopped zero within = (
    [],
    start division weights,
    record {
      led = refl;
      down = λ k below. absurd (omega (arith, below));
      fresh = λ k past inside. some_alike (length weights) fresh_node k inside;
      sent = refl;
    },
  )
  stopped (suc count) within =
      let before = stopped count (omega (arith, within)) in
      by before.0 before.1 before.2
    where
      by : (events : List Event) (w : World) → HaveStopped count events w
          → (events : List Event) × (w : World) × HaveStopped (suc count) events w
      by events w have = (
        events ++ Stop count ∷ [],
        v,
        record {
          led = leads_together (start division weights) w v events (Stop count ∷ []) have.led
              (v, stops, refl);
          down = λ k below. elim (cases_eq k count) [
            | inl same ↦ subst (λ i. slice_get v.nodes i ≡ Some (down_node [] [])) (sym same)
                (set_there w.nodes count fresh_node (down_node [] []) here)
            | inr other ↦ set_elsewhere w.nodes count k (down_node [] []) other
                ∙ have.down k (omega (arith, below, other))
          ];
          fresh = λ k past inside.
              set_elsewhere w.nodes count k (down_node [] []) (λ same. omega (arith, same, past))
              ∙ have.fresh k (omega (arith, past)) inside;
          sent = have.sent;
        },
      )
        where
          here : slice_get w.nodes count ≡ Some fresh_node
          here = have.fresh count (omega arith) (omega (arith, within))

          v : World
          v = with_node w count (down_node [] [])

          stops : Stops w count v
          stops = record {
            node = fresh_node;
            is_up = record { stands = here; up = refl };
            leaves = refl;
          }

  -- then that world's nodes are those of the hosts
  pub starts : (events : List Event) × (w : World)
      × IsWorldOf division weights events w (at_start weights)
  starts =
      let all = stopped (length weights) (omega arith) in
      by all.0 all.1 all.2
    where
      by : (events : List Event) (w : World) → HaveStopped (length weights) events w
          → (events : List Event) × (w : World)
          × IsWorldOf division weights events w (at_start weights)
      by events w have = (
        events,
        w,
        record {
          led = have.led;
          are = record {
            nodes = λ k x at.
                let one = one_alike (length weights) (Down []) x k at in
                subst (IsNodeOf w k) one.1 (down_node [] [], have.down k one.0, refl, refl);
            sent = λ text. (
              (λ h. subst (λ l. Contains l text) (sym have.sent) h),
              (λ h. subst (λ l. Contains l text) have.sent h),
            );
          };
        },
      )
