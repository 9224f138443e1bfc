-- Each run of a world is a run of nodes on separate hosts.
use Rattle.std.proofs.Common.{◌≡◌, ◌≤◌, ◌<◌, ◌++◌, ℕ, zero, suc, List, [], ◌∷◌, Some, length, slice_get, slice_set, refl, sym, subst, ◌∙◌, arith, inl, inr}
use Rattle.std.specs.Prelude.{Contains}
use Rattle.std.proofs.lemmas.Bool.{cases_eq}
use Rattle.std.proofs.lemmas.List.Elements.{All-nil}
use Rattle.ballots.specs.declared.message.Note.{Note}
use Rattle.engine.specs.Division.{Division, number_named}
use Rattle.protocol.specs.Events.{Event}
use Rattle.laws.proofs.Becoming.{Becomes, Mirrors, event_becomes}
use Rattle.laws.proofs.Places.{one_alike, some_alike, some_same}
use Rattle.laws.specs.Hosts.{Down, Host, Hosts, Up, at_start}
use Rattle.laws.specs.Laws.{EachRunOfAWorldIsOne}
use Rattle.laws.specs.Run.{HasOpened, Run, nothing_yet, opened}
use Rattle.laws.specs.Worlds.{IsNodeOf}
use Rattle.node.specs.State.{NodeState, opened_node}
use Rattle.protocol.specs.State.{Value}
use Rattle.wire.specs.Messages.{IsNote}
use Rattle.one_list.proofs.uses.HostedNodes.{set_elsewhere, set_there}
use Rattle.world.proofs.EventParts.{leads_together}
use Rattle.world.specs.Happening.{Leads}
use Rattle.world.specs.World.{IsMade, World, fresh_node, start}

module _ (division : Division) (weights : List ℕ) (made : IsMade division weights) where
  -- the node that is opened on a log without a note
  abbrev first_node : ℕ → NodeState
  first_node k = opened_node division weights k []

  -- This number of nodes were opened.
  record HaveOpened (count : ℕ) (h : Hosts) : Type 0 where
    run : Run division.tree weights (at_start weights) h
    up : (k : ℕ) → k < count → slice_get h.hosts k ≡ Some (Up (first_node k))
    down : (k : ℕ) → count ≤ k → k < length weights → slice_get h.hosts k ≡ Some (Down [])
    none : (k : ℕ) (y : Host) → slice_get h.hosts k ≡ Some y → k < length weights
    offered : h.offered ≡ []

  open_all : (count : ℕ) → count ≤ length weights → (h : Hosts) × HaveOpened count h
  open_all zero within = (
    at_start weights,
    record {
      run = nothing_yet;
      up = λ k below. absurd (omega (arith, below));
      down = λ k past inside. some_alike (length weights) (Down []) k inside;
      none = λ k y at. (one_alike (length weights) (Down []) y k at).0;
      offered = refl;
    },
  )
  open_all (suc count) within =
      let before = open_all count (omega (arith, within)) in
      by before.0 before.1
    where
      by : (h : Hosts) → HaveOpened count h → (h : Hosts) × HaveOpened (suc count) h
      by h have = (
        g,
        record {
          run = opened h g have.run moved;
          up = λ k below. elim (cases_eq k count) [
            | inl same ↦ subst (λ i. slice_get g.hosts i ≡ Some (Up (first_node i))) (sym same)
                (set_there h.hosts count (Down []) (Up (first_node count)) here)
            | inr other ↦ set_elsewhere h.hosts count k (Up (first_node count)) other
                ∙ have.up k (omega (arith, below, other))
          ];
          down = λ k past inside.
              set_elsewhere h.hosts count k (Up (first_node count))
              (λ same. omega (arith, same, past)) ∙ have.down k (omega (arith, past)) inside;
          none = λ k y at. elim (cases_eq k count) [
            | inl same ↦ omega (arith, same, within)
            | inr other ↦ have.none k y
                (sym (set_elsewhere h.hosts count k (Up (first_node count)) other) ∙ at)
          ];
          offered = have.offered;
        },
      )
        where
          here : slice_get h.hosts count ≡ Some (Down [])
          here = have.down count (omega arith) (omega (arith, within))

          g : Hosts
          g = record h { hosts = slice_set h.hosts count (Up (first_node count)) }

          moved : HasOpened division.tree weights h g
          moved = record {
            number = count;
            texts = [];
            down = here;
            node = first_node count;
            opened = record {
              division = division;
              of_tree = refl;
              divided = made.divided;
              notes_are = All-nil IsNote;
              on_units = All-nil (λ (n : Note Value).
                  (u : ℕ) × (number_named division n.path ≡ Some u));
              node = refl;
            };
            own = refl;
            hosts = refl;
            offered = refl;
          }

  -- once all are opened, they are the world's nodes at its start
  first_mirrors : (h : Hosts) → HaveOpened (length weights) h → Mirrors (start division weights) h
  first_mirrors h have = record {
    are = record {
      nodes = λ k y at.
          let inside = have.none k y at in
          let same : Up (first_node k) ≡ y =
          some_same (Up (first_node k)) y (sym (have.up k inside) ∙ at) in
          subst (IsNodeOf (start division weights) k) same
          (some_alike (length weights) fresh_node k inside, refl);
      sent = λ text. (
        (λ c. subst (λ l. Contains l text) have.offered c),
        (λ c. subst (λ l. Contains l text) (sym have.offered) c),
      );
    };
    all = λ k x at.
        (Up (first_node k), have.up k (one_alike (length weights) fresh_node x k at).0);
  }

  -- hosts with a world's nodes can follow whatever happens in that world
  go_on : (before events : List Event) (w v : World) → Leads (start division weights) before w
      → (h : Hosts) → Mirrors w h → Leads w events v → Becomes division weights h v
  go_on before [] w v led h m same =
      (h, (λ first run. run), subst (λ z. Mirrors z h) (sym same) m)
  go_on before (e ∷ es) w v led h m (u, happens, leads) =
      let one = event_becomes division weights made before w u led h m e happens in
      let rest = go_on (before ++ e ∷ []) es u v
      (leads_together (start division weights) w u before (e ∷ []) led (u, happens, refl)) one.0
      one.2 leads in
      (rest.0, (λ first run. rest.1 first (one.1 first run)), rest.2)

-- each run of a world is a run of such nodes
pub each_run_is_one : EachRunOfAWorldIsOne
each_run_is_one division weights events w made led =
    let first = open_all division weights made (length weights) (omega arith) in
    let all = go_on division weights made [] events (start division weights) w refl first.0
    (first_mirrors division weights made first.0 first.1) led in
    (all.0, all.1 (at_start weights) first.1.run, all.2.are)
