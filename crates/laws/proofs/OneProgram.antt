-- One program in a run of programs: the turns that it takes, and what others do meanwhile.
use Rattle.std.proofs.Common.{◌≡◌, ℕ, List, [], ◌∷◌, Some, slice_get, slice_set, refl, sym, ap, subst, ◌∙◌}
use Rattle.std.specs.declared.rt.LibcRuntime.{LibcRuntime}
use Rattle.dpbn_node.specs.Runs.{HasFlushed, Running}
use Rattle.laws.specs.ProgramLaws.{NodeTurnsAreOfPrograms}
use Rattle.laws.specs.Programs as run
use Rattle.laws.specs.Programs.{HaveRun, IsTurnThere, OthersDid, ProgramTurnsLead, Programs, Runs, TurnsHappened}
use Rattle.listing.specs.Tree.{Tree}
use Rattle.lone_node.specs.Handed.{AllBuilds, Handed}
use Rattle.lone_node.specs.Turns.{Outcome}
use Rattle.one_list.proofs.uses.HostedNodes.{set_there}
use Rattle.udp.specs.declared.udp_port.UdpPort.{UdpPort}

-- two runs of programs, one after the other
then_runs : (tree : Tree) (weights : List ℕ) (first mid last : Programs)
    → HaveRun tree weights first mid → HaveRun tree weights mid last → HaveRun tree weights first last
then_runs tree weights first mid _ before run.nothing_yet = before
then_runs tree weights first mid _ before (run.went_on p q did it) =
    run.went_on p q (then_runs tree weights first mid p before did) it

module _ (tree : Tree) (weights : List ℕ) (k : ℕ) (first : Programs) where
  -- the member's program runs in this state
  pub record IsThere (p : Programs) (s : Running) : Type 0 where
    pub did : HaveRun tree weights first p
    pub here : slice_get p.places k ≡ Some (Runs s)

  -- others go on
  pub others_go : (early late : Programs) (s : Running) → IsThere early s
      → OthersDid tree weights k early late → IsThere late s
  others_go early late s there others = record {
    did = then_runs tree weights first early late there.did others.did;
    here = others.here ∙ there.here;
  }

  -- the program takes a turn
  pub takes : (p q : Programs) (handed : Handed) (before after : Running) (answer : Outcome)
      → IsThere p before → (turn : run.IsProgramTurn handed before after answer)
      → IsTurnThere k handed before after answer turn p q → IsThere q after
  takes p q handed before after answer there turn is = record {
    did = run.went_on p q there.did (run.turned (record {
      number = k;
      before = before;
      runs = there.here;
      after = after;
      takes = record {
        handed = handed;
        answer = answer;
        turn = turn;
        heard = is.heard;
        agrees = is.agrees;
      };
      places = is.places;
      offered = is.offered;
    }));
    here = ap (λ l. slice_get l k) is.places ∙ set_there p.places k (Runs before) (Runs after) there.here;
  }

  -- the program's port changes
  abbrev pub with_port : Programs → Running → UdpPort LibcRuntime → Programs
  with_port p s port = record {
    places = slice_set p.places k (Runs (record s { port = port }));
    offered = p.offered;
  }

  pub port_changes : (p : Programs) (s : Running) (port : UdpPort LibcRuntime) → IsThere p s
      → IsThere (with_port p s port) (record s { port = port })
  port_changes p s port there = record {
    did = run.went_on p (with_port p s port) there.did (run.waited (record {
      number = k;
      state = s;
      runs = there.here;
      port = port;
      places = refl;
      offered = refl;
    }));
    here = set_there p.places k (Runs s) (Runs (record s { port = port })) there.here;
  }

  -- the turns of `dpbn node`
  pub node_turns : (handed : Handed) (old : Running) (answers : List Outcome) (new : Running)
      (led : ProgramTurnsLead handed old answers new) (early late : Programs) → IsThere early old
      → TurnsHappened tree weights k handed old answers new led early late → IsThere late new
  node_turns handed old [] new led early late there others =
      subst (IsThere late) (sym led) (others_go early late old there others)
  node_turns handed old (answer ∷ more) new (between, turn, led) early late there
      (p, q, others, is, happened) =
      node_turns handed between more new led q late
      (takes p q handed old between answer (others_go early p old there others) turn is) happened

  -- the end of the turns: what waits is flushed
  pub flushes : (late : Programs) (last new : Running) → IsThere late last → HasFlushed last new
      → (q : Programs) × HaveRun tree weights first q × (slice_get q.places k ≡ Some (Runs new))
      × (q.offered ≡ late.offered)
  flushes late last new there flushed =
      let next = port_changes late last new.port there in (
        with_port late last new.port,
        next.did,
        next.here ∙ ap (λ s. Some (Runs s)) (sym flushed.same),
        refl,
      )

pub node_turns_are_of_programs : NodeTurnsAreOfPrograms
node_turns_are_of_programs tree weights k builds turns old new first early late ran did here happened =
    flushes tree weights k first late ran.last new
    (node_turns tree weights k first (AllBuilds builds) old ran.turned.answers ran.last ran.turned.led early late
    (record { did = did; here = here }) happened) ran.flushed
