-- A program's start and its turns are among the things that programs do.
use Rattle.std.proofs.Common.{◌≡◌, ◌∙◌, ℕ, List, [], ◌∷◌, Option, refl, sym, ap, subst}
use Rattle.std.specs.declared.rt.LibcRuntime.{LibcRuntime}
use Rattle.dpbn_build.specs.Build.{HasBuilt}
use Rattle.dpbn_build.specs.Turns.{Turn}
use Rattle.dpbn_node.specs.Node.{HasRun}
use Rattle.dpbn_node.specs.Runs.{HasFlushed, IsOfNode, IsOpenedOn, RunOf, Running}
use Rattle.faults.specs.Bytes.{Text}
use Rattle.laws.proofs.BuildPrograms.{build_turns}
use Rattle.laws.proofs.OneProgram.{IsThere, node_turns, port_changes}
use Rattle.laws.specs.BuildPrograms.{BuildTurnsLead}
use Rattle.laws.specs.FromStart.{HasBuiltFromStart, HasRunFromStart, IsDown, IsUp, OthersStayDown, with_running}
use Rattle.laws.specs.Programs as run
use Rattle.laws.specs.Programs.{ProgramTurnsLead, Programs, Rests, Runs}
use Rattle.listing.specs.Tree.{Tree}
use Rattle.lone_node.specs.Handed.{AllBuilds, Handed}
use Rattle.lone_node.specs.Turns.{Outcome}
use Rattle.node.specs.State.{LoggedNode}
use Rattle.one_list.proofs.uses.HostedNodes.{set_elsewhere, set_there}
use Rattle.protocol.specs.Given.{Given}
use Rattle.stable_record.specs.History.{History, seen}
use Rattle.stable_record.specs.RealFile.{file_agrees, file_history}
use Rattle.stable_record.specs.declared.file_disk.FileDisk.{FileDisk}
use Rattle.udp.specs.declared.udp_port.UdpPort.{UdpPort}

-- ---- what is supposed of the file holds at the start

-- what holds after the last turn held before the first
agreed_node : (handed : Handed) (old : Running) (answers : List Outcome) (new : Running)
    → ProgramTurnsLead handed old answers new → file_agrees new.node.log.disk
    → file_agrees old.node.log.disk
agreed_node handed old [] new same agrees =
    subst (λ (s : Running). file_agrees s.node.log.disk) same agrees
agreed_node handed old (answer ∷ more) new (between, turn, led) agrees =
    turn.log.kept (agreed_node handed between more new led agrees)

agreed_build : (old : Running) (turns : List Turn) (new : Running) → BuildTurnsLead old turns new
    → file_agrees new.node.log.disk → file_agrees old.node.log.disk
agreed_build old [] new same agrees =
    subst (λ (s : Running). file_agrees s.node.log.disk) same agrees
agreed_build old (turn ∷ more) new (between, (port, exchanged, is), led) agrees =
    is.log.kept (agreed_build between more new led agrees)

-- a flush changes only the port
agreed_flush : (last new : Running) → HasFlushed last new → file_agrees new.node.log.disk
    → file_agrees last.node.log.disk
agreed_flush last new flushed agrees =
    subst (λ (n : LoggedNode FileDisk). file_agrees n.log.disk)
    (ap (λ (s : Running). s.node) flushed.same) agrees

-- ---- the start

module _ (tree : Tree) (weights : List ℕ) (k : ℕ) (known : History) (log : FileDisk)
    (port : UdpPort LibcRuntime) (looked : file_agrees log → file_history log ≡ known)
    (before : Running) (opened : IsOpenedOn log port tree weights k before) (first early : Programs)
    (down : IsDown tree weights first k known early) (agrees : file_agrees before.node.log.disk) where
  -- it is one of the things that programs do
  starts : IsThere tree weights k first (with_running early k before) before
  starts = record {
    did = run.went_on early (with_running early k before) down.did (run.started (record {
      number = k;
      file = seen known;
      rests = down.rests;
      state = before;
      opens = record {
        log = log;
        own = ap seen (looked (opened.node.kept agrees));
        port = port;
        opened = opened;
        agrees = agrees;
      };
      places = refl;
      offered = refl;
    }));
    here = set_there early.places k (Rests (seen known)) (Runs before) down.rests;
  }

-- the end of the turns
ends : (tree : Tree) (weights : List ℕ) (k : ℕ) (first late : Programs) (last new : Running)
    → IsThere tree weights k first late last → HasFlushed last new
    → IsUp tree weights first k new (with_running late k new)
ends tree weights k first late last new there flushed =
    let end = subst (λ (s : Running). IsThere tree weights k first (with_running late k s) s)
    (sym flushed.same) (port_changes tree weights k first late last new.port there) in
    record { did = end.did; runs = end.here }

-- ---- the whole way

module _ (gave : Option Text → Type 0) (known : History) (of : RunOf) (me : ℕ) where
  pub node_from_start : (builds : Given) (turns : ℕ) (after : Running)
      → IsOfNode gave known of me (λ before. HasRun builds turns before after)
      → IsOfNode gave known of me
      (λ before. HasRunFromStart of.tree of.weights me known builds turns before after)
  node_from_start builds turns after ran =
      let on = ran.opened in
      record {
        begun = ran.begun;
        has_begun = ran.has_begun;
        opened = record {
          before = on.before;
          opened = on.opened;
          is = record {
            run = on.is;
            of_programs = λ first early late down agrees happened.
                ends of.tree of.weights me first late on.is.last after
                (node_turns of.tree of.weights me first (AllBuilds builds) on.before
                on.is.turned.answers on.is.last on.is.turned.led
                (with_running early me on.before) late
                (starts of.tree of.weights me known ran.begun.start.disk ran.begun.port
                ran.has_begun.started.planned.looked on.before on.opened first early down
                (agreed_node (AllBuilds builds) on.before on.is.turned.answers on.is.last
                on.is.turned.led (agreed_flush on.is.last after on.is.flushed agrees))) happened)
                on.is.flushed;
          };
        };
      }

  pub build_from_start : (rest : Option ℕ) (after : Running)
      → IsOfNode gave known of me (λ before. HasBuilt rest before after)
      → IsOfNode gave known of me
      (λ before. HasBuiltFromStart of.tree of.weights me known rest before after)
  build_from_start rest after ran =
      let on = ran.opened in
      record {
        begun = ran.begun;
        has_begun = ran.has_begun;
        opened = record {
          before = on.before;
          opened = on.opened;
          is = record {
            run = on.is;
            of_programs = λ first early late down agrees happened.
                ends of.tree of.weights me first late on.is.last after
                (build_turns of.tree of.weights me first on.before on.is.turned.turns on.is.last
                on.is.turned.led (with_running early me on.before) late
                (starts of.tree of.weights me known ran.begun.start.disk ran.begun.port
                ran.has_begun.started.planned.looked on.before on.opened first early down
                (agreed_build on.before on.is.turned.turns on.is.last on.is.turned.led
                (agreed_flush on.is.last after on.is.flushed agrees))) happened)
                on.is.flushed;
          };
        };
      }

-- ---- another member's start

pub others_stay_down : OthersStayDown
others_stay_down tree weights first late k j state known up other rests = record {
  did = up.did;
  rests = set_elsewhere late.places k j (Runs state) other ∙ rests;
}
