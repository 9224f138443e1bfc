-- Upper bounds of a call's values.
use Rattle.std.proofs.Common.{List, Option, None, Some}
use Rattle.clap.specs.Words.{Row, Text}
use Rattle.cluster.specs.Stopped.{IsGood}
use Rattle.dpbn_cli.specs.Calls.{ArePeers, IsCallOf}
use Rattle.dpbn_cli.specs.declared.Call.{Call}
use Rattle.dpbn_cli.specs.declared.Call.TheVariants.{Build, Cluster, Explain, Key, Node, Release}
use Rattle.dpbn_cli.specs.declared.Peers.{Peers}
use Rattle.dpbn_cli.specs.declared.Peers.TheVariants.{Base, Hosts}
use Rattle.dpbn_build.specs.Build.{AreGood}

good_peers : (rows : List Row) (peers : Peers) → ArePeers rows peers → AreGood peers
good_peers rows (Base port) are = are.0.2
good_peers rows (Hosts text) are = tt

pub good_call : (o : Option (Text × List Row)) (call : Call) → IsCallOf o call → IsGood call
good_call None call is = absurd is
good_call (Some (name, rows)) (Cluster files trace) is = is.1.members.2
good_call (Some (name, rows)) (Node files me peers patience run) is =
    (is.1.members.2, good_peers rows peers is.2.1)
good_call (Some (name, rows)) (Build site me peers patience run) is =
    (is.1.members.2, good_peers rows peers is.2.1)
good_call (Some (name, rows)) (Key file) is = tt
good_call (Some (name, rows)) (Explain number) is = tt
good_call (Some (name, rows)) Release is = tt
