-- The turns of `dpbn build` are turns of programs.
use Rattle.std.proofs.Common.{◌≡◌, ◌∙◌, ℕ, zero, suc, List, [], ◌∷◌, Option, slice_set, refl, sym, ap, subst}
use Rattle.dpbn_build.specs.Build.{HasBuilt}
use Rattle.dpbn_build.specs.Turns.{NoticesLead, Turn, told_to}
use Rattle.dpbn_node.specs.Runs.{Running}
use Rattle.laws.proofs.OneProgram.{IsThere, flushes, others_go, port_changes, takes, with_port}
use Rattle.laws.specs.BuildPrograms.{BuildTurnsAreOfPrograms, BuildTurnsHappened, BuildTurnsLead, ExchangesAreNotices, HasBuiltAmong, hurried_port}
use Rattle.laws.specs.Programs.{Programs, Runs}
use Rattle.listing.specs.Tree.{Tree}
use Rattle.lone_node.specs.Handed.{SoFar}
use Rattle.std.specs.declared.rt.LibcRuntime.{LibcRuntime}
use Rattle.udp.proofs.Notified.{HasNotified-more, HasNotified-same}
use Rattle.udp.specs.Notifying.{HasNotified}
use Rattle.udp.specs.declared.udp_port.UdpPort.{UdpPort}

-- what is put at an index last is there
set_twice : {X : Type 0} (xs : List X) (k : ℕ) (x y : X)
    → slice_set (slice_set xs k x) k y ≡ slice_set xs k y
set_twice [] k x y = refl
set_twice (z ∷ zs) zero x y = refl
set_twice (z ∷ zs) (suc k) x y = ap (λ l. z ∷ l) (set_twice zs k x y)

module _ (tree : Tree) (weights : List ℕ) (k : ℕ) (first : Programs) where
  -- the turns of `dpbn build`, before each of which its port exchanges notices and its wait is set
  pub build_turns : (old : Running) (turns : List Turn) (new : Running)
      (led : BuildTurnsLead old turns new) (early late : Programs) → IsThere tree weights k first early old
      → BuildTurnsHappened tree weights k old turns new led early late → IsThere tree weights k first late new
  build_turns old [] new led early late there others =
      subst (IsThere tree weights k first late) (sym led) (others_go tree weights k first early late old there others)
  build_turns old (turn ∷ more) new (between, (noticed, exchanged, is), led) early late there (p, q, others, here, happened) =
      let port = hurried_port noticed turn.hurry in
      let told = port_changes tree weights k first p old port (others_go tree weights k first early p old there others) in
      build_turns between more new led q late
      (takes tree weights k first (with_port tree weights k first p old port) q (SoFar turn.made turn.wish) (told_to hurried_port turn.hurry noticed old)
      between turn.answer told is (record {
        heard = here.heard;
        agrees = here.agrees;
        places = here.places ∙ sym (set_twice p.places k (Runs (record old { port = port })) (Runs between));
        offered = here.offered;
      })) happened

pub build_turns_are_of_programs : BuildTurnsAreOfPrograms
build_turns_are_of_programs tree weights k rest old new first early late built did here happened =
    flushes tree weights k first late built.last new
    (build_turns tree weights k first old built.turned.turns built.last built.turned.led early late
    (record { did = did; here = here }) happened) built.flushed

-- what its contract promises of a run of `dpbn build`, with that
pub among_programs : (rest : Option ℕ) (old new : Running) → HasBuilt rest old new
    → HasBuiltAmong rest old new
among_programs rest old new run = record {
  run = run;
  of_programs = λ tree weights k first early late did here happened.
      build_turns_are_of_programs tree weights k rest old new first early late run did here happened;
}

-- one notice after the other
exchanged : (old : UdpPort LibcRuntime) (states : List (UdpPort LibcRuntime)) (new : UdpPort LibcRuntime)
    → NoticesLead HasNotified old states new → HasNotified old new
exchanged old [] new same = subst (λ p. HasNotified old p) (sym same) (HasNotified-same old)
exchanged old (next ∷ more) new (first, later) =
    HasNotified-more old next new first (exchanged next more new later)

pub exchanges_are_notices : ExchangesAreNotices
exchanges_are_notices old new it = exchanged old it.states new it.led
