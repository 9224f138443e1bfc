use Rattle.std.proofs.Common.{◌≡◌, ◌∙◌, ap, Err, List, Ok, Result, Some, refl, subst, sym, ℕ}
use Rattle.std.proofs.lemmas.Option.{get_or_from_slice_get, slice_get_within}
use Rattle.std.specs.Prelude.{OnOk, slice_get}
use Rattle.faults.specs.Bytes.{Text}
use Rattle.datagram_ports.specs.declared.fault.PortFault.{PortFault}
use Rattle.node.specs.Step.{taken_by}
use Rattle.turn_rules.specs.Offered.{IsSent}
use Rattle.udp.specs.Ways.{HasWay}
use Rattle.udp.specs.declared.udp_port.UdpPort.{UdpPort}
use Rattle.laws.proofs.over_udp.send_first.Goals as goal

-- a datagram at a place is sent
is_sent : (sends : List (ℕ × Text)) (k : ℕ) (d : ℕ × Text) → slice_get sends k ≡ Some d → IsSent sends d.1
is_sent sends k d at = (k, d, slice_get_within sends k d at, get_or_from_slice_get sends k d d at, refl)

-- what follows from an answer
on_ok : (answer : Result (Unit {0}) PortFault) (A B : Type 0) → (A → B) → OnOk answer A → OnOk answer B
on_ok (Ok u) A B then known = then known
on_ok (Err f) A B then known = tt

-- what the port grants changes no way
same_way : {C : Type 0} (old new : UdpPort C) → new ≡ record old { granted = new.granted }
    → (from to : ℕ) → HasWay new.seats.items new.addresses.items from to
    → HasWay old.seats.items old.addresses.items from to
same_way {C} old new same from to way =
    subst (λ (p : UdpPort C). HasWay p.seats.items p.addresses.items from to) same way

pub of-step-requires : goal.of-step-requires
of-step-requires g c = record {
  before = c.args.node.now;
  logged = c.member-node.ensures.node;
  asked = c.requires.asked;
  taken = taken_by c.args.node.now.node c.args.ready;
  takes = c.requires.takes;
  state = c.in_ok-out.ensures.taken.state;
  sends = c.in_ok-out.ensures.taken.tells.sends;
  on_log = c.in_ok-out.ensures.on_log;
}

pub grant-requires : goal.grant-requires
grant-requires g c =
    is_sent c.of-step.result.sends.now 0 (c.in-Some.to, c.in-Some.bytes.now)
    (ap (λ (sends : List (ℕ × Text)). slice_get sends 0) c.of-step.ensures ∙ sym c.in-Some.ensures)

pub returns-in-Some : goal.returns-in-Some
returns-in-Some g c =
    let d : ℕ × Text = (c.in-Some.to, c.in-Some.bytes.now) in
    let port = c.args.port.now in (
      d,
      ap (λ (sends : List (ℕ × Text)). slice_get sends 0) (sym c.in_ok-out.ensures.taken.tells.sends) ∙ sym c.in-Some.ensures,
      on_ok c.send.result _ (HasWay port.seats.items port.addresses.items c.finish.new.self.node.member.me d.0)
          (λ way. subst (λ (from : ℕ). HasWay port.seats.items port.addresses.items from d.0) c.me.ensures
          (same_way port _ c.grant.ensures.same c.me.result d.0 way))
          c.send.ensures.way,
    )

pub returns : goal.returns
returns g c = (
  ap (λ (sends : List (ℕ × Text)). slice_get sends 0) (sym c.in_ok-out.ensures.taken.tells.sends)
      ∙ sym c.in-None.ensures,
  refl,
)
