use Rattle.std.proofs.Common.{◌≡◌, ◌++◌, ◌∙◌, ap, Err, List, Ok, Result, Some, refl, subst, sym, ℕ}
use Rattle.std.proofs.lemmas.Option.{get_or_from_slice_get, slice_get_within}
use Rattle.std.specs.Prelude.{OnOk, slice_get}
use Rattle.faults.specs.Bytes.{Text}
use Rattle.datagram_ports.specs.InMemory.{MemPortState, put_by}
use Rattle.datagram_ports.specs.declared.fault.PortFault.{PortFault}
use Rattle.node.specs.Step.{taken_by}
use Rattle.turn_rules.specs.Offered.{IsSent}
use Rattle.check_turns.proofs.first_sent.send_first.Goals as goal

-- a datagram at a place is sent
is_sent : (sends : List (ℕ × Text)) (k : ℕ) (d : ℕ × Text) → slice_get sends k ≡ Some d → IsSent sends d.1
is_sent sends k d at = (k, d, slice_get_within sends k d at, get_or_from_slice_get sends k d d at, refl)

-- what follows from an answer
on_ok : (answer : Result (Unit {0}) PortFault) (A B : Type 0) → (A → B) → OnOk answer A → OnOk answer B
on_ok (Ok u) A B then known = then known
on_ok (Err f) A B then known = tt

pub of-step-requires : goal.of-step-requires
of-step-requires g c = record {
  before = c.args.node.now;
  logged = c.member-node.ensures.node;
  asked = c.requires.asked;
  taken = taken_by c.args.node.now.node c.args.ready;
  takes = c.requires.takes;
  state = c.in_ok-out.ensures.taken.state;
  sends = c.in_ok-out.ensures.taken.tells.sends;
  on_log = c.in_ok-out.ensures.on_log;
}

pub grant-requires : goal.grant-requires
grant-requires g c =
    is_sent c.of-step.result.sends.now 0 (c.in-Some.to, c.in-Some.bytes.now)
    (ap (λ (sends : List (ℕ × Text)). slice_get sends 0) c.of-step.ensures ∙ sym c.in-Some.ensures)

pub returns-in-Some : goal.returns-in-Some
returns-in-Some g c =
    let d : ℕ × Text = (c.in-Some.to, c.in-Some.bytes.now) in
    let after = c.send.new.self.waiting in (
      d,
      ap (λ (sends : List (ℕ × Text)). slice_get sends 0) (sym c.in_ok-out.ensures.taken.tells.sends) ∙ sym c.in-Some.ensures,
      on_ok c.send.result _ (after ≡ c.args.port.now.waiting ++ put_by c.args.port.now.orders.is_twice d.0 d.1)
          (λ queued. subst (λ (p : MemPortState). after ≡ p.waiting ++ put_by p.orders.is_twice d.0 d.1) c.grant.ensures queued.1)
          c.send.ensures.waits,
    )

pub returns : goal.returns
returns g c = (
  ap (λ (sends : List (ℕ × Text)). slice_get sends 0) (sym c.in_ok-out.ensures.taken.tells.sends)
      ∙ sym c.in-None.ensures,
  refl,
)
