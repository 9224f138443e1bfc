-- If nothing is refused, the list that is returned is a short way.
use Rattle.std.proofs.Common.{◌≡◌, ◌≤◌, ℕ, List, Option, None, Some, refl, sym, ap, subst, ◌∙◌}
use Rattle.std.specs.Prelude.{Contains}
use Rattle.claims.specs.declared.claim.Claim.{Claim}
use Rattle.ballots.specs.declared.message.Body.TheVariants as bodies
use Rattle.protocol.specs.Events.{Event}
use Rattle.faults.specs.Bytes.{Text}
use Rattle.one_list.proofs.clauses.OneListOfRuns.{each_run_is_acts, one_answer, one_world}
use Rattle.package_record.proofs.BuildsRead.{build_is_read}
use Rattle.protocol.specs.Given.{Given}
use Rattle.protocol.specs.State.{State}
use Rattle.simulator.specs.History.{History, IsHistory, taken}
use Rattle.engine.specs.Division.{Division, number_found, unit_at}
use Rattle.ways_on.specs.Asked.{IsGranted, next_build, refusal_at}
use Rattle.ways_on.specs.Laws.{EachHasAWay, HasWay}
use Rattle.ways_on.specs.Rounds.{next_claim}
use Rattle.ways_on.specs.Ways.{HoldsUnit, IsWay, LeadsTo}
use Rattle.ways_on.specs.inside.Listed.{asked_of, promise_of, proposed_by, report_of_all, way_of}
use Rattle.ways_on.specs.inside.Planned.{IsShown}
use Rattle.ways_on.proofs.Arriving.{at_the_end, ways_arrive}
use Rattle.ways_on.proofs.Going.{leads_also}
use Rattle.ways_on.proofs.Leading.{list_leads}
use Rattle.protocol.proofs.Asked.{unit_is_one}
use Rattle.ways_on.proofs.Reached.{IsReached}
use Rattle.ways_on.proofs.Reasons.{some_node}
use Rattle.ways_on.proofs.Short.{is_short}
use Rattle.ways_on.proofs.Walking.{are_on_way}
use Rattle.world.specs.Happening.{up_of}
use Rattle.world.specs.Sent.{WasSent, message}
use Rattle.world.specs.World.{IsMade, World, WorldNode, member_at}

-- if nothing is refused, the path names a unit
pub granted_unit : (w : World) (k : ℕ) (path : Text) (host : ℕ) (given : Given)
    → IsGranted w k path host given → (u : ℕ) × (number_found w.division path ≡ Some u)
granted_unit w k path host given g = by (number_found w.division path) refl
  where
    by : (o : Option ℕ) → number_found w.division path ≡ o
        → (u : ℕ) × (number_found w.division path ≡ Some u)
    by (Some u) e = (u, e)
    by None e =
        let never : None ≡ refusal_at w (member_at w k g.node) g.letter path host given None =
        g.tested_is ∙ ap (refusal_at w (member_at w k g.node) g.letter path host given) e in
        absurd cc

module _ (division : Division) (weights : List ℕ) (made : IsMade division weights) (w : World)
    (r : IsReached division weights made w) (me : ℕ) (path : Text) (host : ℕ) (given : Given)
    (g : IsGranted w me path host given) (u : ℕ) (named : number_found w.division path ≡ Some u)
    (few : host ≤ 65535) where
  abbrev claim : Claim
  claim = next_claim w u me

  abbrev member : State
  member = member_at w me g.node

  abbrev list : List Event
  list = way_of w member u path host given

  -- What holds if no event was refused.
  abbrev Done : World → Type 0
  Done y = HoldsUnit y me u
      × (((j : ℕ) → Contains (asked_of w) j → WasSent y.sent (promise_of w u claim j))
      × WasSent y.sent (message w (unit_at w.division u).name claim.member (bodies.Propose claim
      (proposed_by (report_of_all w u None (asked_of w)) (next_build w member u host given)))))

  list_is_way : LeadsTo Done w list → IsWay w me u list
  list_is_way leads = leads_also Done (λ y. HoldsUnit y me u) w list leads (λ y d. d.0)

  pub has_way : LeadsTo Done w list → HasWay w me path host given list
  has_way leads = record {
    unit = u;
    named = named;
    is_way = list_is_way leads;
    arrives = ways_arrive (one_world each_run_is_acts build_is_read) one_answer division weights
        r.before w me u list made r.led (list_is_way leads);
    are = are_on_way w me path host given (ap up_of g.stands ∙ g.up) member u refl;
    node = g.node;
    stands = g.stands;
    is_short = is_short division weights made w r me g.node g.stands g.up u
        (unit_is_one member path u named) path host given
        (λ v led.
        let d = at_the_end (one_world each_run_is_acts build_is_read) one_answer division weights
        made Done r.before list w v r.led leads led in
        record { promises = d.1.0; proposed = d.1.1 });
  }

-- So there is a short way unless one is refused.
pub each_has_one : EachHasAWay
each_has_one division weights before w k path host given made led few g =
    let r : IsReached division weights made w = record { before = before; led = led } in
    let n = granted_unit w k path host given g in (
      way_of w (member_at w k g.node) n.0 path host given,
      has_way division weights made w r k path host given g n.0 n.1 few
          (list_leads division weights made w r k path host given g n.0 n.1 few),
    )

-- So the list that is computed from what the nodes show is a short way.
pub way_told : (h : History) (is : IsHistory h) (me : ℕ) (path : Text) (host : ℕ) (given : Given)
    → host ≤ 65535 → IsGranted h.world me path host given → (s : IsShown h.world me path)
    → HasWay h.world me path host given
    (way_of h.world (member_at h.world me s.node) s.unit path host given)
way_told h is me path host given few g s =
    let w = h.world in
    let r : IsReached w.division w.weights is.made w =
    record { before = taken h; led = is.led } in
    subst (λ (x : WorldNode). HasWay w me path host given
    (way_of w (member_at w me x) s.unit path host given))
    (some_node g.node s.node (sym g.stands ∙ s.stands))
    (has_way w.division w.weights is.made w r me path host given g s.unit s.named few
    (list_leads w.division w.weights is.made w r me path host given g s.unit s.named few))
