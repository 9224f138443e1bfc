-- What happens to one node, as events of the world.
use Rattle.std.proofs.Common.{◌≡◌, ◌≢◌, ◌++◌, ℕ, List, [], ◌∷◌, Some, Ok, Err, slice_get, slice_set, refl, sym, ap, subst, ◌∙◌, inl, inr, ⊎_elim}
use Rattle.std.specs.Prelude.{◌↔◌, Contains}
use Rattle.std.proofs.lemmas.List.Elements.{All-weaker, Contains-append_cases, Contains-append_left, Contains-append_right}
use Rattle.ballots.specs.declared.message.Note.{Note}
use Rattle.engine.specs.Division.{Division}
use Rattle.protocol.specs.Events.{Event, Restart, Stop, StopIn, node_of}
use Rattle.protocol.specs.declared.event.Left.TheVariants as left
use Rattle.faults.specs.Bytes.{Text}
use Rattle.laws.proofs.Events.{IsEventOf, can_be, event_of}
use Rattle.laws.proofs.Places.{all_there}
use Rattle.laws.specs.Hosts.{Down, Host, Hosts, IsLeft, IsOfATurn, TakesStep, Up, WasOffered, sends_of}
use Rattle.laws.specs.Run.{HasEnded, HasOpened, HasRefused, HasStayed, HasTurned}
use Rattle.laws.specs.Worlds.{AreNodesOf, IsNodeOf}
use Rattle.node.proofs.Opened.{one_way}
use Rattle.node.proofs.Sent.{notes_again}
use Rattle.node.specs.Calls.{left_by}
use Rattle.node.specs.Noted.{notes_in}
use Rattle.node.specs.OnLog.{texts_of}
use Rattle.node.specs.State.{NodeState, opened_node, with_note}
use Rattle.node.specs.Step.{Asked, Comes, Does, Taken, Takes, after}
use Rattle.node.specs.declared.fault.Foreign.{Foreign}
use Rattle.node.specs.declared.fault.NodeFault.{NodeFault}
use Rattle.node.specs.declared.fault.NodeFault.TheVariants as fault
use Rattle.package_record.proofs.BuildsRead.{build_is_read}
use Rattle.protocol.specs.State.{Value}
use Rattle.wire.specs.Messages.{IsNote}
use Rattle.world.proofs.Growth.{leads_later}
use Rattle.one_list.proofs.uses.HostedNodes.{HasStepped, IsHosted, acts_there, full_here, refused_there, refuses_there, set_elsewhere, set_there, stands_on, steps_there}
use Rattle.one_list.proofs.clauses.OneListOfRuns.{each_run_is_acts}
use Rattle.one_list.proofs.clauses.RunInvariants.{none_is_foreign}
use Rattle.world.proofs.SentAdditions.{sends_come, sends_stay, sends_there}
use Rattle.world.specs.Happening.{Acts, Leads, Stops, StopsIn}
use Rattle.one_list.specs.Local.{IsOfUnit}
use Rattle.world.specs.World.{IsMade, World, WorldNode, down_node, node_at, restarted_node, start, up_node, with_node}

-- ---- a world in which one node changed

-- the worlds differ only in this node
pub record IsButOne (w v : World) (k : ℕ) (y : WorldNode) : Type 0 where
  pub division : v.division ≡ w.division
  pub weights : v.weights ≡ w.weights
  pub nodes : v.nodes ≡ slice_set w.nodes k y

-- the other hosts' nodes are still that world's
other_stays : (w v : World) (k : ℕ) (y : WorldNode) → IsButOne w v k y → (j : ℕ) (x : Host)
    → j ≢ k → IsNodeOf w j x → IsNodeOf v j x
other_stays w v k y but j (Up n) other (stands, is) = (
  ap (λ l. slice_get l j) but.nodes ∙ (set_elsewhere w.nodes k j y other ∙ stands),
  stands_on w v j n but.division but.weights is,
)
other_stays w v k y but j (Down texts) other (x, stands, down, same) = (
  x,
  ap (λ l. slice_get l j) but.nodes ∙ (set_elsewhere w.nodes k j y other ∙ stands),
  down,
  same,
)

-- so all hosts' nodes are the world's, if the changed one is
pub nodes_then : (w v : World) (old new : List Host) (k : ℕ) (before after : Host) (y : WorldNode)
    → ((j : ℕ) (x : Host) → slice_get old j ≡ Some x → IsNodeOf w j x)
    → slice_get old k ≡ Some before → new ≡ slice_set old k after → IsButOne w v k y
    → IsNodeOf v k after → (j : ℕ) (x : Host) → slice_get new j ≡ Some x → IsNodeOf v j x
nodes_then w v old new k before after y are stood set but here =
    all_there (IsNodeOf v) old new k before after stood set here
    (λ j x other at. other_stays w v k y but j x other (are j x at))

-- ---- more events

-- Some events lead from this world to one with the nodes of these hosts.
abbrev pub GoesOn : World → Hosts → Type 0
GoesOn w new = (more : List Event) × (v : World) × Leads w more v × AreNodesOf v new

module _ (division : Division) (weights : List ℕ) (made : IsMade division weights)
    (events : List Event) (w : World) (led : Leads (start division weights) events w) (old : Hosts)
    (are : AreNodesOf w old) where
  fixed : (w.division ≡ division) × (w.weights ≡ weights)
  fixed = let l = leads_later (start division weights) w events led in (l.division, l.weights)

  made_there : IsMade w.division w.weights
  made_there = subst (λ d. IsMade d w.weights) (sym fixed.0)
      (subst (λ ws. IsMade division ws) (sym fixed.1) made)

  led_there : Leads (start w.division w.weights) events w
  led_there = subst (λ d. Leads (start d w.weights) events w) (sym fixed.0)
      (subst (λ ws. Leads (start division ws) events w) (sym fixed.1) led)

  -- what was offered was sent
  was_sent : (asked : Asked) → WasOffered old.offered asked → WasOffered w.sent asked
  was_sent (Comes text) came = (are.sent text).0 came
  was_sent (Does input) came = tt

  -- if nothing more was offered, the same texts were sent
  same_sent : (v : World) (new : Hosts) → v.sent ≡ w.sent → new.offered ≡ old.offered
      → (text : Text) → Contains new.offered text ↔ Contains v.sent text
  same_sent v new sent offered text = (
    (λ h. subst (λ l. Contains l text) (sym sent)
        ((are.sent text).0 (subst (λ l. Contains l text) offered h))),
    (λ h. subst (λ l. Contains l text) (sym offered)
        ((are.sent text).1 (subst (λ l. Contains l text) sent h))),
  )

  -- ---- a node that is up

  module _ (k : ℕ) (n : NodeState) (up : slice_get old.hosts k ≡ Some (Up n)) where
    hosted : IsHosted w k n
    hosted = let is = are.nodes k (Up n) up in record { stands = is.0; is = is.1 }

    -- it ended with its notes on the log
    ends : (new : Hosts) → new.hosts ≡ slice_set old.hosts k (Down (texts_of n.notes))
        → new.offered ≡ old.offered → GoesOn w new
    ends new hosts offered = (
      Stop k ∷ [],
      v,
      (v, stops, refl),
      record {
        nodes = nodes_then w v old.hosts new.hosts k (Up n) (Down (texts_of n.notes))
            (down_node n.notes []) are.nodes up hosts
            (record { division = refl; weights = refl; nodes = refl }) (
              down_node n.notes [],
              set_there w.nodes k (up_node n) (down_node n.notes []) hosted.stands,
              refl,
              refl,
            );
        sent = same_sent v new refl offered;
      },
    )
      where
        v : World
        v = with_node w k (down_node n.notes [])

        stops : Stops w k v
        stops = record {
          node = up_node n;
          is_up = record { stands = hosted.stands; up = refl };
          leaves = refl;
        }

    module _ (asked : Asked) (asks : IsOfATurn asked) (came : WasOffered old.offered asked) where
      event : (e : Event) × IsEventOf w k asked e
      event = event_of w k (up_node n) hosted.stands refl asked asks (was_sent asked came)

      here : IsHosted w (node_of event.0) n
      here = subst (λ j. IsHosted w j n) (sym event.1.of_node) hosted

      -- ---- it took a step

      module _ (t : Taken) (takes : Takes n asked (Ok t)) where
        acts : Acts w event.0 (up_node n) t
        acts = acts_there w event.0 n here asked event.1.asks (can_be asked asks) t takes

        turns : (v : World) → HasStepped w event.0 n t v → (new : Hosts)
            → new.hosts ≡ slice_set old.hosts k (Up (after n t))
            → new.offered ≡ old.offered ++ sends_of t → GoesOn w new
        turns v s new hosts offered = (
          event.0 ∷ [],
          v,
          (v, event.1.happens v s.steps, refl),
          record {
            nodes = nodes_then w v old.hosts new.hosts k (Up n) (Up (after n t))
                (up_node (after n t)) are.nodes up hosts but (there.stands, there.is);
            sent = sent_then;
          },
        )
          where
            there : IsHosted v k (after n t)
            there = subst (λ j. IsHosted v j (after n t)) event.1.of_node s.hosted

            but : IsButOne w v k (up_node (after n t))
            but = record {
              division = s.division;
              weights = s.weights;
              nodes = s.nodes ∙ ap (λ j. slice_set w.nodes j (up_node (after n t))) event.1.of_node;
            }

            sent_then : (text : Text) → Contains new.offered text ↔ Contains v.sent text
            sent_then text = (
              (λ h. subst (λ l. Contains l text) (sym s.sent) (⊎_elim
                  (λ old. sends_stay w.sent t.answer.sends text ((are.sent text).0 old))
                  (λ new. sends_there w.sent t.answer.sends text new)
                  (Contains-append_cases old.offered (sends_of t) text
                  (subst (λ l. Contains l text) offered h)))),
              (λ h. subst (λ l. Contains l text) (sym offered) (⊎_elim
                  (λ early. Contains-append_left old.offered (sends_of t) text
                  ((are.sent text).1 early))
                  (λ late. Contains-append_right old.offered (sends_of t) text late)
                  (sends_come w.sent t.answer.sends text (subst (λ l. Contains l text) s.sent h)))),
            )

      -- it took a step, and there was room for its note
      takes_step : (t : Taken) → TakesStep old.offered n asked t → (new : Hosts)
          → new.hosts ≡ slice_set old.hosts k (Up (after n t))
          → new.offered ≡ old.offered ++ sends_of t → GoesOn w new
      takes_step t step new hosts offered =
          let s = steps_there w event.0 n here made_there events led_there event.1.step t
          (acts t step.takes) step.room in
          turns t step.takes s.0 s.1 new hosts offered

      -- it ended during that step, after its note was written
      ends_inside : (t : Taken) → TakesStep old.offered n asked t → (new : Hosts)
          → new.hosts ≡ slice_set old.hosts k (Down (texts_of (with_note n.notes t.answer.note)))
          → new.offered ≡ old.offered → GoesOn w new
      ends_inside t step new hosts offered = (
        StopIn event.0 left.Whole ∷ [],
        v,
        (v, stops, refl),
        record {
          nodes = nodes_then w v old.hosts new.hosts k (Up n) (Down (texts_of noted))
              (down_node noted []) are.nodes up hosts
              (record {
                division = refl;
                weights = refl;
                nodes = ap (λ j. slice_set w.nodes j (down_node noted [])) event.1.of_node;
              }) (
                down_node noted [],
                ap (λ j. slice_get (slice_set w.nodes j (down_node noted [])) k) event.1.of_node
                    ∙ set_there w.nodes k (up_node n) (down_node noted []) hosted.stands,
                refl,
                refl,
              );
          sent = same_sent v new refl offered;
        },
      )
        where
          noted : List (Note Value)
          noted = with_note n.notes t.answer.note

          v : World
          v = with_node w (node_of event.0) (down_node noted [])

          stops : StopsIn w event.0 left.Whole v
          stops = record {
            node = up_node n;
            taken = t;
            step = event.1.step;
            acts = acts t step.takes;
            room = λ full. step.room (full_here w (node_of event.0) n here.is t.answer.note full);
            leaves = refl;
          }

      -- ---- it refused

      -- a refusal leaves it unchanged, since nothing that was sent is foreign
      stays : (f : NodeFault) → Takes n asked (Err f) → left_by n asked f ≡ n
      stays f refuses =
          (refused_there w event.0 n here made_there events led_there event.1.passes asked
          event.1.asks f refuses (left_by n asked f) refl).0

      -- it refuses nothing that was sent as foreign
      pub not_foreign : (f : Foreign) → Takes n asked (Err (fault.Foreign f)) → ⊥
      not_foreign f refuses =
          none_is_foreign build_is_read each_run_is_acts w.division w.weights events w event.0 f
          made_there led_there (inr (
            event.1.passes,
            refuses_there w event.0 n here asked event.1.asks (fault.Foreign f) refuses,
          ))

      refuses_so : (f : NodeFault) → Takes n asked (Err f) → (new : Hosts)
          → new.hosts ≡ slice_set old.hosts k (Up (left_by n asked f))
          → new.offered ≡ old.offered → GoesOn w new
      refuses_so f refuses new hosts offered = (
        [],
        w,
        refl,
        record {
          nodes = all_there (IsNodeOf w) old.hosts new.hosts k (Up n) (Up (left_by n asked f)) up
              hosts
              (subst (λ m. IsNodeOf w k (Up m)) (sym (stays f refuses)) (are.nodes k (Up n) up))
              (λ j x other at. are.nodes j x at);
          sent = same_sent w new refl offered;
        },
      )

  -- ---- a node that is down

  -- it was opened over the notes on its log
  opens : (new : Hosts) → HasOpened division.tree weights old new → GoesOn w new
  opens new o = by (are.nodes o.number (Down o.texts) o.down)
    where
      by : IsNodeOf w o.number (Down o.texts) → GoesOn w new
      by (x, stands, down, same) = (
        Restart o.number ∷ [],
        v,
        (v, record { node = x; stands = stands; down = down; leaves = refl }, refl),
        record {
          nodes = nodes_then w v old.hosts new.hosts o.number (Down o.texts) (Up o.node)
              (restarted_node x.notes) are.nodes o.down o.hosts
              (record { division = refl; weights = refl; nodes = refl }) (
                set_there w.nodes o.number x (restarted_node x.notes) stands
                    ∙ ap (λ m. Some (up_node m)) (sym is),
                subst (λ m. m ≡ node_at v o.number (up_node m)) (sym is)
                    (λ i. opened_node (sym fixed.0 i) (sym fixed.1 i) o.number x.notes),
              );
          sent = same_sent v new refl o.offered;
        },
      )
        where
          v : World
          v = with_node w o.number (restarted_node x.notes)

          -- the notes can be encoded, so they are the ones with these texts
          noted : o.node.notes ≡ x.notes
          noted =
              let run = each_run_is_acts division weights events w made led in
              let are_notes = All-weaker (IsOfUnit w) IsNote (λ n is. is.note) x.notes
              (run.3.each o.number x stands).notes in
              sym (notes_again o.node.notes o.opened.notes_are)
              ∙ (ap notes_in (o.own ∙ sym same) ∙ notes_again x.notes are_notes)

          -- it is the node of the one division
          is : o.node ≡ opened_node division weights o.number x.notes
          is = o.opened.node
              ∙ (λ i. opened_node
              (one_way o.opened.division division o.opened.of_tree o.opened.divided made.divided i)
              weights o.number (noted i))

  -- ---- each thing that may happen

  pub stayed_so : (new : Hosts) → HasStayed old new → GoesOn w new
  stayed_so new same = ([], w, refl, subst (AreNodesOf w) (sym same) are)

  pub turned_so : (new : Hosts) → HasTurned old new → GoesOn w new
  turned_so new h = takes_step h.number h.node h.up h.asked h.step.asks h.step.came h.taken h.step
      new h.hosts h.offered

  pub refused_so : (new : Hosts) → HasRefused old new → GoesOn w new
  refused_so new h = refuses_so h.number h.node h.up h.asked h.asks h.came h.fault h.refuses new
      h.hosts h.offered

  pub ended_so : (new : Hosts) → HasEnded old new → GoesOn w new
  ended_so new h = by h.is_left
    where
      with_left : (texts : List Text) → h.left ≡ texts
          → new.hosts ≡ slice_set old.hosts h.number (Down texts)
      with_left texts same =
          h.hosts ∙ ap (λ l. slice_set old.hosts h.number (Down l)) same

      by : IsLeft old.offered h.node h.left → GoesOn w new
      by (inl same) =
          ends h.number h.node h.up new (with_left (texts_of h.node.notes) same) h.offered
      by (inr (asked, t, step, same)) =
          ends_inside h.number h.node h.up asked step.asks step.came t step new
          (with_left (texts_of (with_note h.node.notes t.answer.note)) same) h.offered

  pub opened_so : (new : Hosts) → HasOpened division.tree weights old new → GoesOn w new
  opened_so new h = opens new h
