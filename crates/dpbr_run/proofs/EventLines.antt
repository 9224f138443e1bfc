-- The lines of the events so far, and why a run stops.
use Rattle.std.proofs.Common.{◌≡◌, ◌⊎◌, ◌+◌, ◌<◌, ◌≤◌, ◌∙◌, ◌++◌, ℕ, suc, List, [], ◌∷◌, None, Some, append-nil, append_assoc, arith, ap, add-one, drop, drop-cons, get_or, flat_map, inl, inr, length, length-append, map, refl, subst, sym, take, Vec}
use Rattle.std.proofs.lemmas.List.{map-append, take-append-drop}
use Rattle.std.proofs.lemmas.List.Folds.{flat_map-map}
use Rattle.std.specs.declared.alloc.Global.{Global}
use Rattle.engine.specs.Division.{Division}
use Rattle.faults.specs.Bytes.{Text}
use Rattle.listing.specs.Tree.{Tree}
use Rattle.node.specs.Parcels.{texts_in}
use Rattle.package_record.specs.Content.{Content}
use Rattle.protocol.specs.Events.{Event, event_view}
use Rattle.protocol.specs.declared.event.Event as declared
use Rattle.simulator.specs.History.{History, IsHistory, IsRunFault, taken}
use Rattle.simulator.specs.declared.event_effects.MessageKind.{MessageKind}
use Rattle.simulator.specs.declared.run_fault.RunFault.{RunFault}
use Rattle.dpbr_run.specs.Events.{HasEventLines, IsEventLine, datagram_part, receiver_part}
use Rattle.dpbr_run.specs.shared.EventLines.{TakesTelling, WhyStopped}
use Rattle.world.specs.Headline.{IsBeginningOf}
use Rattle.world.specs.World.{World, start}

-- ---- lines

-- the line of one more event
pub more_lines : (es : List Event) (w : World) (n : ℕ) (v : World) (text : Text)
    → HasEventLines w n es v text → (e : Event) (v' : World) (line : Text) (number : ℕ)
    → number ≡ n + length es → IsEventLine v number e v' line
    → HasEventLines w n (es ++ e ∷ []) v' (text ++ line)
more_lines [] w n v text has e v' line number is here =
    let same : number ≡ n = omega arith in (
      v',
      line,
      [],
      subst (λ u. IsEventLine u n e v' line) has.0
          (subst (λ k. IsEventLine v k e v' line) same here),
      (refl, refl),
      ap (λ (t : Text). t ++ line) has.1 ∙ sym (append-nil line),
    )
more_lines (x ∷ es) w n v text has e v' line number is here =
    let later : number ≡ (n + 1) + length es = omega arith in (
      has.0,
      has.1,
      has.2 ++ line,
      has.3,
      more_lines es has.0 (n + 1) v has.2 has.4 e v' line number later here,
      ap (λ (t : Text). t ++ line) has.5 ∙ append_assoc has.1 has.2 line,
    )

-- no lines at the start
pub no_lines : (h : History) (weights : List ℕ) → h.events ≡ []
    → h.world ≡ start h.world.division weights
    → HasEventLines (start h.world.division h.world.weights) 1 (taken h) h.world []
no_lines h weights none is =
    let same : h.world ≡ start h.world.division h.world.weights =
    is ∙ ap (start h.world.division) (sym (ap (λ (w : World). w.weights) is)) in
    subst (λ (es : List declared.Event).
    HasEventLines (start h.world.division h.world.weights) 1 (map event_view es) h.world [])
    (sym none) (same, refl)

-- ---- one more

-- the lines so far, after one more event
pub takes_more : (before after : History) (e : Event) (old new : Text)
    → TakesTelling before e after old new
    → HasEventLines (start before.world.division before.world.weights) 1 (taken before)
    before.world old
    → HasEventLines (start after.world.division after.world.weights) 1 (taken after) after.world new
takes_more before after e old new then lines =
    let counted : length (taken before) + 1 ≡ 1 + length (taken before) = omega arith in
    let more = more_lines (taken before) (start before.world.division before.world.weights) 1
    before.world old lines e after.world then.line (length (taken before) + 1) counted
    then.line_is in
    subst (λ (d : Division). HasEventLines (start d after.world.weights) 1 (taken after)
    after.world new) (sym then.fixed.0)
    (subst (λ (ws : List ℕ). HasEventLines (start before.world.division ws) 1 (taken after)
    after.world new) (sym then.fixed.1)
    (subst (λ (es : List Event). HasEventLines
    (start before.world.division before.world.weights) 1 es after.world new) (sym then.kept)
    (subst (HasEventLines (start before.world.division before.world.weights) 1
    (taken before ++ e ∷ []) after.world) (sym then.appended) more)))

-- ---- the events so far

module _ (events : List declared.Event) (i : ℕ) (x : declared.Event) (within : i < length events)
    (is : x ≡ get_or events i x) where
  -- those before, this one, and those after it
  pub around : events ≡ take i events ++ x ∷ drop (i + 1) events
  around =
      let rest : drop i events ≡ get_or events i x ∷ drop (i + 1) events =
      rw add-one (drop-cons events i x within) in
      sym (take-append-drop i events) ∙ ap (λ (ys : List declared.Event). take i events ++ ys)
      (rest ∙ ap (λ (y : declared.Event). y ∷ drop (i + 1) events) (sym is))

  -- the run stops at this one
  pub stops_at : (tree : Tree) (weights : List ℕ) (h : History) → h.world.division.tree ≡ tree
      → h.world.weights ≡ weights → taken h ≡ map event_view (take i events) → (f : RunFault)
      → WhyStopped h (event_view x) f
      → IsRunFault tree weights (map event_view events) f.event f.fault
  stops_at tree weights h of_tree weigh kept f (inl (none, memory)) =
      subst (λ p. IsRunFault tree weights (map event_view events) p f.fault) (sym none) memory
  stops_at tree weights h of_tree weigh kept f (inr (some, is_history, why)) =
      let among : map event_view events
      ≡ taken h ++ event_view x ∷ map event_view (drop (i + 1) events) =
      ap (map event_view) around
      ∙ map-append event_view (take i events) (x ∷ drop (i + 1) events)
      ∙ ap (λ (es : List Event). es ++ event_view x ∷ map event_view (drop (i + 1) events))
      (sym kept) in
      subst (λ p. IsRunFault tree weights (map event_view events) p f.fault) (sym some)
      (record {
        history = h;
        is_history = is_history;
        of_tree = of_tree;
        weigh = weigh;
        event = event_view x;
        behind = map event_view (drop (i + 1) events);
        among = among;
        number = refl;
        refused = why;
      })

-- ---- the list

-- a list is no longer than one that it begins
pub no_longer : (list longer : List Content) → IsBeginningOf list longer
    → length list ≤ length longer
no_longer list longer begins =
    omega (arith, ap length begins.1, length-append list begins.0)

-- ---- a line

-- a text to which these parts were appended, one after the other
pub five_appended : (old front noted sent agreed last one two three four five : Text)
    → one ≡ old ++ front → two ≡ one ++ noted → three ≡ two ++ sent → four ≡ three ++ agreed
    → five ≡ four ++ last → five ≡ old ++ (front ++ noted ++ sent ++ agreed ++ last)
five_appended old front noted sent agreed last one two three four five e1 e2 e3 e4 e5 =
    e5
    ∙ ap (λ (t : Text). t ++ last)
    (e4
    ∙ ap (λ (t : Text). t ++ agreed)
    (e3
    ∙ ap (λ (t : Text). t ++ sent) (e2 ∙ ap (λ (t : Text). t ++ noted) e1)))
    ∙ simp append_assoc

-- the parts of datagrams, after an empty text
pub sent_so : (sent : List Text) (kind : MessageKind) (members : Text) (receivers : List ℕ)
    (datagrams : List (Vec ℕ Global)) (old new : Text) → old ≡ []
    → members ≡ flat_map receiver_part receivers
    → new ≡ old ++ flat_map (λ d. datagram_part sent kind members d.items) datagrams
    → new ≡ flat_map (datagram_part sent kind (flat_map receiver_part receivers))
    (texts_in datagrams)
sent_so sent kind members receivers datagrams old new empty members_are is =
    is
    ∙ ap (λ (t : Text). t
    ++ flat_map (λ (d : Vec ℕ Global). datagram_part sent kind members d.items) datagrams) empty
    ∙ ap (λ (m : Text). flat_map (λ (d : Vec ℕ Global). datagram_part sent kind m d.items)
    datagrams) members_are
    ∙ sym (flat_map-map (datagram_part sent kind (flat_map receiver_part receivers))
    (λ (d : Vec ℕ Global). d.items) datagrams)
