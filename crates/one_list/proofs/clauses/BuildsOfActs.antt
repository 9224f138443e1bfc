-- What an act of a run built, an event of the run made.
use Rattle.std.proofs.Common.{◌≡◌, ◌⊎◌, ℕ, true, List, [], ◌∷◌, ◌++◌, None, Some, append_assoc, refl, ap, subst, ◌∙◌, ⊎_elim, inl, inr}
use Rattle.claims.specs.Agreed.{Builds}
use Rattle.claims.specs.AgreedList.{Act, BuildsNow, Cluster, Needs, WasBuilt, after_act, after_acts, beginning, lookup}
use Rattle.claims.specs.Quorums.{Quorums, is_majority}
use Rattle.claims.specs.Step as theory
use Rattle.claims.specs.World as theory_world
use Rattle.claims.specs.World.{Restart, Stop, StopIn, Take}
use Rattle.protocol.specs.Events.{Event}
use Rattle.protocol.specs.State.{Value}
use Rattle.engine.specs.Division.{Division}
use Rattle.world.specs.Happening.{Happens, Leads}
use Rattle.world.specs.World.{World, start}
use Rattle.world.proofs.EventParts.{leads_together}
use Rattle.one_list.specs.Matches.{Matches}
use Rattle.one_list.specs.Mirrored.{IsActOf, MakesBuild, Mirrors, after_all_acts, and_then, at_start}
use Rattle.one_list.specs.Needs.{may_build}

-- ---- acts

-- what is built by some acts and one more is built by the former or by the latter
built_more : (enough : Quorums) (may : Needs Value) (acts : List (Act Value)) (a : Act Value)
    (c : Cluster Value) (p : ℕ) (v : Value)
    → WasBuilt enough may (acts ++ a ∷ []) c p v → WasBuilt enough may acts c p v
    ⊎ BuildsNow Value may (after_acts enough may acts c) a p v
built_more enough may [] a c p v h = ⊎_elim (λ now. inr now) (λ no. absurd no) h
built_more enough may (x ∷ xs) a c p v h = ⊎_elim
    (λ first. inl (inl first))
    (λ later. ⊎_elim (λ old. inl (inr old)) (λ now. inr now)
    (built_more enough may xs a (after_act enough may c x) p v later))
    h

-- an event that builds is a Built of this value at its member
builds_event : (w : theory_world.World Value) (e : theory_world.Event Value) (v : Value)
    → Builds w e v → (i : ℕ) × (e ≡ Take i (theory.Built v))
builds_event w (Take i (theory.Built u)) v b = (i, ap (λ x. Take i (theory.Built x)) b.0)
builds_event w (Take i (theory.Start above)) v b = absurd b
builds_event w (Take i theory.Failed) v b = absurd b
builds_event w (Take i theory.Nudge) v b = absurd b
builds_event w (Take i (theory.Deliver k)) v b = absurd b
builds_event w (Take i theory.Inquire) v b = absurd b
builds_event w (Stop i) v b = absurd b
builds_event w (StopIn i input) v b = absurd b
builds_event w (Restart i) v b = absurd b

-- ---- events

-- An event of the run made the build for the unit, when everything that it depends on was in the
-- list.
pub record WasMade (division : Division) (weights : List ℕ) (events : List Event) (u : ℕ)
    (build : Value) : Type 0 where
  pub before : List Event
  pub event : Event
  pub behind : List Event
  pub among : events ≡ before ++ event ∷ behind
  pub world : World
  pub acts : List (Act Value)
  pub mirrors : Mirrors division weights before world acts
  pub is_match : Matches world (after_all_acts division weights acts)
  pub maker : ℕ
  pub makes : MakesBuild world event maker u build
  pub then : World
  pub happened : Happens world event then
  pub listed : may_build division (lookup (after_all_acts division weights acts).list) u build ≡
      true

module _ (division : Division) (weights : List ℕ) where
  -- a run leads where its events do
  pub mirrors_lead : (events : List Event) (w : World) (acts : List (Act Value))
      → Mirrors division weights events w acts → Leads (start division weights) events w
  mirrors_lead events w acts at_start = refl
  mirrors_lead events last acts (and_then before w v others e o mirrors m h is) =
      leads_together (start division weights) w v before (e ∷ [])
      (mirrors_lead before w others mirrors) (v, h, refl)

  -- what was made in a run so far was made in the longer run
  one_later : (events : List Event) (e : Event) (u : ℕ) (build : Value)
      → WasMade division weights events u build
      → WasMade division weights (events ++ e ∷ []) u build
  one_later events e u build was = record {
    before = was.before;
    event = was.event;
    behind = was.behind ++ e ∷ [];
    among = ap (λ es. es ++ e ∷ []) was.among
        ∙ append_assoc was.before (was.event ∷ was.behind) (e ∷ []);
    world = was.world;
    acts = was.acts;
    mirrors = was.mirrors;
    is_match = was.is_match;
    maker = was.maker;
    makes = was.makes;
    then = was.then;
    happened = was.happened;
    listed = was.listed;
  }

  made_now : (events : List Event) (w v : World) (acts : List (Act Value)) (e : Event)
      (a : Act Value) (u : ℕ) (build : Value) → Mirrors division weights events w acts
      → Matches w (after_all_acts division weights acts) → Happens w e v → IsActOf w e (Some a)
      → BuildsNow Value (may_build division) (after_all_acts division weights acts) a u build
      → WasMade division weights (events ++ e ∷ []) u build
  made_now events w v acts e a u build mirrors m h is now =
      let b = builds_event ((after_all_acts division weights acts).at a.path) a.event build
      now.builds in record {
        before = events;
        event = e;
        behind = [];
        among = refl;
        world = w;
        acts = acts;
        mirrors = mirrors;
        is_match = m;
        maker = b.0;
        makes = subst (λ p. MakesBuild w e b.0 p build) now.path (is b.0 build b.1);
        then = v;
        happened = h;
        listed = now.listed;
      }

  -- What the acts of a run built was made by one of its events.
  pub built_was_made : (events : List Event) (w : World) (acts : List (Act Value))
      → Mirrors division weights events w acts → (u : ℕ) (build : Value)
      → WasBuilt (is_majority weights) (may_build division) acts beginning u build
      → WasMade division weights events u build
  built_was_made events w acts at_start u build b = absurd b
  built_was_made events last acts (and_then before w v others e None mirrors m h is) u build b =
      one_later before e u build (built_was_made before w others mirrors u build b)
  built_was_made events last acts (and_then before w v others e (Some a) mirrors m h is) u build b =
      ⊎_elim
      (λ old. one_later before e u build (built_was_made before w others mirrors u build old))
      (λ now. made_now before w v others e a u build mirrors m h is now)
      (built_more (is_majority weights) (may_build division) others a beginning u build b)
