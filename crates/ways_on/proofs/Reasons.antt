-- A way is either granted or refused, never both, and for only one reason.
use Rattle.std.proofs.Common.{◌≡◌, ◌⊎◌, ℕ, Bool, true, false, not, nat_le, [], ◌∷◌, length, slice_get, Option, None, Some, refl, sym, ap, subst, ◌∙◌, inl, inr}
use Rattle.std.proofs.lemmas.Bool.{lt-leb}
use Rattle.engine.specs.Units.{AreUnits}
use Rattle.engine.specs.declared.Letter.{Letter}
use Rattle.engine.specs.declared.Letter.TheVariants as letters
use Rattle.engine.proofs.OneLetter.{only_one_letter}
use Rattle.engine.proofs.SomeLetter.{some_letter}
use Rattle.engine.specs.State.{has_agreed}
use Rattle.faults.specs.Answers.{first_that_applies}
use Rattle.faults.specs.Bytes.{Text}
use Rattle.protocol.specs.Given.{Given}
use Rattle.protocol.specs.State.{State, engine_of}
use Rattle.protocol.specs.Step.{IsLetterOf}
use Rattle.std.specs.List.{slice_index_or}
use Rattle.engine.specs.Division.{Division, number_found, unit_at}
use Rattle.ways_on.specs.Asked.{HasNoWay, IsGranted, IsTested, absence_of, refusal_at, refusal_for}
use Rattle.ways_on.specs.Laws.{OneReason}
use Rattle.ways_on.specs.declared.fault.WayFault.{WayFault}
use Rattle.ways_on.specs.declared.fault.WayFault.TheVariants as fault
use Rattle.world.specs.Happening.{is_up, up_of}
use Rattle.world.specs.World.{World, WorldNode, member_at, start}
use Rattle.world.proofs.Growth.{leads_later}
use Rattle.one_list.proofs.nodes.NodesAsMembers.{get_within}
use Rattle.ways_on.proofs.Seen.{node_up}

pub some_node : (a b : WorldNode) → Some a ≡ Some b → a ≡ b
some_node a b e = cc

some_fault : (a b : WayFault) → Some a ≡ Some b → a ≡ b
some_fault a b e = cc

-- the reason is unique, whatever letter the unit shows
one_refusal : (w : World) (s : State) (path : Text) (host : ℕ) (given : Given) (k l : Letter)
    (u : Option ℕ) → IsLetterOf s u k → IsLetterOf s u l
    → refusal_at w s k path host given u ≡ refusal_at w s l path host given u
one_refusal w s path host given k l None shown again = refl
one_refusal w s path host given k l (Some u) shown again =
    ap (λ letter. refusal_for w s letter host given u)
    (only_one_letter s.division.tree (has_agreed (engine_of s))
    (slice_index_or (unit_at s.division u).packages 0 0) k l shown again)

-- the tests at a node that is up have one result
one_tested : (w : World) (k : ℕ) (path : Text) (host : ℕ) (given : Given) (f g : Option WayFault)
    → IsTested w k path host given f → IsTested w k path host given g → f ≡ g
one_tested w k path host given f g a b =
    let same : a.node ≡ b.node = some_node a.node b.node (sym a.stands ∙ b.stands) in
    a.tested_is
    ∙ one_refusal w (member_at w k a.node) path host given a.letter b.letter
    (number_found w.division path) a.shown
    (subst (λ (x : WorldNode). IsLetterOf (member_at w k x) (number_found w.division path)
    b.letter) (sym same) b.shown)
    ∙ ap (λ (x : WorldNode). refusal_at w (member_at w k x) b.letter path host given
    (number_found w.division path)) same
    ∙ sym b.tested_is

-- if the node is tested, nothing was refused before
none_before : (w : World) (k : ℕ) (path : Text) (host : ℕ) (given : Given) (f : Option WayFault)
    → IsTested w k path host given f → absence_of w k ≡ None
none_before w k path host given f t =
    ap (λ b. first_that_applies ((b, fault.NoSuchNode) ∷ (not (is_up w k), fault.NodeDown) ∷ []))
    (lt-leb (length w.nodes) k (get_within w.nodes k t.node t.stands))
    ∙ ap (λ b. first_that_applies ((not b, fault.NodeDown) ∷ [])) (ap up_of t.stands ∙ t.up)

-- if nothing is refused before the node is asked, it is up
up_there : (a b : Bool) → first_that_applies ((a, fault.NoSuchNode) ∷ (not b, fault.NodeDown) ∷ [])
    ≡ None → b ≡ true
up_there true b e = absurd (let no : Some fault.NoSuchNode ≡ None = e in cc)
up_there false true e = refl
up_there false false e = absurd (let no : Some fault.NodeDown ≡ None = e in cc)

-- a node that is up is tested, whatever the path names
module _ (w : World) (units : AreUnits w.division.tree w.division.units) (k : ℕ) (path : Text)
    (host : ℕ) (given : Given) where
  letter_at : (x : WorldNode) (o : Option ℕ) → (letter : Letter)
      × IsLetterOf (member_at w k x) o letter
  letter_at x None = (letters.Q, tt)
  letter_at x (Some u) = some_letter w.division.tree w.division.units
      (has_agreed (engine_of (member_at w k x)))
      (slice_index_or (unit_at w.division u).packages 0 0) units

  is_tested : (x : WorldNode) → slice_get w.nodes k ≡ Some x → x.up ≡ true
      → (o : Option WayFault) × IsTested w k path host given o
  is_tested x stands up =
      let l = letter_at x (number_found w.division path) in (
        refusal_at w (member_at w k x) l.0 path host given (number_found w.division path),
        record {
          node = x;
          stands = stands;
          up = up;
          letter = l.0;
          shown = l.1;
          tested_is = refl;
        },
      )

  -- so a way is granted or refused
  pub granted_or_refused : IsGranted w k path host given
      ⊎ ((f : WayFault) × HasNoWay w k path host given f)
  granted_or_refused = by (absence_of w k) refl
    where
      by_test : (o : Option WayFault) → IsTested w k path host given o
          → IsGranted w k path host given ⊎ ((f : WayFault) × HasNoWay w k path host given f)
      by_test None t = inl t
      by_test (Some f) t = inr (f, inr t)

      by : (o : Option WayFault) → absence_of w k ≡ o
          → IsGranted w k path host given ⊎ ((f : WayFault) × HasNoWay w k path host given f)
      by (Some f) e = inr (f, inl e)
      by None e =
          let x = node_up w k (up_there (nat_le (length w.nodes) k) (is_up w k) e) in
          let t = is_tested x.0 x.1 x.2 in
          by_test t.0 t.1

pub one_reason : OneReason
one_reason division weights before w k path host given made led = (
  granted_or_refused w units k path host given,
  both,
  one,
)
  where
    units : AreUnits w.division.tree w.division.units
    units = subst (λ (d : Division). AreUnits d.tree d.units)
        (sym (leads_later (start division weights) w before led).division) made.divided.units

    never : (f : WayFault) (o : Option WayFault) → IsTested w k path host given o
        → absence_of w k ≡ Some f → ⊥
    never f o t e = none_is f (sym (none_before w k path host given o t) ∙ e)
      where
        none_is : (f : WayFault) → None ≡ Some f → ⊥
        none_is f e = cc

    both : (f : WayFault) → IsGranted w k path host given → HasNoWay w k path host given f → ⊥
    both f granted (inl e) = never f None granted e
    both f granted (inr t) = none_is f (one_tested w k path host given None (Some f) granted t)
      where
        none_is : (f : WayFault) → None ≡ Some f → ⊥
        none_is f e = cc

    one : (f g : WayFault) → HasNoWay w k path host given f → HasNoWay w k path host given g
        → f ≡ g
    one f g (inl a) (inl b) = some_fault f g (sym a ∙ b)
    one f g (inl a) (inr t) = absurd (never f (Some g) t a)
    one f g (inr t) (inl b) = absurd (never g (Some f) t b)
    one f g (inr s) (inr t) = some_fault f g (one_tested w k path host given (Some f) (Some g) s t)
