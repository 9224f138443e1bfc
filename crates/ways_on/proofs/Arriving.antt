-- Taking the events of a way in order reaches its goal.
use Rattle.std.proofs.Common.{◌≡◌, ℕ, true, List, [], ◌∷◌, ◌++◌, refl, sym, subst, inl, inr}
use Rattle.protocol.specs.Events.{Event, node_of}
use Rattle.engine.specs.Division.{Division}
use Rattle.ways_on.proofs.Holding.{has_packages}
use Rattle.ways_on.specs.Laws.{WaysArrive}
use Rattle.ways_on.specs.Ways.{HoldsUnit, LeadsTo, no_room}
use Rattle.world.specs.Happening.{Happens, IsRefused, Leads, is_up}
use Rattle.world.specs.Laws.{OneAnswer, OneWorldFollows}
use Rattle.world.specs.World.{IsMade, World, start}
use Rattle.world.specs.declared.fault.WorldFault.{WorldFault}
use Rattle.world.proofs.EventParts.{leads_together}

-- equal lists have equal first elements and equal rests
first_same : (a b : Event) (l m : List Event) → a ∷ l ≡ b ∷ m → (a ≡ b) × (l ≡ m)
first_same a b l m e = (cc, cc)

nothing_behind : (early late : List Event) (e : Event) → [] ≡ early ++ e ∷ late → ⊥
nothing_behind [] late e h = cc
nothing_behind (x ∷ xs) late e h = cc

module _ (one : OneWorldFollows) (answer : OneAnswer) (division : Division) (weights : List ℕ)
    (made : IsMade division weights) (P : World → Type 0) where
  -- the worlds to which the events lead, one after another
  up_there : (before events early late : List Event) (w v : World) (e : Event)
      → Leads (start division weights) before w → LeadsTo P w events
      → events ≡ early ++ e ∷ late → Leads w early v → is_up v (node_of e) ≡ true
  up_there before [] early late w v e led to is first = absurd (nothing_behind early late e is)
  up_there before (x ∷ xs) [] late w v e led (up, rest) is first =
      let same = (first_same x e xs late is).0 in
      let here : v ≡ w = first in
      subst (λ u. is_up u (node_of e) ≡ true) (sym here)
      (subst (λ y. is_up w (node_of y) ≡ true) same up)
  up_there before (x ∷ xs) (y ∷ ys) late w v e led (up, inr full) is (u, h, first) =
      let same = (first_same x y xs (ys ++ e ∷ late) is).0 in
      absurd ((answer division weights before w y made led).0 u no_room h
      (subst (λ z. IsRefused w z no_room) same full))
  up_there before (x ∷ xs) (y ∷ ys) late w v e led (up, inl (t, g, rest)) is (u, h, first) =
      let both = first_same x y xs (ys ++ e ∷ late) is in
      let there = subst (λ z. Happens w z t) both.0 g in
      let same : t ≡ u = one division weights before w t u y made led there h in
      up_there (before ++ y ∷ []) xs ys late u v e
      (leads_together (start division weights) w u before (y ∷ []) led (u, h, refl))
      (subst (λ z. LeadsTo P z xs) same rest) both.1 first

  refused_there : (before events early late : List Event) (w v : World) (e : Event)
      (f : WorldFault) → Leads (start division weights) before w → LeadsTo P w events
      → events ≡ early ++ e ∷ late → Leads w early v → IsRefused v e f → f ≡ no_room
  refused_there before [] early late w v e f led to is first not =
      absurd (nothing_behind early late e is)
  refused_there before (x ∷ xs) [] late w v e f led (up, inl (t, g, rest)) is first not =
      let same = (first_same x e xs late is).0 in
      let here : v ≡ w = first in
      absurd ((answer division weights before w e made led).0 t f
      (subst (λ z. Happens w z t) same g) (subst (λ z. IsRefused z e f) here not))
  refused_there before (x ∷ xs) [] late w v e f led (up, inr full) is first not =
      let same = (first_same x e xs late is).0 in
      let here : v ≡ w = first in
      (answer division weights before w e made led).1 f no_room
      (subst (λ z. IsRefused z e f) here not) (subst (λ z. IsRefused w z no_room) same full)
  refused_there before (x ∷ xs) (y ∷ ys) late w v e f led (up, inr full) is (u, h, first) not =
      let same = (first_same x y xs (ys ++ e ∷ late) is).0 in
      absurd ((answer division weights before w y made led).0 u no_room h
      (subst (λ z. IsRefused w z no_room) same full))
  refused_there before (x ∷ xs) (y ∷ ys) late w v e f led (up, inl (t, g, rest)) is (u, h, first)
      not =
      let both = first_same x y xs (ys ++ e ∷ late) is in
      let there = subst (λ z. Happens w z t) both.0 g in
      let same : t ≡ u = one division weights before w t u y made led there h in
      refused_there (before ++ y ∷ []) xs ys late u v e f
      (leads_together (start division weights) w u before (y ∷ []) led (u, h, refl))
      (subst (λ z. LeadsTo P z xs) same rest) both.1 first not

  pub at_the_end : (before events : List Event) (w v : World)
      → Leads (start division weights) before w → LeadsTo P w events → Leads w events v → P v
  at_the_end before [] w v led to first = let here : v ≡ w = first in subst P (sym here) to
  at_the_end before (x ∷ xs) w v led (up, inr full) (u, h, first) =
      absurd ((answer division weights before w x made led).0 u no_room h full)
  at_the_end before (x ∷ xs) w v led (up, inl (t, g, rest)) (u, h, first) =
      let same : t ≡ u = one division weights before w t u x made led g h in
      at_the_end (before ++ x ∷ []) xs u v
      (leads_together (start division weights) w u before (x ∷ []) led (u, h, refl))
      (subst (λ z. LeadsTo P z xs) same rest) first

-- So taking the events of a way reaches its goal.
pub ways_arrive : OneWorldFollows → OneAnswer → WaysArrive
ways_arrive one answer division weights before w k u events made led way = record {
  up = λ v early late e is first. up_there one answer division weights made
      (λ x. HoldsUnit x k u) before events early late w v e led way is first;
  refused = λ v early late e f is first not. refused_there one answer division weights made
      (λ x. HoldsUnit x k u) before events early late w v e f led way is first not;
  held = λ v first. at_the_end one answer division weights made (λ x. HoldsUnit x k u) before
      events w v led way first;
  packages = λ v x p first stands among.
      has_packages division weights made v
      (record {
        before = before ++ events;
        led = leads_together (start division weights) w v before events led first;
      }) k u p
      (at_the_end one answer division weights made (λ y. HoldsUnit y k u) before events w v led way
      first) x stands among;
}
