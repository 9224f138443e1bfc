-- Events that are taken one after another.
use Rattle.std.proofs.Common.{◌≡◌, ◌⊎◌, ◌<◌, ◌+◌, ◌++◌, ℕ, List, [], ◌∷◌, append_assoc, drop, get_or, length, map, take, inl, inr, refl, sym, ap, subst, ◌∙◌}
use Rattle.std.proofs.lemmas.List.{map-append, take-append-drop, take_more}
use Rattle.protocol.specs.Events.{Event, event_view}
use Rattle.protocol.specs.declared.event.Event as declared
use Rattle.simulator.specs.History.{History, taken}
use Rattle.ways_on.specs.Ways.{no_room}
use Rattle.check_worlds.specs.Stops.{HasTaken}
use Rattle.world.specs.Happening.{Happens, IsRefused}
use Rattle.world.specs.World.{World}
use Rattle.world.specs.declared.fault.WorldFault.{WorldFault}
use Rattle.world.specs.declared.fault.WorldFault.TheVariants as fault
use Rattle.world.proofs.EventParts.{leads_together}

-- the events so far and one more
more_taken : (es : List declared.Event) (i : ℕ) (e : declared.Event) → i < length es
    → e ≡ get_or es i e
    → map event_view (take (i + 1) es) ≡ map event_view (take i es) ++ event_view e ∷ []
more_taken es i e lt is =
    ap (map event_view) (take_more es i e lt ∙ ap (λ y. take i es ++ y ∷ []) (sym is))
    ∙ map-append event_view (take i es) (e ∷ [])

-- one more event was taken after those so far
pub one_more : (h g k : History) (es : List declared.Event) (i : ℕ) (e : declared.Event)
    → i < length es → e ≡ get_or es i e → HasTaken h (map event_view (take i es)) g
    → Happens g.world (event_view e) k.world → taken k ≡ taken g ++ event_view e ∷ []
    → HasTaken h (map event_view (take (i + 1) es)) k
one_more h g k es i e lt is before happens kept =
    subst (λ (l : List Event). HasTaken h l k) (sym (more_taken es i e lt is))
    (record {
      led = leads_together h.world g.world k.world (map event_view (take i es))
          (event_view e ∷ []) before.led (k.world, happens, refl);
      kept = kept ∙ ap (λ (l : List Event). l ++ event_view e ∷ []) before.kept
          ∙ append_assoc (taken h) (map event_view (take i es)) (event_view e ∷ []);
    })

-- the events so far, the next one, and those after it
pub in_parts : (es : List declared.Event) (i : ℕ) (e : declared.Event) → i < length es → e ≡ get_or es i e
    → map event_view es ≡ map event_view (take i es) ++ event_view e ∷ map event_view (drop (i + 1) es)
in_parts es i e lt is =
    ap (map event_view)
    (sym (take-append-drop (i + 1) es)
    ∙ ap (λ l. l ++ drop (i + 1) es) (take_more es i e lt ∙ ap (λ y. take i es ++ y ∷ []) (sym is))
    ∙ again (take i es) e (drop (i + 1) es))
    ∙ map-append event_view (take i es) (e ∷ drop (i + 1) es)
  where
    again : (xs : List declared.Event) (y : declared.Event) (zs : List declared.Event) → (xs ++ y ∷ []) ++ zs ≡ xs ++ y ∷ zs
    again [] y zs = refl
    again (x ∷ xs) y zs = ap (λ l. x ∷ l) (again xs y zs)

-- why an event is refused, if that can only be because a log is full
pub for_room : (w : World) (e : Event) (f : WorldFault) → (f ≡ fault.Memory) ⊎ IsRefused w e f
    → (IsRefused w e f → f ≡ no_room)
    → (f ≡ fault.Memory) ⊎ ((f ≡ no_room) × IsRefused w e no_room)
for_room w e f (inl memory) room = inl memory
for_room w e f (inr refused) room =
    inr (room refused, subst (λ (g : WorldFault). IsRefused w e g) (room refused) refused)
