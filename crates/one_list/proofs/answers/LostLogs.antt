-- What remains on the logs of lost nodes affects no other node.
use Rattle.std.proofs.Common.{◌≡◌, ◌⊎◌, ◌++◌, ◌∷◌, ℕ, zero, suc, true, false, List, [], None, Some, slice_get, refl, sym, ap, subst, ◌∙◌, arith, inl, inr, ⊎_elim}
use Rattle.std.specs.Prelude.{All}
use Rattle.std.proofs.lemmas.Bool.{true≢false}
use Rattle.protocol.specs.Events.{Event, StopIn}
use Rattle.protocol.specs.declared.event.Left.TheVariants as left
use Rattle.world.specs.Happening.{Happens, Leads, StopsIn, is_restart}
use Rattle.world.specs.World.{World, WorldNode, start}
use Rattle.one_list.specs.MatchingLaws.{EachRunHasOneList}
use Rattle.one_list.specs.Lost.{AnythingMayBeLeft, AreLeftAs, CouldLeaveAll, IsLeftAs, StayDown}
use Rattle.one_list.proofs.answers.LostNodes.{AreAlike, GoesOnSo, event_so, left_so, one_less, other_left}

-- ---- several events

-- an event that may be a stop that could have left something else
either_so : (w : World) (ns : List WorldNode) (e f : Event) (es : List Event) (u : World)
    → AreAlike (e ∷ es) w.nodes ns → Happens w e u → StayDown (e ∷ es) → CouldLeaveAll w (e ∷ es)
    → IsLeftAs e f → GoesOnSo w ns f es u
either_so w ns e f es u like h stay could (inl same) =
    subst (λ g. GoesOnSo w ns g es u) (sym same) (event_so w ns e es u like h)
either_so w ns e f es u like h stay could (inr (step, l, is, other)) =
    let first = ap (λ g. g ∷ es) is in
    let s : StopsIn w step left.None u = subst (λ g. Happens w g u) is h in
    let t = left_so w step u s (could [] es step w first refl) l in
    let r = other_left w ns step l es u t.0 (one_less e es w.nodes ns like) (stay [] es step first) s
    t.1 in
    subst (λ g. GoesOnSo w ns g es u) (sym other)
    (record { nodes = r.nodes; happens = r.stops; alike = r.alike })

-- where events lead, they also lead if stops left something else
record LeadsSo (w : World) (ns : List WorldNode) (fs : List Event) (u : World) : Type 0 where
  nodes : List WorldNode
  leads : Leads (record w { nodes = ns }) fs (record u { nodes = nodes })
  alike : AreAlike [] u.nodes nodes

stay_behind : (e : Event) (es : List Event) → StayDown (e ∷ es) → StayDown es
stay_behind e es stay = λ before behind step is.
    stay (e ∷ before) behind step (ap (λ l. e ∷ l) is)

all_so : (w : World) (ns : List WorldNode) (u : World) (es fs : List Event)
    → AreAlike es w.nodes ns → Leads w es u → StayDown es → CouldLeaveAll w es → AreLeftAs es fs
    → LeadsSo w ns fs u
all_so w ns u [] [] like led stay could zip = record {
  nodes = ns;
  leads = ap (λ (x : World). record x { nodes = ns }) led;
  alike = subst (λ (x : World). AreAlike [] x.nodes ns) (sym led) like;
}
all_so w ns u [] (f ∷ fs) like led stay could zip = absurd zip
all_so w ns u (e ∷ es) [] like led stay could zip = absurd zip
all_so w ns u (e ∷ es) (f ∷ fs) like led stay could zip =
    let one = either_so w ns e f es led.0 like led.1 stay could zip.0 in
    let rest = all_so led.0 one.nodes u es fs one.alike led.2 (stay_behind e es stay)
    (λ before behind step x is l. could (e ∷ before) behind step x (ap (λ l. e ∷ l) is)
    (led.0, led.1, l)) zip.1 in
    record {
      nodes = rest.nodes;
      leads = (record (led.0) { nodes = one.nodes }, one.happens, rest.leads);
      alike = rest.alike;
    }

-- So stops may have left anything.
pub anything_left : EachRunHasOneList → AnythingMayBeLeft
anything_left one_list division weights events others w made led stay could zip =
    let first = start division weights in
    let r = all_so first first.nodes w events others
    (record { count = refl; each = λ k x y at there. inl (same_there first.nodes k x y at there) })
    led stay could zip in
    let h = one_list division weights others (record w { nodes = r.nodes }) made r.leads in (
      record w { nodes = r.nodes },
      r.leads,
      record {
        but = refl;
        count = r.alike.count;
        nodes = λ k x y at there. ⊎_elim (λ same. inl same) (λ d. inr (d.0, d.1))
            (r.alike.each k x y at there);
      },
      h.0,
      h.1,
    )
  where
    same_there : (xs : List WorldNode) (k : ℕ) (x y : WorldNode) → slice_get xs k ≡ Some x
        → slice_get xs k ≡ Some y → y ≡ x
    same_there xs k x y at there = let same : Some y ≡ Some x = sym there ∙ at in cc

-- ---- one more event

-- If no event is a restart, all nodes that stopped stay down.
pub none_starts : (events : List Event) → All (λ e. is_restart e ≡ false) events → StayDown events
none_starts events none before behind step is k d lt again = true≢false
    (sym (ap is_restart again)
    ∙ later before (StopIn step left.None) behind
    (subst (All (λ e. is_restart e ≡ false)) is none) k d lt)
  where
    later : (xs : List Event) (x : Event) (ys : List Event)
        → All (λ e. is_restart e ≡ false) (xs ++ x ∷ ys) → All (λ e. is_restart e ≡ false) ys
    later [] x ys all = λ k d lt. all (suc k) d (omega (arith, lt))
    later (z ∷ zs) x ys all = later zs x ys (λ k d lt. all (suc k) d (omega (arith, lt)))

first_same : (x y : Event) (xs ys : List Event) → x ∷ xs ≡ y ∷ ys → x ≡ y
first_same x y xs ys e = cc

rest_same : (x y : Event) (xs ys : List Event) → x ∷ xs ≡ y ∷ ys → xs ≡ ys
rest_same x y xs ys e = cc

-- If the last event could have left the whole note, if it is such a stop, every such stop could.
pub could_leave_more : (w : World) (es : List Event) (e : Event) → CouldLeaveAll w es
    → ((step : Event) (u : World) → e ≡ StopIn step left.None → Leads w es u
    → (v : World) × StopsIn u step left.Whole v)
    → CouldLeaveAll w (es ++ e ∷ [])
could_leave_more w [] e could last [] behind step u is led =
    last step u (first_same e (StopIn step left.None) [] behind is) led
could_leave_more w [] e could last (b ∷ bs) behind step u is led =
    absurd (none bs (rest_same e b [] (bs ++ StopIn step left.None ∷ behind) is))
  where
    none : (xs : List Event) → [] ≡ xs ++ StopIn step left.None ∷ behind → ⊥
    none [] same = cc
    none (z ∷ zs) same = cc
could_leave_more w (x ∷ xs) e could last [] behind step u is led =
    could [] xs step u
    (ap (λ y. y ∷ xs) (first_same x (StopIn step left.None) (xs ++ e ∷ []) behind is)) led
could_leave_more w (x ∷ xs) e could last (b ∷ bs) behind step u is led =
    let more = bs ++ StopIn step left.None ∷ behind in
    let h : Happens w x led.0 = subst (λ y. Happens w y led.0)
    (sym (first_same x b (xs ++ e ∷ []) more is)) led.1 in
    could_leave_more led.0 xs e
    (λ before late s v i l. could (x ∷ before) late s v (ap (λ l. x ∷ l) i) (led.0, h, l))
    (λ s v i l. last s v i (led.0, h, l)) bs behind step u
    (rest_same x b (xs ++ e ∷ []) more is) led.2
