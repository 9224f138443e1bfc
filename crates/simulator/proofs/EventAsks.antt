-- What an event asks, and the tests before its node is asked.
use Rattle.std.proofs.Common.{◌≡◌, ◌<◌, ℕ, zero, suc, Bool, true, false, not, List, [], ◌∷◌, length, map, Option, None, Some, option_map, slice_get, refl, sym, ap, ◌∙◌, arith}
use Rattle.std.proofs.lemmas.Bool.{leb-false, true≢false}
use Rattle.faults.specs.Answers.{first_that_applies}
use Rattle.faults.specs.Bytes.{Text}
use Rattle.protocol.specs.Events as events
use Rattle.protocol.specs.Events.{Event, is_step}
use Rattle.one_list.proofs.nodes.EqualParts.{some_same}
use Rattle.node.specs.Step.{Asked, Comes, Does}
use Rattle.protocol.specs.declared.input.Input.TheVariants as inputs
use Rattle.world.specs.Happening.{Asks, lacks_datagram}
use Rattle.world.specs.World.{World}
use Rattle.world.specs.declared.fault.WorldFault.{WorldFault}
use Rattle.simulator.specs.inside.Asking.{CanBeAsked, asked_by}

-- ---- tests

pub record NoneApplies (a b c d e : Bool) : Type 0 where
  pub first : a ≡ false
  pub second : b ≡ false
  pub third : c ≡ false
  pub fourth : d ≡ false
  pub fifth : e ≡ false

pub none_applies : (a b c d e : Bool) (x y z u v : WorldFault)
    → first_that_applies ((a, x) ∷ (b, y) ∷ (c, z) ∷ (d, u) ∷ (e, v) ∷ []) ≡ None
    → NoneApplies a b c d e
none_applies true b c d e x y z u v h = absurd (let wrong : Some x ≡ None = h in cc)
none_applies false true c d e x y z u v h = absurd (let wrong : Some y ≡ None = h in cc)
none_applies false false true d e x y z u v h = absurd (let wrong : Some z ≡ None = h in cc)
none_applies false false false true e x y z u v h =
    absurd (let wrong : Some u ≡ None = h in cc)
none_applies false false false false true x y z u v h =
    absurd (let wrong : Some v ≡ None = h in cc)
none_applies false false false false false x y z u v h =
    record { first = refl; second = refl; third = refl; fourth = refl; fifth = refl }

-- the element at a place within a list
pub get_some : {X : Type 0} (xs : List X) (k : ℕ) → k < length xs → (x : X)
    × (slice_get xs k ≡ Some x)
get_some [] k lt = absurd (omega (arith, lt))
get_some (x ∷ xs) zero lt = (x, refl)
get_some (x ∷ xs) (suc k) lt = get_some xs k (omega (arith, lt))

-- a negation that is false
pub not_false : (b : Bool) → not b ≡ false → b ≡ true
not_false true e = refl
not_false false e = absurd (true≢false e)

-- an element of a mapped list is an element of the list, mapped
pub get_mapped : {X Y : Type 0} (f : X → Y) (xs : List X) (k : ℕ) (x : X)
    → slice_get xs k ≡ Some x → slice_get (map f xs) k ≡ Some (f x)
get_mapped f [] k x e = absurd (let wrong : None ≡ Some x = e in cc)
get_mapped f (y ∷ ys) zero x e = ap (option_map f) e
get_mapped f (y ∷ ys) (suc k) x e = get_mapped f ys k x e

-- ---- what an event asks

-- a step asks for something, and the datagram that it delivers was sent
pub can_be_asked : (w : World) (e : Event) → is_step e ≡ true → lacks_datagram w e ≡ false
    → CanBeAsked w.sent e
can_be_asked w (events.Claim n path host above) is there =
    (Does (inputs.Claim path host above), refl)
can_be_asked w (events.Built n path files) is there = (Does (inputs.Built path files), refl)
can_be_asked w (events.Failed n path) is there = (Does (inputs.Failed path), refl)
can_be_asked w (events.Nudge n) is there = (Does inputs.Nudge, refl)
can_be_asked w (events.Ask n path) is there = (Does (inputs.Ask path), refl)
can_be_asked w (events.Deliver d n) is there =
    let t = get_some w.sent d (leb-false (length w.sent) d there) in
    (Comes t.0, ap (option_map Comes) t.1)
can_be_asked w (events.Stop n) is there = absurd (true≢false (sym is))
can_be_asked w (events.StopIn e l) is there = absurd (true≢false (sym is))
can_be_asked w (events.Restart n) is there = absurd (true≢false (sym is))

-- and that is what the world's event asks
pub asks_so : (w : World) (e : Event) (asked : Asked) → asked_by w.sent e ≡ Some asked
    → Asks w e asked
asks_so w (events.Claim n path host above) asked h =
    sym (some_same (Does (inputs.Claim path host above)) asked h)
asks_so w (events.Built n path files) asked h =
    sym (some_same (Does (inputs.Built path files)) asked h)
asks_so w (events.Failed n path) asked h = sym (some_same (Does (inputs.Failed path)) asked h)
asks_so w (events.Nudge n) asked h = sym (some_same (Does inputs.Nudge) asked h)
asks_so w (events.Ask n path) asked h = sym (some_same (Does (inputs.Ask path)) asked h)
asks_so w (events.Deliver d n) asked h = by (slice_get w.sent d) refl
  where
    by : (o : Option Text) → slice_get w.sent d ≡ o → Asks w (events.Deliver d n) asked
    by None e = absurd (let wrong : None ≡ Some asked = sym (ap (option_map Comes) e) ∙ h in cc)
    by (Some text) e =
        (text, e, sym (some_same (Comes text) asked (sym (ap (option_map Comes) e) ∙ h)))
asks_so w (events.Stop n) asked h = absurd (let wrong : None ≡ Some asked = h in cc)
asks_so w (events.StopIn e l) asked h = absurd (let wrong : None ≡ Some asked = h in cc)
asks_so w (events.Restart n) asked h = absurd (let wrong : None ≡ Some asked = h in cc)
