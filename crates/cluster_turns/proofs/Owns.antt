-- What the first node that does anything does on its own initiative.
use Rattle.std.proofs.Common.{◌≡◌, ◌≤◌, ◌<◌, ◌+◌, ◌-◌, ◌==◌, ◌||◌, ◌++◌, ℕ, true, false, List, Option, None, Some, drop, length, slice_get, take, sym, ap, subst, ◌∙◌, arith, inl, inr}
use Rattle.std.specs.List.{list_any, range_with_len}
use Rattle.std.specs.Prelude.{is_some, slice_index_or}
use Rattle.turn_rules.specs.Choice.{Chosen, Here, in_turn, is_elsewhere}
use Rattle.cluster_turns.specs.Choice.{IsFirstOwn, IsOwnIf}
use Rattle.turn_rules.specs.Own.{IsOwn}
use Rattle.turn_rules.specs.Pending.{Pending, above_at, has_failed}
use Rattle.turn_rules.specs.declared.fault.TurnFault.{TurnFault}
use Rattle.turn_rules.specs.declared.fault.TurnFault.TheVariants.{Memory}
use Rattle.node.specs.State.{LoggedNode}
use Rattle.node.specs.Step.{Does}
use Rattle.node.specs.declared.fault.NodeFault.{NodeFault}
use Rattle.turn_rules.specs.CausedSteps.{IsNoPart, IsPart}
use Rattle.turn_rules.specs.declared.caused_step.CausedStep.{CausedStep}
use Rattle.protocol.specs.declared.input.Input.{Input}
use Rattle.cluster_turns.proofs.FirstOwn.{done_next, first_some, first_then, none_more}
use Rattle.cluster_turns.proofs.Places.{is_here, part_at, stands_at, told_is, up_here}
use Rattle.cluster_turns.proofs.Ranges.{drop_range, range_at, range_more, take_range}
use Rattle.cluster_turns.specs.declared.chosen.Chosen.{Chosen as PreparedStep}
use Rattle.cluster_turns.specs.Choosing.{told}
use Rattle.cluster_turns.specs.Here.{here_in}
use Rattle.cluster_turns.specs.inside.Cases.{IsFirstFault, IsFirstPart, IsOwnFault, IsOwnPart}

module _ {D : Type 0} (nodes : List (LoggedNode D)) (p : Pending) where
  -- the members of the nodes that are up, and how many nodes there are
  abbrev here : Here
  here = here_in nodes

  abbrev count : ℕ
  count = length nodes

  -- ---- one node

  module _ (k : ℕ) (n : LoggedNode D) (stands : slice_get nodes k ≡ Some n)
      (up : n.node.stopped ≡ false) (others : List ℕ)
      (elsewhere : (u : ℕ) → list_any (λ v. v == u) others ≡ is_elsewhere here count k u) where
    own_here : (own : Option Input)
        → IsOwn n.node.member (above_at p k)
        (λ u. has_failed p u || list_any (λ v. v == u) others) own
        → IsOwnIf here count p k (here k) own
    own_here own is =
        subst (λ o. IsOwnIf here count p k o own) (sym (is_here nodes k n stands up))
        (subst (λ barred. IsOwn n.node.member (above_at p k) barred own)
        (λ i u. has_failed p u || elsewhere u i) is)

    own_part : (r : Option CausedStep)
        → ((own : Option Input)
        × IsOwn n.node.member (above_at p k)
        (λ u. has_failed p u || list_any (λ v. v == u) others) own
        × IsPart n own r)
        → IsOwnPart nodes p k r
    own_part r (own, is, part) =
        (own, own_here own is, part_at nodes k n stands up own r part)

    own_fault : (f : NodeFault)
        → ((own : Option Input)
        × IsOwn n.node.member (above_at p k)
        (λ u. has_failed p u || list_any (λ v. v == u) others) own
        × IsNoPart n own f)
        → IsOwnFault nodes p k (told f)
    own_fault f (own, is, (input, some, why)) = elim why [
      | inl memory ↦ no_memory (ap told memory)
      | inr refuses ↦ elim (told_is f) [
        | inl memory ↦ no_memory memory
        | inr node ↦ inr (
          input,
          f,
          node,
          does,
          record { node = n; stands = stands; up = up; refuses = refuses },
        )
      ]
    ]
      where
        does : IsOwnIf here count p k (here k) (Some input)
        does = subst (λ o. IsOwnIf here count p k (here k) o) some (own_here own is)

        no_memory : told f ≡ Memory → IsOwnFault nodes p k (told f)
        no_memory memory = inl (memory, (input, does))

  -- ---- the results for a borrowed node that is unchanged

  -- units that other nodes claim, found twice
  pub elsewhere_seen : (k : ℕ) (seen : List (LoggedNode D)) (units others : List ℕ)
      → seen ≡ nodes → others ≡ units
      → ((u : ℕ) → list_any (λ v. v == u) units ≡ is_elsewhere (here_in seen) (length seen) k u)
      → (u : ℕ) → list_any (λ v. v == u) others ≡ is_elsewhere here count k u
  elsewhere_seen k seen units others is_seen are elsewhere u =
      ap (list_any (λ v. v == u)) are
      ∙ (elsewhere u ∙ ap (λ xs. is_elsewhere (here_in xs) (length xs) k u) is_seen)

  module _ (k : ℕ) (n m : LoggedNode D) (below : k < length nodes)
      (value : n ≡ slice_index_or nodes k n) (same : m ≡ n) (some : is_some (here k) ≡ true)
      (others : List ℕ)
      (elsewhere : (u : ℕ) → list_any (λ v. v == u) others ≡ is_elsewhere here count k u)
      (above : Option ℕ) (is_above : above ≡ above_at p k) where
    stands : slice_get nodes k ≡ Some n
    stands = stands_at nodes k n value below

    pub own_lent : (r : Option CausedStep)
        → ((own : Option Input)
        × IsOwn n.node.member above
        (λ u. has_failed p u || list_any (λ v. v == u) others) own
        × IsPart m own r)
        → IsOwnPart nodes p k r
    own_lent r (own, is, part) =
        own_part k n stands (up_here nodes k n stands some) others elsewhere r (
          own,
          subst (λ a. IsOwn n.node.member a
              (λ u. has_failed p u || list_any (λ v. v == u) others) own) is_above is,
          subst (λ x. IsPart x own r) same part,
        )

    pub fault_lent : (f : NodeFault) (t : TurnFault) → t ≡ told f
        → ((own : Option Input)
        × IsOwn n.node.member above
        (λ u. has_failed p u || list_any (λ v. v == u) others) own
        × IsNoPart m own f)
        → IsOwnFault nodes p k t
    fault_lent f t is_told (own, is, part) =
        subst (λ x. IsOwnFault nodes p k x) (sym is_told)
        (own_fault k n stands (up_here nodes k n stands some) others elsewhere f (
          own,
          subst (λ a. IsOwn n.node.member a
              (λ u. has_failed p u || list_any (λ v. v == u) others) own) is_above is,
          subst (λ x. IsNoPart x own f) same part,
        ))

  -- ---- nodes from one number on, below another

  module _ (from i : ℕ) (behind : from ≤ i)
      (none : IsFirstOwn here count p (range_with_len from (i - from)) None) where
    -- one more node that does nothing
    pub nothing_more : (r : Option CausedStep) → r ≡ None → IsOwnPart nodes p i r
        → IsFirstOwn here count p (range_with_len from (i + 1 - from)) None
    nothing_more r nothing part = by (subst (λ x. IsOwnPart nodes p i x) nothing part)
      where
        by : IsOwnPart nodes p i None
            → IsFirstOwn here count p (range_with_len from (i + 1 - from)) None
        by (Some input, is, part) = absurd part
        by (None, is, part) =
            subst (λ ks. IsFirstOwn here count p ks None) (sym (range_more from i behind))
            (none_more here count p (range_with_len from (i - from)) i none is)

    module _ (below : ℕ) (before : i < below) where
      first_here : (input : Input) → IsOwnIf here count p i (here i) (Some input)
          → IsFirstOwn here count p (range_with_len from (below - from)) (Some (i, Does input))
      first_here input is =
          subst (λ ks. IsFirstOwn here count p ks (Some (i, Does input)))
          (sym (range_at from below i behind before))
          (done_next here count p (range_with_len from (i - from)) i
          (range_with_len (i + 1) (below - (i + 1))) input none is)

      -- it is the choice
      pub own_chosen : (o : Option CausedStep) (r : PreparedStep) → o ≡ Some r.readied → r.node ≡ i
          → IsOwnPart nodes p i o
          → IsFirstPart nodes p (range_with_len from (below - from)) (Some r)
      own_chosen o r some at part = by (subst (λ x. IsOwnPart nodes p i x) some part)
        where
          by : IsOwnPart nodes p i (Some r.readied)
              → IsFirstPart nodes p (range_with_len from (below - from)) (Some r)
          by (None, is, part) = absurd part
          by (Some input, is, part) = (Some (i, Does input), first_here input is, (at, part))

      -- it is refused
      pub own_refused : (f : TurnFault) → IsOwnFault nodes p i f
          → IsFirstFault nodes p (range_with_len from (below - from)) f
      own_refused f (inl (memory, (input, is))) = inl (memory, (i, input, first_here input is))
      own_refused f (inr (input, g, node, is, refuses)) =
          inr (i, input, g, node, first_here input is, refuses)

  -- ---- all of them, beginning with this one

  module _ (next all : ℕ) (is_next : next ≡ p.next) (is_all : all ≡ count)
      (within : next ≤ count) where
    parts : in_turn next count
        ≡ range_with_len next (count - next) ++ range_with_len 0 (next - 0)
    parts =
        let sum : count ≡ next + (count - next) = omega (arith, within) in
        let first : next ≡ next - 0 = omega arith in
        ap (λ m. drop next (range_with_len 0 m) ++ take next (range_with_len 0 m)) sum
        ∙ (ap (λ ks. ks ++ take next (range_with_len 0 (next + (count - next))))
        (drop_range 0 next (count - next) ∙ ap (λ j. range_with_len j (count - next)) start)
        ∙ (ap (λ ks. range_with_len next (count - next) ++ ks)
        (take_range 0 next (count - next))
        ∙ ap (λ m. range_with_len next (count - next) ++ range_with_len 0 m) first))
      where
        start : 0 + next ≡ next
        start = omega arith

    pub turn_is : in_turn p.next count
        ≡ range_with_len next (all - next) ++ range_with_len 0 (next - 0)
    turn_is =
        ap (λ n. in_turn n count) (sym is_next)
        ∙ (parts
        ∙ ap (λ m. range_with_len next (m - next) ++ range_with_len 0 (next - 0)) (sym is_all))

    among_first : (x : _) → IsFirstOwn here count p (range_with_len next (all - next)) (Some x)
        → IsFirstOwn here count p (in_turn p.next count) (Some x)
    among_first x is =
        subst (λ ks. IsFirstOwn here count p ks (Some x)) (sym turn_is)
        (first_some here count p (range_with_len next (all - next)) (range_with_len 0 (next - 0))
        x is)

    -- the choice is among the first ones
    pub first_turn : (o : Option PreparedStep) (r : PreparedStep) → o ≡ Some r
        → IsFirstPart nodes p (range_with_len next (all - next)) o
        → IsFirstPart nodes p (in_turn p.next count) (Some r)
    first_turn o r some first =
        by (subst (λ x. IsFirstPart nodes p (range_with_len next (all - next)) x) some first)
      where
        by : IsFirstPart nodes p (range_with_len next (all - next)) (Some r)
            → IsFirstPart nodes p (in_turn p.next count) (Some r)
        by (None, is, made) = absurd made
        by (Some x, is, made) = (Some x, among_first x is, made)

    -- a refusal of the first ones
    pub first_refused : (f : TurnFault)
        → IsFirstFault nodes p (range_with_len next (all - next)) f
        → IsFirstFault nodes p (in_turn p.next count) f
    first_refused f (inl (memory, (k, input, is))) =
        inl (memory, (k, input, among_first (k, Does input) is))
    first_refused f (inr (k, input, g, node, is, refuses)) =
        inr (k, input, g, node, among_first (k, Does input) is, refuses)

    -- otherwise the choice is among the later ones
    module _ (xs : List (LoggedNode D)) (same : xs ≡ nodes) (o : Option PreparedStep)
        (nothing : o ≡ None)
        (first : IsFirstPart nodes p (range_with_len next (all - next)) o) where
      later_is : (c : Chosen) → IsFirstOwn here count p (range_with_len 0 (next - 0)) c
          → IsFirstOwn here count p (in_turn p.next count) c
      later_is c later =
          by (subst (λ x. IsFirstPart nodes p (range_with_len next (all - next)) x) nothing first)
        where
          by : IsFirstPart nodes p (range_with_len next (all - next)) None
              → IsFirstOwn here count p (in_turn p.next count) c
          by (Some x, is, made) = absurd made
          by (None, is, made) =
              subst (λ ks. IsFirstOwn here count p ks c) (sym turn_is)
              (first_then here count p (range_with_len next (all - next))
              (range_with_len 0 (next - 0)) c is later)

      pub later_turn : (r : Option PreparedStep) → IsFirstPart xs p (range_with_len 0 (next - 0)) r
          → IsFirstPart nodes p (in_turn p.next count) r
      later_turn r later =
          by (subst (λ ys. IsFirstPart ys p (range_with_len 0 (next - 0)) r) same later)
        where
          by : IsFirstPart nodes p (range_with_len 0 (next - 0)) r
              → IsFirstPart nodes p (in_turn p.next count) r
          by (chosen, is, made) = (chosen, later_is chosen is, made)

      pub later_refused : (f : TurnFault) → IsFirstFault xs p (range_with_len 0 (next - 0)) f
          → IsFirstFault nodes p (in_turn p.next count) f
      later_refused f later =
          by (subst (λ ys. IsFirstFault ys p (range_with_len 0 (next - 0)) f) same later)
        where
          by : IsFirstFault nodes p (range_with_len 0 (next - 0)) f
              → IsFirstFault nodes p (in_turn p.next count) f
          by (inl (memory, (k, input, is))) =
              inl (memory, (k, input, later_is (Some (k, Does input)) is))
          by (inr (k, input, g, node, is, refuses)) =
              inr (k, input, g, node, later_is (Some (k, Does input)) is, refuses)
