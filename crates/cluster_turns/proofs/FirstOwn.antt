-- What the first of some nodes that does anything does.
use Rattle.std.proofs.Common.{◌≡◌, ◌++◌, ℕ, List, [], ◌∷◌, Option, None, Some, refl}
use Rattle.node.specs.Step.{Does}
use Rattle.protocol.specs.declared.input.Input.{Input}
use Rattle.turn_rules.specs.Choice.{Chosen, Here, IsDoneOr}
use Rattle.cluster_turns.specs.Choice.{IsFirstOwn, IsOwnIf}
use Rattle.turn_rules.specs.Pending.{Pending}

module _ (here : Here) (count : ℕ) (p : Pending) where
  -- if none of the first nodes does anything, the choice is that of the later ones
  pub first_then : (ks ys : List ℕ) (c : Chosen) → IsFirstOwn here count p ks None
      → IsFirstOwn here count p ys c → IsFirstOwn here count p (ks ++ ys) c
  first_then [] ys c none later = later
  first_then (k ∷ ks) ys c (own, is, then) later =
      (own, is, by own (λ none. first_then ks ys c none later) then)
    where
      by : (own : Option Input)
          → (IsFirstOwn here count p ks None → IsFirstOwn here count p (ks ++ ys) c)
          → IsDoneOr k own None (IsFirstOwn here count p ks None)
          → IsDoneOr k own c (IsFirstOwn here count p (ks ++ ys) c)
      by None further rest = further rest
      by (Some input) further done =
          absurd (let no : ◌≡◌ {A = Chosen} None (Some (k, Does input)) = done in cc)

  -- otherwise the later ones don't matter
  pub first_some : (ks ys : List ℕ) (x : _) → IsFirstOwn here count p ks (Some x)
      → IsFirstOwn here count p (ks ++ ys) (Some x)
  first_some [] ys x none =
      absurd (let no : ◌≡◌ {A = Chosen} (Some x) None = none in cc)
  first_some (k ∷ ks) ys x (own, is, then) = (own, is, by own (first_some ks ys x) then)
    where
      by : (own : Option Input)
          → (IsFirstOwn here count p ks (Some x) → IsFirstOwn here count p (ks ++ ys) (Some x))
          → IsDoneOr k own (Some x) (IsFirstOwn here count p ks (Some x))
          → IsDoneOr k own (Some x) (IsFirstOwn here count p (ks ++ ys) (Some x))
      by None further rest = further rest
      by (Some input) further done = done

  -- one more node that does nothing
  pub none_more : (ks : List ℕ) (k : ℕ) → IsFirstOwn here count p ks None
      → IsOwnIf here count p k (here k) None → IsFirstOwn here count p (ks ++ k ∷ []) None
  none_more ks k none is = first_then ks (k ∷ []) None none (None, is, refl)

  -- the next node does something
  pub done_next : (ks : List ℕ) (k : ℕ) (more : List ℕ) (input : Input)
      → IsFirstOwn here count p ks None → IsOwnIf here count p k (here k) (Some input)
      → IsFirstOwn here count p (ks ++ k ∷ more) (Some (k, Does input))
  done_next ks k more input none is =
      first_then ks (k ∷ more) (Some (k, Does input)) none (Some input, is, refl)
