-- What was chosen, or why nothing was prepared.
use Rattle.std.specs.List.{range_with_len}
use Rattle.std.proofs.Common.{◌≡◌, ℕ, true, false, List, [], ◌∷◌, Option, None, Some, length, refl, sym, subst, ◌∙◌, inl, inr}
use Rattle.std.specs.Prelude.{is_some, option_map}
use Rattle.turn_rules.specs.Choice.{Chosen, Here, comes_to, in_turn}
use Rattle.turn_rules.specs.Pending.{Pending}
use Rattle.turn_rules.specs.declared.fault.TurnFault.{TurnFault}
use Rattle.turn_rules.specs.declared.fault.TurnFault.TheVariants as refused
use Rattle.faults.specs.Bytes.{Text, is_among}
use Rattle.node.specs.State.{LoggedNode}
use Rattle.node.specs.Step.{Asked, Comes, Does}
use Rattle.datagram_ports.specs.Kept.{Arrived, GoesOnBy}
use Rattle.protocol.specs.Given.{Given}
use Rattle.protocol.specs.State.{State}
use Rattle.cluster_turns.proofs.ByCase.{by_arrival, by_job, by_left}
use Rattle.cluster_turns.proofs.Eventful.{IsEventful, jobs_are, owns_are, sent_is}
use Rattle.cluster_turns.specs.declared.chosen.Chosen.{Chosen as PreparedStep}
use Rattle.cluster_turns.specs.Choosing.{HasChosen, IsChoosingFault, IsChosenAs}
use Rattle.cluster_turns.specs.Choice.{IsFirstOwn, first_job}
use Rattle.cluster_turns.specs.Here.{here_in}
use Rattle.cluster_turns.specs.inside.Cases.{IsFirstFault, IsFirstPart, IsNotTaken, IsWantFor, WasSent}

module _ {D : Type 0} (nodes : List (LoggedNode D)) (sent : List Text) (p : Pending)
    (builds : Given) (old new : Option (List Arrived)) where
  abbrev here : Here
  here = here_in nodes

  abbrev count : ℕ
  count = length nodes

  abbrev HasMade : Option PreparedStep → Type 0
  HasMade = HasChosen nodes sent p builds old new

  abbrev IsFault : TurnFault → Type 0
  IsFault = IsChoosingFault nodes sent p builds old new

  same_event : (x y : ℕ × Asked) → Some x ≡ Some y → IsEventful sent x → IsEventful sent y
  same_event x y e is =
      let known : ◌≡◌ {A = Chosen} (Some x) (Some y) = e in
      let same : x ≡ y = cc in
      subst (IsEventful sent) same is

  -- ---- a job

  job_made : GoesOnBy [] old new → (r : PreparedStep)
      → IsChosenAs nodes (first_job here count builds) (Some r) → HasMade (Some r)
  job_made goes r made = by (first_job here count builds) refl made
    where
      by : (j : Chosen) → first_job here count builds ≡ j → IsChosenAs nodes j (Some r)
          → HasMade (Some r)
      by None is made = absurd made
      by (Some x) is made = record {
        chosen = Some x;
        is_chosen = by_job here count p builds old new x is goes;
        readied = made;
        event = λ y e. same_event x y e (jobs_are sent here builds (range_with_len 0 count) x is);
      }

  pub job_wants : GoesOnBy [] old new → (f : TurnFault)
      → IsWantFor (first_job here count builds) f → IsFault f
  job_wants goes f (memory, some) = subst IsFault (sym memory)
      (by (first_job here count builds) refl some)
    where
      by : (j : Chosen) → first_job here count builds ≡ j → is_some j ≡ true
          → IsFault refused.Memory
      by None is some = absurd (let no : false ≡ true = some in cc)
      by (Some x) is some = (x, by_job here count p builds old new x is goes)

  -- no job was answered
  no_job : IsChosenAs nodes (first_job here count builds) None
      → first_job here count builds ≡ None
  no_job made = by (first_job here count builds) made
    where
      by : (j : Chosen) → IsChosenAs nodes j None → j ≡ None
      by None made = refl
      by (Some x) made = absurd made

  module _ (none : first_job here count builds ≡ None) (came : Arrived)
      (goes : GoesOnBy (came ∷ []) old new) where
    -- ---- what was received

    arrived_event : ((k : ℕ) (text : Text) → comes_to here came ≡ Some (k, Comes text)
        → is_among sent text ≡ true)
        → (x : ℕ × Asked) → comes_to here came ≡ Some x → IsEventful sent x
    arrived_event known x is = by came known is
      where
        then : (d : ℕ × Text) (o : Option State)
            → ((k : ℕ) (text : Text)
            → option_map {U = ℕ × Asked} (λ (s : State). (d.0, Comes d.1)) o ≡ Some (k, Comes text)
            → is_among sent text ≡ true)
            → option_map {U = ℕ × Asked} (λ (s : State). (d.0, Comes d.1)) o ≡ Some x → IsEventful sent x
        then d None known is =
            absurd (let no : ◌≡◌ {A = Chosen} None (Some x) = is in cc)
        then d (Some s) known is =
            same_event (d.0, Comes d.1) x is (sent_is sent d.0 d.1 (known d.0 d.1 refl))

        by : (came : Arrived)
            → ((k : ℕ) (text : Text) → comes_to here came ≡ Some (k, Comes text)
            → is_among sent text ≡ true)
            → comes_to here came ≡ Some x → IsEventful sent x
        by None known is = absurd (let no : ◌≡◌ {A = Chosen} None (Some x) = is in cc)
        by (Some d) known is = then d (here d.0) known is

    arrival_made : (r : PreparedStep) → IsChosenAs nodes (comes_to here came) (Some r)
        → WasSent nodes sent came → HasMade (Some r)
    arrival_made r made known = by (comes_to here came) refl made
      where
        by : (c : Chosen) → comes_to here came ≡ c → IsChosenAs nodes c (Some r)
            → HasMade (Some r)
        by None is made = absurd made
        by (Some x) is made = record {
          chosen = Some x;
          is_chosen = by_arrival here count p builds old new none came goes x is;
          readied = made;
          event = λ y e. same_event x y e (arrived_event known x is);
        }

    wants_arrival : (c : Chosen) → comes_to here came ≡ c → is_some c ≡ true
        → IsFault refused.Memory
    wants_arrival None is some = absurd (let no : false ≡ true = some in cc)
    wants_arrival (Some x) is some = (x, by_arrival here count p builds old new none came goes x is)

    arrival_fault : (f : TurnFault) → IsNotTaken nodes sent came f → IsFault f
    arrival_fault f (inl (memory, some)) =
        subst IsFault (sym memory) (wants_arrival (comes_to here came) refl some)
    arrival_fault f (inr (foreign, (k, text, is, lacks))) = subst IsFault (sym foreign) (
      k,
      text,
      by_arrival here count p builds old new none came goes (k, Comes text) is,
      lacks,
    )

    -- nothing was taken
    no_arrival : IsChosenAs nodes (comes_to here came) None → comes_to here came ≡ None
    no_arrival made = by (comes_to here came) made
      where
        by : (c : Chosen) → IsChosenAs nodes c None → c ≡ None
        by None made = refl
        by (Some x) made = absurd made

    -- ---- what nodes do on their own initiative

    module _ (nothing : comes_to here came ≡ None) where
      own_made : (o : Option PreparedStep) → IsFirstPart nodes p (in_turn p.next (length nodes)) o
          → HasMade o
      own_made o (chosen, is, made) = record {
        chosen = chosen;
        is_chosen = by_left here count p builds old new none came goes chosen nothing is;
        readied = made;
        event = λ x e. owns_are sent here count p (in_turn p.next count) x
            (subst (IsFirstOwn here count p (in_turn p.next count)) e is);
      }

      own_fault : (f : TurnFault) → IsFirstFault nodes p (in_turn p.next (length nodes)) f → IsFault f
      own_fault f (inl (memory, (k, input, is))) = subst IsFault (sym memory) (
        (k, Does input),
        by_left here count p builds old new none came goes (Some (k, Does input)) nothing is,
      )
      own_fault f (inr (k, input, g, node, is, refuses)) = subst IsFault (sym node) (
        k,
        input,
        by_left here count p builds old new none came goes (Some (k, Does input)) nothing is,
        owns_are sent here count p (in_turn p.next count) (k, Does input) is,
        refuses,
      )

-- ---- the results for unchanged nodes

module _ {D : Type 0} (nodes : List (LoggedNode D)) (sent : List Text) (p : Pending)
    (builds : Given) (old new : Option (List Arrived)) where
  pub job_answered : GoesOnBy [] old new → (xs : List (LoggedNode D)) → xs ≡ nodes
      → (o : Option PreparedStep) (r : PreparedStep) → o ≡ Some r
      → IsChosenAs nodes (first_job (here_in nodes) (length nodes) builds) o
      → HasChosen xs sent p builds old new (Some r)
  job_answered goes xs same o r some made =
      subst (λ ys. HasChosen ys sent p builds old new (Some r)) (sym same)
      (job_made nodes sent p builds old new goes r
      (subst (λ x. IsChosenAs nodes (first_job (here_in nodes) (length nodes) builds) x) some
      made))

  module _ (xs : List (LoggedNode D)) (same : xs ≡ nodes) (o : Option PreparedStep) (nothing : o ≡ None)
      (jobs : IsChosenAs nodes (first_job (here_in nodes) (length nodes) builds) o)
      (came : Arrived) (goes : GoesOnBy (came ∷ []) old new) where
    none : first_job (here_in nodes) (length nodes) builds ≡ None
    none = no_job nodes sent p builds old new
        (subst (λ x. IsChosenAs nodes (first_job (here_in nodes) (length nodes) builds) x) nothing
        jobs)

    -- ---- what was received

    pub arrival_denied : (f : TurnFault) → IsNotTaken xs sent came f
        → IsChoosingFault nodes sent p builds old new f
    arrival_denied f fault = arrival_fault nodes sent p builds old new none came goes f
        (subst (λ ys. IsNotTaken ys sent came f) same fault)

    module _ (ys : List (LoggedNode D)) (still : ys ≡ xs) (t : Option PreparedStep)
        (made : IsChosenAs xs (comes_to (here_in xs) came) t) where
      here_made : IsChosenAs nodes (comes_to (here_in nodes) came) t
      here_made = subst (λ zs. IsChosenAs zs (comes_to (here_in zs) came) t) same made

      pub arrival_taken : (r : PreparedStep) → t ≡ Some r → WasSent xs sent came
          → HasChosen ys sent p builds old new (Some r)
      arrival_taken r some known =
          subst (λ zs. HasChosen zs sent p builds old new (Some r)) (sym (still ∙ same))
          (arrival_made nodes sent p builds old new none came goes r
          (subst (λ x. IsChosenAs nodes (comes_to (here_in nodes) came) x) some here_made)
          (subst (λ zs. WasSent zs sent came) same known))

      -- ---- what nodes do on their own initiative

      module _ (none_taken : t ≡ None) where
        nothing_came : comes_to (here_in nodes) came ≡ None
        nothing_came = no_arrival nodes sent p builds old new none came goes
            (subst (λ x. IsChosenAs nodes (comes_to (here_in nodes) came) x) none_taken here_made)

        pub own_taken : (zs : List (LoggedNode D)) → zs ≡ ys → (r : Option PreparedStep)
            → IsFirstPart ys p (in_turn p.next (length ys)) r
            → HasChosen zs sent p builds old new r
        own_taken zs kept r own =
            subst (λ ws. HasChosen ws sent p builds old new r) (sym (kept ∙ (still ∙ same)))
            (own_made nodes sent p builds old new none came goes nothing_came r
            (subst (λ ws. IsFirstPart ws p (in_turn p.next (length ws)) r) (still ∙ same) own))

        pub own_denied : (f : TurnFault)
            → IsFirstFault ys p (in_turn p.next (length ys)) f
            → IsChoosingFault nodes sent p builds old new f
        own_denied f fault =
            own_fault nodes sent p builds old new none came goes nothing_came f
            (subst (λ ws. IsFirstFault ws p (in_turn p.next (length ws)) f) (still ∙ same) fault)
