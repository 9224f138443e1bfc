-- There is at most one choice.
use Rattle.std.proofs.Common.{◌≡◌, ℕ, List, [], ◌∷◌, Option, None, Some, refl, sym, ap, ◌∙◌, ⊎_elim}
use Rattle.std.specs.Prelude.{option_map}
use Rattle.std.proofs.lemmas.Bool.{cases_order}
use Rattle.faults.specs.Answers.{option_or}
use Rattle.node.specs.Step.{Does}
use Rattle.protocol.specs.State.{OpenClaim, State}
use Rattle.protocol.specs.declared.input.Input.{Input}
use Rattle.turn_rules.specs.Choice.{Chosen, Here, IsDoneBy, IsDoneIf, IsDoneOr, IsFirstDone, IsGivenOr, Who, comes_to, first_answer, in_turn}
use Rattle.turn_rules.specs.Own.{Barred, IsLeastFree, IsOwnBy, claim_of}
use Rattle.turn_rules.specs.Pending.{Pending}
use Rattle.turn_rules.specs.Laws.{OnlyOneChoice}
use Rattle.turn_rules.specs.declared.initiative.Initiative.{Initiative}
use Rattle.turn_rules.specs.declared.initiative.Initiative.TheVariants.{Own, Scheduled}

-- the least is unique
least_one : (s : State) (barred : Barred) (a b : Option ℕ) → IsLeastFree s barred a
    → IsLeastFree s barred b → a ≡ b
least_one s barred None None f g = refl
least_one s barred None (Some q) f g = absurd (f q g.0 g.1)
least_one s barred (Some p) None f g = absurd (g p f.0 f.1)
least_one s barred (Some p) (Some q) f g = ⊎_elim
    (λ same. ap (λ k. Some k) same)
    (λ differ. ⊎_elim (λ less. absurd (g.2 p less f.1)) (λ more. absurd (f.2 q more g.1)) differ)
    (cases_order p q)

-- what a node does on its own initiative is unique
own_by_one : (s : State) (o : Option OpenClaim) (above : Option ℕ) (barred : Barred)
    (a b : Option Input) → IsOwnBy s o above barred a → IsOwnBy s o above barred b → a ≡ b
own_by_one s None above barred a b (x, f, e) (y, g, d) =
    e ∙ ap (option_map (claim_of s)) (least_one s barred x y f g) ∙ sym d
own_by_one s (Some o) above barred a b e d = e ∙ sym d

-- what a node does on its initiative is unique
done_by_one : (i : Initiative) (s : State) (above : Option ℕ) (barred : Barred)
    (a b : Option Input) → IsDoneBy i s above barred a → IsDoneBy i s above barred b → a ≡ b
done_by_one Own s above barred a b e d = own_by_one s s.claim above barred a b e d
done_by_one (Scheduled wish) s above barred a b e d = e ∙ sym d

done_one : (here : Here) (count : ℕ) (p : Pending) (who : Who) (k : ℕ) (o : Option State)
    (a b : Option Input) → IsDoneIf here count p who k o a → IsDoneIf here count p who k o b
    → a ≡ b
done_one here count p who k None a b e d = e ∙ sym d
done_one here count p who k (Some s) a b e d = done_by_one (who k) s _ _ a b e d

-- the first that does anything is unique, if the later ones are
then_one : (k : ℕ) (a b : Chosen) (A B : Type 0) (x y : Option Input) → x ≡ y → (A → B → a ≡ b)
    → IsDoneOr k x a A → IsDoneOr k y b B → a ≡ b
then_one k a b A B None None same later e d = later e d
then_one k a b A B None (Some j) same later e d = absurd (let no : None ≡ Some j = same in cc)
then_one k a b A B (Some i) None same later e d = absurd (let no : Some i ≡ None = same in cc)
then_one k a b A B (Some i) (Some j) same later e d =
    let one : i ≡ j = cc in e ∙ ap (λ input. Some (k, Does input)) one ∙ sym d

first_one : (here : Here) (count : ℕ) (p : Pending) (who : Who) (ks : List ℕ) (a b : Chosen)
    → IsFirstDone here count p who ks a → IsFirstDone here count p who ks b → a ≡ b
first_one here count p who [] a b e d = e ∙ sym d
first_one here count p who (k ∷ ks) a b (x, is, then) (y, too, later) =
    then_one k a b (IsFirstDone here count p who ks a) (IsFirstDone here count p who ks b) x y
    (done_one here count p who k (here k) x y is too) (first_one here count p who ks a b) then
    later

pub only_one : OnlyOneChoice
only_one here count p made who came a b =
    by (option_or (first_answer here count made) (comes_to here came))
  where
    by : (g : Chosen) → IsGivenOr g a (IsFirstDone here count p who (in_turn p.next count) a)
        → IsGivenOr g b (IsFirstDone here count p who (in_turn p.next count) b) → a ≡ b
    by None f h = first_one here count p who (in_turn p.next count) a b f h
    by (Some x) e d = e ∙ sym d
