-- What is chosen is an event.
use Rattle.std.proofs.Common.{◌≡◌, ◌+◌, ◌||◌, ℕ, Bool, true, false, cond, List, [], ◌∷◌, Option, None, Some, if◌then◌else◌, refl, sym, ap, subst, ◌∙◌}
use Rattle.std.proofs.lemmas.Iterator.Adapters.{position_from-zero}
use Rattle.std.specs.List.{position_from}
use Rattle.std.specs.Prelude.{is_none, is_some, option_and_then, option_map, position}
use Rattle.std.specs.Str.{bytes_eq}
use Rattle.claims.specs.declared.claim.Claim.{Claim}
use Rattle.turn_rules.specs.Answering.{answer_of, answer_to, built_of, given_for}
use Rattle.turn_rules.specs.Choice.{Chosen, Here, barred_at}
use Rattle.cluster_turns.specs.Choice.{IsFirstOwn, IsOwnIf, job_at}
use Rattle.turn_rules.specs.Own.{Barred, IsOwnBy, claim_of, renewed}
use Rattle.turn_rules.specs.Pending.{Pending, above_at}
use Rattle.protocol.specs.Events.{Deliver}
use Rattle.faults.specs.Answers.{first_given, option_or}
use Rattle.faults.specs.Bytes.{Text, is_among}
use Rattle.listing.proofs.Settings.{eq_flip}
use Rattle.node.specs.Step.{Asked, Comes, Does}
use Rattle.package_record.specs.Making.{build_fault}
use Rattle.protocol.specs.Given.{Given}
use Rattle.protocol.specs.Jobs.{build_by, job_of, paths_at}
use Rattle.protocol.specs.State.{Building, Gathering, OpenClaim, Progress, State, Voting, name_at}
use Rattle.protocol.specs.declared.input.Input.{Input}
use Rattle.protocol.specs.declared.input.Input.TheVariants as inputs
use Rattle.cluster_turns.specs.Events.{event_of}

module _ (sent : List Text) where
  -- what a node is asked has an event
  abbrev pub IsEventful : ℕ × Asked → Type 0
  IsEventful x = is_some (event_of sent x) ≡ true

  -- ---- answers to jobs

  built_is : (k : ℕ) (s : State) (u host : ℕ) (c : Claim) (given : Option Given)
      → IsEventful (k, Does (built_of s u host c given))
  built_is k s u host c None = refl
  built_is k s u host c (Some given) =
      by (is_none (build_fault (build_by s u (job_of s u host c) given)))
    where
      by : (b : Bool) → IsEventful (
        k,
        Does (if b then inputs.Built (name_at s u) given
            else inputs.Failed (name_at s u)),
      )
      by true = refl
      by false = refl

  answer_is : (k : ℕ) (s : State) (builds : Given) (o : OpenClaim) (at : Progress) (input : Input)
      → answer_to s builds o at ≡ Some input → IsEventful (k, Does input)
  answer_is k s builds o (Gathering c joined n) input is =
      absurd (let no : ◌≡◌ {A = Option Input} None (Some input) = is in cc)
  answer_is k s builds o (Building c) input is =
      let known : built_of s o.unit o.host c (given_for builds (paths_at s o.unit)) ≡ input = cc in
      subst (λ i. IsEventful (k, Does i)) known
      (built_is k s o.unit o.host c (given_for builds (paths_at s o.unit)))
  answer_is k s builds o (Voting b joined) input is =
      absurd (let no : ◌≡◌ {A = Option Input} None (Some input) = is in cc)

  member_is : (k : ℕ) (s : State) (builds : Given) (claim : Option OpenClaim) (input : Input)
      → option_and_then (λ o. answer_to s builds o o.progress) claim ≡ Some input
      → IsEventful (k, Does input)
  member_is k s builds None input is =
      absurd (let no : ◌≡◌ {A = Option Input} None (Some input) = is in cc)
  member_is k s builds (Some o) input is = answer_is k s builds o o.progress input is

  pub job_is : (builds : Given) (k : ℕ) (here : Option State) (x : ℕ × Asked)
      → option_map (λ (input : Input). (k, Does input))
      (option_and_then (λ s. answer_of s builds) here) ≡ Some x
      → IsEventful x
  job_is builds k None x is =
      absurd (let no : ◌≡◌ {A = Chosen} None (Some x) = is in cc)
  job_is builds k (Some s) x is = by (answer_of s builds) refl is
    where
      by : (o : Option Input) → answer_of s builds ≡ o
          → option_map (λ (input : Input). (k, Does input)) o ≡ Some x → IsEventful x
      by None answer is = absurd (let no : ◌≡◌ {A = Chosen} None (Some x) = is in cc)
      by (Some input) answer is =
          let known : ◌≡◌ {A = Chosen} (Some (k, Does input)) (Some x) = is in
          let same : ◌≡◌ {A = ℕ × Asked} (k, Does input) x = cc in
          subst IsEventful same (member_is k s builds s.claim input answer)

  -- the first answer to a job
  pub jobs_are : (here : Here) (builds : Given) (ks : List ℕ) (x : ℕ × Asked)
      → first_given (job_at here builds) ks ≡ Some x → IsEventful x
  jobs_are here builds [] x is =
      absurd (let no : ◌≡◌ {A = Chosen} None (Some x) = is in cc)
  jobs_are here builds (k ∷ ks) x is =
      by (job_at here builds k) refl is (jobs_are here builds ks x)
    where
      by : (o : Chosen) → job_at here builds k ≡ o
          → option_or o (first_given (job_at here builds) ks) ≡ Some x
          → (first_given (job_at here builds) ks ≡ Some x → IsEventful x) → IsEventful x
      by None at is later = later is
      by (Some y) at is later =
          let known : ◌≡◌ {A = Chosen} (Some y) (Some x) = is in
          let same : y ≡ x = cc in
          subst IsEventful same (job_is builds k (here k) y at)

  -- ---- what nodes do on their own initiative

  own_by_is : (k : ℕ) (s : State) (o : Option OpenClaim) (above : Option ℕ) (barred : Barred)
      (input : Input) → IsOwnBy s o above barred (Some input) → IsEventful (k, Does input)
  own_by_is k s None above barred input (None, least, is) =
      absurd (let no : ◌≡◌ {A = Option Input} (Some input) None = is in cc)
  own_by_is k s None above barred input (Some p, least, is) =
      let known : ◌≡◌ {A = Option Input} (Some input) (Some (claim_of s p)) = is in
      let same : input ≡ claim_of s p = cc in
      subst (λ i. IsEventful (k, Does i)) (sym same) refl
  own_by_is k s (Some o) above barred input is = by above is
    where
      by : (above : Option ℕ) → Some input ≡ Some (renewed s o above)
          → IsEventful (k, Does input)
      by None is =
          let known : ◌≡◌ {A = Option Input} (Some input) (Some inputs.Nudge) = is in
          let same : input ≡ inputs.Nudge = cc in
          subst (λ i. IsEventful (k, Does i)) (sym same) refl
      by (Some round) is =
          let known : ◌≡◌ {A = Option Input} (Some input) (Some (inputs.Claim (name_at s o.unit) s.me round)) = is in
          let same : input ≡ inputs.Claim (name_at s o.unit) s.me round = cc in
          subst (λ i. IsEventful (k, Does i)) (sym same) refl

  own_is : (here : Here) (count : ℕ) (p : Pending) (k : ℕ) (o : Option State) (input : Input)
      → IsOwnIf here count p k o (Some input) → IsEventful (k, Does input)
  own_is here count p k None input is =
      absurd (let no : ◌≡◌ {A = Option Input} (Some input) None = is in cc)
  own_is here count p k (Some s) input is =
      own_by_is k s s.claim (above_at p k) (barred_at here count p k) input is

  -- what the first does on its own initiative
  pub owns_are : (here : Here) (count : ℕ) (p : Pending) (ks : List ℕ) (x : ℕ × Asked)
      → IsFirstOwn here count p ks (Some x) → IsEventful x
  owns_are here count p [] x is =
      absurd (let no : ◌≡◌ {A = Chosen} (Some x) None = is in cc)
  owns_are here count p (k ∷ ks) x (None, own, later) = owns_are here count p ks x later
  owns_are here count p (k ∷ ks) x (Some input, own, done) =
      let known : ◌≡◌ {A = Chosen} (Some x) (Some (k, Does input)) = done in
      let same : ◌≡◌ {A = ℕ × Asked} x (k, Does input) = cc in
      subst IsEventful (sym same) (own_is here count p k (here k) input own)

  -- ---- what was received

  found_from : (text : Text) (n : ℕ) (texts : List Text)
      → is_some (position_from (bytes_eq text) n texts) ≡ is_among texts text
  found_from text n [] = refl
  found_from text n (t ∷ ts) =
      by (bytes_eq text t) (bytes_eq t text) (eq_flip text t)
      (position_from (bytes_eq text) (n + 1) ts) (found_from text (n + 1) ts)
    where
      by : (a b : Bool) → a ≡ b → (o : Option ℕ) → is_some o ≡ is_among ts text
          → is_some (cond a (Some n) o) ≡ (b || is_among ts text)
      by true true same o rest = refl
      by false false same o rest = rest
      by true false same o rest = absurd (let no : true ≡ false = same in cc)
      by false true same o rest = absurd (let no : false ≡ true = same in cc)

  found_among : (text : Text) (texts : List Text)
      → is_some (position (bytes_eq text) texts) ≡ is_among texts text
  found_among text texts =
      ap is_some (position_from-zero (bytes_eq text) texts) ∙ found_from text 0 texts

  -- bytes that were sent are delivered
  pub sent_is : (k : ℕ) (text : Text) → is_among sent text ≡ true → IsEventful (k, Comes text)
  sent_is k text among =
      by (position (bytes_eq text) sent) (found_among text sent ∙ among)
    where
      by : (o : Option ℕ) → is_some o ≡ true
          → is_some (option_map (λ d. Deliver d k) o) ≡ true
      by None never = absurd (let no : false ≡ true = never in cc)
      by (Some d) is = refl
