-- Where nodes listen, and what comes for them.
use Rattle.std.proofs.Common.{◌≡◌, ◌+◌, ◌++◌, ◌∙◌, ℕ, Bool, true, false, List, [], ◌∷◌, inl, inr, map, length, refl, sym, ap, subst, append_assoc, arith}
use Rattle.std.proofs.lemmas.List.{append-nil, length-append, map-append}
use Rattle.faults.specs.Bytes.{Text}
use Rattle.udp.proofs.InboxLemmas.{GoesOn-same, GoesOn-takes}
use Rattle.udp.specs.Coming.{Became, HasCome, IsHeardOrLost}
use Rattle.udp.specs.Inbox.{GoesOn, InboxState, Takes, came_as}
use Rattle.udp.specs.Ways.{CountUp}
use Rattle.udp.specs.declared.inbox.Came.{Came}
use Rattle.udp.specs.declared.inbox.Came.TheVariants.{Lost, Repeated, Unsealed, Waits}

-- the length of a list with one more element
pub longer : {X : Type 0} (xs ys : List X) (x : X) (n : ℕ) → ys ≡ xs ++ x ∷ [] → length xs ≡ n → length ys ≡ n + 1
longer xs ys x n same long = omega (arith, ap length same, length-append xs (x ∷ []), long)

-- one more element, of the next number
pub CountUp-more : {X : Type 0} (R : ℕ → X → Type 0) (n : ℕ) (xs : List X) (x : X) → CountUp R n xs → R (n + length xs) x → CountUp R n (xs ++ x ∷ [])
CountUp-more R n [] x are is = (subst (λ (k : ℕ). R k x) (omega arith) is, tt)
CountUp-more R n (y ∷ xs) x are is =
    (are.0, CountUp-more R (n + 1) xs x are.1 (subst (λ (k : ℕ). R k x) (omega arith) is))

-- two appends of texts for a node are one
for_node : (node : ℕ) (a b c : List (ℕ × Text)) (ts us : List Text) → b ≡ a ++ map (λ t. (node, t)) ts → c ≡ b ++ map (λ t. (node, t)) us → c ≡ a ++ map (λ t. (node, t)) (ts ++ us)
for_node node a b c ts us first second =
    second ∙ (ap (λ l. l ++ map (λ t. (node, t)) us) first
    ∙ (append_assoc a (map (λ t. (node, t)) ts) (map (λ t. (node, t)) us)
    ∙ ap (λ l. a ++ l) (sym (map-append (λ (t : Text). (node, t)) ts us))))

-- What was done with the bytes is one of these.
module _ (node : ℕ) (bytes : Text) (old new : InboxState) where
  pub Became-taken : (came : Came) → (came ≡ Waits → (text : Text) × Takes old new bytes text × (new.waiting ≡ old.waiting ++ (node, text) ∷ [])) → (came ≡ Lost → (text : Text) × Takes old new bytes text × (new.waiting ≡ old.waiting)) → (came ≡ Unsealed → (new ≡ old) × ((text : Text) → ¬ (bytes ≡ came_as old.key text))) → ¬ (came ≡ Repeated) → Became node bytes false old new came
  Became-taken Waits waits lost unsealed never = waits refl
  Became-taken Lost waits lost unsealed never = lost refl
  Became-taken Unsealed waits lost unsealed never = unsealed refl
  Became-taken Repeated waits lost unsealed never = absurd (never refl)

  -- bytes that are always taken are taken
  pub Became-any : (may_drop : Bool) (came : Came) → Became node bytes false old new came → Became node bytes may_drop old new came
  Became-any may_drop Waits became = became
  Became-any may_drop Lost became = became
  Became-any may_drop Unsealed became = became
  Became-any may_drop Repeated became = absurd (let bad : false ≡ true = became.0 in cc)

  -- they are queued or the queue is unchanged, and what was received stays
  pub heard_or_lost : (may_drop : Bool) (came : Came) → Became node bytes may_drop old new came → IsHeardOrLost node bytes old new × GoesOn old new
  heard_or_lost may_drop Waits became = (inl (became.0, became.1.is, became.2), GoesOn-takes old new bytes became.0 became.1)
  heard_or_lost may_drop Lost became = (inr became.2, GoesOn-takes old new bytes became.0 became.1)
  heard_or_lost may_drop Unsealed became = (inr (ap (λ (i : InboxState). i.waiting) became.0), GoesOn-same old new became.0)
  heard_or_lost may_drop Repeated became = (inr (ap (λ (i : InboxState). i.waiting) became.1), GoesOn-same old new became.1)

module _ (node : ℕ) where
  -- nothing came
  pub HasCome-none : (old : InboxState) → HasCome node old old
  HasCome-none old = ([], sym (append-nil old.waiting))

  -- at most one text was appended
  one_at_most : (bytes : Text) (old new : InboxState) → IsHeardOrLost node bytes old new → HasCome node old new
  one_at_most bytes old new (inl heard) = (heard.0 ∷ [], heard.2)
  one_at_most bytes old new (inr lost) = ([], lost ∙ sym (append-nil old.waiting))

  -- and then one more
  pub HasCome-one : (bytes : Text) (old between new : InboxState) → HasCome node old between → IsHeardOrLost node bytes between new → HasCome node old new
  HasCome-one bytes old between new (ts, first) is =
      let more = one_at_most bytes between new is in
      (ts ++ more.0, for_node node old.waiting between.waiting new.waiting ts more.0 first more.1)
