-- Lemmas about received texts.
use Rattle.std.proofs.Common.{◌≡◌, ◌∙◌, ℕ, Bool, true, false, ◌&&◌, ◌||◌, List, [], ◌∷◌, ◌++◌, Err, Ok, OnErr, Option, Result, ap, not, refl, sym}
use Rattle.std.proofs.Math.Bool.{or-true}
use Rattle.std.proofs.lemmas.List.Folds.{list_all-append, list_any-append}
use Rattle.std.specs.Cmp.Lexicographic.{nat_list_eq_equiv}
use Rattle.std.specs.List.{list_all}
use Rattle.std.specs.Str.{bytes_eq}
use Rattle.faults.specs.Bytes.{Text, is_among}
use Rattle.udp.specs.Inbox.{GoesOn, InboxState, Takes, came_as, is_vouched_for}
use Rattle.udp.specs.Notices.{is_notice}
use Rattle.udp.specs.Ways.{in_line}
use Rattle.udp.specs.declared.line.Waiting.{Waiting}

-- both tests hold if their `&&` does
pub both : (a b : Bool) → (a && b) ≡ true → (a ≡ true) × (b ≡ true)
both true b h = (refl, h)
both false b h = absurd (cc h)

-- a test that follows from another holds of all that the other holds of
pub all_follow : {X : Type 0} (p q : X → Bool) → ((x : X) → p x ≡ true → q x ≡ true) → (xs : List X) → list_all p xs ≡ true → list_all q xs ≡ true
all_follow p q follows [] h = refl
all_follow p q follows (x ∷ xs) h =
    let parts = both (p x) (list_all p xs) h in
    let first = follows x parts.0 in
    let others = all_follow p q follows xs parts.1 in
    rw (first, others)

-- what is among these is among them and one more
pub among_more : (came : List Text) (bytes t : Text) → is_among came t ≡ true → is_among (came ++ bytes ∷ []) t ≡ true
among_more came bytes t there =
    list_any-append (λ u. bytes_eq u t) came (bytes ∷ []) ∙ ap (λ b. b || is_among (bytes ∷ []) t) there

-- `bytes_eq` is reflexive
same_bytes : (t : Text) → bytes_eq t t ≡ true
same_bytes t = nat_list_eq_equiv.refl t

-- the last received bytes are among those received
pub among_last : (came : List Text) (bytes : Text) → is_among (came ++ bytes ∷ []) bytes ≡ true
among_last came bytes =
    list_any-append (λ u. bytes_eq u bytes) came (bytes ∷ [])
    ∙ (ap (λ b. is_among came bytes || (b || false)) (same_bytes bytes) ∙ or-true (is_among came bytes))

module _ (key : Option Text) (came : List Text) where
  -- The queued texts are vouched for after one more datagram was received.
  still_vouched_for : (waiting : List (ℕ × Text)) (bytes : Text) → list_all (λ w. is_vouched_for key came w.1) waiting ≡ true → list_all (λ w. is_vouched_for key (came ++ bytes ∷ []) w.1) waiting ≡ true
  still_vouched_for waiting bytes before =
      all_follow (λ (w : ℕ × Text). is_vouched_for key came w.1) (λ (w : ℕ × Text). is_vouched_for key (came ++ bytes ∷ []) w.1)
      (λ w. among_more came bytes (came_as key w.1)) waiting before

  -- The text of one more datagram is appended to the queue: all of them are vouched for.
  one_more : (waiting : List (ℕ × Text)) (bytes text : Text) (node : ℕ) → bytes ≡ came_as key text → list_all (λ w. is_vouched_for key came w.1) waiting ≡ true → list_all (λ w. is_vouched_for key (came ++ bytes ∷ []) w.1) (waiting ++ (node, text) ∷ []) ≡ true
  one_more waiting bytes text node is before =
      let old = still_vouched_for waiting bytes before in
      let new : is_vouched_for key (came ++ bytes ∷ []) text ≡ true = ap (is_among (came ++ bytes ∷ [])) (sym is) ∙ among_last came bytes in
      list_all-append (λ (w : ℕ × Text). is_vouched_for key (came ++ bytes ∷ []) w.1) waiting ((node, text) ∷ []) ∙ rw (old, new)

  -- One more datagram was received, and its text was queued or found no room: the queued texts are
  -- vouched for.
  pub put_or_not : {E : Type 0} (old new : List (Waiting ℕ)) (bytes text : Text) (node : ℕ) (r : Result Bool E) → (r ≡ Ok true → in_line new ≡ in_line old ++ (node, text) ∷ []) → (r ≡ Ok false → new ≡ old) → OnErr r (new ≡ old) → bytes ≡ came_as key text → list_all (λ w. is_vouched_for key came w.1) (in_line old) ≡ true → list_all (λ w. is_vouched_for key (came ++ bytes ∷ []) w.1) (in_line new) ≡ true
  put_or_not old new bytes text node (Ok true) put full err is before =
      rw (put refl) (one_more (in_line old) bytes text node is before)
  put_or_not old new bytes text node (Ok false) put full err is before =
      rw (full refl) (still_vouched_for (in_line old) bytes before)
  put_or_not old new bytes text node (Err e) put full err is before =
      rw err (still_vouched_for (in_line old) bytes before)

-- One more text that doesn't begin as a notice does was queued or found no room: so does none in the
-- queue.
pub plain_or_not : {E : Type 0} (old new : List (Waiting ℕ)) (text : Text) (node : ℕ) (r : Result Bool E) → (r ≡ Ok true → in_line new ≡ in_line old ++ (node, text) ∷ []) → (r ≡ Ok false → new ≡ old) → OnErr r (new ≡ old) → is_notice text ≡ false → list_all (λ w. not (is_notice w.1)) (in_line old) ≡ true → list_all (λ w. not (is_notice w.1)) (in_line new) ≡ true
plain_or_not old new text node (Ok true) put full err plain before =
    rw (put refl) (list_all-append (λ (w : ℕ × Text). not (is_notice w.1)) (in_line old) ((node, text) ∷ []) ∙ rw (before, plain) refl)
plain_or_not old new text node (Ok false) put full err plain before = rw (full refl) before
plain_or_not old new text node (Err e) put full err plain before = rw err before

-- ---- `GoesOn`

-- nothing changed
pub GoesOn-same : (old new : InboxState) → new ≡ old → GoesOn old new
GoesOn-same old new same = rw same (record { key = refl; vouched = λ text h. h })

-- reflexivity
pub goes_on_still : (inbox : InboxState) → GoesOn inbox inbox
goes_on_still inbox = record { key = refl; vouched = λ text h. h }

-- transitivity
pub GoesOn-more : (old between new : InboxState) → GoesOn old between → GoesOn between new → GoesOn old new
GoesOn-more old between new first second = record {
  key = second.key ∙ first.key;
  vouched = λ text h. second.vouched text (first.vouched text h);
}

-- these bytes were received
pub GoesOn-takes : (old new : InboxState) (bytes text : Text) → Takes old new bytes text → GoesOn old new
GoesOn-takes old new bytes text took = record {
  key = took.key;
  vouched = λ t h. rw (took.key, took.came) (among_more old.came bytes (came_as old.key t) h);
}
