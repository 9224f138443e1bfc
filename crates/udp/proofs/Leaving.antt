-- The outgoing queue shrinks.
use Rattle.std.proofs.Common.{◌≡◌, ◌≢◌, ◌<◌, ◌∙◌, ◌++◌, List, [], ◌∷◌, inl, inr, length, refl, sym, ap, append_assoc, arith}
use Rattle.std.specs.List.Sorted.{IsPermutation}
use Rattle.std.proofs.lemmas.List.{append-nil, map-append}
use Rattle.std.proofs.lemmas.List.Sorted.{IsPermutation-append_right, IsPermutation-pop_more, IsPermutation-refl, IsPermutation-trans}
use Rattle.faults.specs.Bytes.{Text}
use Rattle.udp.specs.Leaving.{HandsOver, HasLeft, IsLeft, texts_of}
use Rattle.udp.specs.declared.line.Waiting.{Waiting}
use Rattle.udp.specs.declared.sockets.Way.{Way}

-- the first was taken
pub HandsOver-taken : (waiting new : List (Waiting Way)) (handed now : List Text) (w : Waiting Way) → waiting ≡ w ∷ new → now ≡ handed ++ w.bytes.items ∷ [] → HandsOver waiting handed new now
HandsOver-taken waiting new handed now w is noted = rw is (refl, noted)

-- the queue was empty
pub HandsOver-none : (waiting new : List (Waiting Way)) (handed : List Text) → waiting ≡ [] → waiting ≡ new → HandsOver waiting handed new handed
HandsOver-none waiting new handed none same = rw none (sym same ∙ none, refl)

-- once the queue is empty, all was handed over
pub all_handed : (waiting : List (Waiting Way)) (now all : List Text) → waiting ≡ [] → all ≡ now ++ texts_of waiting → now ≡ all
all_handed waiting now all none same =
    sym (append-nil now) ∙ (ap (λ (w : List (Waiting Way)). now ++ texts_of w) (sym none) ∙ sym same)

-- so the queue is shorter
pub HandsOver-fewer : (waiting new : List (Waiting Way)) (handed now : List Text) → HandsOver waiting handed new now → waiting ≢ [] → length new < length waiting
HandsOver-fewer [] new handed now left some = absurd (some refl)
HandsOver-fewer (w ∷ waiting) new handed now left some =
    let long : length new ≡ length waiting = ap length left.0 in omega (arith, long)

-- what was handed over and then what is queued stays the same in all
pub HandsOver-all : (waiting new : List (Waiting Way)) (handed now all : List Text) → HandsOver waiting handed new now → all ≡ handed ++ texts_of waiting → all ≡ now ++ texts_of new
HandsOver-all [] new handed now all left same = rw (left.0, left.1) same
HandsOver-all (w ∷ waiting) new handed now all left same =
    rw (left.0, left.1) (same ∙ sym (append_assoc handed (w.bytes.items ∷ []) (texts_of waiting)))

-- one was taken off
pub HasLeft-taken : (waiting new : List (Waiting Way)) (handed now : List Text) (w : Waiting Way) → IsPermutation waiting (w ∷ new) → now ≡ handed ++ w.bytes.items ∷ [] → HasLeft waiting handed new now
HasLeft-taken waiting new handed now w is noted = inl (w, is, noted)

-- nothing was handed over
pub IsLeft-none : (waiting : List (Waiting Way)) (handed : List Text) → IsLeft waiting handed waiting handed
IsLeft-none waiting handed = ([], IsPermutation-refl waiting, sym (append-nil handed))

-- and then one more, or none
pub IsLeft-one : (waiting between new : List (Waiting Way)) (handed between_now now : List Text) → IsLeft waiting handed between between_now → HasLeft between between_now new now → IsLeft waiting handed new now
IsLeft-one waiting between new handed between_now now so_far (inl (w, is, noted)) = (
  so_far.0 ++ w ∷ [],
  IsPermutation-pop_more waiting so_far.0 between new w so_far.1 is,
  noted ∙ (ap (λ (t : List Text). t ++ w.bytes.items ∷ []) so_far.2
      ∙ (append_assoc handed (texts_of so_far.0) (w.bytes.items ∷ [])
      ∙ ap (λ (t : List Text). handed ++ t) (sym (map-append (λ (v : Waiting Way). v.bytes.items) so_far.0 (w ∷ []))))),
)
IsLeft-one waiting between new handed between_now now so_far (inr (same, noted)) = rw (same, noted) so_far

-- and then more
pub IsLeft-more : (waiting between new : List (Waiting Way)) (handed between_now now : List Text) → IsLeft waiting handed between between_now → IsLeft between between_now new now → IsLeft waiting handed new now
IsLeft-more waiting between new handed between_now now first second = (
  first.0 ++ second.0,
  rw (append_assoc first.0 second.0 new) (IsPermutation-trans waiting (first.0 ++ between) (first.0 ++ (second.0 ++ new)) first.1
      (IsPermutation-append_right first.0 between (second.0 ++ new) second.1)),
  second.2 ∙ (ap (λ (t : List Text). t ++ texts_of second.0) first.2
      ∙ (append_assoc handed (texts_of first.0) (texts_of second.0)
      ∙ ap (λ (t : List Text). handed ++ t) (sym (map-append (λ (v : Waiting Way). v.bytes.items) first.0 second.0)))),
)
