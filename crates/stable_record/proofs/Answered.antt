-- Opening a file of bytes has some answer.
use Rattle.std.proofs.Common.{◌≡◌, ◌≢◌, ◌⊎◌, ⊎_elim, inl, inr, ℕ, suc, ◌+◌, ◌<◌, ◌≤◌, true, false, List, [], ◌∷◌, ◌++◌, length, take, drop, Result, Ok, Err, Some, None, refl, sym, ◌∙◌, ap, subst, arith, append_assoc}
use Rattle.std.specs.Prelude.{slice_get, slice_index}
use Rattle.std.specs.Str.{bytes_eq}
use Rattle.std.proofs.lemmas.Bool.{cases_lt, cases_eq, cases_Bool}
use Rattle.std.proofs.lemmas.List.{get_or-drop, take-append-drop}
use Rattle.std.proofs.lemmas.Slice.Eq.{bytes_eq-Decides}
use Rattle.stable_record.specs.declared.identity.Identity.{Identity}
use Rattle.stable_record.specs.declared.log_fault.LogFault.{LogFault}
use Rattle.stable_record.specs.declared.log_fault.LogFault.TheVariants.{NotALog, OtherCluster}
use Rattle.stable_record.specs.Log.{Note, open_gate, closed_gate, header, magic, entries, log_file}
use Rattle.stable_record.specs.Opening.{IsBlank, no_more_than_a_gate, begun, not_opened, IsLog, LacksWeights, IsAsOwner, neither, lacks_weights, broken, Opens, shortest}
use Rattle.stable_record.specs.History.{IsBytes}
use Rattle.stable_record.specs.Magic.{HasMagic, plain_magic, weighted_magic}
use Rattle.stable_record.proofs.Entries.{Scanned, scan}

-- two lists are equal or not
same_or_not : (xs ys : List ℕ) → (xs ≡ ys) ⊎ (xs ≡ ys → ⊥)
same_or_not xs ys =
    let decides = bytes_eq-Decides xs ys in ⊎_elim
    (λ same. inl (decides.0 same))
    (λ other. inr (λ is. let e : false ≡ true = sym other ∙ decides.1 is in absurd cc))
    (cases_Bool (bytes_eq xs ys))

-- a proposition that holds or doesn't
abbrev Decided : Type 0 → Type 0
Decided P = P ⊎ (P → ⊥)

likewise : (P Q : Type 0) → (P → Q) → (Q → P) → Decided P → Decided Q
likewise P Q there back (inl p) = inl (there p)
likewise P Q there back (inr other) = inr (λ q. other (back q))

both : (P Q : Type 0) → Decided P → Decided Q → Decided (P × Q)
both P Q (inl p) (inl q) = inl (p, q)
both P Q (inl p) (inr other) = inr (λ is. other is.1)
both P Q (inr other) q = inr (λ is. other is.0)

one : (P Q : Type 0) → Decided P → Decided Q → Decided (P ⊎ Q)
one P Q (inl p) q = inl (inl p)
one P Q (inr other) (inl q) = inl (inr q)
one P Q (inr other) (inr neither_one) = inr (λ is. ⊎_elim other neither_one is)

opposite : (P : Type 0) → Decided P → Decided (P → ⊥)
opposite P (inl p) = inr (λ never. never p)
opposite P (inr other) = inl other

at_most : (m n : ℕ) → Decided (m ≤ n)
at_most m n = ⊎_elim (λ more. inr (λ few. omega (arith, more, few))) (λ few. inl few) (cases_lt n m)

below : (m n : ℕ) → Decided (m < n)
below m n = ⊎_elim (λ less. inl less) (λ more. inr (λ less. omega (arith, more, less))) (cases_lt m n)

begins_as : (gate : ℕ) (file : List ℕ) → Decided (slice_get file 0 ≡ Some gate)
begins_as gate [] = inr (λ is. absurd (let e : None ≡ Some gate = is in cc))
begins_as gate (first ∷ rest) = ⊎_elim (λ same. inl (ap Some same)) (λ other. inr (λ is. other (let e : Some first ≡ Some gate = is in cc))) (cases_eq first gate)

-- whether the file is a log, of any owner
log_or_not : (file : List ℕ) → Decided (IsLog file)
log_or_not file =
    likewise ((44 ≤ length file) × ((slice_get file 0 ≡ Some open_gate) × (HasMagic plain_magic file ⊎ HasMagic weighted_magic file))) (IsLog file)
    (λ is. record { long_enough = is.0; is_open = is.1.0; is_magic = is.1.1 }) (λ log. (log.long_enough, (log.is_open, log.is_magic)))
    (both (44 ≤ length file) ((slice_get file 0 ≡ Some open_gate) × (HasMagic plain_magic file ⊎ HasMagic weighted_magic file)) (at_most 44 (length file))
    (both (slice_get file 0 ≡ Some open_gate) (HasMagic plain_magic file ⊎ HasMagic weighted_magic file) (begins_as open_gate file)
    (one (HasMagic plain_magic file) (HasMagic weighted_magic file) (same_or_not (take 8 (drop 1 file)) plain_magic) (same_or_not (take 8 (drop 1 file)) weighted_magic))))

lacks_or_not : (file : List ℕ) → Decided (LacksWeights file)
lacks_or_not file =
    likewise (HasMagic weighted_magic file × (length file < 44 + slice_index file 41)) (LacksWeights file)
    (λ is. record { is_weighted = is.0; too_short = is.1 }) (λ lacks. (lacks.is_weighted, lacks.too_short))
    (both (HasMagic weighted_magic file) (length file < 44 + slice_index file 41) (same_or_not (take 8 (drop 1 file)) weighted_magic) (below (length file) (44 + slice_index file 41)))

module _ (i : Identity) where
  abbrev Answered : List ℕ → Type 0
  Answered file = (answer : Result (List Note) LogFault) × Opens i file answer

  abbrev Begun : List ℕ → Type 0
  Begun file = (length file ≤ shortest i) × (slice_get file 0 ≡ Some closed_gate)

  abbrev Unopened : List ℕ → Type 0
  Unopened file = (length file ≡ shortest i) × ((slice_get file 0 ≡ Some open_gate → ⊥) × HasMagic (magic i) file)

  blank_of : (file : List ℕ) → (length file ≤ 1) ⊎ (Begun file ⊎ Unopened file) → IsBlank i file
  blank_of file (inl few) = no_more_than_a_gate few
  blank_of file (inr (inl is)) = begun is.0 is.1
  blank_of file (inr (inr is)) = not_opened is.0 is.1.0 is.1.1

  of_blank : (file : List ℕ) → IsBlank i file → (length file ≤ 1) ⊎ (Begun file ⊎ Unopened file)
  of_blank file (no_more_than_a_gate few) = inl few
  of_blank file (begun few zero) = inr (inl (few, zero))
  of_blank file (not_opened just shut right) = inr (inr (just, (shut, right)))

  blank_or_not : (file : List ℕ) → Decided (IsBlank i file)
  blank_or_not file =
      likewise ((length file ≤ 1) ⊎ (Begun file ⊎ Unopened file)) (IsBlank i file) (blank_of file) (of_blank file)
      (one (length file ≤ 1) (Begun file ⊎ Unopened file) (at_most (length file) 1)
      (one (Begun file) (Unopened file) (both (length file ≤ shortest i) (slice_get file 0 ≡ Some closed_gate) (at_most (length file) (shortest i)) (begins_as closed_gate file))
      (both (length file ≡ shortest i) ((slice_get file 0 ≡ Some open_gate → ⊥) × HasMagic (magic i) file) (cases_eq (length file) (shortest i))
      (both (slice_get file 0 ≡ Some open_gate → ⊥) (HasMagic (magic i) file) (opposite (slice_get file 0 ≡ Some open_gate) (begins_as open_gate file)) (same_or_not (take 8 (drop 1 file)) (magic i))))))

  -- after the right header
  of_owner : (file : List ℕ) → IsBytes file → take (suc (length (header i))) file ≡ open_gate ∷ header i → Answered file
  of_owner file bytes begins =
      let rest = drop (suc (length (header i))) file in
      let read : Scanned rest = scan (length rest) rest (omega arith) (λ k. subst (λ x. x < 256) (sym (get_or-drop (suc (length (header i))) file k 0)) (bytes (suc (length (header i)) + k))) in
      let parts : file ≡ log_file i read.notes read.end =
      sym (take-append-drop (suc (length (header i))) file) ∙ ap (λ l. l ++ rest) begins ∙ ap (λ l. (open_gate ∷ header i) ++ l) read.parts ∙ sym (append_assoc (open_gate ∷ header i) (entries read.notes) read.end) in ⊎_elim
      (λ closed. (Ok read.notes, inr record { gate = closed.0; behind = closed.1; parts = parts ∙ ap (log_file i read.notes) closed.2; closed = closed.3; lengths = read.lengths }))
      (λ short. (Err NotALog, broken record { whole = read.notes; end = read.end; parts = parts; lengths = read.lengths; cut_short = short }))
      read.ends

  header_there : (file : List ℕ) → slice_get file 0 ≡ Some open_gate → IsAsOwner i file → take (suc (length (header i))) file ≡ open_gate ∷ header i
  header_there [] is owner = absurd (let e : None ≡ Some open_gate = is in cc)
  header_there (gate ∷ rest) is owner =
      let opened : gate ≡ open_gate = let e : Some gate ≡ Some open_gate = is in cc in
      ap (λ g. g ∷ take (length (header i)) rest) opened ∙ ap (λ l. open_gate ∷ l) owner

  of_log : (file : List ℕ) → IsBytes file → IsLog file → Answered file
  of_log file bytes log = ⊎_elim
      (λ lacks. (Err NotALog, lacks_weights log lacks))
      (λ whole. ⊎_elim
      (λ owner. of_owner file bytes (header_there file log.is_open owner))
      (λ other. (Err OtherCluster, record { is_log = log; has_weights = whole; differs = other }))
      (same_or_not (take (length (header i)) (drop 1 file)) (header i)))
      (lacks_or_not file)

  pub opens_some : (file : List ℕ) → IsBytes file → Answered file
  opens_some file bytes = ⊎_elim
      (λ blank. (Ok [], inl (blank, refl)))
      (λ no_blank. ⊎_elim (of_log file bytes) (λ no_log. (Err NotALog, neither no_blank no_log)) (log_or_not file))
      (blank_or_not file)
