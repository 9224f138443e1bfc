-- While a log is being created, whatever a crash leaves opens without notes.
use Rattle.std.proofs.Common.{◌≡◌, ⊎_elim, inl, inr, ℕ, zero, suc, ◌+◌, ◌≤◌, List, [], ◌∷◌, ◌++◌, length, take, drop, Result, Ok, Err, OnOk, Some, refl, sym, ◌∙◌, ap, subst, arith, length-append}
use Rattle.std.specs.Prelude.{slice_get}
use Rattle.std.proofs.lemmas.Bool.{cases_eq}
use Rattle.std.proofs.lemmas.List.{append-nil}
use Rattle.stable_record.specs.declared.disk_fault.DiskFault.{DiskFault}
use Rattle.stable_record.specs.declared.identity.Identity.{Identity}
use Rattle.stable_record.specs.Crash.{MayLeave, Leaves, IsOnDisk, Torn, at_first, range_end}
use Rattle.stable_record.specs.inside.Down.{WritesDown, CutsDown}
use Rattle.stable_record.specs.History.{History, written, synced, seen, overwritten}
use Rattle.stable_record.specs.Log.{open_gate, closed_gate, header, IsSettled}
use Rattle.stable_record.specs.Opening.{IsBlank, no_more_than_a_gate, begun, not_opened, Opens}
use Rattle.stable_record.specs.inside.Reading.{StaysAs}
use Rattle.stable_record.proofs.Along.{wrote_down, cut_along, along_on}
use Rattle.stable_record.proofs.Headers.{magic_in_front}
use Rattle.stable_record.proofs.Torn.{overwritten_end, torn_end, overwritten_byte, torn_byte}

-- the first byte and the header, then a closed gate
abbrev pub with_gate : ℕ → Identity → List ℕ
with_gate gate i = gate ∷ header i ++ closed_gate ∷ []

-- a synced history is on the disk
pub on_disk_after : (h new : History) → new ≡ synced ∷ h → IsOnDisk new
on_disk_after h new is = subst IsOnDisk (sym is) (λ c e. e.0)

-- the end of a range
range_within : (at count : ℕ) → range_end at count ≤ at + count
range_within at zero = omega arith
range_within at (suc more) = omega arith

module _ (i : Identity) where
  abbrev IsNew : List ℕ → Type 0
  IsNew c = Opens i c (Ok [])

  few : (c : List ℕ) → length c ≤ 1 → IsNew c
  few c short = inl (no_more_than_a_gate short, refl)

  -- any gate before the header
  any_first : (gate : ℕ) (c : List ℕ) → c ≡ with_gate gate i → IsNew c
  any_first gate c is = elim (cases_eq gate open_gate) [
    | inl opened ↦ inr record {
      gate = closed_gate;
      behind = [];
      parts = is ∙ ap (λ g. with_gate g i) opened ∙ ap (λ l. open_gate ∷ l ++ closed_gate ∷ []) (sym (append-nil (header i)));
      closed = omega arith;
      lengths = λ k d lt. absurd (omega (arith, lt));
    }
    | inr shut ↦ inl (
      not_opened (omega (arith, ap length is, length-append (header i) (closed_gate ∷ []))) (λ opened. shut (let e : Some gate ≡ Some open_gate = sym (ap (λ f. slice_get f 0) is) ∙ opened in cc)) (ap (λ f. take 8 (drop 1 f)) is ∙ magic_in_front i (closed_gate ∷ [])),
      refl,
    )
  ]

  module _ (h : History) (possible : MayLeave h (seen h)) (on_disk : IsOnDisk h) where
    stays : (f : List ℕ) → seen h ≡ f → IsNew f → Leaves IsNew h
    stays f is new = λ c left. subst IsNew (sym (on_disk c left ∙ is)) new

    -- the file is emptied
    pub emptied : {T : Type 0} (new : History) (r : Result T DiskFault) → IsBlank i (seen h) → CutsDown 0 h new r → StaysAs i [] h new
    emptied new r blank down =
        cut_along IsNew h h new 0 r (at_first (stays (seen h) refl (inl (blank, refl)))) (λ c (d, left, cut). ⊎_elim
        (λ same. subst IsNew (sym (same ∙ on_disk d left)) (inl (blank, refl)))
        (λ gone. few c (omega (arith, ap length gone))) cut) possible down

    -- a closed gate is written
    pub gate_put : {T : Type 0} (start new : History) (r : Result T DiskFault) → seen h ≡ [] → StaysAs i [] start h → WritesDown 0 (closed_gate ∷ []) h new r → StaysAs i [] start new
    gate_put start new r empty so_far down =
        wrote_down IsNew start h new 0 (closed_gate ∷ []) r so_far (λ c (d, left, torn). few c (omega (arith, torn.no_longer, ap length (on_disk d left ∙ empty)))) possible down

    -- the header is written after it
    pub header_put : {T : Type 0} (new : History) (r : Result T DiskFault) → seen h ≡ closed_gate ∷ [] → WritesDown 1 (header i ++ closed_gate ∷ []) h new r → StaysAs i [] h new
    header_put new r gate down =
        wrote_down IsNew h h new 1 (header i ++ closed_gate ∷ []) r (at_first (stays (closed_gate ∷ []) gate (few (closed_gate ∷ []) (omega arith)))) (λ c (d, left, torn).
        let file : d ≡ closed_gate ∷ [] = on_disk d left ∙ gate in
        let parts = torn_end 1 (length (header i ++ closed_gate ∷ [])) (closed_gate ∷ []) c refl (subst (λ f. Torn 1 (length (header i ++ closed_gate ∷ [])) f c) file torn) in
        inl (begun (omega (arith, torn.no_longer, ap length file, length-append (header i) (closed_gate ∷ []), range_within 1 (length (header i ++ closed_gate ∷ [])))) (ap (λ f. slice_get f 0) parts.1), refl)) possible down

    -- the gate before it is opened
    pub gate_opened : {T : Type 0} (start new : History) (r : Result T DiskFault) → seen h ≡ with_gate closed_gate i → StaysAs i [] start h → WritesDown 0 (open_gate ∷ []) h new r → StaysAs i [] start new
    gate_opened start new r file so_far down =
        wrote_down IsNew start h new 0 (open_gate ∷ []) r so_far (λ c (d, left, torn).
        let is : d ≡ with_gate closed_gate i = on_disk d left ∙ file in
        let parts = torn_byte [] closed_gate (header i ++ closed_gate ∷ []) 0 refl c (subst (λ f. Torn 0 1 f c) is torn) in
        any_first parts.0 c parts.1) possible down

-- the result of a write after the closed gate
pub header_file : (i : Identity) (f : List ℕ) → f ≡ closed_gate ∷ [] → overwritten 1 (header i ++ closed_gate ∷ []) f ≡ with_gate closed_gate i
header_file i f is = ap (overwritten 1 (header i ++ closed_gate ∷ [])) is ∙ overwritten_end 1 (header i ++ closed_gate ∷ []) (closed_gate ∷ []) refl

-- the result of opening the first gate
pub made : (i : Identity) (h new : History) → seen h ≡ with_gate closed_gate i → new ≡ synced ∷ written 0 1 (overwritten 0 (open_gate ∷ []) (seen h)) ∷ h → IsSettled new i [] (1 + length (header i))
made i h new file is = record {
  gate = closed_gate;
  file =
      ap seen is
      ∙ ap (overwritten 0 (open_gate ∷ [])) file
      ∙ overwritten_byte [] closed_gate (header i ++ closed_gate ∷ []) 0 refl open_gate
      ∙ ap (λ l. open_gate ∷ l ++ closed_gate ∷ []) (sym (append-nil (header i)));
  closed = omega arith;
  lengths = λ k d lt. absurd (omega (arith, lt));
  place = omega arith;
  on_disk = on_disk_after (written 0 1 (overwritten 0 (open_gate ∷ []) (seen h)) ∷ h) new is;
}

pub made_result : {T : Type 0} (i : Identity) (h new : History) (r : Result T DiskFault) → seen h ≡ with_gate closed_gate i → WritesDown 0 (open_gate ∷ []) h new r → OnOk r (IsSettled new i [] (1 + length (header i)))
made_result i h new (Ok x) file down = made i h new file down.done
made_result i h new (Err e) file down = tt

-- before the first call
pub blank_along : (i : Identity) (h new : History) → IsOnDisk h → IsBlank i (seen h) → new ≡ h → StaysAs i [] h new
blank_along i h new on_disk blank same = subst (StaysAs i [] h) (sym same) (at_first (λ c left. subst (λ f. Opens i f (Ok [])) (sym (on_disk c left)) (inl (blank, refl))))

-- the two halves together
pub made_along : (i : Identity) (start h mid new : History) → h ≡ start → (IsOnDisk h → IsBlank i (seen h) → StaysAs i [] h mid) → IsOnDisk start → IsBlank i (seen start) → StaysAs i [] mid new → StaysAs i [] start new
made_along i start h mid new same first on_disk blank second =
    let begun = subst (λ k. StaysAs i [] k mid) same (first (subst IsOnDisk (sym same) on_disk) (subst (λ k. IsBlank i (seen k)) (sym same) blank)) in
    along_on (λ f. Opens i f (Ok [])) (λ f. Opens i f (Ok [])) start mid new (λ c is. is) begun second
