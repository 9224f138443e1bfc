-- Cutting off what comes after the closed gate.
use Rattle.std.proofs.Common.{◌≡◌, ⊎_elim, inr, ℕ, ◌+◌, ◌≤◌, List, [], ◌∷◌, ◌++◌, length, take, Result, Ok, Err, OnOk, sym, ◌∙◌, ap, subst, arith, append_assoc, length-append}
use Rattle.std.proofs.lemmas.List.{take_at, nil_from_length}
use Rattle.stable_record.specs.declared.disk_fault.DiskFault.{DiskFault}
use Rattle.stable_record.specs.declared.identity.Identity.{Identity}
use Rattle.stable_record.specs.Crash.{MayLeave, IsOnDisk, at_first}
use Rattle.stable_record.specs.inside.Down.{CutsDown}
use Rattle.stable_record.specs.History.{History, cut_to, seen}
use Rattle.stable_record.specs.Log.{Note, log_file, gate_place, HasNotes, IsSettled}
use Rattle.stable_record.specs.Opening.{Opens}
use Rattle.stable_record.specs.inside.Reading.{StaysAs}
use Rattle.stable_record.proofs.Along.{cut_along}
use Rattle.stable_record.proofs.Files.{front, length-front}
use Rattle.stable_record.proofs.NewLog.{on_disk_after}

module _ (i : Identity) (notes : List Note) (end : ℕ) (h : History) (on_disk : IsOnDisk h) (has : HasNotes i notes (seen h)) (place : end ≡ gate_place i notes) where
  abbrev IsSame : List ℕ → Type 0
  IsSame c = Opens i c (Ok notes)

  size : length (front i notes ++ has.gate ∷ []) ≡ end + 1
  size = omega (arith, place, length-front i notes, length-append (front i notes) (has.gate ∷ []))

  shorter : take (end + 1) (seen h) ≡ log_file i notes (has.gate ∷ [])
  shorter =
      ap (take (end + 1)) (has.parts ∙ sym (append_assoc (front i notes) (has.gate ∷ []) has.behind))
      ∙ take_at (front i notes ++ has.gate ∷ []) has.behind (end + 1) size

  still : (c : List ℕ) → c ≡ seen h → IsSame c
  still c is = subst IsSame (sym is) (inr has)

  cut_has : (c : List ℕ) → c ≡ take (end + 1) (seen h) → IsSame c
  cut_has c is = inr record { gate = has.gate; behind = []; parts = is ∙ shorter; closed = has.closed; lengths = has.lengths }

  -- before the first call
  pub untouched : (new : History) → new ≡ h → StaysAs i notes h new
  untouched new same = subst (StaysAs i notes h) (sym same) (at_first (λ c left. still c (on_disk c left)))

  pub trimmed_along : {T : Type 0} (new : History) (r : Result T DiskFault) → MayLeave h (seen h) → CutsDown (end + 1) h new r → StaysAs i notes h new
  trimmed_along new r possible down =
      cut_along IsSame h h new (end + 1) r (at_first (λ c left. still c (on_disk c left))) (λ c (d, left, cut). ⊎_elim
      (λ same. still c (same ∙ on_disk d left))
      (λ gone. cut_has c (gone ∙ ap (take (end + 1)) (on_disk d left))) cut) possible down

  pub trimmed_result : {T : Type 0} (new : History) (r : Result T DiskFault) → CutsDown (end + 1) h new r → OnOk r (IsSettled new i notes end)
  trimmed_result new (Ok x) down = record {
    gate = has.gate;
    file = ap seen down.done ∙ shorter;
    closed = has.closed;
    lengths = has.lengths;
    place = place;
    on_disk = on_disk_after (cut_to (end + 1) (take (end + 1) (seen h)) ∷ h) new down.done;
  }
  trimmed_result new (Err e) down = tt

  -- if nothing comes after the closed gate
  pub as_it_was : length (seen h) ≤ end + 1 → IsSettled h i notes end
  as_it_was short = record {
    gate = has.gate;
    file = has.parts ∙ ap (λ l. front i notes ++ has.gate ∷ l) (nil_from_length has.behind (omega (arith, short, place, ap length has.parts, length-front i notes, length-append (front i notes) (has.gate ∷ has.behind))));
    closed = has.closed;
    lengths = has.lengths;
    place = place;
    on_disk = on_disk;
  }
