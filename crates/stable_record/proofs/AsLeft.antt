-- Whatever a crash leaves while a file is being opened opens as something that it could have left
-- at the start.
use Rattle.std.proofs.Common.{◌≡◌, ◌⊎◌, ⊎_elim, inl, inr, ℕ, List, ◌∷◌, length, map, Vec, Ok, Err, sym, ◌∙◌, subst}
use Rattle.std.specs.declared.alloc.Global.{Global}
use Rattle.stable_record.specs.declared.identity.Identity.{Identity}
use Rattle.stable_record.specs.declared.log_fault.LogFault.{LogFault}
use Rattle.stable_record.specs.declared.log_fault.LogFault.TheVariants.{Memory, NotALog, OtherCluster}
use Rattle.stable_record.specs.declared.reading.Opening.{Opening}
use Rattle.stable_record.specs.declared.reading.Opening.TheVariants.{Blank, Notes}
use Rattle.stable_record.specs.Crash.{MayLeave, IsOnDisk, AllAlong, at_first, and_then, OnlySyncs, no_call, one_more}
use Rattle.stable_record.specs.History.{History, synced, seen}
use Rattle.stable_record.specs.Log.{Note, HasNotes, gate_place, note_of}
use Rattle.stable_record.specs.Opening.{IsBlank, Opens, OpensAsLeft}
use Rattle.stable_record.specs.inside.Reading.{OpensTo, StaysAs}
use Rattle.stable_record.proofs.Along.{along_on}
use Rattle.stable_record.proofs.Bytes.{left_are_bytes}
use Rattle.stable_record.proofs.Opens.{opens_once}

module _ (i : Identity) (start : History) (possible : MayLeave start (seen start)) where
  abbrev P : List ℕ → Type 0
  P = OpensAsLeft i start

  abbrev Along : History → Type 0
  Along = AllAlong P start

  -- a file that opens as what is read at the start
  as_seen : length i.tree ≡ 32 → (notes : List Note) (c : List ℕ) → Opens i (seen start) (Ok notes) → Opens i c (Ok notes) → P c
  as_seen size notes c here there = record {
    left = seen start;
    are_bytes = left_are_bytes start (seen start) possible;
    could_be = possible;
    same = λ answer. (λ is. subst (Opens i c) (opens_once i size (seen start) (Ok notes) answer here is) there, λ is. subst (Opens i (seen start)) (opens_once i size c (Ok notes) answer there is) here);
  }

  not_begun : Along start
  not_begun = at_first (λ c left. record { left = c; are_bytes = left_are_bytes start c left; could_be = left; same = λ answer. (λ is. is, λ is. is) })

  just_synced : Along (synced ∷ start)
  just_synced = and_then synced start not_begun (λ c is. record {
    left = seen start;
    are_bytes = left_are_bytes start (seen start) possible;
    could_be = possible;
    same = λ answer. (λ here. subst (λ f. Opens i f answer) (sym is.0) here, λ there. subst (λ f. Opens i f answer) is.0 there);
  })

  -- after the first sync, whether it was done or not
  pub synced_along : (new : History) → new ≡ synced ∷ start → Along new
  synced_along new is = subst Along (sym is) just_synced

  pub synced_or_not : (new : History) → (new ≡ start) ⊎ (new ≡ synced ∷ start) → Along new
  synced_or_not new is = ⊎_elim (λ same. subst Along (sym same) not_begun) (synced_along new) is

  -- while the end is repaired or a log is created
  pub repaired_along : length i.tree ≡ 32 → (notes : List Note) (mid new : History) → mid ≡ synced ∷ start → Opens i (seen start) (Ok notes) → StaysAs i notes mid new → Along new
  repaired_along size notes mid new is here stays =
      along_on P (λ c. Opens i c (Ok notes)) start mid new (λ c there. as_seen size notes c here there) (synced_along mid is) stays

-- what is read is on the disk
pub synced_on_disk : (h new : History) → new ≡ synced ∷ h → IsOnDisk new
synced_on_disk h new is = subst IsOnDisk (sym is) (λ c e. e.0)

-- one sync
pub one_sync : (h new : History) → new ≡ synced ∷ h → OnlySyncs h new
one_sync h new is = subst (OnlySyncs h) (sym is) (one_more h no_call)

-- what was read, for the file on the disk
pub opened_blank : (i : Identity) (file f : List ℕ) (found : Opening) → file ≡ f → OpensTo i file found → found ≡ Blank → IsBlank i f
opened_blank i file f found same opens is = subst (IsBlank i) same (subst (OpensTo i file) is opens)

pub opened_notes : (i : Identity) (file f : List ℕ) (found : Opening) (notes : Vec (Vec ℕ Global) Global) (end : ℕ) → file ≡ f → OpensTo i file found → found ≡ Notes notes end
    → HasNotes i (map note_of notes.items) f × (end ≡ gate_place i (map note_of notes.items))
opened_notes i file f found notes end same opens is =
    let both : HasNotes i (map note_of notes.items) file × (end ≡ gate_place i (map note_of notes.items)) = subst (OpensTo i file) is opens in
    (subst (HasNotes i (map note_of notes.items)) same both.0, both.1)

pub opened_refused : (i : Identity) (file f : List ℕ) (e : LogFault) → file ≡ f → (e ≡ Memory) ⊎ Opens i file (Err e) → (e ≡ NotALog) ⊎ (e ≡ OtherCluster) → Opens i f (Err e)
opened_refused i file f e same (inl none) (inl which) = absurd (let k : Memory ≡ NotALog = sym none ∙ which in cc)
opened_refused i file f e same (inl none) (inr which) = absurd (let k : Memory ≡ OtherCluster = sym none ∙ which in cc)
opened_refused i file f e same (inr opens) which = subst (λ g. Opens i g (Err e)) same opens
