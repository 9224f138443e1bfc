-- What a crash leaves of a real file while a note is appended.
use Rattle.std.proofs.Common.{◌≡◌, inl, inr, ℕ, List, [], Result, Ok, Err, OnOk, ◌∙◌, subst}
use Rattle.stable_record.specs.declared.identity.Identity.{Identity}
use Rattle.stable_record.specs.Crash.{AllAlong, Leaves, and_then, at_first}
use Rattle.stable_record.specs.History.{History, seen}
use Rattle.stable_record.specs.Log.{HasBeforeOrAfter, HasNotes, IsSettled, Note}
use Rattle.stable_record.specs.Opening.{Opens, OpensAsLeft}
use Rattle.stable_record.proofs.Along.{along_on}
use Rattle.check_log.specs.RealFile.{IsAsBeforeOrAfter}

along_so : (P Q : List ℕ → Type 0) (start new : History) → ((c : List ℕ) → P c → Q c) → AllAlong P start new → AllAlong Q start new
along_so P Q start _ so (at_first leaves) = at_first (λ c left. so c (leaves c left))
along_so P Q start _ so (and_then call h rest leaves) = and_then call h (along_so P Q start h so rest) (λ c left. so c (leaves c left))

module _ (i : Identity) (start : History) (note : Note) where
  abbrev Either : List ℕ → Type 0
  Either = IsAsBeforeOrAfter i start note

  -- while it is opened, from the known history on
  pub opened_along : (known mid : History) → known ≡ start → AllAlong (OpensAsLeft i known) known mid → AllAlong Either start mid
  opened_along known mid same opened =
      along_so (OpensAsLeft i start) Either start mid (λ c is. inl is) (subst (λ h. AllAlong (OpensAsLeft i h) h mid) same opened)

  -- and while the note is appended
  pub appended_along : (mid new : History) (notes : List Note) → AllAlong Either start mid → Opens i (seen start) (Ok notes)
      → AllAlong (HasBeforeOrAfter i notes note) mid new → AllAlong Either start new
  appended_along mid new notes opened opens appended =
      along_on Either (HasBeforeOrAfter i notes note) start mid new (λ c has. inr (notes, opens, has)) opened appended

-- a crash leaves the notes of a settled file
pub settled_leaves : (h : History) (i : Identity) (notes : List Note) (end : ℕ) → IsSettled h i notes end → Leaves (HasNotes i notes) h
settled_leaves h i notes end s = λ c left. record {
  gate = s.gate;
  behind = [];
  parts = s.on_disk c left ∙ s.file;
  closed = s.closed;
  lengths = s.lengths;
}

pub on_ok : {T E : Type 0} (P Q : Type 0) (r : Result T E) → (P → Q) → OnOk r P → OnOk r Q
on_ok P Q (Ok x) so is = so is
on_ok P Q (Err e) so is = tt
