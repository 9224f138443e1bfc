-- How a history grows.
use Rattle.std.proofs.Common.{⊎_elim, inr, ℕ, List, [], ◌∷◌, length, take, Result, Ok, Err, sym, subst}
use Rattle.stable_record.specs.declared.disk_fault.DiskFault.{DiskFault}
use Rattle.stable_record.specs.History.{History, IsBytes, written, cut_to, synced, seen, overwritten}
use Rattle.stable_record.specs.Crash.{MayLeave, Leaves, Torn, AllAlong, at_first, and_then}
use Rattle.stable_record.specs.inside.Down.{WritesDown, CutsDown}
use Rattle.stable_record.specs.inside.Possible.{overwritten_is_torn}

-- one more write and sync, if everything that the write may leave satisfies P
pub wrote_down : {T : Type 0} (P : List ℕ → Type 0) (start old new : History) (at : ℕ) (bytes : List ℕ) (r : Result T DiskFault)
    → AllAlong P start old → Leaves P (written at (length bytes) [] ∷ old) → MayLeave old (seen old) → WritesDown at bytes old new r → AllAlong P start new
wrote_down P start old new at bytes (Ok x) so_far leaves possible down =
    let after = overwritten at bytes (seen old) in
    let torn = and_then (written at (length bytes) after) old so_far leaves in
    let kept : Leaves P (synced ∷ written at (length bytes) after ∷ old) = λ c is. leaves c (seen old, possible, subst (λ (f : List ℕ). Torn at (length bytes) (seen old) f) (sym is.0) (overwritten_is_torn at bytes (seen old) (subst IsBytes is.0 is.1))) in
    subst (AllAlong P start) (sym down.done) (and_then synced (written at (length bytes) after ∷ old) torn kept)
wrote_down P start old new at bytes (Err e) so_far leaves possible down =
    ⊎_elim (λ same. subst (AllAlong P start) (sym same) so_far) (λ part. subst (AllAlong P start) (sym part.1) (and_then (written at (length bytes) part.0) old so_far leaves)) down.failed

-- one more cut and sync, if everything that the cut may leave satisfies P
pub cut_along : {T : Type 0} (P : List ℕ → Type 0) (start old new : History) (len : ℕ) (r : Result T DiskFault)
    → AllAlong P start old → Leaves P (cut_to len [] ∷ old) → MayLeave old (seen old) → CutsDown len old new r → AllAlong P start new
cut_along P start old new len (Ok x) so_far leaves possible down =
    let after = take len (seen old) in
    let torn = and_then (cut_to len after) old so_far leaves in
    let kept : Leaves P (synced ∷ cut_to len after ∷ old) = λ c is. leaves c (seen old, possible, inr is.0) in
    subst (AllAlong P start) (sym down.done) (and_then synced (cut_to len after ∷ old) torn kept)
cut_along P start old new len (Err e) so_far leaves possible down =
    ⊎_elim (λ same. subst (AllAlong P start) (sym same) so_far) (λ part. subst (AllAlong P start) (sym part.1) (and_then (cut_to len part.0) old so_far leaves)) down.failed

-- further calls that satisfy a stronger property
pub along_on : (P Q : List ℕ → Type 0) (start mid new : History) → ((c : List ℕ) → Q c → P c) → AllAlong P start mid → AllAlong Q mid new → AllAlong P start new
along_on P Q start mid _ so first (at_first leaves) = first
along_on P Q start mid _ so first (and_then call h rest leaves) = and_then call h (along_on P Q start mid h so first rest) (λ c left. so c (leaves c left))
