-- Writing a byte into ranges of a file, and what a disk in memory may leave.
use Rattle.std.proofs.Common.{◌≡◌, ⊎_elim, inl, inr, ℕ, zero, suc, ◌+◌, ◌-◌, ◌<◌, ◌≤◌, ◌==◌, true, false, min, max, List, [], ◌∷◌, ◌++◌, length, take, drop, replicate, refl, sym, ◌∙◌, ap, subst, arith, append_assoc, length-append, length-take, length-drop}
use Rattle.std.proofs.lemmas.Bool.{cases_lt}
use Rattle.std.proofs.lemmas.List.{append-nil, nil_from_length, take_at, take-append-drop, drop_all, drop_at, length-replicate}
use Rattle.stable_record.specs.declared.mem_disk.Left.{Left}
use Rattle.stable_record.specs.declared.mem_disk.Left.TheVariants.{Before, Written, Fill}
use Rattle.stable_record.specs.Crash.{MayLeave, Torn}
use Rattle.stable_record.specs.Events.{Event, half_written, replay, holds, writes, cuts, syncs, reads, measures, fails_to_write, fails_to_cut}
use Rattle.stable_record.specs.inside.Noted.{WereBytes}
use Rattle.stable_record.specs.History.{History, IsBytes, written, seen, overwritten}
use Rattle.stable_record.specs.Memory.{on_disk, unsynced, blanked, filled, left_file}
use Rattle.stable_record.specs.Pasts.{no_past}
use Rattle.stable_record.specs.inside.Possible.{half_written_is_torn, overwritten_is_torn, replay_possible, unchanged}
use Rattle.stable_record.proofs.Bytes.{bytes-append, bytes-take, bytes-drop, bytes-replicate}

-- one range, index by index
take_nil : (n : ℕ) → take {A = ℕ} n [] ≡ []
take_nil zero = refl
take_nil (suc n) = refl

drop_nil : (n : ℕ) → drop {A = ℕ} n [] ≡ []
drop_nil zero = refl
drop_nil (suc n) = refl

blanked_nil : (b : ℕ) (r : ℕ × ℕ) → blanked b r [] ≡ []
blanked_nil b (at, n) =
    ap (λ l. l ++ replicate (length {A = ℕ} (take n (drop at []))) b ++ drop (at + n) []) (take_nil at)
    ∙ ap (λ l. replicate (length (take n l)) b ++ drop (at + n) []) (drop_nil at)
    ∙ ap (λ l. replicate (length l) b ++ drop (at + n) []) (take_nil n)
    ∙ drop_nil (at + n)

blanked_in : (b n x : ℕ) (xs : List ℕ) → blanked b (0, suc n) (x ∷ xs) ≡ b ∷ blanked b (0, n) xs
blanked_in b n x xs = let e : 0 + suc n ≡ suc (0 + n) = omega arith in ap (λ k. b ∷ (replicate (length (take n xs)) b ++ drop k (x ∷ xs))) e

blanked_past : (b at n x : ℕ) (xs : List ℕ) → blanked b (suc at, n) (x ∷ xs) ≡ x ∷ blanked b (at, n) xs
blanked_past b at n x xs = let e : suc at + n ≡ suc (at + n) = omega arith in ap (λ k. x ∷ (take at xs ++ replicate (length (take n (drop at xs))) b ++ drop k (x ∷ xs))) e

length-blanked : (b : ℕ) (r : ℕ × ℕ) (f : List ℕ) → length (blanked b r f) ≡ length f
length-blanked b (at, n) f =
    let mid = take n (drop at f) in
    omega (
      arith,
      length-append (take at f ++ replicate (length mid) b) (drop (at + n) f),
      length-append (take at f) (replicate (length mid) b),
      length-replicate {A = ℕ} (length mid) b,
      length-take n (drop at f),
      length-drop at f,
      length-take at f,
      length-drop (at + n) f,
    )

take-blanked : (b : ℕ) (r : ℕ × ℕ) (k : ℕ) (f : List ℕ) → take k (blanked b r f) ≡ blanked b r (take k f)
take-blanked b r zero f = sym (blanked_nil b r)
take-blanked b r (suc k) [] = ap (take (suc k)) (blanked_nil b r) ∙ sym (blanked_nil b r)
take-blanked b (zero, zero) (suc k) (x ∷ xs) = refl
take-blanked b (zero, suc n) (suc k) (x ∷ xs) = ap (take (suc k)) (blanked_in b n x xs) ∙ ap (λ l. b ∷ l) (take-blanked b (zero, n) k xs) ∙ sym (blanked_in b n x (take k xs))
take-blanked b (suc at, n) (suc k) (x ∷ xs) = ap (take (suc k)) (blanked_past b at n x xs) ∙ ap (λ l. x ∷ l) (take-blanked b (at, n) k xs) ∙ sym (blanked_past b at n x (take k xs))

-- from a place on, the result depends only on what is there
drop-blanked : (b : ℕ) (r : ℕ × ℕ) (k : ℕ) (f g : List ℕ) → length f ≡ length g → drop k f ≡ drop k g → drop k (blanked b r f) ≡ drop k (blanked b r g)
drop-blanked b r zero f g size same = ap (blanked b r) same
drop-blanked b r (suc k) [] [] size same = refl
drop-blanked b r (suc k) [] (y ∷ ys) size same = absurd (omega (arith, size))
drop-blanked b r (suc k) (x ∷ xs) [] size same = absurd (omega (arith, size))
drop-blanked b (zero, zero) (suc k) (x ∷ xs) (y ∷ ys) size same = same
drop-blanked b (zero, suc n) (suc k) (x ∷ xs) (y ∷ ys) size same =
    ap (drop (suc k)) (blanked_in b n x xs) ∙ drop-blanked b (zero, n) k xs ys (omega (arith, size)) same ∙ sym (ap (drop (suc k)) (blanked_in b n y ys))
drop-blanked b (suc at, n) (suc k) (x ∷ xs) (y ∷ ys) size same =
    ap (drop (suc k)) (blanked_past b at n x xs) ∙ drop-blanked b (at, n) k xs ys (omega (arith, size)) same ∙ sym (ap (drop (suc k)) (blanked_past b at n y ys))

-- several ranges
length-filled : (b : ℕ) (rs : List (ℕ × ℕ)) (f : List ℕ) → length (filled b rs f) ≡ length f
length-filled b [] f = refl
length-filled b (r ∷ rs) f = length-filled b rs (blanked b r f) ∙ length-blanked b r f

take-filled : (b : ℕ) (rs : List (ℕ × ℕ)) (k : ℕ) (f : List ℕ) → take k (filled b rs f) ≡ filled b rs (take k f)
take-filled b [] k f = refl
take-filled b (r ∷ rs) k f = take-filled b rs k (blanked b r f) ∙ ap (filled b rs) (take-blanked b r k f)

drop-filled : (b : ℕ) (rs : List (ℕ × ℕ)) (k : ℕ) (f g : List ℕ) → length f ≡ length g → drop k f ≡ drop k g → drop k (filled b rs f) ≡ drop k (filled b rs g)
drop-filled b [] k f g size same = same
drop-filled b (r ∷ rs) k f g size same = drop-filled b rs k (blanked b r f) (blanked b r g) (length-blanked b r f ∙ size ∙ sym (length-blanked b r g)) (drop-blanked b r k f g size same)

filled-push : (b : ℕ) (rs : List (ℕ × ℕ)) (r : ℕ × ℕ) (f : List ℕ) → filled b (rs ++ r ∷ []) f ≡ blanked b r (filled b rs f)
filled-push b [] r f = refl
filled-push b (s ∷ rs) r f = filled-push b rs r (blanked b s f)

filled_nil : (b : ℕ) (rs : List (ℕ × ℕ)) → filled b rs [] ≡ []
filled_nil b [] = refl
filled_nil b (r ∷ rs) = ap (filled b rs) (blanked_nil b r) ∙ filled_nil b rs

bytes-blanked : (b : ℕ) → b < 256 → (r : ℕ × ℕ) (f : List ℕ) → IsBytes f → IsBytes (blanked b r f)
bytes-blanked b byte (at, n) f are =
    let size = length (take n (drop at f)) in
    bytes-append (take at f ++ replicate size b) (drop (at + n) f) (bytes-append (take at f) (replicate size b) (bytes-take at f are) (bytes-replicate size b byte)) (bytes-drop (at + n) f are)

bytes-filled : (b : ℕ) → b < 256 → (rs : List (ℕ × ℕ)) (f : List ℕ) → IsBytes f → IsBytes (filled b rs f)
bytes-filled b byte [] f are = are
bytes-filled b byte (r ∷ rs) f are = bytes-filled b byte rs (blanked b r f) (bytes-blanked b byte r f are)

-- a write of no bytes leaves the file unchanged
torn_nowhere : (at : ℕ) (f after : List ℕ) → Torn at 0 f after → after ≡ f
torn_nowhere at f after torn =
    let same : length after ≡ length f = omega (arith, torn.no_shorter, torn.no_longer) in
    let ends : at + 0 ≡ at = omega arith in
    let long : length after ≡ length (take at f) + length torn.middle + length (drop (at + 0) f) =
    omega (arith, ap length torn.parts, length-append (take at f ++ torn.middle) (drop (at + 0) f), length-append (take at f) torn.middle) in
    let none : length torn.middle ≡ 0 = omega (arith, same, long, length-take at f, length-drop (at + 0) f) in
    torn.parts
    ∙ ap (λ m. take at f ++ m ++ drop (at + 0) f) (nil_from_length torn.middle none)
    ∙ ap (λ l. l ++ drop (at + 0) f) (append-nil (take at f))
    ∙ ap (λ k. take at f ++ drop k f) ends
    ∙ take-append-drop at f

-- a write that left any bytes in its range
module _ (b at more : ℕ) (f after : List ℕ) (torn : Torn at (suc more) f after) (rs : List (ℕ × ℕ)) where
  abbrev size : ℕ
  size = suc more

  abbrev start : ℕ
  start = min at (length f)

  abbrev back : List ℕ
  back = drop (at + size) f

  long : length after ≡ length (take at f) + length torn.middle + length back
  long = omega (arith, ap length torn.parts, length-append (take at f ++ torn.middle) back, length-append (take at f) torn.middle)

  front_same : take start after ≡ take at f
  front_same =
      ap (take start) (torn.parts ∙ append_assoc (take at f) torn.middle back)
      ∙ take_at (take at f) (torn.middle ++ back) start (length-take at f)

  -- the file continues after the range, and is as long as before
  same_size : at + size ≤ length f → length after ≡ length f
  same_size within = omega (arith, within, torn.no_shorter, torn.no_longer)

  back_same : at + size ≤ length f → drop (at + size) after ≡ back
  back_same within =
      ap (drop (at + size)) torn.parts
      ∙ drop_at (take at f ++ torn.middle) back (at + size)
      (omega (arith, within, same_size within, long, length-append (take at f) torn.middle, length-take at f, length-drop (at + size) f))

  abbrev old : List ℕ
  old = filled b rs f

  abbrev wet : List ℕ
  wet = filled b rs after

  drop_same : drop (at + size) wet ≡ drop (at + size) old
  drop_same = ⊎_elim
      (λ past.
      drop_all (at + size) wet (omega (arith, past, torn.no_longer, length-filled b rs after))
      ∙ sym (drop_all (at + size) old (omega (arith, past, length-filled b rs f))))
      (λ within. drop-filled b rs (at + size) after f (same_size within) (back_same within)) (cases_lt (length f) (at + size))

  take_same : take start wet ≡ take at old
  take_same = take-filled b rs start after ∙ ap (filled b rs) front_same ∙ sym (take-filled b rs at f)

  abbrev wet_size : ℕ
  wet_size = at + size - start

  any_bytes : b < 256 → Torn at size old (filled b (rs ++ (start, wet_size) ∷ []) after)
  any_bytes byte =
      let middle = replicate (length (take wet_size (drop start wet))) b in
      let as_long : length (filled b (rs ++ (start, wet_size) ∷ []) after) ≡ length after = length-filled b (rs ++ (start, wet_size) ∷ []) after in
      let ends : start + wet_size ≡ at + size = omega arith in
      record {
        middle = middle;
        parts =
            filled-push b rs (start, wet_size) after
            ∙ ap (λ l. l ++ middle ++ drop (start + wet_size) wet) take_same
            ∙ ap (λ k. take at old ++ middle ++ drop k wet) ends
            ∙ ap (λ l. take at old ++ middle ++ l) drop_same;
        no_shorter = omega (arith, as_long, length-filled b rs f, torn.no_shorter);
        no_longer = omega (arith, as_long, length-filled b rs f, torn.no_longer);
        are_bytes = bytes-filled b byte (rs ++ (start, wet_size) ∷ []) after torn.are_bytes;
      }

-- the calls of a disk in memory
abbrev calls : List Event → History
calls es = replay no_past es

abbrev Were : List Event → Type 0
Were = WereBytes no_past

-- the bytes at the last sync
on_disk_bytes : (es : List Event) → Were es → IsBytes (on_disk (calls es))
on_disk_bytes [] were = were 0
on_disk_bytes (holds file ∷ es) were = were 0
on_disk_bytes (writes at bs ∷ es) were = on_disk_bytes es (λ k. were (suc k))
on_disk_bytes (cuts len ∷ es) were = on_disk_bytes es (λ k. were (suc k))
on_disk_bytes (syncs ∷ es) were = were 0
on_disk_bytes (reads at room bs ∷ es) were = on_disk_bytes es (λ k. were (suc k))
on_disk_bytes (measures len ∷ es) were = on_disk_bytes es (λ k. were (suc k))
on_disk_bytes (fails_to_write at count ∷ es) were = on_disk_bytes es (λ k. were (suc k))
on_disk_bytes (fails_to_cut len ∷ es) were = on_disk_bytes es (λ k. were (suc k))

-- a write of `count` bytes that left nothing on the disk
not_there : (at count : ℕ) (es : List Event) → Were es → MayLeave (calls es) (on_disk (calls es))
    → (d : List ℕ) × MayLeave (calls es) d × Torn at count d (on_disk (calls es))
not_there at count es were so_far = (on_disk (calls es), so_far, unchanged at count (on_disk (calls es)) (on_disk_bytes es were))

before_possible : (es : List Event) → Were es → MayLeave (calls es) (on_disk (calls es))
before_possible [] were = refl
before_possible (holds file ∷ es) were = (refl, were 0)
before_possible (writes at bs ∷ es) were = not_there at (length bs) es (λ k. were (suc k)) (before_possible es (λ k. were (suc k)))
before_possible (cuts len ∷ es) were = (on_disk (calls es), before_possible es (λ k. were (suc k)), inl refl)
before_possible (syncs ∷ es) were = (refl, were 0)
before_possible (reads at room bs ∷ es) were = before_possible es (λ k. were (suc k))
before_possible (measures len ∷ es) were = before_possible es (λ k. were (suc k))
before_possible (fails_to_write at count ∷ es) were = not_there at count es (λ k. were (suc k)) (before_possible es (λ k. were (suc k)))
before_possible (fails_to_cut len ∷ es) were = (on_disk (calls es), before_possible es (λ k. were (suc k)), inl refl)

-- the file with one byte in every unsynced place
abbrev wetted : ℕ → History → List ℕ
wetted b h = filled b (unsynced h) (seen h)

-- one more write
wetted_write : (b at count : ℕ) → b < 256 → (after : List ℕ) (es : List Event) → Were es → Torn at count (seen (calls es)) after → MayLeave (calls es) (wetted b (calls es))
    → (d : List ℕ) × MayLeave (calls es) d × Torn at count d (wetted b (written at count after ∷ calls es))
wetted_write b at zero byte after es were torn so_far =
    let h = calls es in
    let wet = wetted b h in
    (wet, so_far, subst (λ f. Torn at 0 wet (filled b (unsynced h) f)) (sym (torn_nowhere at (seen h) after torn)) (unchanged at 0 wet (bytes-filled b byte (unsynced h) (seen h) (were 0))))
wetted_write b at (suc more) byte after es were torn so_far =
    let h = calls es in (wetted b h, so_far, any_bytes b at more (seen h) after torn (unsynced h) byte)

fill_possible : (b : ℕ) → b < 256 → (es : List Event) → Were es → MayLeave (calls es) (wetted b (calls es))
fill_possible b byte [] were = refl
fill_possible b byte (holds file ∷ es) were = (refl, were 0)
fill_possible b byte (writes at bs ∷ es) were =
    let so_far : Were es = λ k. were (suc k) in
    wetted_write b at (length bs) byte (overwritten at bs (seen (calls es))) es so_far (overwritten_is_torn at bs (seen (calls es)) (were 0)) (fill_possible b byte es so_far)
fill_possible b byte (cuts len ∷ es) were =
    let h = calls es in (wetted b h, fill_possible b byte es (λ k. were (suc k)), inr (sym (take-filled b (unsynced h) len (seen h))))
fill_possible b byte (syncs ∷ es) were = (refl, were 0)
fill_possible b byte (reads at room bs ∷ es) were = fill_possible b byte es (λ k. were (suc k))
fill_possible b byte (measures len ∷ es) were = fill_possible b byte es (λ k. were (suc k))
fill_possible b byte (fails_to_write at count ∷ es) were =
    let so_far : Were es = λ k. were (suc k) in
    wetted_write b at count byte (half_written no_past es at count (seen (calls es))) es so_far (half_written_is_torn no_past es at count (seen (calls es)) (so_far 0)) (fill_possible b byte es so_far)
fill_possible b byte (fails_to_cut len ∷ es) were = (wetted b (calls es), fill_possible b byte es (λ k. were (suc k)), inl refl)

-- what the disk is told to fill with is a byte
abbrev pub TellsByte : Left → Type 0
TellsByte Before = Unit {0}
TellsByte Written = Unit {0}
TellsByte (Fill b) = b < 256

-- a write of at least one byte adds one range
pub unsynced_push : (at : ℕ) (bs file : List ℕ) (h : History) → (length bs == 0) ≡ false
    → unsynced (written at (length bs) file ∷ h) ≡ unsynced h ++ (min at (length (seen h)), at + length bs - min at (length (seen h))) ∷ []
unsynced_push at [] file h some = absurd (let e : true ≡ false = some in cc)
unsynced_push at (x ∷ xs) file h some = refl

-- what a disk in memory is told to leave is one of the files that a crash may leave
pub left_possible : (left : Left) (es : List Event) → TellsByte left → Were es → MayLeave (calls es) (left_file left (calls es))
left_possible Before es byte were = before_possible es were
left_possible Written es byte were = replay_possible no_past es were
left_possible (Fill b) es byte were = fill_possible b byte es were
