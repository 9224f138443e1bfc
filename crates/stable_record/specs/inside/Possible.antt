-- What a read returns from a file whose calls were recorded is one of the files that a crash may
-- leave. These proofs are among the definitions because a law of a trait cannot cite any others of
-- its crate.
use Rattle.std.specs.Prelude.{◌≡◌, ℕ, zero, suc, ◌+◌, ◌-◌, max, nat_le, nat_lt, Bool, true, false, ◌&&◌, if◌then◌else◌, List, [], ◌∷◌, ◌++◌, length, take, drop, get_or, replicate, refl}
use Rattle.std.specs.List.{list_all}
use Rattle.std.proofs.Common.{inl, inr, sym, ◌∙◌, ap, arith, append_assoc, length-append, length-take, length-drop}
use Rattle.std.proofs.lemmas.Bool.{leb-true}
use Rattle.std.proofs.lemmas.List.{length-replicate, take-append-drop, drop-drop}
use Rattle.stable_record.specs.History.{IsBytes, seen, overwritten}
use Rattle.stable_record.specs.Crash.{CutOrNot, MayLeave, Torn, range_end}
use Rattle.stable_record.specs.Events.{Event, Past, replay, can_be_left, half_written, half_cut, holds, writes, cuts, syncs, reads, measures, fails_to_write, fails_to_cut}
use Rattle.stable_record.specs.inside.Noted.{WereBytes}

-- a write that did nothing is a torn write
pub unchanged : (at count : ℕ) (f : List ℕ) → IsBytes f → Torn at count f f
unchanged at count f are = record {
  middle = take count (drop at f);
  parts =
      sym (take-append-drop at f)
      ∙ ap (λ l. take at f ++ l)
      (sym (take-append-drop count (drop at f))
      ∙ ap (λ l. take count (drop at f) ++ l) (drop-drop count at f))
      ∙ sym (append_assoc (take at f) (take count (drop at f)) (drop (at + count) f));
  no_shorter = omega arith;
  no_longer = omega arith;
  are_bytes = are;
}

-- a write that was done completely is a torn write
pub overwritten_is_torn : (at : ℕ) (bytes f : List ℕ) → IsBytes (overwritten at bytes f)
    → Torn at (length bytes) f (overwritten at bytes f)
overwritten_is_torn at [] f are = unchanged at 0 f are
overwritten_is_torn at (byte ∷ rest) f are =
    let bytes = byte ∷ rest in
    let front = take at f in
    let zeros = replicate (at - length f) 0 in
    let back = drop (at + length bytes) f in
    let size : length
    (overwritten at bytes f) ≡ length front + length zeros + length bytes + length back =
    omega (
      arith,
      length-append (front ++ zeros ++ bytes) back,
      length-append (front ++ zeros) bytes,
      length-append front zeros,
    ) in
    record {
      middle = zeros ++ bytes;
      parts = ap (λ (l : List ℕ). l ++ back) (append_assoc front zeros bytes);
      no_shorter = omega (
        arith,
        size,
        length-take at f,
        length-drop (at + length bytes) f,
        length-replicate {A = ℕ} (at - length f) 0,
      );
      no_longer = omega (
        arith,
        size,
        length-take at f,
        length-drop (at + length bytes) f,
        length-replicate {A = ℕ} (at - length f) 0,
      );
      are_bytes = are;
    }

and_left : (a b : Bool) → (a && b) ≡ true → a ≡ true
and_left true b both = refl
and_left false b both = absurd (let e : false ≡ true = both in cc)

pub and_right : (a b : Bool) → (a && b) ≡ true → b ≡ true
and_right true b both = both
and_right false b both = absurd (let e : false ≡ true = both in cc)

-- a list that passes the test consists of bytes
all_bytes : (xs : List ℕ) → list_all (λ byte. nat_lt byte 256) xs ≡ true → IsBytes xs
all_bytes [] all k = omega arith
all_bytes (x ∷ xs) all zero =
    leb-true (suc x) 256 (and_left (nat_lt x 256) (list_all (λ byte. nat_lt byte 256) xs) all)
all_bytes (x ∷ xs) all (suc k) =
    all_bytes xs (and_right (nat_lt x 256) (list_all (λ byte. nat_lt byte 256) xs) all) k

-- the result is what the past says, or the file unchanged
torn_or_not : (at count : ℕ) (f middle : List ℕ) → IsBytes f → (b : Bool)
    → can_be_left at count f (take at f ++ middle ++ drop (at + count) f) ≡ b
    → Torn at count f (if b then take at f ++ middle ++ drop (at + count) f else f)
torn_or_not at count f middle are false other = unchanged at count f are
torn_or_not at count f middle are true whole =
    let new = take at f ++ middle ++ drop (at + count) f in
    let no_shorter = nat_le (length f) (length new) in
    let no_longer = nat_le (length new) (max (length f) (range_end at count)) in
    let are_bytes = list_all (λ byte. nat_lt byte 256) new in
    let sizes = and_left (no_shorter && no_longer) are_bytes whole in
    record {
      middle = middle;
      parts = refl;
      no_shorter = leb-true (length f) (length new) (and_left no_shorter no_longer sizes);
      no_longer =
          leb-true (length new) (max (length f) (range_end at count))
          (and_right no_shorter no_longer sizes);
      are_bytes = all_bytes new (and_right (no_shorter && no_longer) are_bytes whole);
    }

cut_or_not : (len : ℕ) (f : List ℕ) (b : Bool) → CutOrNot len f (if b then take len f else f)
cut_or_not len f true = inr refl
cut_or_not len f false = inl refl

-- a write that failed is a torn write
pub half_written_is_torn : (past : Past) (es : List Event) (at count : ℕ) (f : List ℕ) → IsBytes f
    → Torn at count f (half_written past es at count f)
half_written_is_torn past es at count f are =
    let middle = get_or past.torn (length es) [] in
    torn_or_not at count f middle are
    (can_be_left at count f (take at f ++ middle ++ drop (at + count) f)) refl

-- a cut that failed was done or not done
pub half_cut_is_one : (past : Past) (es : List Event) (len : ℕ) (f : List ℕ)
    → CutOrNot len f (half_cut past es len f)
half_cut_is_one past es len f = cut_or_not len f (get_or past.done (length es) false)

-- what a read returns after these calls is a file that a crash may leave
pub replay_possible : (past : Past) (es : List Event) → WereBytes past es
    → MayLeave (replay past es) (seen (replay past es))
replay_possible past [] were = past.possible
replay_possible past (holds file ∷ es) were = (refl, were 0)
replay_possible past (writes at bytes ∷ es) were = (
  seen (replay past es),
  replay_possible past es (λ k. were (suc k)),
  overwritten_is_torn at bytes (seen (replay past es)) (were 0),
)
replay_possible past (cuts len ∷ es) were =
    (seen (replay past es), replay_possible past es (λ k. were (suc k)), inr refl)
replay_possible past (syncs ∷ es) were = (refl, were 0)
replay_possible past (reads at room bytes ∷ es) were =
    replay_possible past es (λ k. were (suc k))
replay_possible past (measures len ∷ es) were =
    replay_possible past es (λ k. were (suc k))
replay_possible past (fails_to_write at count ∷ es) were = (
  seen (replay past es),
  replay_possible past es (λ k. were (suc k)),
  half_written_is_torn past es at count (seen (replay past es)) (were 1),
)
replay_possible past (fails_to_cut len ∷ es) were = (
  seen (replay past es),
  replay_possible past es (λ k. were (suc k)),
  half_cut_is_one past es len (seen (replay past es)),
)
