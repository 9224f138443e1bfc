-- Opening a file has only one answer.
use Rattle.std.proofs.Common.{◌≡◌, ◌≢◌, inl, inr, ℕ, suc, ◌+◌, ◌<◌, ◌^◌, List, [], ◌∷◌, ◌++◌, length, take, drop, All, Result, Ok, Err, Some, refl, sym, ◌∙◌, ap, subst, arith, append_assoc, length-append}
use Rattle.std.specs.Int.{w32, to_be_bytes, from_be_bytes}
use Rattle.std.specs.Prelude.{slice_get, slice_index}
use Rattle.std.proofs.lemmas.List.{append_cancel_left, take_at, drop_at}
use Rattle.std.proofs.lemmas.Nat.{from_be_bytes-to_be_bytes_4}
use Rattle.stable_record.specs.declared.identity.Identity.{Identity}
use Rattle.stable_record.specs.declared.log_fault.LogFault.{LogFault}
use Rattle.stable_record.specs.declared.log_fault.LogFault.TheVariants.{Memory, Device, Full, MustReopen, NotALog, OtherCluster}
use Rattle.stable_record.specs.Log.{Note, open_gate, closed_gate, header, magic, entry, entries, log_file, HasNotes}
use Rattle.stable_record.specs.Opening.{IsBlank, no_more_than_a_gate, begun, not_opened, IsLog, LacksWeights, IsAsOwner, IsCutShort, IsNoLog, neither, lacks_weights, broken, IsOfOthers, Opens}
use Rattle.stable_record.specs.Magic.{HasMagic, weighted_magic}
use Rattle.stable_record.proofs.Headers.{magic_in_front, header_len, header_no_less, count_in_place, weights_there, either_magic}

abbrev Fit : List Note → Type 0
Fit notes = All (λ note. length note < 2 ^ 32) notes

fit_first : (n : Note) (ns : List Note) → Fit (n ∷ ns) → length n < 2 ^ 32
fit_first n ns all = all 0 [] (omega arith)

fit_rest : (n : Note) (ns : List Note) → Fit (n ∷ ns) → Fit ns
fit_rest n ns all = λ k d lt. all (suc k) d (omega arith)

-- files that begin with entries and are equal begin with the same entry
entry_once : (n m : Note) (x y : List ℕ) → length n < 2 ^ 32 → length m < 2 ^ 32 → entry n ++ x ≡ entry m ++ y → (n ≡ m) × (x ≡ y)
entry_once n m x y fits_n fits_m is =
    let tails : (to_be_bytes w32 (length n) ++ n) ++ x ≡ (to_be_bytes w32 (length m) ++ m) ++ y = ap (drop 1) is in
    let spelled : to_be_bytes w32 (length n) ≡ to_be_bytes w32 (length m) = ap (take 4) tails in
    let sizes : length n ≡ length m = sym (from_be_bytes-to_be_bytes_4 (length n) fits_n) ∙ ap (from_be_bytes w32) spelled ∙ from_be_bytes-to_be_bytes_4 (length m) fits_m in
    let behind : n ++ x ≡ m ++ y = ap (drop 4) tails in
    (sym (take_at n x (length n) refl) ∙ ap (take (length n)) behind ∙ take_at m y (length n) (sym sizes), sym (drop_at n x (length n) refl) ∙ ap (drop (length n)) behind ∙ drop_at m y (length n) (sym sizes))

-- equal lists have equal first elements
same_head : (x y : ℕ) (xs ys : List ℕ) → x ∷ xs ≡ y ∷ ys → x ≡ y
same_head x y xs ys is = cc

-- notes before a closed gate are determined by the bytes
pub notes_once : (ns ms : List Note) (g h : ℕ) (b d : List ℕ) → Fit ns → Fit ms → g ≢ open_gate → h ≢ open_gate → entries ns ++ g ∷ b ≡ entries ms ++ h ∷ d → ns ≡ ms
notes_once [] [] g h b d fit_n fit_m shut_g shut_h is = refl
notes_once [] (m ∷ ms) g h b d fit_n fit_m shut_g shut_h is = absurd (shut_g (same_head g open_gate b ((to_be_bytes w32 (length m) ++ m ++ entries ms) ++ h ∷ d) is))
notes_once (n ∷ ns) [] g h b d fit_n fit_m shut_g shut_h is = absurd (shut_h (same_head h open_gate d ((to_be_bytes w32 (length n) ++ n ++ entries ns) ++ g ∷ b) (sym is)))
notes_once (n ∷ ns) (m ∷ ms) g h b d fit_n fit_m shut_g shut_h is =
    let behind : entry n ++ (entries ns ++ g ∷ b) ≡ entry m ++ (entries ms ++ h ∷ d) = sym (append_assoc (entry n) (entries ns) (g ∷ b)) ∙ is ∙ append_assoc (entry m) (entries ms) (h ∷ d) in
    let both = entry_once n m (entries ns ++ g ∷ b) (entries ms ++ h ∷ d) (fit_first n ns fit_n) (fit_first m ms fit_m) behind in
    let rest = notes_once ns ms g h b d (fit_rest n ns fit_n) (fit_rest m ms fit_m) shut_g shut_h both.1 in
    ap (λ x. x ∷ ns) both.0 ∙ ap (λ xs. m ∷ xs) rest

-- a file with notes isn't truncated
pub not_broken : (ns ws : List Note) (g : ℕ) (b end : List ℕ) → Fit ns → Fit ws → g ≢ open_gate → IsCutShort end → entries ns ++ g ∷ b ≡ entries ws ++ end → ⊥
not_broken [] [] g b end fit_n fit_w shut short is = shut (subst IsCutShort (sym is) short).0
not_broken [] (w ∷ ws) g b end fit_n fit_w shut short is = shut (same_head g open_gate b ((to_be_bytes w32 (length w) ++ w ++ entries ws) ++ end) is)
not_broken (n ∷ ns) [] g b end fit_n fit_w shut short is =
    let rest = entries ns ++ g ∷ b in
    let spelled = to_be_bytes w32 (length n) in
    let behind : (entry n ++ entries ns) ++ g ∷ b ≡ open_gate ∷ (spelled ++ (n ++ rest)) = append_assoc (entry n) (entries ns) (g ∷ b) ∙ append_assoc (open_gate ∷ spelled) n rest in
    let few = (subst IsCutShort (sym is ∙ behind) short).1 in
    absurd (omega (arith, few, from_be_bytes-to_be_bytes_4 (length n) (fit_first n ns fit_n), length-append spelled (n ++ rest), length-append n rest, length-append (entries ns) (g ∷ b)))
not_broken (n ∷ ns) (w ∷ ws) g b end fit_n fit_w shut short is =
    let behind : entry n ++ (entries ns ++ g ∷ b) ≡ entry w ++ (entries ws ++ end) = sym (append_assoc (entry n) (entries ns) (g ∷ b)) ∙ is ∙ append_assoc (entry w) (entries ws) end in
    let both = entry_once n w (entries ns ++ g ∷ b) (entries ws ++ end) (fit_first n ns fit_n) (fit_first w ws fit_w) behind in
    not_broken ns ws g b end (fit_rest n ns fit_n) (fit_rest w ws fit_w) shut short both.1

-- the part before the notes
module _ (i : Identity) (notes : List Note) (end file : List ℕ) (is : file ≡ log_file i notes end) where
  body : file ≡ (open_gate ∷ header i) ++ (entries notes ++ end)
  body = is ∙ append_assoc (open_gate ∷ header i) (entries notes) end

  first_byte : slice_get file 0 ≡ Some open_gate
  first_byte = ap (λ f. slice_get f 0) is

  has_magic : HasMagic (magic i) file
  has_magic = ap (λ f. take 8 (drop 1 f)) body ∙ magic_in_front i (entries notes ++ end)

  as_owner : IsAsOwner i file
  as_owner = ap (λ f. take (length (header i)) (drop 1 f)) body ∙ take_at (header i) (entries notes ++ end) (length (header i)) refl

  long : length file ≡ 1 + length (header i) + length (entries notes) + length end
  long = omega (arith, ap length body, length-append (open_gate ∷ header i) (entries notes ++ end), length-append (entries notes) end)

  -- such a file isn't blank
  pub blank_no_log : IsBlank i file → ⊥
  blank_no_log (no_more_than_a_gate few) = omega (arith, few, long, header_no_less i)
  blank_no_log (begun few shut) = absurd (let e : Some open_gate ≡ Some closed_gate = sym first_byte ∙ shut in cc)
  blank_no_log (not_opened few shut right) = shut first_byte

  -- with a gate, it is long enough for a log
  pub log_no_less : length i.tree ≡ 32 → 0 < length end → IsLog file
  log_no_less size some = record {
    long_enough = omega (arith, long, some, header_len i size);
    is_open = first_byte;
    is_magic = either_magic i file has_magic;
  }

  -- its weights are complete
  pub weights_no_less : length i.tree ≡ 32 → 0 < length end → LacksWeights file → ⊥
  weights_no_less size some lacks =
      let own : magic i ≡ weighted_magic = sym has_magic ∙ lacks.is_weighted in
      let count : slice_index file 41 ≡ length i.weights.items = ap (λ f. slice_index f 41) body ∙ count_in_place i size (entries notes ++ end) in
      omega (arith, lacks.too_short, count, long, some, header_len i size, ap length (weights_there i own))

open_no_blank : (i : Identity) (file : List ℕ) → IsLog file → IsBlank i file → ⊥
open_no_blank i file log (no_more_than_a_gate few) = omega (arith, few, log.long_enough)
open_no_blank i file log (begun few shut) = absurd (let e : Some open_gate ≡ Some closed_gate = sym log.is_open ∙ shut in cc)
open_no_blank i file log (not_opened few shut right) = shut log.is_open

-- having notes, having another owner, and not being a log exclude each other
module _ (i : Identity) (size : length i.tree ≡ 32) (file : List ℕ) where
  found_is_log : (notes : List Note) → HasNotes i notes file → IsLog file
  found_is_log notes has = log_no_less i notes (has.gate ∷ has.behind) file has.parts size (omega arith)

  two_notes : (ns ms : List Note) → Opens i file (Ok ns) → Opens i file (Ok ms) → ns ≡ ms
  two_notes ns ms (inl p) (inl q) = p.1 ∙ sym q.1
  two_notes ns ms (inl p) (inr q) = absurd (blank_no_log i ms (q.gate ∷ q.behind) file q.parts p.0)
  two_notes ns ms (inr p) (inl q) = absurd (blank_no_log i ns (p.gate ∷ p.behind) file p.parts q.0)
  two_notes ns ms (inr p) (inr q) = notes_once ns ms p.gate q.gate p.behind q.behind p.lengths q.lengths p.closed q.closed
      (append_cancel_left (open_gate ∷ header i) (entries ns ++ p.gate ∷ p.behind) (entries ms ++ q.gate ∷ q.behind) (sym (body i ns (p.gate ∷ p.behind) file p.parts) ∙ body i ms (q.gate ∷ q.behind) file q.parts))

  notes_not_others : (ns : List Note) → Opens i file (Ok ns) → IsOfOthers i file → ⊥
  notes_not_others ns (inl p) other = open_no_blank i file other.is_log p.0
  notes_not_others ns (inr p) other = other.differs (as_owner i ns (p.gate ∷ p.behind) file p.parts)

  notes_not_none : (ns : List Note) → Opens i file (Ok ns) → IsNoLog i file → ⊥
  notes_not_none ns (inl p) (neither no_blank no_log) = no_blank p.0
  notes_not_none ns (inl p) (lacks_weights log lacks) = open_no_blank i file log p.0
  notes_not_none ns (inl p) (broken q) = blank_no_log i q.whole q.end file q.parts p.0
  notes_not_none ns (inr p) (neither no_blank no_log) = no_log (found_is_log ns p)
  notes_not_none ns (inr p) (lacks_weights log lacks) = weights_no_less i ns (p.gate ∷ p.behind) file p.parts size (omega arith) lacks
  notes_not_none ns (inr p) (broken q) = not_broken ns q.whole p.gate p.behind q.end p.lengths q.lengths p.closed q.cut_short
      (append_cancel_left (open_gate ∷ header i) (entries ns ++ p.gate ∷ p.behind) (entries q.whole ++ q.end) (sym (body i ns (p.gate ∷ p.behind) file p.parts) ∙ body i q.whole q.end file q.parts))

  others_not_none : IsOfOthers i file → IsNoLog i file → ⊥
  others_not_none other (neither no_blank no_log) = no_log other.is_log
  others_not_none other (lacks_weights log lacks) = other.has_weights lacks
  others_not_none other (broken q) = other.differs (as_owner i q.whole q.end file q.parts)

  pub opens_once : (a b : Result (List Note) LogFault) → Opens i file a → Opens i file b → a ≡ b
  opens_once (Ok ns) (Ok ms) p q = ap Ok (two_notes ns ms p q)
  opens_once (Ok ns) (Err OtherCluster) p q = absurd (notes_not_others ns p q)
  opens_once (Ok ns) (Err NotALog) p q = absurd (notes_not_none ns p q)
  opens_once (Err OtherCluster) (Ok ms) p q = absurd (notes_not_others ms q p)
  opens_once (Err OtherCluster) (Err OtherCluster) p q = refl
  opens_once (Err OtherCluster) (Err NotALog) p q = absurd (others_not_none p q)
  opens_once (Err NotALog) (Ok ms) p q = absurd (notes_not_none ms q p)
  opens_once (Err NotALog) (Err OtherCluster) p q = absurd (others_not_none q p)
  opens_once (Err NotALog) (Err NotALog) p q = refl
  opens_once (Err Memory) b p q = absurd p
  opens_once (Err Device) b p q = absurd p
  opens_once (Err Full) b p q = absurd p
  opens_once (Err MustReopen) b p q = absurd p
  opens_once (Ok ns) (Err Memory) p q = absurd q
  opens_once (Ok ns) (Err Device) p q = absurd q
  opens_once (Ok ns) (Err Full) p q = absurd q
  opens_once (Ok ns) (Err MustReopen) p q = absurd q
  opens_once (Err OtherCluster) (Err Memory) p q = absurd q
  opens_once (Err OtherCluster) (Err Device) p q = absurd q
  opens_once (Err OtherCluster) (Err Full) p q = absurd q
  opens_once (Err OtherCluster) (Err MustReopen) p q = absurd q
  opens_once (Err NotALog) (Err Memory) p q = absurd q
  opens_once (Err NotALog) (Err Device) p q = absurd q
  opens_once (Err NotALog) (Err Full) p q = absurd q
  opens_once (Err NotALog) (Err MustReopen) p q = absurd q
