-- Which part of a text a writer has taken so far.
use Rattle.std.proofs.Common.{◌≡◌, ◌-◌, ◌++◌, ◌∙◌, ℕ, List, [], Option, length, take, drop, ap, refl, subst, sym, append_assoc, append-nil, take-append-drop}
use Rattle.std.proofs.KnownBytes.{Appends-kept, Appends-nil, Appends-trans}
use Rattle.std.proofs.Math.Seq.{take-append_seam, take-length}
use Rattle.std.proofs.lemmas.List.{take_rest}
use Rattle.std.specs.Io.KnownBytes.{Appends, Keeps}
use Rattle.faults.specs.Bytes.{Text}
use Rattle.program_io.specs.Printing.{AppendsBeginning}

-- what is no longer in the rest of the text was written
abbrev pub HasTaken : Option (List ℕ) → Option (List ℕ) → Text → Text → Type 0
HasTaken before after text rest = (done : Text) × (text ≡ done ++ rest) × Appends before after done

pub none_taken : (a : Option (List ℕ)) (text : Text) → HasTaken a a text text
none_taken a text = ([], refl, Appends-nil a)

module _ (a b c : Option (List ℕ)) (text rest : Text) (taken : HasTaken a b text rest) where
  pub taken_kept : Keeps b c → HasTaken a c text rest
  taken_kept keeps = (taken.0, taken.1, Appends-kept a b c taken.0 taken.2 keeps)

  split_further : (n : ℕ) → text ≡ (taken.0 ++ take n rest) ++ take (length rest - n) (drop n rest)
  split_further n =
      taken.1 ∙ ap (λ l. taken.0 ++ l) (sym (take-append-drop n rest)) ∙ sym (append_assoc taken.0 (take n rest) (drop n rest))
      ∙ ap (λ l. (taken.0 ++ take n rest) ++ l) (sym (take_rest rest n))

  pub taken_more : (n : ℕ) → Appends b c (take n rest) → HasTaken a c text (take (length rest - n) (drop n rest))
  taken_more n more = (taken.0 ++ take n rest, split_further n, Appends-trans a b c taken.0 (take n rest) taken.2 more)

module _ (a b : Option (List ℕ)) (text rest : Text) (taken : HasTaken a b text rest) where
  pub begun : AppendsBeginning a b text
  begun = (length taken.0, subst (Appends a b) (sym (ap (take (length taken.0)) taken.1 ∙ take-append_seam taken.0 rest)) taken.2)

  pub all_taken : rest ≡ [] → Appends a b text
  all_taken none = subst (Appends a b) (sym (taken.1 ∙ ap (λ l. taken.0 ++ l) none ∙ append-nil taken.0)) taken.2

-- the whole text is a prefix of itself
pub whole_begins : (a b : Option (List ℕ)) (text : Text) → Appends a b text → AppendsBeginning a b text
whole_begins a b text all = (length text, subst (Appends a b) (sym (take-length text)) all)
