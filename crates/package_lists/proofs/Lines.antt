-- The lines of a list, up to the one that is parsed.
use Rattle.std.proofs.Common.{◌≡◌, ◌+◌, ◌<◌, ◌≤◌, ◌∙◌, ◌++◌, ◌==◌, ℕ, true, false, List, [], ◌∷◌, Option, None, Some, if◌then◌else◌, length, take, arith, ap, refl, sym, subst, append_assoc, length-append}
use Rattle.std.proofs.Math.Seq.{take-append_seam, take-append-add}
use Rattle.std.proofs.lemmas.Bool.{ne_eqb}
use Rattle.std.proofs.lemmas.List.{append-nil}
use Rattle.std.specs.List.{AllZip}
use Rattle.faults.specs.Bytes.{Text, is_empty, line_feed}
use Rattle.faults.specs.Pieces.{pieces_at}
use Rattle.package_lists.specs.List.{AreEntries, AreList, IsFirstBadAt, IsFirstBadLine, Says, lines_in, without_empty_end}
use Rattle.package_lists.specs.inside.Listed.{AddsLine, CannotFollow, entries_in, said_in}
use Rattle.package_lists.specs.declared.list.Packages.{Packages}
use Rattle.package_lists.specs.declared.list.ListFault.TheVariants.{BadList}
use Rattle.package_lists.specs.declared.list_line.ListLine.{ListLine}
use Rattle.package_lists.proofs.Fields.{some_pieces}
use Rattle.package_lists.proofs.Saying.{no_list, said_more}

-- the contents of the lines, with one more
said_next : (done : List Text) (line : Text) (before : Option Packages) (after : Packages) → AllZip Says done (said_in before) → AddsLine before line after
    → AllZip Says (done ++ line ∷ []) (said_in (Some after))
said_next done line before after all adds =
    subst (λ (said : List ListLine). AllZip Says (done ++ line ∷ []) said) (sym adds.added)
    (said_more done (said_in before) line adds.said all adds.says)

-- the line after these is the first that can't be one of a list
first_bad : (lines done : List Text) (line : Text) (more : List Text) (before : Option Packages) → lines ≡ done ++ line ∷ more
    → AllZip Says done (said_in before) → CannotFollow before line → IsFirstBadAt lines (length done)
first_bad lines done line more before are all cannot = record {
  within = omega (arith, ap length are, length-append done (line ∷ more));
  before = (
    entries_in before,
    subst (λ (ls : List Text). AllZip Says ls (said_in before)) (sym (ap (take (length done)) are ∙ take-append_seam done (line ∷ more))) all,
  );
  bad = λ list. no_list done line before all cannot
      (subst AreList (ap (take (length done + 1)) are ∙ take-append-add done (line ∷ more) 1) list);
}

-- ---- the last text may be empty

end_behind : (done : List Text) (t : Text) (ts : List Text) → without_empty_end (done ++ t ∷ ts) ≡ done ++ without_empty_end (t ∷ ts)
end_behind [] t ts = refl
end_behind (d ∷ []) t ts = refl
end_behind (d ∷ e ∷ ds) t ts = ap (λ (us : List Text). d ∷ us) (end_behind (e ∷ ds) t ts)

behind_one : (t : Text) (ts : List Text) → 0 < length ts → without_empty_end (t ∷ ts) ≡ t ∷ without_empty_end ts
behind_one t [] some = absurd (omega arith)
behind_one t (u ∷ us) some = refl

by_length : (t : Text) → (length t == 0) ≡ is_empty t
by_length [] = refl
by_length (b ∷ t) = ne_eqb (length (b ∷ t)) 0 (λ none. omega arith)

-- ---- a text that is parsed

-- the lines before the rest of the text were parsed
pub record ReadSoFar (text left : Text) (number : ℕ) (packages : Option Packages) : Type 0 where
  pub done : List Text
  pub cut : pieces_at line_feed text ≡ done ++ pieces_at line_feed left
  pub said : AllZip Says done (said_in packages)
  pub number_is : number ≡ length done + 1
  pub within : length done + length left ≤ length text

pub none_read : (text : Text) → ReadSoFar text text 1 None
none_read text = record { done = []; cut = refl; said = tt; number_is = refl; within = omega arith }

module _ (text left : Text) (number : ℕ) (packages : Option Packages) (so_far : ReadSoFar text left number packages) where
  lines_from : (t : Text) (ts : List Text) → pieces_at line_feed left ≡ t ∷ ts → lines_in text ≡ so_far.done ++ without_empty_end (t ∷ ts)
  unfolding lines_in
  lines_from t ts are = ap without_empty_end (so_far.cut ∙ ap (λ ps. so_far.done ++ ps) are) ∙ end_behind so_far.done t ts

  -- a line with its LF
  module _ (line behind : Text) (next : pieces_at line_feed left ≡ line ∷ pieces_at line_feed behind) where
    pub line_read : (after : Packages) → length behind < length left → AddsLine packages line after → ReadSoFar text behind (number + 1) (Some after)
    line_read after shorter adds = record {
      done = so_far.done ++ line ∷ [];
      cut = so_far.cut ∙ ap (λ ps. so_far.done ++ ps) next ∙ sym (append_assoc so_far.done (line ∷ []) (pieces_at line_feed behind));
      said = said_next so_far.done line packages after so_far.said adds;
      number_is = omega (arith, so_far.number_is, length-append so_far.done (line ∷ []));
      within = omega (arith, shorter, so_far.within, length-append so_far.done (line ∷ []));
    }

    pub line_bad : CannotFollow packages line → IsFirstBadLine text (BadList number)
    line_bad cannot = (
      length so_far.done,
      so_far.number_is,
      first_bad (lines_in text) so_far.done line (without_empty_end (pieces_at line_feed behind)) packages
          (lines_from line (pieces_at line_feed behind) next
          ∙ ap (λ ls. so_far.done ++ ls) (behind_one line (pieces_at line_feed behind) (some_pieces line_feed behind)))
          so_far.said cannot,
    )

  -- the last line, without LF
  module _ (last : pieces_at line_feed left ≡ left ∷ []) where
    pub all_read : (length left == 0) ≡ true → AreEntries text (entries_in packages)
    all_read none =
        let empty = sym (by_length left) ∙ none in
        subst (λ (ls : List Text). AllZip Says ls (said_in packages))
        (sym (lines_from left [] last ∙ ap (λ b. so_far.done ++ (if b then [] else left ∷ [])) empty ∙ append-nil so_far.done)) so_far.said

    last_line : (length left == 0) ≡ false → lines_in text ≡ so_far.done ++ left ∷ []
    last_line some =
        let stays = sym (by_length left) ∙ some in
        lines_from left [] last ∙ ap (λ b. so_far.done ++ (if b then [] else left ∷ [])) stays

    pub last_read : (after : Packages) → (length left == 0) ≡ false → AddsLine packages left after → AreEntries text (entries_in (Some after))
    last_read after some adds =
        subst (λ (ls : List Text). AllZip Says ls (said_in (Some after))) (sym (last_line some))
        (said_next so_far.done left packages after so_far.said adds)

    pub last_bad : (length left == 0) ≡ false → CannotFollow packages left → IsFirstBadLine text (BadList number)
    last_bad some cannot = (
      length so_far.done,
      so_far.number_is,
      first_bad (lines_in text) so_far.done left [] packages (last_line some) so_far.said cannot,
    )
