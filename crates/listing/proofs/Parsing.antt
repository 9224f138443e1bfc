-- A listing, line by line.
use Rattle.std.proofs.Common.{◌≡◌, ◌<◌, ◌+◌, ◌++◌, ◌==◌, ◌⊎◌, ℕ, Bool, List, [], ◌∷◌, ◌≤◌, length, take, drop, get_or, option_to_list, option_and_then, Option, None, Some, Ok, Err, Result, MatchResult, refl, sym, ap, subst, ◌∙◌, arith, inl, inr, zero-add}
use Rattle.std.specs.List.{cons_option, range_with_len, slice_split}
use Rattle.std.proofs.lemmas.List.{take_more, take_all}
use Rattle.std.proofs.lemmas.List.Elements.{filter_map-append}
use Rattle.std.proofs.lemmas.List.FromFn.{get_or-enumerate_from, length-enumerate_from, get_or-range_with_len, length-range_with_len}
use Rattle.std.proofs.lemmas.List.Splits.{length-slice_split}
use Rattle.std.proofs.lemmas.List.Sums.{count_by-le-length}
use Rattle.std.proofs.lemmas.Option.{slice_get-get_or}
use Rattle.faults.specs.Answers.{IsRightUnless, first_given, option_or, unless_fault}
use Rattle.faults.specs.Bytes.{Text, line_feed}
use Rattle.listing.specs.Lines.{Setting, lines_of, setting_of, settings_of}
use Rattle.listing.specs.Listing.{fault_at, fault_of, line_fault, nameless_fault, tree_of, tree_of_settings}
use Rattle.listing.specs.Rules.{group_by, names_and_specs, with_groups}
use Rattle.listing.specs.inside.Table.{Stands}
use Rattle.listing.specs.Tree.{Tree}
use Rattle.listing.specs.declared.ListingFault.{ListingFault}
use Rattle.listing.specs.declared.ListingFault.TheVariants.{Memory}
use Rattle.listing.specs.declared.table.Table.{Table}
use Rattle.listing.proofs.First.{given_at, none_given_at_all, none_given_more}

abbrev pub pieces : Text → List Text
pieces text = slice_split (λ b. b == line_feed) text

-- the k-th line
line_at : (text : Text) (k n : ℕ) (line : Text) → k < length (pieces text) → line ≡ get_or (pieces text) k line → n ≡ k
    → get_or (lines_of text) k (n + 1, line) ≡ (n + 1, line)
line_at text k n line within here same =
    let number : 1 + k ≡ n + 1 = omega (arith, same) in
    get_or-enumerate_from 1 (pieces text) k (n + 1, line) within ∙ (λ i. (number i, sym here i))

lines_size : (text : Text) → length (lines_of text) ≡ length (pieces text)
lines_size text = length-enumerate_from 1 (pieces text)

as_list : (o : Option Setting) → cons_option o [] ≡ option_to_list o
as_list None = refl
as_list (Some s) = refl

-- the settings after one more line
pub settings_more : (text : Text) (k n : ℕ) (line : Text) → k < length (pieces text) → line ≡ get_or (pieces text) k line → n ≡ k
    → settings_of (take (k + 1) (lines_of text)) ≡ settings_of (take k (lines_of text)) ++ option_to_list (setting_of (n + 1, line))
settings_more text k n line within here same =
    ap settings_of (take_more (lines_of text) k (n + 1, line) (omega (arith, within, lines_size text))
    ∙ ap (λ l. take k (lines_of text) ++ l ∷ []) (line_at text k n line within here same))
    ∙ filter_map-append setting_of (take k (lines_of text)) ((n + 1, line) ∷ [])
    ∙ ap (λ ss. settings_of (take k (lines_of text)) ++ ss) (as_list (setting_of (n + 1, line)))

-- the fault of the k-th line
fault_here : (text : Text) (k n : ℕ) (line : Text) → k < length (pieces text) → line ≡ get_or (pieces text) k line → n ≡ k
    → fault_at names_and_specs (lines_of text) k ≡ line_fault names_and_specs (settings_of (take k (lines_of text))) (n + 1, line)
fault_here text k n line within here same =
    ap (option_and_then (line_fault names_and_specs (settings_of (take k (lines_of text)))))
    (slice_get-get_or (lines_of text) k (n + 1, line) (omega (arith, within, lines_size text)) ∙ ap Some (line_at text k n line within here same))

abbrev pub numbers : Text → List ℕ
numbers text = range_with_len 0 (length (lines_of text))

number_at : (text : Text) (k : ℕ) → k < length (pieces text) → get_or (numbers text) k 0 ≡ k
number_at text k within =
    get_or-range_with_len 0 (length (lines_of text)) k 0 (omega (arith, within, lines_size text)) ∙ zero-add k

numbers_size : (text : Text) → length (numbers text) ≡ length (pieces text)
numbers_size text = length-range_with_len 0 (length (lines_of text)) ∙ lines_size text

-- the first k lines have no fault, and the table represents what they set
pub record ParsedSoFar (text : Text) (table : Table) (k : ℕ) : Type 0 where
  pub faultless : first_given (fault_at names_and_specs (lines_of text)) (take k (numbers text)) ≡ None
  pub stands : Stands table (settings_of (take k (lines_of text)))

pub parsed_more : (text : Text) (table now : Table) (k n : ℕ) (line : Text) → k < length (pieces text) → line ≡ get_or (pieces text) k line → n ≡ k
    → ParsedSoFar text table k
    → (line_fault names_and_specs (settings_of (take k (lines_of text))) (n + 1, line) ≡ None)
    × Stands now (settings_of (take k (lines_of text)) ++ option_to_list (setting_of (n + 1, line)))
    → ParsedSoFar text now (k + 1)
parsed_more text table now k n line within here same so_far h = record {
  faultless = none_given_more (fault_at names_and_specs (lines_of text)) (numbers text) k 0 (omega (arith, within, numbers_size text)) so_far.faultless
      (ap (fault_at names_and_specs (lines_of text)) (number_at text k within) ∙ fault_here text k n line within here same ∙ h.0);
  stands = subst (Stands now) (sym (settings_more text k n line within here same)) h.1;
}

-- the remaining lines are those from the k-th on
abbrev pub AreLeft : Text → ℕ → List Text → Type 0
AreLeft text k left = drop k (pieces text) ≡ left

-- a text has at most one more line than bytes
pub lines_within : (text : Text) → length (pieces text) ≤ length text + 1
lines_within text =
    omega (arith, length-slice_split (λ b. b == line_feed) text, count_by-le-length (λ b. b == line_feed) text)

-- a faulty line
pub parse_fault : (is_single : Bool) (text : Text) (table : Table) (k n : ℕ) (line : Text) (e : ListingFault) → k < length (pieces text) → line ≡ get_or (pieces text) k line → n ≡ k
    → ParsedSoFar text table k → line_fault names_and_specs (settings_of (take k (lines_of text))) (n + 1, line) ≡ Some e
    → tree_of (with_groups (group_by is_single)) text ≡ Err e
parse_fault is_single text table k n line e within here same so_far bad =
    let first = given_at (fault_at names_and_specs (lines_of text)) (numbers text) k 0 e (omega (arith, within, numbers_size text)) so_far.faultless
    (ap (fault_at names_and_specs (lines_of text)) (number_at text k within) ∙ fault_here text k n line within here same ∙ bad) in
    ap (λ o. unless_fault (option_or o (nameless_fault (settings_of (lines_of text)))) (tree_of_settings (with_groups (group_by is_single)) (settings_of (lines_of text)))) first

-- no faulty line
pub parsed_all : (text : Text) (table : Table) (k : ℕ) → length (pieces text) ≤ k → ParsedSoFar text table k
    → Stands table (settings_of (lines_of text)) × (fault_of names_and_specs text ≡ nameless_fault (settings_of (lines_of text)))
parsed_all text table k all so_far = (
  subst (λ ls. Stands table (settings_of ls)) (take_all k (lines_of text) (omega (arith, all, lines_size text))) so_far.stands,
  ap (λ o. option_or o (nameless_fault (settings_of (lines_of text))))
      (none_given_at_all (fault_at names_and_specs (lines_of text)) (numbers text) k (omega (arith, all, numbers_size text)) so_far.faultless),
)

pub right_tree : (is_single : Bool) (text : Text) (r : Result Tree ListingFault) → fault_of names_and_specs text ≡ nameless_fault (settings_of (lines_of text))
    → MatchResult r (λ t. (nameless_fault (settings_of (lines_of text)) ≡ None) × (t ≡ tree_of_settings (with_groups (group_by is_single)) (settings_of (lines_of text))))
    (λ e. (e ≡ Memory) ⊎ (nameless_fault (settings_of (lines_of text)) ≡ Some e))
    → IsRightUnless Memory r (tree_of (with_groups (group_by is_single)) text)
right_tree is_single text (Ok t) same h = ap (λ o. unless_fault o (tree_of_settings (with_groups (group_by is_single)) (settings_of (lines_of text)))) (same ∙ h.0) ∙ ap Ok (sym h.1)
right_tree is_single text (Err e) same (inl m) = inl m
right_tree is_single text (Err e) same (inr bad) = inr (ap (λ o. unless_fault o (tree_of_settings (with_groups (group_by is_single)) (settings_of (lines_of text)))) (same ∙ bad))
