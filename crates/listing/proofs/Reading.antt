-- What a line sets, and its fault.
use Rattle.std.proofs.Common.{◌≡◌, ◌&&◌, ◌⊎◌, ℕ, true, false, not, List, [], ◌∷◌, option_to_list, Option, None, Some, Ok, Err, Result, is_err, is_none, is_some, refl, sym, ap, ◌∙◌, if◌then◌else◌, inl, inr}
use Rattle.faults.specs.Bytes.{Text, is_among}
use Rattle.pkgpath.specs.PkgPath.{path_of}
use Rattle.pkgpath.specs.declared.PathFault.{PathFault}
use Rattle.listing.specs.Lines.{Setting, is_cut, is_read, is_skipped, path_text, setting_from, setting_of, value_text, variable_text, variables}
use Rattle.listing.specs.Listing.{line_fault, path_line_fault, setting_fault}
use Rattle.listing.specs.inside.Parts.{name_of_variable}
use Rattle.listing.specs.Rules.{names_and_specs}
use Rattle.listing.specs.inside.Table.{setting}
use Rattle.listing.specs.declared.ListingFault.{ListingFault}
use Rattle.listing.specs.declared.ListingFault.TheVariants.{BadLine, BadPath, Memory}
use Rattle.listing.specs.declared.line.Variable.{Variable}
use Rattle.listing.specs.declared.line.Variable.TheVariants.{FullName, BuildDepends, LibDepends, RunDepends, Ignore}

among_variables : (v : Variable) → is_among variables (name_of_variable v) ≡ true
among_variables FullName = refl
among_variables BuildDepends = refl
among_variables LibDepends = refl
among_variables RunDepends = refl
among_variables Ignore = refl

-- the fault of a line that sets a variable is that of its path, or of what comes after
cut_line_fault : (earlier : List Setting) (n : ℕ) (line : Text) (v : Variable) → is_skipped line ≡ false → is_cut line ≡ true → variable_text line ≡ name_of_variable v
    → line_fault names_and_specs earlier (n, line) ≡ path_line_fault names_and_specs earlier (n, line) (path_of (path_text line))
cut_line_fault earlier n line v skipped cut named =
    let among : is_among variables (variable_text line) ≡ true = ap (is_among variables) named ∙ among_variables v in
    λ i. if skipped i then None else (if not (cut i) then Some (BadLine n) else (if not (among i) then None else path_line_fault names_and_specs earlier (n, line) (path_of (path_text line))))

refused : (earlier : List Setting) (line : ℕ × Text) (r : Result Text PathFault) → is_err r ≡ true → path_line_fault names_and_specs earlier line r ≡ Some (BadPath line.0)
refused earlier line (Ok p) e = cc
refused earlier line (Err f) e = refl

pub refused_path : (earlier : List Setting) (n : ℕ) (line text : Text) (v : Variable) (e : ListingFault) → is_skipped line ≡ false → is_cut line ≡ true
    → variable_text line ≡ name_of_variable v → text ≡ path_text line → (e ≡ Memory) ⊎ ((is_err (path_of text) ≡ true) × (e ≡ BadPath n))
    → (e ≡ Memory) ⊎ (line_fault names_and_specs earlier (n, line) ≡ Some e)
refused_path earlier n line text v e skipped cut named same (inl m) = inl m
refused_path earlier n line text v e skipped cut named same (inr bad) =
    inr (cut_line_fault earlier n line v skipped cut named
    ∙ refused earlier (n, line) (path_of (path_text line)) (ap (λ t. is_err (path_of t)) (sym same) ∙ bad.0) ∙ ap Some (sym bad.1))

-- a line that sets a variable of a path
pub accepted_fault : (earlier : List Setting) (n : ℕ) (line text p value : Text) (v : Variable) → is_skipped line ≡ false → is_cut line ≡ true
    → variable_text line ≡ name_of_variable v → text ≡ path_text line → path_of text ≡ Ok p → value ≡ value_text line
    → line_fault names_and_specs earlier (n, line) ≡ setting_fault names_and_specs earlier (setting n p v value)
accepted_fault earlier n line text p value v skipped cut named same spelled valued =
    cut_line_fault earlier n line v skipped cut named
    ∙ ap (path_line_fault names_and_specs earlier (n, line)) (ap path_of (sym same) ∙ spelled)
    ∙ (λ i. setting_fault names_and_specs earlier (record { line = n; path = p; variable = named i; value = sym valued i }))

pub accepted_setting : (n : ℕ) (line text p value : Text) (v : Variable) → is_skipped line ≡ false → is_cut line ≡ true
    → variable_text line ≡ name_of_variable v → text ≡ path_text line → path_of text ≡ Ok p → value ≡ value_text line
    → option_to_list (setting_of (n, line)) ≡ setting n p v value ∷ []
accepted_setting n line text p value v skipped cut named same spelled valued =
    let among : is_among variables (variable_text line) ≡ true = ap (is_among variables) named ∙ among_variables v in
    let read : is_read line ≡ true = λ i. not (skipped i) && cut i && among i in
    ap option_to_list (ap (λ b. if b then setting_from (n, line) (path_of (path_text line)) else None) read
    ∙ ap (setting_from (n, line)) (ap path_of (sym same) ∙ spelled))
    ∙ (λ i. record { line = n; path = p; variable = named i; value = sym valued i } ∷ [])

pub not_some : {X : Type 0} (o : Option X) → is_none o ≡ true → is_some o ≡ false
not_some None e = refl
not_some (Some x) e = cc

pub is_there : {X : Type 0} (o : Option X) → is_none o ≡ false → is_some o ≡ true
is_there None e = cc
is_there (Some x) e = refl
