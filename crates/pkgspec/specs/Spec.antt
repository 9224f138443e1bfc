-- The contents of a spec: alternatives, each with a stem, bounds on the version, and demands on
-- flavors.
use Rattle.std.specs.Prelude.{ℕ, Bool, ◌&&◌, ◌||◌, not, nat_lt, List, [], ◌∷◌, length, drop, map, filter_map, codes, Option, Some, None, Result, is_some, if◌then◌else◌}
use Rattle.std.specs.Char.{is_ascii_digit}
use Rattle.std.specs.List.{list_all}
use Rattle.std.specs.Option.{option_map_or}
use Rattle.std.specs.Str.{bytes_eq}
use Rattle.faults.specs.Answers.{first_given, first_that_applies, option_or, unless_fault}
use Rattle.faults.specs.Bytes.{Text, bar, begins_with, comma, is_empty, is_one_of}
use Rattle.faults.specs.Pieces.{pieces_at}
use Rattle.pkgname.specs.PkgName.{is_name_byte, parts_by}
use Rattle.pkgname.specs.PkgName as name
use Rattle.pkgname.specs.Version.{is_version}
use Rattle.pkgspec.specs.declared.bound.Relation.{Relation}
use Rattle.pkgspec.specs.declared.bound.Relation.TheVariants.{AtLeast, Above, AtMost, Below, Equal}
use Rattle.pkgspec.specs.declared.SpecFault.{SpecFault}
use Rattle.pkgspec.specs.declared.SpecFault.TheVariants.{Empty, TooLong, BadByte, BadBound}

-- a bound on a version: how it has to compare with the bound's version
pub record Bound : Type 0 where
  pub relation : Relation
  pub version : Text

-- a flavor that has to be present, or absent
pub record Demand : Type 0 where
  pub flavor : Text
  pub is_present : Bool

-- an alternative: the name's stem, bounds on its version, and demands on its flavors
pub record Alternative : Type 0 where
  pub stem : Text
  pub bounds : List Bound
  pub demands : List Demand

-- ---- the parts of an alternative

-- a byte that can begin bounds: a digit or one of these four
abbrev pub begins_bounds : ℕ → Bool
begins_bounds b = is_one_of (codes "*<>=") b || is_ascii_digit b

-- the stem, the bounds in place of a version, and the flavors of an alternative, if it has bounds
abbrev pub parts_of : Text → Option name.Parts
parts_of text = parts_by begins_bounds text

-- the stem of an alternative, which is all of it if it has no bounds
abbrev pub stem_of : Text → Text
stem_of text = option_map_or (λ p. p.stem) (parts_of text) text

-- the texts of an alternative's bounds, separated by commas; none if it has no bounds
abbrev pub bound_texts : Text → List Text
bound_texts text = option_map_or (λ p. pieces_at comma p.version) (parts_of text) []

-- the texts of an alternative's demands on flavors, after the bounds, separated by dashes
abbrev pub demand_texts : Text → List Text
demand_texts text = option_map_or (λ p. p.flavors) (parts_of text) []

-- ---- bounds and demands

-- the operator of a bound, and the text after it; no operator means equality
abbrev pub relation_of : Text → Relation × Text
relation_of text =
    if begins_with (codes ">=") text then (AtLeast, drop 2 text)
    else if begins_with (codes ">") text then (Above, drop 1 text)
    else if begins_with (codes "<=") text then (AtMost, drop 2 text)
    else if begins_with (codes "<") text then (Below, drop 1 text)
    else if begins_with (codes "=") text then (Equal, drop 1 text)
    else (Equal, text)

-- the bound that a text spells, if it is a version with or without an operator before it
abbrev pub bound_of : Text → Option Bound
bound_of text =
    if is_version (relation_of text).1
    then Some (record { relation = (relation_of text).0; version = (relation_of text).1 })
    else None

-- whether the text is a star, which allows every version
abbrev pub is_star : Text → Bool
is_star text = bytes_eq text (codes "*")

-- whether the text is a star or a bound
abbrev pub is_bound : Text → Bool
is_bound text = is_star text || is_some (bound_of text)

-- whether the flavor has a mark before it, which means that it must be absent
abbrev pub is_denied : Text → Bool
is_denied text = begins_with (codes "!") text

-- the flavor that a text names, and whether it has to be present
abbrev pub demand_of : Text → Demand
demand_of text = record {
  flavor = if is_denied text then drop 1 text else text;
  is_present = not (is_denied text);
}

-- whether the flavor that the text names is not empty, and has only bytes of a name
abbrev pub is_demand : Text → Bool
is_demand text =
    not (is_empty (demand_of text).flavor) && list_all is_name_byte (demand_of text).flavor

-- ---- what a text spells

-- the fault of an alternative, the first that applies: it is empty; its stem has a byte that isn't
-- allowed in a name; a bound is malformed; a flavor is empty or has a byte that isn't allowed in a
-- name
abbrev pub alternative_fault : Text → Option SpecFault
alternative_fault text = first_that_applies (
    (is_empty text, Empty)
    ∷ (not (list_all is_name_byte (stem_of text)), BadByte)
    ∷ (not (list_all is_bound (bound_texts text)), BadBound)
    ∷ (not (list_all is_demand (demand_texts text)), BadByte)
    ∷ [])

-- the alternative that a text without a fault spells; a star allows everything, and is omitted
abbrev pub alternative_of : Text → Alternative
alternative_of text = record {
  stem = stem_of text;
  bounds = filter_map bound_of (bound_texts text);
  demands = map demand_of (demand_texts text);
}

-- the fault of a text that is not a spec, the first that applies: it is empty; it has more than
-- 1,024 bytes; the first fault of an alternative from the left
abbrev pub fault_of : Text → Option SpecFault
fault_of text =
    option_or
    (first_that_applies ((is_empty text, Empty) ∷ (nat_lt 1024 (length text), TooLong) ∷ []))
    (first_given alternative_fault (pieces_at bar text))

-- the alternatives that a text spells, separated by bars, or its fault
abbrev pub spec_of : Text → Result (List Alternative) SpecFault
spec_of text = unless_fault (fault_of text) (map alternative_of (pieces_at bar text))
