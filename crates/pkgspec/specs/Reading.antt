-- Results of parsing the parts of an alternative.
use Rattle.std.specs.Prelude.{List, Option, Result, Ok, Err, filter_map, map, if◌then◌else◌}
use Rattle.std.specs.List.{list_all}
use Rattle.faults.specs.Answers.{first_given, unless_fault}
use Rattle.faults.specs.Bytes.{Text}
use Rattle.pkgspec.specs.Spec.{Alternative, Bound, Demand, alternative_fault, alternative_of, bound_of, demand_of, is_bound, is_demand}
use Rattle.pkgspec.specs.declared.SpecFault.{SpecFault}
use Rattle.pkgspec.specs.declared.SpecFault.TheVariants.{BadByte, BadBound}

-- the bound that the text spells, which is None for a star, or its fault
abbrev pub bound_or_fault : Text → Result (Option Bound) SpecFault
bound_or_fault text = if is_bound text then Ok (bound_of text) else Err BadBound

-- the bounds that the texts spell, or a fault if one of them is malformed
abbrev pub bounds_or_fault : List Text → Result (List Bound) SpecFault
bounds_or_fault texts =
    if list_all is_bound texts then Ok (filter_map bound_of texts) else Err BadBound

-- the demand that the text spells, or its fault
abbrev pub demand_or_fault : Text → Result Demand SpecFault
demand_or_fault text = if is_demand text then Ok (demand_of text) else Err BadByte

-- the demands that the texts spell, or a fault if one of them is malformed
abbrev pub demands_or_fault : List Text → Result (List Demand) SpecFault
demands_or_fault texts = if list_all is_demand texts then Ok (map demand_of texts) else Err BadByte

-- the alternative that the text spells, or its fault
abbrev pub alternative_or_fault : Text → Result Alternative SpecFault
alternative_or_fault text = unless_fault (alternative_fault text) (alternative_of text)

-- the alternatives that the texts spell, or the first fault
abbrev pub alternatives_or_fault : List Text → Result (List Alternative) SpecFault
alternatives_or_fault texts =
    unless_fault (first_given alternative_fault texts) (map alternative_of texts)
