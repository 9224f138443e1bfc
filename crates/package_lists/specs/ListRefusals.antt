-- The number and place of a refusal of a list.
use Rattle.std.specs.Prelude.{ℕ, Option, None, Some}
use Rattle.package_lists.specs.declared.list.ListFault.{ListFault}
use Rattle.package_lists.specs.declared.list.ListFault.TheVariants.{Memory, BadList}
use Rattle.program_io.specs.declared.refusal.Refusal.{Refusal}

-- the number that is reported for each refusal
abbrev pub number_of : ListFault → ℕ
number_of Memory = 1
number_of (BadList line) = 1308

-- the line that the refusal names, counted from 1, if it names one
abbrev pub place_of : ListFault → Option ℕ
place_of Memory = None
place_of (BadList line) = Some line

-- the refusal for a fault of a list
abbrev pub list_refusal : ListFault → Refusal
list_refusal e = record { number = number_of e; place = place_of e }
