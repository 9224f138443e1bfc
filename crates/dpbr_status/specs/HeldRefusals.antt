-- The number and place of a refusal of a text of held paths.
use Rattle.std.specs.Prelude.{ℕ, Option, None, Some}
use Rattle.dpbr_status.specs.declared.held.HeldFault.{HeldFault}
use Rattle.dpbr_status.specs.declared.held.HeldFault.TheVariants.{Memory, BadList, Unlisted, Ignored}
use Rattle.program_io.specs.declared.refusal.Refusal.{Refusal}

-- the number that each refusal is reported with
abbrev pub number_of : HeldFault → ℕ
number_of Memory = 1
number_of (BadList line) = 1308
number_of (Unlisted line) = 901
number_of (Ignored line) = 902

-- the line of the refusal, counted from 1, if it has one
abbrev pub place_of : HeldFault → Option ℕ
place_of Memory = None
place_of (BadList line) = Some line
place_of (Unlisted line) = Some line
place_of (Ignored line) = Some line

-- how the refusal is reported
abbrev pub held_refusal : HeldFault → Refusal
held_refusal e = record { number = number_of e; place = place_of e }
