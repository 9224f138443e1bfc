-- The numbers and causes of the refusals.
use Rattle.std.specs.Prelude.{ℕ, Option, None, Some}
use Rattle.package_record.specs.Refusals as records
use Rattle.protocol.specs.declared.refusal.Refusal.{Refusal}
use Rattle.protocol.specs.declared.refusal.Refusal.TheVariants.{Memory, Unlisted, Ignored, Waiting}
use Rattle.protocol.specs.declared.refusal.Refusal.TheVariants.{Held, NoClaim, RoundsSpent}
use Rattle.protocol.specs.declared.refusal.Refusal.TheVariants.{BadFiles, OtherTree, NotAMember}
use Rattle.protocol.specs.declared.refusal.Refusal.TheVariants.{OtherPackages}

-- the number of each refusal
abbrev pub number_of : Refusal → ℕ
number_of Memory = 1
number_of Unlisted = 901
number_of Ignored = 902
number_of Waiting = 903
number_of Held = 904
number_of NoClaim = 905
number_of RoundsSpent = 906
number_of (BadFiles fault) = 907
number_of OtherTree = 908
number_of NotAMember = 909
number_of OtherPackages = 910

-- the number of the underlying fault, if there is one
abbrev pub cause_of : Refusal → Option ℕ
cause_of Memory = None
cause_of Unlisted = None
cause_of Ignored = None
cause_of Waiting = None
cause_of Held = None
cause_of NoClaim = None
cause_of RoundsSpent = None
cause_of (BadFiles fault) = Some (records.number_of fault)
cause_of OtherTree = None
cause_of NotAMember = None
cause_of OtherPackages = None
