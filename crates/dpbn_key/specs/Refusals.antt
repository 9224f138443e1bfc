-- How refusals of a key's file are reported.
use Rattle.std.specs.Prelude.{◌≡◌, ◌⊎◌, ℕ}
use Rattle.dpbn_key.specs.declared.fault.KeyFault.{KeyFault}
use Rattle.dpbn_key.specs.declared.fault.KeyFault.TheVariants.{Exposed, Files, Memory, NoKey}

-- the number that each refusal is reported with
abbrev pub number_of : KeyFault → ℕ
number_of Memory = 1
number_of Files = 2
number_of NoKey = 1207
number_of Exposed = 1208

-- the system refused to read or to write, or memory ran out
abbrev pub IsOfSystem : KeyFault → Type 0
IsOfSystem f = (f ≡ Memory) ⊎ (f ≡ Files)
