-- Which files have a key.
use Rattle.std.specs.Prelude.{◌≢◌, ⊤, ℕ, bit_and}
use Rattle.dpbn_key.specs.declared.fault.KeyFault.{KeyFault}
use Rattle.dpbn_key.specs.declared.fault.KeyFault.TheVariants.{Exposed, Files, Memory, NoKey}
use Rattle.faults.specs.Bytes.{Text}
use Rattle.seals.specs.KeyText.{WritesKey}

-- others than the file's owner may read, write or run it: one of the last six bits of its mode is
-- set
abbrev pub IsExposed : ℕ → Type 0
IsExposed mode = bit_and mode 63 ≢ 0

-- the text writes no key
abbrev pub WritesNoKey : Text → Type 0
WritesNoKey text = (key : Text) → ¬ (WritesKey text key)

-- the text writes some key
abbrev pub WritesAKey : Text → Type 0
WritesAKey text = (key : Text) × WritesKey text key

-- A read of the file of this name gave a mode that lets only its owner use it, and a text that
-- writes the key. `gave` says which mode and text a read of a name gave.
pub record IsKeyAt (gave : Text → ℕ → Text → Type 0) (name key : Text) : Type 0 where
  pub mode : ℕ
  pub text : Text
  pub given : gave name mode text
  pub is_private : ¬ (IsExposed mode)
  pub writes : WritesKey text key

-- A read of the file of this name gave a mode that lets others use it.
pub record IsExposedAt (gave : Text → ℕ → Text → Type 0) (name : Text) : Type 0 where
  pub mode : ℕ
  pub text : Text
  pub given : gave name mode text
  pub exposed : IsExposed mode

-- A read of the file of this name gave a mode that lets only its owner use it, but a text that
-- writes no key.
pub record LacksKeyAt (gave : Text → ℕ → Text → Type 0) (name : Text) : Type 0 where
  pub mode : ℕ
  pub text : Text
  pub given : gave name mode text
  pub is_private : ¬ (IsExposed mode)
  pub writes_none : WritesNoKey text

-- why a file has no key: it can't be read, memory ran out, it doesn't have the text of a key, or
-- others than its owner may use it
abbrev pub RefusesKey : (Text → ℕ → Text → Type 0) → Text → KeyFault → Type 0
RefusesKey gave name Memory = ⊤
RefusesKey gave name Files = ⊤
RefusesKey gave name NoKey = LacksKeyAt gave name
RefusesKey gave name Exposed = IsExposedAt gave name
