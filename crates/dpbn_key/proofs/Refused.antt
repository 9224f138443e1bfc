-- Why a file has no key.
use Rattle.std.proofs.Common.{◌≡◌, ℕ, subst, sym}
use Rattle.dpbn_key.specs.Keys.{IsExposed, LacksKeyAt, RefusesKey, WritesNoKey}
use Rattle.dpbn_key.specs.declared.fault.KeyFault.{KeyFault}
use Rattle.dpbn_key.specs.declared.fault.KeyFault.TheVariants.{NoKey}
use Rattle.faults.specs.Bytes.{Text}

-- a text without a key was read
pub lacks_key : (gave : Text → ℕ → Text → Type 0) (name : Text) (mode : ℕ) (text other : Text)
    → gave name mode text → ¬ (IsExposed mode) → other ≡ text → (f : KeyFault)
    → (f ≡ NoKey) × WritesNoKey other → RefusesKey gave name f
lacks_key gave name mode text other given own same f (is, none) =
    let lacks : LacksKeyAt gave name = record {
      mode = mode;
      text = text;
      given = given;
      is_private = own;
      writes_none = subst WritesNoKey same none;
    } in
    subst (λ x. RefusesKey gave name x) (sym is) lacks
