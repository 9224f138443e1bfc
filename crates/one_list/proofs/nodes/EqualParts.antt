-- Parts of what is equal are equal.
use Rattle.std.proofs.Common.{◌≡◌, zero, suc, [], ◌∷◌, Some, arith}
use Rattle.std.specs.List.{Contains}

pub some_same : {X : Type 0} (x y : X) → Some x ≡ Some y → x ≡ y
some_same x y h = cc

-- the only element of a list of one
pub only_one : {X : Type 0} (y x : X) → Contains (y ∷ []) x → y ≡ x
only_one y x (zero, within, e) = e
only_one y x (suc k, within, e) = absurd (omega arith)
