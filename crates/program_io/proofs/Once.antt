-- Results are unique.
use Rattle.std.proofs.Common.{◌≡◌, Result, Ok}

-- there is at most one value
pub ok_once : {X F : Type 0} (r : Result X F) (x y : X) → r ≡ Ok x → r ≡ Ok y → x ≡ y
ok_once r x y e f = cc
