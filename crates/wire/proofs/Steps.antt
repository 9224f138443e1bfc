-- Steps of parsing that may fail.
use Rattle.std.proofs.Common.{◌≡◌, Bool, true, false, cond, Result, Ok, Err, ◌⊎◌, refl, inl, inr}
use Rattle.wire.specs.Reading.{◌>>=◌}
use Rattle.wire.specs.declared.WireFault.{WireFault}

-- the value of a step that succeeded
pub bind_ok : {A B : Type 0} (r : Result A WireFault) (f : A → Result B WireFault) (y : B) → (r >>= f) ≡ Ok y → (x : A) × (r ≡ Ok x) × (f x ≡ Ok y)
bind_ok (Ok x) f y e = (x, refl, e)
bind_ok (Err d) f y e = absurd cc

abbrev done : {A : Type 0} → A → Result A WireFault
done x = Ok x

pub ok_is : {A : Type 0} (x y : A) → done x ≡ done y → x ≡ y
ok_is x y e = cc

-- a test that succeeded
pub test_ok : {A : Type 0} (b : Bool) (d : WireFault) (r : Result A WireFault) (y : A) → cond b r (Err d) ≡ Ok y → (b ≡ true) × (r ≡ Ok y)
test_ok true d r y e = (refl, e)
test_ok false d r y e = absurd cc

-- a test that fails if it holds
pub refusal_ok : {A : Type 0} (b : Bool) (d : WireFault) (r : Result A WireFault) (y : A) → cond b (Err d) r ≡ Ok y → (b ≡ false) × (r ≡ Ok y)
refusal_ok true d r y e = absurd cc
refusal_ok false d r y e = (refl, e)

-- either way
pub ways : {A : Type 0} (b : Bool) (r s : Result A WireFault) (y : A) → cond b r s ≡ Ok y → ((b ≡ true) × (r ≡ Ok y)) ⊎ ((b ≡ false) × (s ≡ Ok y))
ways true r s y e = inl (refl, e)
ways false r s y e = inr (refl, e)

-- the branch, if the test is known
pub where_true : {X : Type 0} (b : Bool) (x y : X) → b ≡ true → cond b x y ≡ x
where_true b x y holds = rw holds refl

pub where_false : {X : Type 0} (b : Bool) (x y : X) → b ≡ false → cond b x y ≡ y
where_false b x y fails = rw fails refl
