-- What is left of what failed.
use Rattle.std.proofs.Common.{◌≡◌, ◌∙◌, Bool, true, false, None, Option, cond, inl, inr, refl}
use Rattle.std.specs.Prelude.{◌⊎◌}

-- if one more is taken out, each of the others is what it was
pub still_left : {A B : Type 0} (b unwritten : Bool) (f was f' : Option A) (e had e' : Option B)
    → f' ≡ cond b None f → e' ≡ cond b None e → (b ≡ true → unwritten ≡ false)
    → ((f ≡ was) × (e ≡ had)) ⊎ ((unwritten ≡ false) × (f ≡ None) × (e ≡ None))
    → ((f' ≡ was) × (e' ≡ had)) ⊎ ((unwritten ≡ false) × (f' ≡ None) × (e' ≡ None))
still_left true unwritten f was f' e had e' is_f is_e written left =
    inr (written refl, is_f, is_e)
still_left false unwritten f was f' e had e' is_f is_e written (inl (same_f, same_e)) =
    inl (is_f ∙ same_f, is_e ∙ same_e)
still_left false unwritten f was f' e had e' is_f is_e written (inr (unlisted, none_f, none_e)) =
    inr (unlisted, is_f ∙ none_f, is_e ∙ none_e)
