-- A list of parts that is parsed from the left: the effect of one more part.
use Rattle.std.proofs.Common.{◌≡◌, ◌++◌, Bool, true, false, cond, List, [], ◌∷◌, map, filter_map, Option, Some, None, Ok, Err, refl, sym, ap, ◌∙◌, append_assoc}
use Rattle.std.specs.List.{list_all}
use Rattle.faults.specs.Answers.{first_given, unless_fault}
use Rattle.faults.specs.Bytes.{Text}

module _ {X : Type 0} (all read : List X) (left : List Text) (first : Text) (behind : List Text) (cut : left ≡ first ∷ behind) where
  pub map_more : (f : Text → X) (x : X) → all ≡ read ++ map f left → x ≡ f first → all ≡ (read ++ x ∷ []) ++ map f behind
  map_more f x so_far is =
      so_far ∙ (ap (λ parts. read ++ map f parts) cut ∙ (ap (λ y. read ++ (y ∷ map f behind)) (sym is) ∙ sym (append_assoc read (x ∷ []) (map f behind))))

  pub filter_map_more : (f : Text → Option X) (x : X) → all ≡ read ++ filter_map f left → f first ≡ Some x → all ≡ (read ++ x ∷ []) ++ filter_map f behind
  filter_map_more f x so_far is =
      so_far ∙ (ap (λ parts. read ++ filter_map f parts) cut ∙ rw is (sym (append_assoc read (x ∷ []) (filter_map f behind))))

  pub filter_map_same : (f : Text → Option X) → all ≡ read ++ filter_map f left → f first ≡ None → all ≡ read ++ filter_map f behind
  filter_map_same f so_far is = so_far ∙ (ap (λ parts. read ++ filter_map f parts) cut ∙ rw is refl)

module _ (left : List Text) (first : Text) (behind : List Text) (cut : left ≡ first ∷ behind) where
  pub all_more : (test : Text → Bool) (all : Bool) → all ≡ list_all test left → test first ≡ true → all ≡ list_all test behind
  all_more test all so_far passes = so_far ∙ (ap (list_all test) cut ∙ rw passes refl)

  pub all_failed : (test : Text → Bool) (all : Bool) → all ≡ list_all test left → test first ≡ false → all ≡ false
  all_failed test all so_far fails = so_far ∙ (ap (list_all test) cut ∙ rw fails refl)

  pub first_given_more : {F : Type 0} (f : Text → Option F) (all : Option F) → all ≡ first_given f left → f first ≡ None → all ≡ first_given f behind
  first_given_more f all so_far none = so_far ∙ (ap (first_given f) cut ∙ rw none refl)

-- ---- what a result says about its test

pub ok_from_test : {X F : Type 0} (b : Bool) (x y : X) (e : F) → cond b (Ok x) (Err e) ≡ Ok y → (b ≡ true) × (y ≡ x)
ok_from_test true x y e h = (refl, cc)
ok_from_test false x y e h = cc

pub err_from_test : {X F : Type 0} (b : Bool) (x : X) (e d : F) → cond b (Ok x) (Err e) ≡ Err d → (b ≡ false) × (d ≡ e)
err_from_test true x e d h = cc
err_from_test false x e d h = (refl, cc)

pub ok_from_fault : {X F : Type 0} (fault : Option F) (x y : X) → unless_fault fault x ≡ Ok y → (fault ≡ None) × (y ≡ x)
ok_from_fault None x y h = (refl, cc)
ok_from_fault (Some e) x y h = cc
