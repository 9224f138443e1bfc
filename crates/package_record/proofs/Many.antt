-- Parsing while there is one more element.
use Rattle.std.proofs.Common.{◌≡◌, ℕ, zero, suc, ◌<◌, ◌≤◌, List, [], ◌∷◌, ◌++◌, length, Option, Some, None, Result, Ok, Err, refl, sym, ap, subst, ◌∙◌, append_assoc, arith}
use Rattle.std.specs.List.{flat_map}
use Rattle.std.proofs.lemmas.List.{append-nil}
use Rattle.faults.specs.Bytes.{Text}
use Rattle.package_record.proofs.Steps.{bind_ok, ok_is}
use Rattle.package_record.specs.inside.Given.{Fails}
use Rattle.package_record.specs.Reading.{Place, all_at, go_on, many_at}
use Rattle.package_record.specs.declared.RecordFault.{RecordFault}
use Rattle.package_record.specs.declared.fault.ReadError.{ReadError}
use Rattle.package_record.specs.declared.fault.ReadError.TheVariants as errors

-- what is still to be parsed gives the total, and the fuel suffices for it
pub record Fueled {X : Type 0} (one : List X → Place → Result (Option X × Place) RecordFault) (front : List X) (p : Place) (total : Result (List X × Place) RecordFault) : Type 0 where
  pub fuel : ℕ
  pub enough : length p.lines ≤ fuel
  pub gives : many_at one fuel front p ≡ total

pub fueled_start : {X : Type 0} (one : List X → Place → Result (Option X × Place) RecordFault) (p : Place) → Fueled one [] p (all_at one p)
fueled_start one p = record { fuel = length p.lines; enough = omega arith; gives = refl }

module _ {X : Type 0} (one : List X → Place → Result (Option X × Place) RecordFault) (front : List X) (p : Place) (total : Result (List X × Place) RecordFault) where
  more : (k : ℕ) → length p.lines ≤ k → many_at one k front p ≡ total → (x : X) (q : Place) → one front p ≡ Ok (Some x, q) → length q.lines < length p.lines → Fueled one (front ++ x ∷ []) q total
  unfolding many_at
  more zero enough gives x q e lt = absurd (omega arith)
  more (suc k) enough gives x q e lt = record { fuel = k; enough = omega arith; gives = sym (rw e refl) ∙ gives }

  pub fueled_more : Fueled one front p total → (x : X) (q : Place) → one front p ≡ Ok (Some x, q) → length q.lines < length p.lines → Fueled one (front ++ x ∷ []) q total
  fueled_more f = more f.fuel f.enough f.gives

  ends : (k : ℕ) → length p.lines ≤ k → many_at one k front p ≡ total → 0 < length p.lines → (q : Place) → one front p ≡ Ok (None, q) → total ≡ Ok (front, q)
  unfolding many_at
  ends zero enough gives some q e = absurd (omega arith)
  ends (suc k) enough gives some q e = sym gives ∙ rw e refl

  pub fueled_end : Fueled one front p total → 0 < length p.lines → (q : Place) → one front p ≡ Ok (None, q) → total ≡ Ok (front, q)
  fueled_end f = ends f.fuel f.enough f.gives

  fails : (k : ℕ) → length p.lines ≤ k → many_at one k front p ≡ total → 0 < length p.lines → (fault : RecordFault) → one front p ≡ Err fault → total ≡ Err fault
  unfolding many_at
  fails zero enough gives some fault e = absurd (omega arith)
  fails (suc k) enough gives some fault e = sym gives ∙ rw e refl

  pub fueled_fails : (e : ReadError) → Fueled one front p total → 0 < length p.lines → Fails e (one front p) → Fails e total
  fueled_fails errors.Memory f some h = tt
  fueled_fails (errors.Fault d) f some h = fails f.fuel f.enough f.gives some d h

-- the elements that were parsed one after the other, their lines, and the place after them
module _ {X : Type 0} (one : List X → Place → Result (Option X × Place) RecordFault) (lines : X → List Text) (Keeps : List X → Type 0)
    (step : (front : List X) (p : Place) (x : X) (q : Place) → one front p ≡ Ok (Some x, q) → Keeps front → (p.lines ≡ lines x ++ q.lines) × Keeps (front ++ x ∷ [])) where
  pub record Took (front : List X) (p : Place) (xs : List X) (q : Place) : Type 0 where
    pub more : List X
    pub last : Place
    pub all : xs ≡ front ++ more
    pub parts : p.lines ≡ flat_map lines more ++ last.lines
    pub stops : one xs last ≡ Ok (None, q)
    pub keeps : Keeps xs

  goes : (front : List X) (p : Place) (xs : List X) (q : Place) (again : List X → Place → Result (List X × Place) RecordFault)
      → ((x : X) (m : Place) → again (front ++ x ∷ []) m ≡ Ok (xs, q) → Keeps (front ++ x ∷ []) → Took (front ++ x ∷ []) m xs q)
      → Keeps front → (r : Option X × Place) → one front p ≡ Ok r → go_on again front r ≡ Ok (xs, q) → Took front p xs q
  goes front p xs q again hyp kept (None, m) here there =
      let same = ok_is (front, m) (xs, q) there in
      let at_xs : front ≡ xs = ap (λ (x : List X × Place). x.0) same in
      let at_q : m ≡ q = ap (λ (x : List X × Place). x.1) same in
      record {
        more = [];
        last = p;
        all = sym at_xs ∙ sym (append-nil front);
        parts = refl;
        stops = subst (λ (ys : List X). one ys p ≡ Ok (None, q)) at_xs (here ∙ ap (λ (m : Place). Ok (None, m)) at_q);
        keeps = subst Keeps at_xs kept;
      }
  goes front p xs q again hyp kept (Some x, m) here there =
      let one_more = step front p x m here kept in
      let rest = hyp x m there one_more.1 in
      record {
        more = x ∷ rest.more;
        last = rest.last;
        all = rest.all ∙ append_assoc front (x ∷ []) rest.more;
        parts = one_more.0 ∙ ap (λ (ls : List Text). lines x ++ ls) rest.parts ∙ sym (append_assoc (lines x) (flat_map lines rest.more) rest.last.lines);
        stops = rest.stops;
        keeps = rest.keeps;
      }

  pub many_taken : (k : ℕ) (front : List X) (p : Place) (xs : List X) (q : Place) → many_at one k front p ≡ Ok (xs, q) → Keeps front → Took front p xs q
  unfolding many_at
  many_taken zero front p xs q e kept = absurd cc
  many_taken (suc k) front p xs q e kept =
      let a = bind_ok (one front p) (go_on (many_at one k) front) (xs, q) e in
      goes front p xs q (many_at one k) (λ x m there kept. many_taken k (front ++ x ∷ []) m xs q there kept) kept a.0 a.1 a.2
