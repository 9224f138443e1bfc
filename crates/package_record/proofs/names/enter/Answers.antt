use Rattle.std.proofs.Common.{◌≡◌, ℕ, List, [], ◌∷◌, map, not, ap, refl, ◌∙◌, Bor}
use Rattle.std.specs.Cmp.Lexicographic.{nat_list_eq_equiv}
use Rattle.std.specs.List.{list_any}
use Rattle.std.specs.Str.{bytes_eq}
use Rattle.faults.specs.Bytes.{is_among}
use Rattle.package_record.proofs.names.enter.Goals as goal

-- a key that equals the name is the name among the texts
among_keys : (name : List ℕ) (keys : List (Bor (List ℕ))) → list_any (λ k. bytes_eq name k.now) keys ≡ is_among (map (λ k. k.now) keys) name
among_keys name [] = refl
among_keys name (k ∷ keys) = rw (nat_list_eq_equiv.symm name k.now, among_keys name keys) refl

pub returns-clause-is_new : goal.returns-clause-is_new
returns-clause-is_new c = c.in_ok-insert.ensures.added ∙ ap not (among_keys c.args.name.now c.args.names.now.keys)
