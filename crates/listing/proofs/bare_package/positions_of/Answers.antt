use Rattle.std.proofs.Common.{◌++◌, nat_eq, ap, sym, subst, ◌∙◌}
use Rattle.std.specs.List.Sorted.{IsStrictlyIncreasing}
use Rattle.std.specs.List.{dedup}
use Rattle.std.proofs.lemmas.List.Filters.{dedup_is}
use Rattle.std.proofs.lemmas.List.Kept.{Contains-dedup_nat, Contains-from_dedup}
use Rattle.std.proofs.lemmas.List.Sorted.{Contains-permutation, IsPermutation-sym}
use Rattle.std.proofs.lemmas.Map.Keys.{IsStrictlyIncreasing-dedup}
use Rattle.listing.specs.inside.BarePackages.{listed_positions}
use Rattle.listing.proofs.Members.{has, has_same}
use Rattle.listing.proofs.bare_package.positions_of.Goals as goal

pub returns : goal.returns
returns c =
    let unsorted = c.add_positions-2.new.found.items in
    let sorted = c.sort_unstable.new.self.items in
    let once = dedup_is _ sorted c.dedup.new.self.items c.dedup.ensures.filtered in
    let front = c.in_ok-add_positions.ensures ∙ ap (λ xs. xs ++ listed_positions c.args.resolutions.now c.args.first.now) c.in_ok-found.ensures.items in
    let whole = c.in_ok-add_positions-2.ensures ∙ ap (λ xs. xs ++ listed_positions c.args.resolutions.now c.args.second.now) front in
    record {
      rising = subst IsStrictlyIncreasing (sym once) (IsStrictlyIncreasing-dedup sorted c.sort_unstable.ensures.sorted);
      members = λ p.
          ap (has p) once
          ∙ has_same (dedup nat_eq sorted) sorted p (Contains-from_dedup nat_eq sorted p) (Contains-dedup_nat sorted p)
          ∙ has_same sorted unsorted p (Contains-permutation sorted unsorted p (IsPermutation-sym unsorted sorted c.sort_unstable.ensures.permutation))
          (Contains-permutation unsorted sorted p c.sort_unstable.ensures.permutation)
          ∙ ap (has p) whole;
    }
