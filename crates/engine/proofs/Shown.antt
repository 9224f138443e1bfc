-- The counts of letters after one letter is replaced.
use Rattle.std.proofs.Common.{◌≡◌, ◌+◌, ◌<◌, ◌==◌, ℕ, List, get_or, length, set, cond, refl, sym, ap, ◌∙◌, arith}
use Rattle.std.proofs.lemmas.List.Sums.{sum_by-set}
use Rattle.engine.specs.State.{count_of, counts_of, index_of}
use Rattle.engine.specs.declared.Counts.{Counts}
use Rattle.engine.specs.declared.Letter.{Letter}
use Rattle.engine.specs.declared.Letter.TheVariants.{T, Q, B, I, Ignored}
use Rattle.engine.specs.shared.Shown.{same_letter, tally}
use Rattle.graph.proofs.Lists.{get_or-same}

pub tally-counts : (letters : List Letter) (l : Letter) → tally (counts_of letters) l ≡ count_of l letters
tally-counts letters T = refl
tally-counts letters Q = refl
tally-counts letters B = refl
tally-counts letters I = refl
tally-counts letters Ignored = refl

same_counts : (c : Counts) (letters : List Letter) → ((l : Letter) → tally c l ≡ count_of l letters) → c ≡ counts_of letters
same_counts c letters same = λ k. record { i = (same I) k; b = (same B) k; q = (same Q) k; t = (same T) k; ignored = (same Ignored) k }

pub counts-set : (letters : List Letter) (p : ℕ) (old new : Letter) (before mid after : Counts) → p < length letters → before ≡ counts_of letters → old ≡ get_or letters p old
    → ((l : Letter) → tally mid l + same_letter old l ≡ tally before l) → ((l : Letter) → tally after l ≡ tally mid l + same_letter new l)
    → after ≡ counts_of (set letters p new)
counts-set letters p old new before mid after within are read taken added = same_counts after (set letters p new) (λ l.
    let changed = sum_by-set (λ x. cond (index_of x == index_of l) 1 0) letters p new Ignored within in
    let here : same_letter (get_or letters p Ignored) l ≡ same_letter old l = ap (λ x. same_letter x l) (sym (read ∙ get_or-same letters p old Ignored within)) in
    omega (arith, changed, here, taken l, added l, ap (λ c. tally c l) are, tally-counts letters l))
