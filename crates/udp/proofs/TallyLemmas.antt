-- One member's tally changes.
use Rattle.std.proofs.Common.{◌≡◌, ◌<◌, ◌≤◌, ℕ, zero, suc, List, [], ◌∷◌, ap, arith, get_or, length, refl, set}
use Rattle.udp.specs.Tallies.{with_tally}
use Rattle.udp.specs.declared.tallies.Tally.{Tally}

-- it is put at its place
pub with_tally-set : (goes : Tally → Tally) (member : ℕ) (tallies : List Tally) (d tally : Tally) → member < length tallies → tally ≡ get_or tallies member d → set tallies member (goes tally) ≡ with_tally goes member tallies
with_tally-set goes member [] d tally in_list at = absurd (omega arith)
with_tally-set goes zero (t ∷ tallies) d tally in_list at = ap (λ (x : Tally). goes x ∷ tallies) at
with_tally-set goes (suc member) (t ∷ tallies) d tally in_list at =
    ap (λ (ts : List Tally). t ∷ ts) (with_tally-set goes member tallies d tally (omega arith) at)

-- there is no such member
pub with_tally-beyond : (goes : Tally → Tally) (member : ℕ) (tallies : List Tally) → length tallies ≤ member → tallies ≡ with_tally goes member tallies
with_tally-beyond goes member [] beyond = refl
with_tally-beyond goes zero (t ∷ tallies) beyond = absurd (omega arith)
with_tally-beyond goes (suc member) (t ∷ tallies) beyond =
    ap (λ (ts : List Tally). t ∷ ts) (with_tally-beyond goes member tallies (omega arith))
