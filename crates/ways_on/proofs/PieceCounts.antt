-- The number of datagrams of a text.
use Rattle.std.proofs.Common.{◌≡◌, ◌<◌, ◌≤◌, ◌+◌, ◌*◌, ℕ, zero, suc, length, ap, ◌∙◌, arith}
use Rattle.std.proofs.lemmas.List.FromFn.{length-range_with_len}
use Rattle.wire.specs.Pieces.{numbers_of}
use Rattle.wire.proofs.PieceNumbers.{AreAll, all_numbers}

-- the number of datagrams of a build of this size in bytes
pub same_count : (size q : ℕ) → size ≤ 4194304 → size ≤ q * 32768 → q * 32768 < size + 32768
    → length (numbers_of size) ≡ q
same_count size q few enough close = by (all_numbers size).0 (all_numbers size).1
  where
    by : (count : ℕ) → AreAll size count → length (numbers_of size) ≡ q
    by zero are =
        let all = are.enough few in
        let n = ap length are.same ∙ length-range_with_len 0 zero in
        omega (arith, all, n, enough, close)
    by (suc k) are =
        let all = are.enough few in
        let last = are.within k (omega arith) in
        let n = ap length are.same ∙ length-range_with_len 0 (suc k) in
        omega (arith, all, last, n, enough, close)
