use Rattle.std.proofs.Common.{◌≡◌, ◌++◌, bit_xor, drop, length, map, take}
use Rattle.seals.proofs.hmac_key.xored.Given as goal

abbrev pub invariant-loop-place : goal.invariant-loop-place
invariant-loop-place l = record {
  block : length l.xored ≡ length l.block;
  so_far : l.xored ≡ map (λ b. bit_xor b l.pad) (take l.place l.block) ++ drop l.place l.block;
}
