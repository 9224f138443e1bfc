use Rattle.std.proofs.Common.{◌≡◌, ℕ, ◌*◌, ◌<◌, List, length, take}
use Rattle.hex.specs.Hex.{IsBytes, encode_lower}
use Rattle.package_record.proofs.digest.digest_of.Given as goal

abbrev pub invariant-loop-i : goal.invariant-loop-i
invariant-loop-i l = record {
  size : length l.digest ≡ 32;
  fits : IsBytes (take l.i l.digest);
  read : l.greatest < 16 → encode_lower (take l.i l.digest) ≡ take (2 * l.i) l.text;
  found : (bytes : List ℕ) → IsBytes bytes → encode_lower bytes ≡ l.text → l.greatest < 16;
}
