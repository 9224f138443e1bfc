use Rattle.std.proofs.Common.{◌≡◌, ◌*◌, length, take}
use Rattle.hex.specs.Hex.{encode_lower}
use Rattle.package_record.proofs.digest.digest_text.Given as goal

abbrev pub invariant-loop-i : goal.invariant-loop-i
invariant-loop-i l = record {
  size : length l.text ≡ 64;
  written : encode_lower (take l.i l.digest) ≡ take (2 * l.i) l.text;
}
