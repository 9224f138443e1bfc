use Rattle.std.proofs.Common.{◌≡◌, ◌*◌, ◌<◌, drop, length, take}
use Rattle.hex.specs.Hex.{decode_pairs}
use Rattle.hex.proofs.Pairs.{prepend}
use Rattle.traces.proofs.digits.read_pairs.Given as goal

abbrev pub invariant-pairs : goal.invariant-pairs
invariant-pairs l = record {
  each : length l.bytes ≡ length l.initial.bytes;
  read : l.greatest < 16 → decode_pairs 0 l.text ≡ prepend (take l.place l.bytes) (decode_pairs (2 * l.place) (drop (2 * l.place) l.text));
}
