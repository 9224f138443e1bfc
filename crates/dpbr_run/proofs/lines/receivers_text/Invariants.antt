use Rattle.std.proofs.Common.{◌≡◌, flat_map, string_bytes, take}
use Rattle.dpbr_run.specs.Events.{receiver_part}
use Rattle.dpbr_run.proofs.lines.receivers_text.Given as goal

abbrev pub invariant-loop-receiver : goal.invariant-loop-receiver
invariant-loop-receiver l = string_bytes l.text ≡ flat_map receiver_part (take l.receiver-index l.receivers)
