-- The inside of an outbox, and how contracts see it.
use Rattle.std.specs.Prelude.{◌≡◌, true, None, Some, if◌then◌else◌, take}
use Rattle.udp.specs.Inbox.{came_as}
use Rattle.udp.specs.Outbox.{OutboxState}
use Rattle.udp.specs.declared.outbox.Outbox.TheInside.{Inside}

-- what contracts see of an outbox: its key, and the last bytes, if any were made
abbrev pub outbox_view : Inside → OutboxState
outbox_view o = record {
  key = o.seal;
  made = if o.is_made then Some o.last.items else None;
}

-- The bytes that were made encode the text that they begin with.
abbrev pub IsLastText : Inside → Type 0
IsLastText o = o.is_made ≡ true → o.last.items ≡ came_as o.seal (take o.len o.last.items)
