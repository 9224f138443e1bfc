-- The inside of the received notices, and how contracts see it.
use Rattle.std.specs.Prelude.{◌≡◌, true}
use Rattle.std.specs.List.{list_all}
use Rattle.udp.specs.Notices.{NoticesState, is_heard_of}
use Rattle.udp.specs.declared.notices.Notices.TheInside.{Inside}

-- what contracts see of the received notices
abbrev pub notices_view : Inside → NoticesState
notices_view n = record {
  key = n.seal;
  listing = n.listing;
  came = n.heard.all;
  waiting = n.waiting.items;
}

-- Each notice in the queue was received.
abbrev pub WereHeard : Inside → Type 0
WereHeard n = list_all (is_heard_of n.seal n.listing n.heard.all) n.waiting.items ≡ true
