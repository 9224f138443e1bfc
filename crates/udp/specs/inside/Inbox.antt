-- The inside of an inbox, and how contracts see it.
use Rattle.std.specs.Prelude.{◌≡◌, not, true}
use Rattle.std.specs.List.{list_all}
use Rattle.udp.specs.Inbox.{InboxState, is_vouched_for}
use Rattle.udp.specs.Notices.{is_notice}
use Rattle.udp.specs.Ways.{in_line}
use Rattle.udp.specs.declared.inbox.Inbox.TheInside.{Inside}

-- what contracts see of an inbox: its key, all received bytes that encode a text, and the queue
abbrev pub inbox_view : Inside → InboxState
inbox_view i = record {
  key = i.seal;
  came = i.heard.all;
  waiting = in_line i.come.waiting.items;
}

-- Each queued text was received.
abbrev pub AreVouchedFor : Inside → Type 0
AreVouchedFor i =
    list_all (λ w. is_vouched_for i.seal i.heard.all w.1) (in_line i.come.waiting.items) ≡ true

-- No text in the queue begins as a notice does.
abbrev pub ArePlain : Inside → Type 0
ArePlain i = list_all (λ w. not (is_notice w.1)) (in_line i.come.waiting.items) ≡ true

-- Each queued text was received, and none begins as a notice does.
pub record IsSound (i : Inside) : Type 0 where
  pub vouched : AreVouchedFor i
  pub plain : ArePlain i
