-- Lemmas about notices.
use Rattle.std.proofs.Common.{◌≡◌, ◌∙◌, ◌<◌, Bool, true, false, List, [], ◌∷◌, ◌++◌, Option, None, Some, ap, append_assoc, ltb, refl, subst, sym}
use Rattle.std.specs.List.{list_all}
use Rattle.std.specs.declared.net.socket_addr.SocketAddr.{SocketAddr}
use Rattle.std.proofs.lemmas.Bool.{lt-ltb}
use Rattle.std.proofs.lemmas.List.{append-nil}
use Rattle.std.proofs.lemmas.List.Folds.{list_all-append}
use Rattle.faults.specs.Bytes.{Text, is_among}
use Rattle.udp.proofs.InboxLemmas.{all_follow, among_last, among_more, both}
use Rattle.udp.specs.Inbox.{came_as, is_vouched_for}
use Rattle.udp.specs.Notices.{BecameNotice, NoticesGoOn, NoticesState, is_heard_of, notice_text}
use Rattle.udp.specs.declared.inbox.Came.{Came}
use Rattle.udp.specs.declared.inbox.Came.TheVariants.{Lost, Repeated, Unsealed, Waits}
use Rattle.udp.specs.declared.notice.Listing.{Listing}
use Rattle.udp.specs.declared.notice.Notice.{Notice}
use Rattle.udp.specs.declared.sockets.Seat.{Seat}

-- if nothing changed, all notices are kept
pub kept : (s : NoticesState) → NoticesGoOn s s
kept s = record {
  key = refl;
  listing = refl;
  bytes = [];
  came = sym (append-nil s.came);
  notices = [];
  waiting = sym (append-nil s.waiting);
}

-- transitivity
pub NoticesGoOn-more : (old between new : NoticesState) → NoticesGoOn old between → NoticesGoOn between new → NoticesGoOn old new
NoticesGoOn-more old between new first second = record {
  key = second.key ∙ first.key;
  listing = second.listing ∙ first.listing;
  bytes = first.bytes ++ second.bytes;
  came = second.came ∙ (ap (λ (t : List Text). t ++ second.bytes) first.came ∙ append_assoc old.came first.bytes second.bytes);
  notices = first.notices ++ second.notices;
  waiting = second.waiting ∙ (ap (λ (t : List Notice). t ++ second.notices) first.waiting ∙ append_assoc old.waiting first.notices second.notices);
}

-- whatever was done with bytes that begin as a notice does
pub notices_went_on : (seats : List Seat) (members : List SocketAddr) (is_open : Bool) (from : SocketAddr) (bytes : Text) (old new : NoticesState) (came : Came)
    → BecameNotice seats members is_open from bytes old new came → NoticesGoOn old new
notices_went_on seats members is_open from bytes old new Waits (notice, read, may, same) = record {
  key = ap (λ (s : NoticesState). s.key) same;
  listing = ap (λ (s : NoticesState). s.listing) same;
  bytes = bytes ∷ [];
  came = ap (λ (s : NoticesState). s.came) same;
  notices = notice ∷ [];
  waiting = ap (λ (s : NoticesState). s.waiting) same;
}
notices_went_on seats members is_open from bytes old new Lost became = subst (λ (s : NoticesState). NoticesGoOn old s) (sym became.0) (kept old)
notices_went_on seats members is_open from bytes old new Unsealed became = subst (λ (s : NoticesState). NoticesGoOn old s) (sym became.0) (kept old)
notices_went_on seats members is_open from bytes old new Repeated became = absurd became

-- ---- received notices

module _ (key : Option Text) (came : List Text) (bytes : Text) where
  -- what was heard still is after more bytes were received
  still_heard : (listing : Option Listing) (notice : Notice) → is_heard_of key listing came notice ≡ true → is_heard_of key listing (came ++ bytes ∷ []) notice ≡ true
  still_heard None notice heard = absurd (let bad : false ≡ true = heard in cc)
  still_heard (Some listing) notice heard =
      let parts = both (is_vouched_for key came (notice_text listing.digest notice)) (ltb notice.unit listing.units) heard in
      rw (among_more came bytes (came_as key (notice_text listing.digest notice)) parts.0, parts.1) refl

  -- the notice that the bytes encode is heard
  new_heard : (listing : Listing) (notice : Notice) → bytes ≡ came_as key (notice_text listing.digest notice) → notice.unit < listing.units
      → is_heard_of key (Some listing) (came ++ bytes ∷ []) notice ≡ true
  new_heard listing notice is known =
      let among : is_vouched_for key (came ++ bytes ∷ []) (notice_text listing.digest notice) ≡ true =
      ap (is_among (came ++ bytes ∷ [])) (sym is) ∙ among_last came bytes in
      rw (among, lt-ltb notice.unit listing.units known) refl

  -- so all are that are queued, the new one included
  all_heard : (listing : Listing) (waiting : List Notice) (notice : Notice) → bytes ≡ came_as key (notice_text listing.digest notice) → notice.unit < listing.units
      → list_all (is_heard_of key (Some listing) came) waiting ≡ true → list_all (is_heard_of key (Some listing) (came ++ bytes ∷ [])) (waiting ++ notice ∷ []) ≡ true
  all_heard listing waiting notice is known before =
      let old = all_follow (is_heard_of key (Some listing) came) (is_heard_of key (Some listing) (came ++ bytes ∷ [])) (still_heard (Some listing)) waiting before in
      list_all-append (is_heard_of key (Some listing) (came ++ bytes ∷ [])) waiting (notice ∷ []) ∙ rw (old, new_heard listing notice is known) refl

  -- for a port that reads notices
  pub heard_more : (listing : Option Listing) (waiting : List Notice) (notice : Notice)
      → (l : Listing) × (listing ≡ Some l) × (bytes ≡ came_as key (notice_text l.digest notice)) × (notice.unit < l.units)
      → list_all (is_heard_of key listing came) waiting ≡ true → list_all (is_heard_of key listing (came ++ bytes ∷ [])) (waiting ++ notice ∷ []) ≡ true
  heard_more listing waiting notice (l, is, encoded, known) before =
      subst (λ (o : Option Listing). list_all (is_heard_of key o (came ++ bytes ∷ [])) (waiting ++ notice ∷ []) ≡ true) (sym is)
      (all_heard l waiting notice encoded known (subst (λ (o : Option Listing). list_all (is_heard_of key o came) waiting ≡ true) is before))
