-- What of a desk stays.
use Rattle.std.specs.Prelude.{◌≡◌, ◌<◌, ℕ, nat_eq, vec_capacity, vec_len}
use Rattle.indexmap.specs.IndexMap.{spare}
use Rattle.indexmap.specs.IndexSet.{contains, spare as spare_of}
use Rattle.scheduler.specs.declared.desk.Desk.{Desk}

-- All but what is out stays.
abbrev pub IsSameButOut : Desk → Desk → Type 0
IsSameButOut old new = new ≡ record old { out = new.out }

-- All but what failed, here and elsewhere, stays.
abbrev pub IsSameButFailed : Desk → Desk → Type 0
IsSameButFailed old new =
    new ≡ record old { failed = new.failed; failed_elsewhere = new.failed_elsewhere }

-- All but what is out, what failed here with its marks and notices, and for what is to be asked at
-- once stays.
abbrev pub IsSameButMoved : Desk → Desk → Type 0
IsSameButMoved old new =
    new ≡ record old {
      out = new.out;
      failed = new.failed;
      unwritten = new.unwritten;
      notices = new.notices;
      pressing = new.pressing;
    }

-- There is room for one more build that failed, and for what is due then.
pub record HasRoom (d : Desk) : Type 0
  where
    pub failed : 0 < spare d.failed
    pub unwritten : 0 < spare_of d.unwritten
    pub pressing : vec_len d.pressing < vec_capacity d.pressing
    pub unsent : vec_len d.notices.unsent < vec_capacity d.notices.unsent

-- What failed is what it was, and so is what is due.
pub record AreSameFailed (old new : Desk) : Type 0
  where
    pub out : new.out ≡ old.out
    pub failed : new.failed.entries ≡ old.failed.entries
    pub unwritten : (u : ℕ) → contains nat_eq new.unwritten u ≡ contains nat_eq old.unwritten u
    pub pressing : new.pressing.items ≡ old.pressing.items
    pub unsent : new.notices.unsent.items ≡ old.notices.unsent.items

-- All but where else builds failed stays.
abbrev pub IsSameButTried : Desk → Desk → Type 0
IsSameButTried old new = new ≡ record old { failed_elsewhere = new.failed_elsewhere }

-- All but what is out and what was returned, and for what is to be asked at once stays.
abbrev pub IsSameButReturned : Desk → Desk → Type 0
IsSameButReturned old new =
    new ≡ record old { out = new.out; returned = new.returned; pressing = new.pressing }

-- All but what others said of units stays.
abbrev pub IsSameButHeard : Desk → Desk → Type 0
IsSameButHeard old new =
    new ≡ record old {
      failed_elsewhere = new.failed_elsewhere;
      named = new.named;
      given_back = new.given_back;
    }

-- Nothing that others said of units is kept.
pub record IsNothingHeard (old new : Desk) : Type 0
  where
    pub failed_elsewhere : new.failed_elsewhere.entries ≡ old.failed_elsewhere.entries
    pub named : new.named.entries ≡ old.named.entries
    pub given_back : new.given_back.entries ≡ old.given_back.entries

-- All but the last question stays.
abbrev pub IsSameButAsked : Desk → Desk → Type 0
IsSameButAsked old new =
    new ≡ record old {
      pressing = new.pressing;
      next = new.next;
      last = new.last;
      asked_at = new.asked_at;
    }

-- the old desk, with what others said of units to the new one
abbrev pub with_heard : Desk → Desk → Desk
with_heard old new =
    record old {
      failed_elsewhere = new.failed_elsewhere;
      named = new.named;
      given_back = new.given_back;
    }

-- the old desk, with the new one's last question
abbrev pub with_asked : Desk → Desk → Desk
with_asked old new = record old { next = new.next; last = new.last; asked_at = new.asked_at }

-- All but what is out, what failed with its marks and notices, what was returned, what others said
-- of units, and the questions stays.
abbrev pub IsSameButTaken : Desk → Desk → Type 0
IsSameButTaken old new =
    new ≡ record (with_heard (with_asked old new) new) {
      out = new.out;
      failed = new.failed;
      unwritten = new.unwritten;
      notices = new.notices;
      returned = new.returned;
      pressing = new.pressing;
    }

-- All but what is out, whether the desk catches up or resumes, for what is to be asked at once, and
-- what was seen stays.
abbrev pub IsSameButSeen : Desk → Desk → Type 0
IsSameButSeen old new =
    new ≡ record old {
      out = new.out;
      pressing = new.pressing;
      is_catching_up = new.is_catching_up;
      resumes = new.resumes;
      early = new.early;
      seen = new.seen;
      looked_at = new.looked_at;
    }
