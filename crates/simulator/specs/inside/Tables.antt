-- The tables that a step of a node changes.
use Rattle.std.specs.Prelude.{◌≡◌, List, length, map, take}
use Rattle.world.specs.Growing as datagrams
use Rattle.package_record.specs.Content.{Content}
use Rattle.simulator.specs.declared.tables.Tables.{Tables}

-- the agreed list
abbrev pub list_in : Tables → List Content
list_in p = p.agreed.items

-- The set of paths has exactly the paths of the list's packages, in order.
abbrev pub AreListed : Tables → Type 0
AreListed p = p.listed.keys ≡ map (λ r. r.path) p.agreed.items

-- The new tables extend the old ones at their ends.
pub record HasGrown (old new : Tables) : Type 0 where
  pub sent : datagrams.HasGrown old.sent new.sent
  pub list : take (length old.agreed.items) (list_in new) ≡ list_in old
  pub listed : take (length old.listed.keys) new.listed.keys ≡ old.listed.keys

-- The tables are equal.
pub record AreSame (old new : Tables) : Type 0 where
  pub sent : new.sent ≡ old.sent
  pub list : list_in new ≡ list_in old
  pub listed : new.listed.keys ≡ old.listed.keys
