-- Laws of printed lists of packages.
use Rattle.std.specs.Prelude.{List, All, map}
use Rattle.package_lists.specs.List.{AreEntries}
use Rattle.package_lists.specs.ListText.{list_text}
use Rattle.package_record.specs.Content.{Content, IsRecord}
use Rattle.world.specs.Headline.{entry_of}

-- the printed list of packages is read as the list of their entries
abbrev pub PrintedListsAreRead : Type 0
PrintedListsAreRead =
    (packages : List Content) → All IsRecord packages
    → AreEntries (list_text packages) (map entry_of packages)
