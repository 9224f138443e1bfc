-- The values of the code, as the specification has them.
use Rattle.std.specs.Prelude.{map}
use Rattle.package_record.specs.Reading as reading
use Rattle.package_record.specs.declared.header.Front.{Front}
use Rattle.package_record.specs.declared.header.Head.{Head}
use Rattle.package_record.specs.declared.header.Header.{Header}

-- the contents of the first five lines
abbrev pub front_of : Front → reading.Front
front_of f = record { name = f.name; path = f.path; host = f.host; claim = f.claim }

-- the contents of the lines of a file
abbrev pub head_of : Head → reading.Head
head_of h = record { name = h.name.now; digest = h.digest; size = h.size; line = h.line }

-- the contents of the header
abbrev pub header_view : Header → reading.Header
header_view h = record {
  front = front_of h.front;
  built = h.built.items;
  run = h.run.items;
  heads = map head_of h.heads.items.items;
}
