-- Whether records have equal contents.
use Rattle.std.specs.Prelude.{Bool, ◌&&◌, ◌==◌}
use Rattle.std.specs.Cmp.Lexicographic.{pointwise}
use Rattle.std.specs.Str.{bytes_eq}
use Rattle.claims.specs.Claims.{claim_same}
use Rattle.package_record.specs.BuildReading.{is_same_dep}
use Rattle.package_record.specs.Content.{Content, NamedFile}

-- whether the files have equal names and bytes
abbrev pub is_same_file : NamedFile → NamedFile → Bool
is_same_file f g = bytes_eq f.name g.name && bytes_eq f.bytes g.bytes

-- whether the records have equal contents
abbrev pub is_same_content : Content → Content → Bool
is_same_content c d =
    bytes_eq c.path d.path
    && bytes_eq c.name d.name
    && c.host == d.host
    && claim_same c.claim d.claim
    && pointwise is_same_dep c.built d.built
    && pointwise bytes_eq c.run d.run
    && pointwise is_same_file c.files d.files
