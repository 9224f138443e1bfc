-- Which names a spec matches.
use Rattle.std.specs.Prelude.{Bool, not, ◌&&◌, ◌||◌, List, codes, if◌then◌else◌}
use Rattle.std.specs.List.{list_all, list_any}
use Rattle.std.specs.Ordering.{is_eq, is_ge, is_gt, is_le, is_lt}
use Rattle.std.specs.Str.{bytes_eq}
use Rattle.std.specs.declared.cmp.Ordering.{Ordering}
use Rattle.faults.specs.Bytes.{Text, is_among}
use Rattle.pkgname.specs.PkgName.{flavors_of, stem_of, version_of}
use Rattle.pkgname.specs.Order.{version_cmp}
use Rattle.pkgspec.specs.Spec.{Alternative, Bound, Demand}
use Rattle.pkgspec.specs.declared.bound.Relation.{Relation}
use Rattle.pkgspec.specs.declared.bound.Relation.TheVariants.{AtLeast, Above, AtMost, Below, Equal}

-- whether the relation allows a version that compares like this with the bound's version
abbrev pub allows : Relation → Ordering → Bool
allows AtLeast o = is_ge o
allows Above o = is_gt o
allows AtMost o = is_le o
allows Below o = is_lt o
allows Equal o = is_eq o

-- whether the version satisfies the bound
abbrev pub holds : Text → Bound → Bool
holds version bound = allows bound.relation (version_cmp version bound.version)

-- whether the flavor is present if and only if it has to be
abbrev pub is_met_by : List Text → Demand → Bool
is_met_by flavors demand =
    if demand.is_present
    then is_among flavors demand.flavor
    else not (is_among flavors demand.flavor)

-- whether the stem is that of the name, or `STEM`, which fits each name
abbrev pub is_stem_of : Text → Text → Bool
is_stem_of stem name = bytes_eq stem (codes "STEM") || bytes_eq stem (stem_of name)

-- whether the alternative's stem is that of the name, the name's version satisfies all bounds, and
-- its flavors meet all demands
abbrev pub alternative_matches : Text → Alternative → Bool
alternative_matches name a =
    is_stem_of a.stem name
    && list_all (holds (version_of name)) a.bounds
    && list_all (is_met_by (flavors_of name)) a.demands

-- some alternative matches the name
abbrev pub matches : List Alternative → Text → Bool
matches spec name = list_any (alternative_matches name) spec
