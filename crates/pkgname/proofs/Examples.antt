-- The definitions applied to names and versions with known results.
use Rattle.std.proofs.Common.{◌≡◌, ◌++◌, codes, refl, Ok, Err, replicate, [], ◌∷◌, Some}
use Rattle.std.proofs.Common.{Less, Equal, Greater}
use Rattle.pkgname.specs.PkgName.{name_of, stem_of, version_of, flavors_of}
use Rattle.pkgname.specs.Order.{version_cmp}
use Rattle.pkgname.specs.Version.{parts_of}
use Rattle.pkgname.specs.declared.NameFault.TheVariants.{TooLong, BadByte, NoVersion}

example_stem : stem_of (codes "p5-XML-Parser-2.36p0v1") ≡ codes "p5-XML-Parser"
example_stem = refl

example_version : version_of (codes "p5-XML-Parser-2.36p0v1") ≡ codes "2.36p0v1"
example_version = refl

example_no_flavors : flavors_of (codes "p5-XML-Parser-2.36p0v1") ≡ []
example_no_flavors = refl

example_flavors : flavors_of (codes "foo-3-gtk2-no_x11") ≡ codes "gtk2" ∷ codes "no_x11" ∷ []
example_flavors = refl

example_parts : parts_of (codes "2.36p0v1") ≡ record {
  v = Some 1;
  components = record { number = 2; rest = [] } ∷ record { number = 36; rest = [] } ∷ [];
  p = Some 0;
}
example_parts = refl

example_no_version : name_of (codes "vim") ≡ Err NoVersion
example_no_version = refl

example_dash_first : name_of (codes "-1.0") ≡ Err NoVersion
example_dash_first = refl

example_empty : name_of [] ≡ Err NoVersion
example_empty = refl

example_empty_flavor : name_of (codes "foo-1-") ≡ Err BadByte
example_empty_flavor = refl

example_bad_byte : name_of (codes "fo*o") ≡ Err BadByte
example_bad_byte = refl

example_longest : name_of (codes "a-" ++ replicate 253 49) ≡ Ok (codes "a-" ++ replicate 253 49)
example_longest = refl

example_too_long : name_of (codes "*-" ++ replicate 254 49) ≡ Err TooLong
example_too_long = refl

example_alpha : version_cmp (codes "1.0alpha2") (codes "1.0beta1") ≡ Less
example_alpha = refl

example_beta : version_cmp (codes "1.0beta1") (codes "1.0rc1") ≡ Less
example_beta = refl

example_rc : version_cmp (codes "1.0rc1") (codes "1.0") ≡ Less
example_rc = refl

example_p : version_cmp (codes "1.0") (codes "1.0p0") ≡ Less
example_p = refl

example_ends_first : version_cmp (codes "1.0p0") (codes "1.0.1") ≡ Less
example_ends_first = refl

example_pl : version_cmp (codes "1.0.1") (codes "1.0pl1") ≡ Less
example_pl = refl

example_letter : version_cmp (codes "1.0pl1") (codes "1.0a") ≡ Less
example_letter = refl

example_greater_number : version_cmp (codes "1.0a") (codes "1.9") ≡ Less
example_greater_number = refl

example_ten : version_cmp (codes "1.9") (codes "1.10") ≡ Less
example_ten = refl

example_v : version_cmp (codes "1.10") (codes "0.9v0") ≡ Less
example_v = refl

example_other_way : version_cmp (codes "0.9v0") (codes "1.10") ≡ Greater
example_other_way = refl

example_leading_zero : version_cmp (codes "1.02") (codes "1.2") ≡ Equal
example_leading_zero = refl
