-- Contents that are compared as equal are equal.
use Rattle.std.specs.Prelude.{◌≡◌, Bool, List, refl}
use Rattle.std.proofs.Common.{ap}
use Rattle.std.specs.Bool.{Decides}
use Rattle.std.specs.Cmp.Lexicographic.{pointwise}
use Rattle.std.specs.Str.{bytes_eq}
use Rattle.std.proofs.lemmas.Bool.Decides.{Decides-and, Decides-eqb}
use Rattle.std.proofs.lemmas.Slice.Eq.{bytes_eq-Decides, slice_eq-Decides}
use Rattle.claims.specs.Claims.{claim_same}
use Rattle.claims.specs.declared.claim.Claim.{Claim}
use Rattle.claims.specs.declared.deps.Dep.{Dep}
use Rattle.package_record.specs.BuildReading.{is_same_dep}
use Rattle.package_record.specs.Content.{Content, NamedFile}
use Rattle.package_record.specs.inside.Same.{is_same_content, is_same_file}

-- two files are equal if their names and bytes are
same_files : (f g : NamedFile) → Decides (is_same_file f g) (f ≡ g)
same_files f g = (
  λ t. let h = parts.0 t in λ i. record { name = h.0 i; bytes = h.1 i },
  λ e. parts.1 (ap (λ (x : NamedFile). x.name) e, ap (λ (x : NamedFile). x.bytes) e),
)
  where
    parts : Decides (is_same_file f g) ((f.name ≡ g.name) × (f.bytes ≡ g.bytes))
    parts = Decides-and (bytes_eq f.name g.name) (bytes_eq f.bytes g.bytes) (bytes_eq-Decides f.name g.name) (bytes_eq-Decides f.bytes g.bytes)

same_deps : (d e : Dep) → Decides (is_same_dep d e) (d ≡ e)
same_deps d e = (
  λ t. let h = parts.0 t in λ i. record { path = h.0.0 i; name = h.0.1 i; digest = h.1 i },
  λ eq. parts.1 ((ap (λ (x : Dep). x.path) eq, ap (λ (x : Dep). x.name) eq), ap (λ (x : Dep). x.digest) eq),
)
  where
    parts : Decides (is_same_dep d e) (((d.path ≡ e.path) × (d.name ≡ e.name)) × (d.digest ≡ e.digest))
    parts = Decides-and _ _ (Decides-and _ _ (bytes_eq-Decides d.path e.path) (bytes_eq-Decides d.name e.name))
        (bytes_eq-Decides d.digest e.digest)

claims_decide : (c d : Claim) → Decides (claim_same c d) (c ≡ d)
claims_decide c d = (
  λ t. let h = parts.0 t in λ i. record { round = h.0 i; member = h.1 i },
  λ e. parts.1 (ap (λ (x : Claim). x.round) e, ap (λ (x : Claim). x.member) e),
)
  where
    parts : Decides (claim_same c d) ((c.round ≡ d.round) × (c.member ≡ d.member))
    parts = Decides-and _ _ (Decides-eqb c.round d.round) (Decides-eqb c.member d.member)

-- the package, the host that built it, and the claim are equal
abbrev IsMadeAlike : Content → Content → Type 0
IsMadeAlike c d = (((c.path ≡ d.path) × (c.name ≡ d.name)) × (c.host ≡ d.host)) × (c.claim ≡ d.claim)

same_contents : (c d : Content) → Decides (is_same_content c d) (c ≡ d)
same_contents c d = (
  λ t. let h = parts.0 t in λ i. record {
    path = h.0.0.0.0.0.0 i;
    name = h.0.0.0.0.0.1 i;
    host = h.0.0.0.0.1 i;
    claim = h.0.0.0.1 i;
    built = h.0.0.1 i;
    run = h.0.1 i;
    files = h.1 i;
  },
  λ e. parts.1 (((made e, ap (λ (x : Content). x.built) e), ap (λ (x : Content). x.run) e), ap (λ (x : Content). x.files) e),
)
  where
    made : c ≡ d → IsMadeAlike c d
    made e = (((ap (λ (x : Content). x.path) e, ap (λ (x : Content). x.name) e), ap (λ (x : Content). x.host) e), ap (λ (x : Content). x.claim) e)

    parts : Decides (is_same_content c d) (((IsMadeAlike c d × (c.built ≡ d.built)) × (c.run ≡ d.run)) × (c.files ≡ d.files))
    parts = Decides-and _ _ (Decides-and _ _ (Decides-and _ _ (Decides-and _ _ (Decides-and _ _ (Decides-and _ _
        (bytes_eq-Decides c.path d.path)
        (bytes_eq-Decides c.name d.name))
        (Decides-eqb c.host d.host))
        (claims_decide c.claim d.claim))
        (slice_eq-Decides same_deps c.built d.built _ refl))
        (slice_eq-Decides bytes_eq-Decides c.run d.run _ refl))
        (slice_eq-Decides same_files c.files d.files _ refl)

-- lists that are compared as equal are equal
pub same_records : (cs ds : List Content) (r : Bool) → r ≡ pointwise is_same_content cs ds → Decides r (cs ≡ ds)
same_records = slice_eq-Decides same_contents
