-- Jobs: what is to be built.
use Rattle.std.specs.Prelude.{ℕ, List}
use Rattle.faults.specs.Bytes.{Text}
use Rattle.claims.specs.declared.claim.Claim.{Claim}
use Rattle.claims.specs.declared.deps.Dep.{Dep}

-- the name of the unit, the paths of its packages, the claim under which they are built, the host
-- that builds them, and the signatures of the packages that they are built on
pub record Task : Type 0 where
  pub path : Text
  pub packages : List Text
  pub claim : Claim
  pub host : ℕ
  pub deps : List Dep
