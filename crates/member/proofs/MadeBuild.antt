-- The build of a unit that its job and files make.
use Rattle.std.proofs.Common.{◌≡◌, ◌==◌, ◌<◌, ℕ, suc, Bool, true, false, All, List, [], ◌∷◌, length}
use Rattle.std.proofs.Common.{map, not, Option, None, Some, Ok, Err, arith, refl, sym, ap, subst}
use Rattle.std.proofs.Common.{◌∙◌, option_map, if◌then◌else◌}
use Rattle.std.specs.Prelude.{Contains, option_and_then, unwrap_or}
use Rattle.std.specs.List.{slice_index_or}
use Rattle.std.proofs.lemmas.List.{get_or-map, length-map}
use Rattle.std.proofs.lemmas.List.Elements.{Contains-get_or}
use Rattle.faults.specs.Answers.{first_that_applies, option_or, unless_fault}
use Rattle.faults.specs.Bytes.{Text}
use Rattle.faults.proofs.Members.{contains_first, contains_later}
use Rattle.claims.specs.Claim.{IsClaim}
use Rattle.claims.specs.Deps.{is_ascending}
use Rattle.claims.specs.Job.{Task}
use Rattle.engine.specs.Tree.{Tree, path_at, run_at}
use Rattle.pkgpath.specs.PkgPath.{without_subpackage}
use Rattle.package_record.specs.Content.{Content}
use Rattle.package_record.specs.Making.{build_fault}
use Rattle.package_record.specs.Packages.{AreOfOneGroup, contents_of}
use Rattle.package_record.specs.declared.RecordFault.{RecordFault}
use Rattle.package_record.specs.declared.build.Package.{Package}
use Rattle.engine.specs.Division.{unit_at}
use Rattle.protocol.specs.Given.{Given}
use Rattle.protocol.specs.State.{OpenClaim, Progress, Gathering, Building, Voting, State, Value}
use Rattle.protocol.specs.Member.{IsMember, claim_in}
use Rattle.protocol.specs.Jobs.{are_given, build_by, paths_at, record_by}
use Rattle.protocol.specs.Step.{job_again, made_by, unit_in}
use Rattle.protocol.specs.declared.refusal.Refusal.TheVariants.{BadFiles, OtherPackages}
use Rattle.member.specs.inside.Packages.{FilesByPath, Made, files_at, made_at, made_of}
use Rattle.member.specs.inside.Waiting.{job_at, waiting_for}
use Rattle.member.proofs.GivenFiles.{files_are_found}
use Rattle.protocol.proofs.PackageOrder.{in_order_ascends}

-- ---- the claim of a job

-- the claim of the job is one that a member can have made
pub job_is_claimed : (s : State) (u : ℕ) (job : Task) → IsMember s → job_at s u ≡ Some job
    → IsClaim job.claim
job_is_claimed s u job is e = by_claim s.claim refl e
  where
    by_progress : (o : OpenClaim) (p : Progress) → IsClaim (claim_in p)
        → job_again s o p ≡ Some job → IsClaim job.claim
    by_progress o (Gathering c joined k) good e = absurd (let no : None ≡ Some job = e in cc)
    by_progress o (Voting b joined) good e = absurd (let no : None ≡ Some job = e in cc)
    by_progress o (Building c) good e =
        subst IsClaim (ap (λ x. (unwrap_or x job).claim) e) good

    by_unit : (o : OpenClaim) (b : Bool) → IsClaim (claim_in o.progress)
        → (if b then job_again s o o.progress else None) ≡ Some job → IsClaim job.claim
    by_unit o true good e = by_progress o o.progress good e
    by_unit o false good e = absurd (let no : None ≡ Some job = e in cc)

    by_claim : (claim : Option OpenClaim) → s.claim ≡ claim
        → option_and_then (λ (o : OpenClaim). if u == o.unit then job_again s o o.progress
        else None) claim ≡ Some job → IsClaim job.claim
    by_claim None at e = absurd (let no : None ≡ Some job = e in cc)
    by_claim (Some o) at e = by_unit o (u == o.unit) (is.claim o at).claim e

-- the unit and the job, as one
abbrev pub both : ℕ → Option Task → Option (ℕ × Task)
both u = option_map (λ job. (u, job))

-- and so is that of the job whose build is awaited
pub waiting_is_claimed : (s : State) (path : Text) (u : ℕ) (job : Task) → IsMember s
    → waiting_for s path ≡ Some (u, job) → IsClaim job.claim
waiting_is_claimed s path u job is e = by_unit (unit_in s path) e
  where
    by_job : (v : ℕ) (j : Option Task) → job_at s v ≡ j
        → both v j ≡ Some (u, job) → IsClaim job.claim
    by_job v None at e = absurd (let no : None ≡ Some (u, job) = e in cc)
    by_job v (Some j) at e =
        let same = ap (λ (x : ℕ × Task). x.1) (ap (λ x. unwrap_or x (u, job)) e) in
        subst IsClaim (ap (λ (t : Task). t.claim) same) (job_is_claimed s v j is at)

    by_unit : (v : Option ℕ)
        → option_and_then (λ v. both v (job_at s v)) v ≡ Some (u, job)
        → IsClaim job.claim
    by_unit None e = absurd (let no : None ≡ Some (u, job) = e in cc)
    by_unit (Some v) e = by_job v (job_at s v) refl e

-- ---- packages that were made so

module _ (tree : Tree) (files : FilesByPath) where
  -- they are as many as their positions
  pub as_many : (ps : List Package) (qs : List ℕ) → map made_of ps ≡ map (made_at tree files) qs
      → length ps ≡ length qs
  as_many ps qs e =
      sym (length-map ps made_of) ∙ (ap length e ∙ length-map qs (made_at tree files))

  -- each is that of its position
  at_place : (ps : List Package) (qs : List ℕ) (k : ℕ) (d : Package)
      → map made_of ps ≡ map (made_at tree files) qs → k < length ps
      → made_of (slice_index_or ps k d) ≡ made_at tree files (slice_index_or qs k 0)
  at_place ps qs k d e lt =
      sym (get_or-map made_of ps k d (made_of d) lt)
      ∙ (ap (λ ms. slice_index_or ms k (made_of d)) e
      ∙ get_or-map (made_at tree files) qs k 0 (made_of d) (omega (arith, lt, as_many ps qs e)))

  pub runs_ascend : (ps : List Package) (qs : List ℕ) → map made_of ps ≡ map (made_at tree files) qs
      → All (λ (p : Package). is_ascending p.run.items ≡ true) ps
  runs_ascend ps qs e k d lt =
      ap (λ (m : Made). is_ascending m.run) (at_place ps qs k d e lt)
      ∙ in_order_ascends tree (run_at tree (slice_index_or qs k 0))

  paths_are : (qs : List ℕ) → map (λ (m : Made). m.path) (map (made_at tree files) qs)
      ≡ map (path_at tree) qs
  paths_are [] = refl
  paths_are (q ∷ qs) = ap (λ ts. path_at tree q ∷ ts) (paths_are qs)

  seen_paths : (ps : List Package) → map (λ (p : Package). p.path) ps
      ≡ map (λ (m : Made). m.path) (map made_of ps)
  seen_paths [] = refl
  seen_paths (p ∷ ps) = ap (λ ts. p.path ∷ ts) (seen_paths ps)

  pub paths_made : (ps : List Package) (qs : List ℕ) → map made_of ps ≡ map (made_at tree files) qs
      → map (λ (p : Package). p.path) ps ≡ map (path_at tree) qs
  paths_made ps qs e = seen_paths ps ∙ (ap (map (λ (m : Made). m.path)) e ∙ paths_are qs)

  -- packages of one group make one build
  pub one_group : (ps : List Package) (qs : List ℕ) → map made_of ps ≡ map (made_at tree files) qs
      → ((p q : ℕ) → Contains qs p → Contains qs q
      → without_subpackage (path_at tree q) ≡ without_subpackage (path_at tree p))
      → AreOfOneGroup ps
  one_group [] qs e alike = tt
  one_group (p ∷ ps) [] e alike = absurd (omega (arith, as_many (p ∷ ps) [] e))
  one_group (p ∷ ps) (q ∷ qs) e alike = λ k d lt.
      let later : suc k < length (p ∷ ps) = omega (arith, lt) in
      let behind : k < length qs = omega (arith, lt, as_many (p ∷ ps) (q ∷ qs) e) in
      let group : Made → List ℕ = λ m. without_subpackage m.path in
      ap group (at_place (p ∷ ps) (q ∷ qs) (suc k) d e later)
      ∙ (alike q (slice_index_or qs k 0) (contains_first q qs)
      (contains_later q (slice_index_or qs k 0) qs (Contains-get_or qs k 0 behind))
      ∙ sym (ap group (at_place (p ∷ ps) (q ∷ qs) 0 d e (omega arith))))

-- ---- the records

-- the record of a package, made by the job
abbrev record_of : Task → Made → Content
record_of job m = record {
  path = m.path;
  name = m.name;
  host = job.host;
  claim = job.claim;
  built = job.deps;
  run = m.run;
  files = m.files;
}

module _ (s : State) (u : ℕ) (job : Task) (given : Given) where
  abbrev tree : Tree
  tree = s.division.tree

  abbrev packages : List ℕ
  packages = (unit_at s.division u).packages

  seen_records : (ps : List Package) → contents_of job.host job.claim job.deps ps
      ≡ map (record_of job) (map made_of ps)
  seen_records [] = refl
  seen_records (p ∷ ps) = ap (λ cs. record_of job (made_of p) ∷ cs) (seen_records ps)

  records_are : (qs : List ℕ) → map (record_of job) (map (made_at tree (files_at given)) qs)
      ≡ map (record_by tree job given) qs
  records_are [] = refl
  records_are (q ∷ qs) = λ i.
      record (record_by tree job given q) { files = sym (files_are_found given (path_at tree q)) i }
      ∷ records_are qs i

  -- they are the build
  pub records_made : (ps : List Package)
      → map made_of ps ≡ map (made_at tree (files_at given)) packages
      → contents_of job.host job.claim job.deps ps ≡ build_by s u job given
  records_made ps e = seen_records ps ∙ (ap (map (record_of job)) e ∙ records_are packages)

  -- ---- whether they may be made

  -- files of other packages are refused
  pub others_refused : are_given (paths_at s u) given ≡ false
      → made_by s u job given ≡ Err OtherPackages
  others_refused e =
      ap (λ t. unless_fault (option_or (first_that_applies ((not t, OtherPackages) ∷ []))
      (option_map BadFiles (build_fault (build_by s u job given)))) (build_by s u job given)) e

  -- with the unit's own files, the result is a build or their fault
  made_of_given : are_given (paths_at s u) given ≡ true
      → made_by s u job given
      ≡ unless_fault (option_map BadFiles (build_fault (build_by s u job given)))
      (build_by s u job given)
  made_of_given e =
      ap (λ t. unless_fault (option_or (first_that_applies ((not t, OtherPackages) ∷ []))
      (option_map BadFiles (build_fault (build_by s u job given)))) (build_by s u job given)) e

  pub build_made : (cs v : Value) → are_given (paths_at s u) given ≡ true
      → cs ≡ build_by s u job given → unless_fault (build_fault cs) cs ≡ Ok v
      → made_by s u job given ≡ Ok v
  build_made cs v all is e =
      made_of_given all
      ∙ (ap (λ b. unless_fault (option_map BadFiles (build_fault b)) b) (sym is)
      ∙ by_fault (build_fault cs) e)
    where
      by_fault : (f : Option RecordFault) → unless_fault f cs ≡ Ok v
          → unless_fault (option_map BadFiles f) cs ≡ Ok v
      by_fault None e = let same : cs ≡ v = cc in ap (λ x. Ok x) same
      by_fault (Some f) e = absurd (let no : Err f ≡ Ok v = e in cc)

  pub build_refused : (cs : Value) (fault : RecordFault) → are_given (paths_at s u) given ≡ true
      → cs ≡ build_by s u job given → unless_fault (build_fault cs) cs ≡ Err fault
      → made_by s u job given ≡ Err (BadFiles fault)
  build_refused cs fault all is e =
      made_of_given all
      ∙ (ap (λ b. unless_fault (option_map BadFiles (build_fault b)) b) (sym is)
      ∙ by_fault (build_fault cs) e)
    where
      by_fault : (f : Option RecordFault) → unless_fault f cs ≡ Err fault
          → unless_fault (option_map BadFiles f) cs ≡ Err (BadFiles fault)
      by_fault None e = absurd (let no : Ok cs ≡ Err fault = e in cc)
      by_fault (Some f) e = let same : f ≡ fault = cc in ap (λ x. Err (BadFiles x)) same
