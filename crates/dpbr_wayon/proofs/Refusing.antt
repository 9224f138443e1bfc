-- What is reported about texts, with names or without.
use Rattle.std.proofs.Common.{◌≡◌, ◌⊎◌, ℕ, Some, Ok, Err, inl, inr, ap, refl}
use Rattle.dpbr_wayon.specs.Refusals.{RefusesBehind, RefusesGiven, RefusesNamed, RefusesPath, RefusesTaken, path_refusal}
use Rattle.faults.specs.Bytes.{Text}
use Rattle.listing.specs.Tree.{Tree}
use Rattle.pkgpath.specs.PkgPath.{path_of}
use Rattle.pkgpath.specs.declared.PathFault.{PathFault}
use Rattle.pkgpath.specs.declared.PathFault.TheVariants.{Memory as PathMemory}
use Rattle.program_io.specs.Files.{RefusesAt}
use Rattle.program_io.specs.Refusals.{memory_refusal}
use Rattle.program_io.specs.declared.refusal.Refusal.{Refusal}
use Rattle.protocol.specs.Given.{Given}
use Rattle.input_files.specs.Builds.{AreSpelledAt, RefusesBuilds}
use Rattle.input_files.specs.Traces.{IsSpelledAt}
use Rattle.traces.specs.Builds.{builds_of}
use Rattle.traces.specs.Trace.{Trace}

-- ---- one text

-- out of memory, or what is reported about a path
pub of_path : (path : Text) (f : PathFault) → (f ≡ PathMemory) ⊎ (path_of path ≡ Err f)
    → (path_refusal f ≡ memory_refusal) ⊎ RefusesPath path (path_refusal f)
of_path path f (inl memory) = inl (ap path_refusal memory)
of_path path f (inr fault) = inr (f, fault, refl)

-- ---- each after those that are read before it

module _ (Gave : Text → Text → Type 0) (trace_name builds_name : Text) (tree : Tree) (node : ℕ) (path : Text) (host : ℕ) (r : Refusal) where
  -- out of memory is reported wherever it occurs
  wants_memory : r ≡ memory_refusal → RefusesBehind Gave trace_name builds_name tree node path host r
  wants_memory memory = inl (inl (inl memory))

  module _ (read : Trace) (spelled : IsSpelledAt Gave trace_name read) where
    behind : RefusesNamed Gave builds_name tree read node path host r → RefusesBehind Gave trace_name builds_name tree node path host r
    behind named = inr (read, spelled, named)

    pub path_refused : (r ≡ memory_refusal) ⊎ RefusesPath path r → RefusesBehind Gave trace_name builds_name tree node path host r
    path_refused (inl memory) = wants_memory memory
    path_refused (inr refused) = behind (inl refused)

    module _ (named : Text) (is_path : path_of path ≡ Ok named) where
      pub builds_refused : RefusesAt Gave builds_name RefusesBuilds r → RefusesBehind Gave trace_name builds_name tree node path host r
      builds_refused (inl system) = behind (inr (named, is_path, inl system))
      builds_refused (inr (builds, gave, refused)) = behind (inr (named, is_path, inr (builds, gave, inl refused)))

      pub taken_refused : (given : Given) → AreSpelledAt Gave builds_name given → (r ≡ memory_refusal) ⊎ RefusesTaken tree read node named host given r
          → RefusesBehind Gave trace_name builds_name tree node path host r
      taken_refused given are (inl memory) = wants_memory memory
      taken_refused given (builds, gave, are) (inr refused) = behind (inr (named, is_path, inr (builds, gave, inr (given, are, refused))))
