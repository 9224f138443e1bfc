-- The invariant of a seal.
use Rattle.std.specs.Prelude.{◌≡◌}
use Rattle.seals.specs.Hmac.{block_of}
use Rattle.seals.specs.declared.seal.Seal.TheInside.{Inside}

-- Texts are sealed with the run's key.
abbrev pub IsOfRun : Inside → Type 0
IsOfRun seal = seal.key ≡ block_of seal.run_key
