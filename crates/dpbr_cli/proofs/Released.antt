-- Words that ask for the release, and other words.
use Rattle.std.proofs.Common.{◌≡◌, ap, codes, List, [], Some, true, false}
use Rattle.std.specs.Prelude.{if◌then◌else◌}
use Rattle.clap.specs.Words.{Kinds, Text, subcommand_of}
use Rattle.dpbr_cli.specs.Calls.{dpbr_app, faults_of, matched, parse_faults}
use Rattle.dpbr_cli.specs.Explaining.{asks_release}

module _ (words : List Text) where
  pub release_matched : asks_release words ≡ true → matched words ≡ Some (codes "--version", [])
  unfolding matched
  release_matched asks = ap (λ b. if b then Some (codes "--version", []) else subcommand_of dpbr_app words) asks

  pub release_faultless : asks_release words ≡ true → faults_of words ≡ []
  unfolding faults_of
  release_faultless asks = let found : Kinds = parse_faults words in ap (λ b. if b then [] else found) asks

  pub other_matched : asks_release words ≡ false → matched words ≡ subcommand_of dpbr_app words
  unfolding matched
  other_matched asks = ap (λ b. if b then Some (codes "--version", []) else subcommand_of dpbr_app words) asks

  pub other_faults : asks_release words ≡ false → faults_of words ≡ parse_faults words
  unfolding faults_of
  other_faults asks = let found : Kinds = parse_faults words in ap (λ b. if b then [] else found) asks
