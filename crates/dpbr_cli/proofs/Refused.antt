-- The faults of refused words.
use Rattle.std.proofs.Common.{◌≡◌, ◌∙◌, List, [], Option, subst, sym, inr}
use Rattle.clap.specs.Kinds.{HasKind}
use Rattle.clap.specs.Words.{IsAmong, Row, Text, fault_of, kind_of, subcommand_of}
use Rattle.clap.specs.declared.error.Error.{Error}
use Rattle.clap.specs.declared.error.kind.ErrorKind.{ErrorKind}
use Rattle.clap.proofs.FaultLemmas.{first_fails, past}
use Rattle.dpbr_cli.proofs.Taken.{taken_names_call}
use Rattle.dpbr_cli.specs.Calls.{call_fault, dpbr_app, parse_faults}
use Rattle.dpbr_cli.specs.inside.Naming.{NamesCall, RefusesBy}

-- what clap refuses is refused
pub by_clap : (words : List Text) (e : Error) → HasKind (fault_of dpbr_app words) e → HasKind (parse_faults words) e
by_clap words e has = first_fails (fault_of dpbr_app words) (call_fault (subcommand_of dpbr_app words)) (kind_of e) has

-- words that clap accepts only have the fault of their call
faults_left : (words : List Text) → fault_of dpbr_app words ≡ [] → parse_faults words ≡ call_fault (subcommand_of dpbr_app words)
faults_left words none = past (fault_of dpbr_app words) (call_fault (subcommand_of dpbr_app words)) none

module _ (words : List Text) (found : Option (Text × List Row)) (none : fault_of dpbr_app words ≡ []) (is : found ≡ subcommand_of dpbr_app words) where
  pub nothing_left : call_fault found ≡ [] → parse_faults words ≡ []
  nothing_left sound = faults_left words none ∙ subst (λ m. call_fault m ≡ []) is sound

  pub by_call : (e : Error) (kind : ErrorKind) → kind_of e ≡ kind → RefusesBy found kind → HasKind (parse_faults words) e
  by_call e kind of among =
      let names : NamesCall found = subst NamesCall (sym is) (taken_names_call words none) in
      let there : IsAmong kind (call_fault (subcommand_of dpbr_app words)) = subst (λ m. IsAmong kind (call_fault m)) is (among names) in
      inr (subst (λ ks. IsAmong (kind_of e) ks) (sym (faults_left words none)) (subst (λ k. IsAmong k (call_fault (subcommand_of dpbr_app words))) (sym of) there))
