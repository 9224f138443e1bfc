-- The calls of `dpbr` for known words.
use Rattle.std.proofs.Common.{◌≡◌, codes, refl, Option, Some, List, [], ◌∷◌, option_map, option_and_then}
use Rattle.clap.specs.Words.{Row, Text, first_of}
use Rattle.clap.proofs.OnLiterals.{clap_on_literals}
use Rattle.clap.specs.declared.error.kind.ErrorKind.TheVariants as kind
use Rattle.dpbr_cli.specs.Calls.{AreTaken, dpbr_app, faults_of, matched}
use Rattle.dpbr_cli.specs.Explaining.{is_fault}

abbrev name_at : List Text → Option Text
name_at words = option_map (λ (p : Text × List Row). p.0) (matched words)

abbrev value_at : Text → List Text → Option Text
value_at id words = option_and_then (λ (p : Text × List Row). first_of id p.1) (matched words)

abbrev status_words : List Text
status_words = codes "dpbr" ∷ codes "status" ∷ codes "tree" ∷ codes "held" ∷ []

example_status : AreTaken status_words
unfolding faults_of is_fault dpbr_app clap_on_literals
example_status = refl

example_status_name : name_at status_words ≡ Some (codes "status")
unfolding matched dpbr_app clap_on_literals
example_status_name = refl

example_status_listing : value_at (codes "LISTING") status_words ≡ Some (codes "tree")
unfolding matched dpbr_app clap_on_literals
example_status_listing = refl

example_status_held : value_at (codes "HELD") status_words ≡ Some (codes "held")
unfolding matched dpbr_app clap_on_literals
example_status_held = refl

abbrev audit_words : List Text
audit_words = codes "dpbr" ∷ codes "audit" ∷ codes "tree" ∷ codes "packages" ∷ []

example_audit : AreTaken audit_words
unfolding faults_of is_fault dpbr_app clap_on_literals
example_audit = refl

example_audit_name : name_at audit_words ≡ Some (codes "audit")
unfolding matched dpbr_app clap_on_literals
example_audit_name = refl

example_audit_listing : value_at (codes "LISTING") audit_words ≡ Some (codes "tree")
unfolding matched dpbr_app clap_on_literals
example_audit_listing = refl

example_audit_list : value_at (codes "LIST") audit_words ≡ Some (codes "packages")
unfolding matched dpbr_app clap_on_literals
example_audit_list = refl

abbrev run_words : List Text
run_words = codes "dpbr" ∷ codes "run" ∷ codes "tree" ∷ codes "events" ∷ codes "--single" ∷ []

example_run : AreTaken run_words
unfolding faults_of is_fault dpbr_app clap_on_literals
example_run = refl

example_run_name : name_at run_words ≡ Some (codes "run")
unfolding matched dpbr_app clap_on_literals
example_run_name = refl

example_run_trace : value_at (codes "TRACE") run_words ≡ Some (codes "events")
unfolding matched dpbr_app clap_on_literals
example_run_trace = refl

abbrev wayon_words : Text → Text → List Text
wayon_words node host =
    codes "dpbr" ∷ codes "wayon" ∷ codes "tree" ∷ codes "events" ∷ node ∷ codes "a/b" ∷ host ∷ codes "files" ∷ []

example_wayon : AreTaken (wayon_words (codes "255") (codes "65535"))
unfolding faults_of is_fault dpbr_app clap_on_literals
example_wayon = refl

example_wayon_name : name_at (wayon_words (codes "0") (codes "7")) ≡ Some (codes "wayon")
unfolding matched dpbr_app clap_on_literals
example_wayon_name = refl

example_wayon_node : value_at (codes "NODE") (wayon_words (codes "+007") (codes "7")) ≡ Some (codes "+007")
unfolding matched dpbr_app clap_on_literals
example_wayon_node = refl

example_wayon_builds : value_at (codes "BUILDS") (wayon_words (codes "0") (codes "7")) ≡ Some (codes "files")
unfolding matched dpbr_app clap_on_literals
example_wayon_builds = refl

-- a number out of range, or not a number
example_node_past : faults_of (wayon_words (codes "256") (codes "7")) ≡ kind.ValueValidation ∷ []
unfolding faults_of is_fault dpbr_app clap_on_literals
example_node_past = refl

example_host_past : faults_of (wayon_words (codes "0") (codes "65536")) ≡ kind.ValueValidation ∷ []
unfolding faults_of is_fault dpbr_app clap_on_literals
example_host_past = refl

example_no_host : faults_of (wayon_words (codes "0") (codes "h")) ≡ kind.ValueValidation ∷ []
unfolding faults_of is_fault dpbr_app clap_on_literals
example_no_host = refl

-- `--single` may be anywhere after the subcommand
example_single : AreTaken (codes "dpbr" ∷ codes "status" ∷ codes "tree" ∷ codes "--single" ∷ codes "held" ∷ [])
unfolding faults_of is_fault dpbr_app clap_on_literals
example_single = refl

example_is_single : value_at (codes "single") (codes "dpbr" ∷ codes "status" ∷ codes "tree" ∷ codes "--single" ∷ codes "held" ∷ []) ≡ Some (codes "true")
unfolding matched dpbr_app clap_on_literals
example_is_single = refl

example_not_single : value_at (codes "single") audit_words ≡ Some (codes "false")
unfolding matched dpbr_app clap_on_literals
example_not_single = refl

example_has_events : value_at (codes "events") (codes "dpbr" ∷ codes "run" ∷ codes "--events" ∷ codes "tree" ∷ codes "trace" ∷ []) ≡ Some (codes "true")
unfolding matched dpbr_app clap_on_literals
example_has_events = refl

-- but not twice, with a value, or before the subcommand
example_single_twice : faults_of (codes "dpbr" ∷ codes "audit" ∷ codes "--single" ∷ codes "t" ∷ codes "l" ∷ codes "--single" ∷ []) ≡ kind.ArgumentConflict ∷ []
unfolding faults_of is_fault dpbr_app clap_on_literals
example_single_twice = refl

example_single_valued : faults_of (codes "dpbr" ∷ codes "audit" ∷ codes "--single=yes" ∷ codes "t" ∷ codes "l" ∷ []) ≡ kind.TooManyValues ∷ []
unfolding faults_of is_fault dpbr_app clap_on_literals
example_single_valued = refl

example_single_first : faults_of (codes "dpbr" ∷ codes "--single" ∷ codes "audit" ∷ codes "t" ∷ codes "l" ∷ []) ≡ kind.UnknownArgument ∷ []
unfolding faults_of is_fault dpbr_app clap_on_literals
example_single_first = refl

-- no subcommand, an unknown one, a missing word, an extra word, help
example_none : faults_of (codes "dpbr" ∷ []) ≡ kind.MissingSubcommand ∷ []
unfolding faults_of is_fault dpbr_app clap_on_literals
example_none = refl

example_unknown : faults_of (codes "dpbr" ∷ codes "audits" ∷ codes "t" ∷ codes "l" ∷ []) ≡ kind.UnknownArgument ∷ kind.InvalidSubcommand ∷ []
unfolding faults_of is_fault dpbr_app clap_on_literals
example_unknown = refl

example_few : faults_of (codes "dpbr" ∷ codes "status" ∷ codes "t" ∷ []) ≡ kind.MissingRequiredArgument ∷ []
unfolding faults_of is_fault dpbr_app clap_on_literals
example_few = refl

example_many : faults_of (codes "dpbr" ∷ codes "status" ∷ codes "t" ∷ codes "h" ∷ codes "x" ∷ []) ≡ kind.UnknownArgument ∷ []
unfolding faults_of is_fault dpbr_app clap_on_literals
example_many = refl

example_help : faults_of (codes "dpbr" ∷ codes "status" ∷ codes "--help" ∷ []) ≡ kind.DisplayHelp ∷ []
unfolding faults_of is_fault dpbr_app clap_on_literals
example_help = refl

-- the number of a fault, and another; the release, alone and with another word
abbrev explain_words : Text → List Text
explain_words number = codes "dpbr" ∷ codes "explain" ∷ number ∷ []

example_explain : AreTaken (explain_words (codes "1209"))
unfolding faults_of is_fault dpbr_app clap_on_literals
example_explain = refl

example_explain_number : value_at (codes "NUMBER") (explain_words (codes "1209")) ≡ Some (codes "1209")
unfolding matched dpbr_app clap_on_literals
example_explain_number = refl

example_no_fault : faults_of (explain_words (codes "3")) ≡ kind.ValueValidation ∷ []
unfolding faults_of is_fault dpbr_app clap_on_literals
example_no_fault = refl

example_release : AreTaken (codes "dpbr" ∷ codes "--version" ∷ [])
unfolding faults_of
example_release = refl

example_release_more : faults_of (codes "dpbr" ∷ codes "--version" ∷ codes "status" ∷ []) ≡ kind.UnknownArgument ∷ []
unfolding faults_of is_fault dpbr_app clap_on_literals
example_release_more = refl
