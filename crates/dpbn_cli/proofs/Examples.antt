-- The calls of `dpbn` for known words.
use Rattle.std.proofs.Common.{◌≡◌, ◌++◌, codes, refl, Option, Some, None, List, [], ◌∷◌, option_map, option_and_then}
use Rattle.clap.specs.Words.{Row, Text, first_of}
use Rattle.clap.proofs.OnLiterals.{clap_on_literals}
use Rattle.clap.specs.declared.error.kind.ErrorKind.TheVariants as kind
use Rattle.dpbn_cli.specs.Calls.{AreTaken, dpbn_app, faults_of, matched}
use Rattle.dpbr_cli.specs.Explaining.{is_fault}

abbrev name_at : List Text → Option Text
name_at words = option_map (λ (p : Text × List Row). p.0) (matched words)

abbrev value_at : Text → List Text → Option Text
value_at id words = option_and_then (λ (p : Text × List Row). first_of id p.1) (matched words)

-- the required words of the subcommands whose nodes take a given number of turns
abbrev shared_words : List Text
shared_words =
    codes "--listing" ∷ codes "F" ∷ codes "--builds" ∷ codes "B" ∷ codes "--members" ∷ codes "3"
    ∷ codes "--dir" ∷ codes "D" ∷ codes "--turns" ∷ codes "200" ∷ []

abbrev cluster_words : List Text
cluster_words = codes "dpbn" ∷ codes "cluster" ∷ (shared_words ++ codes "--trace" ∷ codes "T" ∷ [])

example_cluster : AreTaken cluster_words
unfolding faults_of matched dpbn_app clap_on_literals
example_cluster = refl

example_cluster_name : name_at cluster_words ≡ Some (codes "cluster")
unfolding matched dpbn_app clap_on_literals
example_cluster_name = refl

example_cluster_members : value_at (codes "members") cluster_words ≡ Some (codes "3")
unfolding matched dpbn_app clap_on_literals
example_cluster_members = refl

example_cluster_trace : value_at (codes "trace") cluster_words ≡ Some (codes "T")
unfolding matched dpbn_app clap_on_literals
example_cluster_trace = refl

-- an option that is not given has no value, but the flag has one
example_no_weights : value_at (codes "weights") cluster_words ≡ None
unfolding matched dpbn_app clap_on_literals
example_no_weights = refl

example_not_single : value_at (codes "single") cluster_words ≡ Some (codes "false")
unfolding matched dpbn_app clap_on_literals
example_not_single = refl

abbrev node_words : List Text → List Text
node_words more = codes "dpbn" ∷ codes "node" ∷ (shared_words ++ codes "--me" ∷ codes "1" ∷ more)

example_base : AreTaken (node_words (codes "--base" ∷ codes "5000" ∷ []))
unfolding faults_of matched dpbn_app clap_on_literals
example_base = refl

example_base_value : value_at (codes "base") (node_words (codes "--base" ∷ codes "5000" ∷ [])) ≡ Some (codes "5000")
unfolding matched dpbn_app clap_on_literals
example_base_value = refl

example_hosts : AreTaken (node_words (codes "--hosts=h:1,i:2,j:3" ∷ codes "--key=K" ∷ codes "--single" ∷ []))
unfolding faults_of matched dpbn_app clap_on_literals
example_hosts = refl

example_hosts_value : value_at (codes "hosts") (node_words (codes "--hosts=h:1,i:2,j:3" ∷ codes "--key=K" ∷ codes "--single" ∷ [])) ≡ Some (codes "h:1,i:2,j:3")
unfolding matched dpbn_app clap_on_literals
example_hosts_value = refl

example_single : value_at (codes "single") (node_words (codes "--hosts=h:1,i:2,j:3" ∷ codes "--key=K" ∷ codes "--single" ∷ [])) ≡ Some (codes "true")
unfolding matched dpbn_app clap_on_literals
example_single = refl

example_key_file : value_at (codes "key") (node_words (codes "--hosts=h:1,i:2,j:3" ∷ codes "--key=K" ∷ codes "--single" ∷ [])) ≡ Some (codes "K")
unfolding matched dpbn_app clap_on_literals
example_key_file = refl

-- with hosts either a key or the flag that the run has no key is required; with a first port both
-- are optional
example_unsealed : AreTaken (node_words (codes "--hosts=h:1" ∷ codes "--unsealed" ∷ codes "--continue" ∷ []))
unfolding faults_of matched dpbn_app clap_on_literals
example_unsealed = refl

example_base_with_key : AreTaken (node_words (codes "--base" ∷ codes "5000" ∷ codes "--key" ∷ codes "K" ∷ []))
unfolding faults_of matched dpbn_app clap_on_literals
example_base_with_key = refl

example_no_key : faults_of (node_words (codes "--hosts=h:1" ∷ [])) ≡ kind.MissingRequiredArgument ∷ []
unfolding faults_of matched dpbn_app clap_on_literals
example_no_key = refl

example_key_and_none : faults_of (node_words (codes "--base" ∷ codes "5000" ∷ codes "--unsealed" ∷ codes "--key=K" ∷ [])) ≡ kind.ArgumentConflict ∷ []
unfolding faults_of matched dpbn_app clap_on_literals
example_key_and_none = refl

-- a build: its folders, and its own numbers
abbrev build_words : List Text → List Text
build_words more =
    codes "dpbn" ∷ codes "build" ∷ codes "--listing" ∷ codes "L" ∷ codes "--work" ∷ codes "W" ∷ codes "--dir" ∷ codes "D"
    ∷ codes "--members" ∷ codes "3" ∷ codes "--me" ∷ codes "1" ∷ more

example_build : AreTaken (build_words (codes "--base" ∷ codes "5000" ∷ []))
unfolding faults_of matched dpbn_app clap_on_literals
example_build = refl

example_build_name : name_at (build_words (codes "--base" ∷ codes "5000" ∷ [])) ≡ Some (codes "build")
unfolding matched dpbn_app clap_on_literals
example_build_name = refl

example_work : value_at (codes "work") (build_words (codes "--base" ∷ codes "5000" ∷ [])) ≡ Some (codes "W")
unfolding matched dpbn_app clap_on_literals
example_work = refl

example_times : AreTaken (build_words (codes "--hosts=h:1" ∷ codes "--key=K" ∷ codes "--jobs=64" ∷ codes "--takeover=1" ∷ codes "--tries=9" ∷ codes "--rest=1000000" ∷ codes "--progress=5" ∷ []))
unfolding faults_of matched dpbn_app clap_on_literals
example_times = refl

-- it requires what a node requires, and has no turns
example_build_no_peers : faults_of (build_words []) ≡ kind.MissingRequiredArgument ∷ []
unfolding faults_of matched dpbn_app clap_on_literals
example_build_no_peers = refl

example_build_no_key : faults_of (build_words (codes "--hosts=h:1" ∷ [])) ≡ kind.MissingRequiredArgument ∷ []
unfolding faults_of matched dpbn_app clap_on_literals
example_build_no_key = refl

example_no_jobs : faults_of (build_words (codes "--base" ∷ codes "5000" ∷ codes "--jobs" ∷ codes "0" ∷ [])) ≡ kind.ValueValidation ∷ []
unfolding faults_of matched dpbn_app clap_on_literals
example_no_jobs = refl

example_no_tries : faults_of (build_words (codes "--base" ∷ codes "5000" ∷ codes "--tries" ∷ codes "0" ∷ [])) ≡ kind.ValueValidation ∷ []
unfolding faults_of matched dpbn_app clap_on_literals
example_no_tries = refl

example_tries : value_at (codes "tries") (build_words (codes "--base" ∷ codes "5000" ∷ codes "--tries" ∷ codes "9" ∷ [])) ≡ Some (codes "9")
unfolding matched dpbn_app clap_on_literals
example_tries = refl

example_no_turns : faults_of (build_words (codes "--base" ∷ codes "5000" ∷ codes "--turns" ∷ codes "200" ∷ [])) ≡ kind.UnknownArgument ∷ []
unfolding faults_of matched dpbn_app clap_on_literals
example_no_turns = refl

-- a new key's file
abbrev key_words : List Text
key_words = codes "dpbn" ∷ codes "key" ∷ codes "K" ∷ []

example_new_key : AreTaken key_words
unfolding faults_of matched dpbn_app clap_on_literals
example_new_key = refl

example_new_key_file : value_at (codes "FILE") key_words ≡ Some (codes "K")
unfolding matched dpbn_app clap_on_literals
example_new_key_file = refl

example_no_file : faults_of (codes "dpbn" ∷ codes "key" ∷ []) ≡ kind.MissingRequiredArgument ∷ []
unfolding faults_of matched dpbn_app clap_on_literals
example_no_file = refl

-- exactly one of the two is required
example_neither : faults_of (node_words []) ≡ kind.MissingRequiredArgument ∷ []
unfolding faults_of matched dpbn_app clap_on_literals
example_neither = refl

example_both : faults_of (node_words (codes "--base" ∷ codes "5000" ∷ codes "--hosts" ∷ codes "h:1" ∷ [])) ≡ kind.ArgumentConflict ∷ []
unfolding faults_of matched dpbn_app clap_on_literals
example_both = refl

-- numbers out of range, an option of the other subcommand, a missing one, a repeated one, no value,
-- help
example_port : faults_of (node_words (codes "--base" ∷ codes "1023" ∷ [])) ≡ kind.ValueValidation ∷ []
unfolding faults_of matched dpbn_app clap_on_literals
example_port = refl

example_patience : faults_of (node_words (codes "--base" ∷ codes "5000" ∷ codes "--patience" ∷ codes "60001" ∷ [])) ≡ kind.ValueValidation ∷ []
unfolding faults_of matched dpbn_app clap_on_literals
example_patience = refl

example_trace : faults_of (node_words (codes "--base" ∷ codes "5000" ∷ codes "--trace" ∷ codes "T" ∷ [])) ≡ kind.UnknownArgument ∷ []
unfolding faults_of matched dpbn_app clap_on_literals
example_trace = refl

example_lacks : faults_of (codes "dpbn" ∷ codes "cluster" ∷ codes "--listing" ∷ codes "F" ∷ []) ≡ kind.MissingRequiredArgument ∷ []
unfolding faults_of matched dpbn_app clap_on_literals
example_lacks = refl

example_twice : faults_of (node_words (codes "--me" ∷ codes "2" ∷ codes "--base" ∷ codes "5000" ∷ [])) ≡ kind.ArgumentConflict ∷ []
unfolding faults_of matched dpbn_app clap_on_literals
example_twice = refl

example_no_value : faults_of (node_words (codes "--base" ∷ [])) ≡ kind.InvalidValue ∷ []
unfolding faults_of matched dpbn_app clap_on_literals
example_no_value = refl

example_help : faults_of (codes "dpbn" ∷ codes "node" ∷ codes "--help" ∷ []) ≡ kind.DisplayHelp ∷ []
unfolding faults_of matched dpbn_app clap_on_literals
example_help = refl

-- the number of a fault, and another; the release, alone and with another word
abbrev explain_words : Text → List Text
explain_words number = codes "dpbn" ∷ codes "explain" ∷ number ∷ []

example_explain : AreTaken (explain_words (codes "1209"))
unfolding faults_of is_fault dpbn_app clap_on_literals
example_explain = refl

example_no_fault : faults_of (explain_words (codes "3")) ≡ kind.ValueValidation ∷ []
unfolding faults_of is_fault dpbn_app clap_on_literals
example_no_fault = refl

example_release : AreTaken (codes "dpbn" ∷ codes "--version" ∷ [])
unfolding faults_of
example_release = refl

example_release_more : faults_of (codes "dpbn" ∷ codes "--version" ∷ codes "key" ∷ []) ≡ kind.UnknownArgument ∷ []
unfolding faults_of dpbn_app clap_on_literals
example_release_more = refl
