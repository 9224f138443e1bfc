-- Two trees, and members for the computed examples.
use Rattle.std.specs.Prelude.{◌≡◌, refl, ℕ, zero, suc, Bool, true, false, List, [], ◌∷◌, Option}
use Rattle.std.specs.Prelude.{None, Some, codes, map}
use Rattle.claims.specs.declared.claim.Claim.{Claim}
use Rattle.claims.specs.Votes.{Ballot}
use Rattle.claims.specs.Member.{Facts, no_facts}
use Rattle.std.proofs.lemmas.Bool.{false≢true}
use Rattle.engine.specs.Tree.{Tree, is_marked_at}
use Rattle.engine.specs.Division.{Division}
use Rattle.engine.specs.Ignored.{AreTheIgnored}
use Rattle.engine.specs.Units.{AreUnits}
use Rattle.ballots.specs.declared.message.Body.{Body}
use Rattle.ballots.specs.declared.message.Fact.{Fact}
use Rattle.ballots.specs.declared.message.Note.{Note}
use Rattle.protocol.specs.State.{Progress, State, Value, fresh}
use Rattle.protocol.specs.Given.{Given}
use Rattle.protocol.specs.Answers.{after}
use Rattle.protocol.specs.Step.{hears}
use Rattle.protocol.specs.declared.sends.Send.{Send}

-- one package, which is a unit of its own
abbrev pub one_package : Division
one_package = record {
  tree = record {
    path = codes "a/b";
    group = codes "a/b";
    name = codes "b-1.0";
    build = [];
    run =
        [];
    is_marked = false;
  } ∷ [];
  units = record { name = codes "a/b"; packages = 0 ∷ []; build = [] } ∷ [];
}

-- two packages of one group, of which the second needs the first; they are one unit
abbrev pub two_packages : Division
two_packages = record {
  tree =
      record {
        path = codes "a/b,-x";
        group = codes "a/b";
        name = codes "x-1";
        build = [];
        run =
            [];
        is_marked = false;
      }
      ∷ record {
        path = codes "a/b,-y";
        group = codes "a/b";
        name = codes "y-1";
        build =
            0 ∷ [];
        run = 0 ∷ [];
        is_marked = false;
      }
      ∷ [];
  units = record { name = codes "a/b"; packages = 0 ∷ 1 ∷ []; build = [] } ∷ [];
}

-- nothing is ignored
abbrev nothing : ℕ → Bool
nothing p = false

-- if nothing is marked, nothing is ignored: the empty set contains the marked packages
free : (tree : Tree) → ((q : ℕ) → is_marked_at tree q ≡ true → ⊥) → AreTheIgnored tree nothing
free tree unmarked p = (
  λ h. absurd (false≢true h),
  λ ignored. ignored nothing (record {
    marked = λ q _ h. absurd (unmarked q h);
    build = λ q d _ _ h. h;
    run = λ q d _ _ h. h;
  }),
)

one_unmarked : (q : ℕ) → is_marked_at one_package.tree q ≡ true → ⊥
one_unmarked zero h = false≢true h
one_unmarked (suc q) h = false≢true h

two_unmarked : (q : ℕ) → is_marked_at two_packages.tree q ≡ true → ⊥
two_unmarked zero h = false≢true h
two_unmarked (suc zero) h = false≢true h
two_unmarked (suc (suc q)) h = false≢true h

-- these are the units of the two trees
one_is_divided : AreUnits one_package.tree one_package.units
one_is_divided = record
    { ignored = nothing; are_ignored = free one_package.tree one_unmarked; are = refl }

two_are_divided : AreUnits two_packages.tree two_packages.units
two_are_divided = record
    { ignored = nothing; are_ignored = free two_packages.tree two_unmarked; are = refl }

-- three members of equal weight
abbrev pub three : List ℕ
three = 1 ∷ 1 ∷ 1 ∷ []

-- the last of three members weighs more than the others together
abbrev pub heavy_last : List ℕ
heavy_last = 1 ∷ 1 ∷ 3 ∷ []

-- the member with this number that knows nothing
abbrev pub newcomer : List ℕ → ℕ → State
newcomer weights me = fresh one_package weights me

-- the claim with this round and member
abbrev pub claim : ℕ → ℕ → Claim
claim round member = record { round = round; member = member }

-- the member with these facts of the package, and this claim open for it on host 3
abbrev pub known : State → Facts Value → Option Progress → State
known s facts None = record s { facts = facts ∷ []; claim = None }
known s facts (Some progress) =
    record s {
      facts = facts ∷ [];
      claim =
          Some (record { unit = 0; host = 3; progress = progress });
    }

-- the facts of a member that opened this round, and promised this claim
abbrev pub promised : ℕ → Claim → Facts Value
promised round c = record no_facts { opened = round; promised = Some c }

-- the facts of a member that opened this round, and voted for this ballot
abbrev pub voted : ℕ → Ballot Value → Facts Value
voted round b = record { opened = round; promised = Some b.claim; voted = Some b; held = None }

-- file x with the bytes abc, for the package
abbrev pub given : Given
given = (codes "a/b", record { name = codes "x"; bytes = codes "abc" } ∷ []) ∷ []

-- a note about the package
abbrev pub note : Fact Value → Note Value
note f = record { path = codes "a/b"; fact = f }

-- the member after messages from these senders
abbrev pub after_hearing : State → List (ℕ × Body Value) → State
after_hearing s [] = s
after_hearing s (m ∷ ms) = after_hearing (after s (hears s 0 m.0 m.1)) ms

-- the receiver of each message, and what it says
abbrev pub said_to : List Send → List (ℕ × Body Value)
said_to sends = map (λ x. (x.to, x.message.body)) sends
