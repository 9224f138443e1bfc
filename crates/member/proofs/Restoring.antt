-- A member that restores the notes of a log, one after the other.
use Rattle.std.proofs.Common.{◌≡◌, ◌++◌, All, List, [], ◌∷◌, Some, None, length, refl}
use Rattle.std.proofs.Common.{sym, ap, subst, ◌∙◌, map}
use Rattle.std.specs.Prelude.{fold, option_and_then, option_map}
use Rattle.std.proofs.lemmas.List.{length-map}
use Rattle.std.proofs.lemmas.List.Sums.{fold-append}
use Rattle.claims.specs.Member.{Facts}
use Rattle.ballots.specs.declared.message.Note.{Note}
use Rattle.engine.specs.Division.{Division}
use Rattle.protocol.specs.State.{State, Value, facts_then}
use Rattle.protocol.specs.Member.{IsMember}
use Rattle.protocol.specs.Restoring.{restored}
use Rattle.protocol.specs.Answers.{tree_digest}
use Rattle.protocol.specs.Step.{job_again}
use Rattle.protocol.proofs.Known.{Pledged, each_then, pledged_then}
use Rattle.member.specs.OpenClaims.{open_of}
use Rattle.member.specs.shared.Fields.{IsKept, engine_with, facts_of_known, state_of}
use Rattle.member.specs.declared.member.Member.TheInside.{Inside}

-- the facts after these notes
abbrev pub noted_all : Division → List (Facts Value) → List (Note Value) → List (Facts Value)
noted_all d facts notes = fold (λ facts n. facts_then d facts (Some n)) facts notes

-- and after one more
pub one_more : (d : Division) (facts : List (Facts Value)) (notes : List (Note Value))
    (n : Note Value)
    → noted_all d facts (notes ++ n ∷ []) ≡ facts_then d (noted_all d facts notes) (Some n)
one_more d facts notes n = fold-append (λ facts n. facts_then d facts (Some n)) facts notes (n ∷ [])

-- the number of facts is unchanged
pub each_noted : (d : Division) (facts : List (Facts Value)) (notes : List (Note Value))
    → length (noted_all d facts notes) ≡ length facts
each_noted d facts [] = refl
each_noted d facts (n ∷ notes) =
    each_noted d (facts_then d facts (Some n)) notes ∙ each_then d facts (Some n)

-- a member that voted has promised
all_pledged : (d : Division) (facts : List (Facts Value)) (notes : List (Note Value))
    → All Pledged facts → All Pledged (noted_all d facts notes)
all_pledged d facts [] are = are
all_pledged d facts (n ∷ notes) are =
    all_pledged d (facts_then d facts (Some n)) notes (pledged_then d facts (Some n) are)

-- a member stays one
pub restored_member : (s : State) (notes : List (Note Value)) → IsMember s
    → IsMember (restored s notes)
restored_member s notes is = record {
  division = is.division;
  weights = is.weights;
  one_of_them = is.one_of_them;
  each = each_noted s.division s.facts notes ∙ is.each;
  pledged = all_pledged s.division s.facts notes is.pledged;
  claim = λ o e. absurd (let no : None ≡ Some o = e in cc);
}

-- While the notes are restored, no claim is open, the facts are those of these notes, and the
-- engine has what they hold.
pub record IsRestoring (s : State) (m : Inside) (notes : List (Note Value)) : Type 0 where
  pub division : m.units ≡ s.division
  pub weights : m.weights ≡ s.weights
  pub me : m.me ≡ s.me
  pub claim : m.claim ≡ None
  pub job : m.job ≡ None
  pub tree : m.tree.now ≡ m.units.tree
  pub digest : m.digest ≡ tree_digest m.units.tree
  pub facts : map facts_of_known m.known.items ≡ noted_all s.division s.facts notes
  pub engine : m.engine ≡ engine_with m.units (map facts_of_known m.known.items)

module _ (s : State) (m : Inside) (notes : List (Note Value)) (are : IsRestoring s m notes) where
  -- after all notes, the state is the restored one
  pub state_restored : state_of m ≡ restored s notes
  state_restored = λ i. record {
    division = are.division i;
    weights = are.weights i;
    me = are.me i;
    facts = are.facts i;
    claim = ap (option_map open_of) are.claim i;
  }

  -- facts are kept for each unit
  pub each_restored : IsMember s → length m.known.items ≡ length m.units.units
  each_restored is =
      sym (length-map m.known.items facts_of_known)
      ∙ (ap length are.facts
      ∙ (each_noted s.division s.facts notes
      ∙ (is.each ∙ ap (λ (d : Division). length d.units) (sym are.division))))

  -- and the fields are those of a member
  pub kept_restored : IsMember s → IsKept m
  kept_restored is = record {
    member = subst IsMember (sym state_restored) (restored_member s notes is);
    tree = are.tree;
    digest = are.digest;
    engine = are.engine;
    weighed = λ o e. absurd (let no : None ≡ Some o = sym are.claim ∙ e in cc);
    job = are.job
        ∙ ap (λ claim. option_and_then (λ o. job_again (state_of m) o o.progress) claim)
        (sym (ap (option_map open_of) are.claim));
  }
