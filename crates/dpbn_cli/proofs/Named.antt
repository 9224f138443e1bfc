-- Refusals of a subcommand's matches.
use Rattle.std.proofs.Common.{◌≡◌, List, Option, Some, Result, Ok, Err, IfErr, subst, sym}
use Rattle.std.specs.Prelude.{IsErr, IsErrAnd}
use Rattle.clap.specs.Words.{Row, Text}
use Rattle.clap.specs.declared.error.kind.ErrorKind.{ErrorKind}
use Rattle.dpbr_cli.proofs.Matched.{HasName, has_name}
use Rattle.dpbn_cli.specs.declared.call_table.TheConstants.{CALLS}
use Rattle.dpbn_cli.specs.inside.Naming.{NamesCall, RefusesBy}

-- the matches have the name of a call
abbrev pub HasCallName : Option (Text × List Row) → Type 0
HasCallName = HasName (λ text. text.now) (λ rows. rows.now) (λ lists. lists.now) CALLS

pub has_call_name : (matched : Option (Text × List Row)) → NamesCall matched → HasCallName matched
has_call_name matched names = has_name (λ text. text.now) (λ rows. rows.now) (λ lists. lists.now) CALLS matched names

module _ {T : Type 0} (r : Result T ErrorKind) (matched : Option (Text × List Row)) (own : Text × List Row) (is : matched ≡ Some own) where
  -- what refuses the matches of the subcommand refuses those of the program
  pub refused : IfErr r (RefusesBy (Some own)) → IfErr r (RefusesBy matched)
  refused by = subst (λ m. IfErr r (RefusesBy m)) (sym is) by

  -- there is a call whenever its values are matched
  pub made : IfErr r (λ kind. NamesCall (Some own) → ⊥) → IfErr r (RefusesBy matched)
  made never = refused (weaker r never)
    where
      weaker : (x : Result T ErrorKind) → IfErr x (λ kind. NamesCall (Some own) → ⊥) → IfErr x (RefusesBy (Some own))
      weaker (Ok call) never = tt
      weaker (Err kind) never = λ names. absurd (never names)

-- what holds of an error holds of it after `?`
pub err_by : {T E : Type 0} (P : E → Type 0) (r : Result T E) (e : E) → P e → IsErr r → IsErrAnd r (λ x. x ≡ e) → IfErr r P
err_by P (Ok value) e holds is same = tt
err_by P (Err x) e holds is same = subst P (sym same) holds
