-- Notices that a port exchanges, one after the other.
use Rattle.std.proofs.Common.{◌≡◌, ◌++◌, List, [], ◌∷◌, refl, ap, subst}
use Rattle.dpbn_build.specs.Turns.{HasExchanged, NoticesLead}
use Rattle.dpbn_node.specs.Runs.{SoloState}

module _ {P : Type 0} (noticed : P → P → Type 0) where
  -- one more after these
  NoticesLead-append : (old between new : P) (states : List P)
      → NoticesLead noticed old states between → noticed between new
      → NoticesLead noticed old (states ++ new ∷ []) new
  NoticesLead-append old between new [] same is = (subst (λ p. noticed p new) same is, refl)
  NoticesLead-append old between new (next ∷ states) (first, later) is =
      (first, NoticesLead-append next between new states later is)

  -- one more
  pub one_noticed : (old between new : P) → HasExchanged noticed old between
      → noticed between new → HasExchanged noticed old new
  one_noticed old between new so is = record {
    states = so.states ++ new ∷ [];
    led = NoticesLead-append old between new so.states so.led is;
  }

-- only the port changed, and it changes again
pub port_set : {D P : Type 0} (old now : SoloState D P) (port : P)
    → now ≡ record old { port = now.port } → record now { port = port } ≡ record old { port = port }
port_set {D} {P} old now port same =
    ap (λ (s : SoloState D P). record s { port = port }) same
