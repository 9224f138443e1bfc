-- The last piece of a message.
use Rattle.std.proofs.Common.{◌≡◌, ◌∙◌, ◌∷◌, ◌||◌, [], ℕ, Bool, true, false, List, Option, None, Some, Result, Ok, Err, IfOk, if◌then◌else◌, filter, get_or, sym, subst, ap, refl}
use Rattle.std.specs.List.{list_any}
use Rattle.std.proofs.lemmas.List.Sums.{list_all-from_AllPass}
use Rattle.ballots.specs.declared.message.Message.{Message}
use Rattle.faults.specs.Bytes.{Text}
use Rattle.node.specs.Arrival.{Arrival, Waits, Whole, arrival_of, arrival_of_all, arrival_of_new, arrival_of_piece, refusal_of}
use Rattle.node.specs.Calls.{HasHandled}
use Rattle.node.specs.Kept.{are_all, has_number, with_piece, without}
use Rattle.node.specs.State.{NodeState}
use Rattle.node.specs.Step.{Comes, heard, running_step, step_on}
use Rattle.node.specs.declared.fault.Foreign.TheVariants as foreign
use Rattle.node.specs.declared.fault.NodeFault.{NodeFault}
use Rattle.node.specs.declared.fault.NodeFault.TheVariants as fault
use Rattle.node.specs.declared.prepared_step.Effects.{Effects}
use Rattle.node.specs.Laws.{OnlyRunningNodesTake}
use Rattle.check_worlds.specs.Rows.{IsLastPiece, TookJoined, TookWithLast}
use Rattle.package_record.specs.Build.{build_text}
use Rattle.protocol.specs.State.{Value}
use Rattle.protocol.specs.Step as members
use Rattle.protocol.specs.declared.refusal.Refusal.{Refusal}
use Rattle.wire.specs.Joining.{AreAllThere, bytes_of, is_numbered}
use Rattle.wire.specs.Laws.{PiecesJoinInAnyOrder}
use Rattle.wire.specs.Pieces.{header_with, numbers_of, piece_at}
use Rattle.wire.specs.Reading.{datagram_of, joined}
use Rattle.wire.specs.Spelling.{datagram_text}
use Rattle.wire.specs.declared.WireFault.{WireFault}
use Rattle.wire.specs.declared.datagram.Datagram.{Datagram}
use Rattle.wire.specs.declared.datagram.Datagram.TheVariants as datagram
use Rattle.wire.specs.declared.datagram.Header.{Header}
use Rattle.wire.specs.declared.datagram.Piece.{Piece}

-- an element that is all a filter leaves is in the list
any_left : {A : Type 0} (P : A → Bool) (xs : List A) (x : A) → filter P xs ≡ x ∷ [] → list_any P xs ≡ true
any_left P [] x e = absurd (let no : [] ≡ x ∷ [] = e in cc)
any_left P (y ∷ ys) x e = by (P y) refl (λ rest. any_left P ys x rest)
  where
    by : (b : Bool) → P y ≡ b → (filter P ys ≡ x ∷ [] → list_any P ys ≡ true) → list_any P (y ∷ ys) ≡ true
    by true is later = ap (λ (b : Bool). b || list_any P ys) is
    by false is later =
        ap (λ (b : Bool). b || list_any P ys) is
        ∙ later (sym (ap (λ (b : Bool). if b then y ∷ filter P ys else filter P ys) is) ∙ e)

-- if each piece occurs once, all are there
are_there : (h : Header) (text : Text) (pieces : List Piece) → AreAllThere h text pieces → are_all h pieces ≡ true
are_there h text pieces once =
    list_all-from_AllPass (has_number h pieces) (numbers_of h.length)
    (λ k d lt. any_left (is_numbered h (get_or (numbers_of h.length) k d)) pieces (piece_at h text (get_or (numbers_of h.length) k d)) (once k d lt))

module _ (old new : NodeState) (m : Message Value) (h : Header) (text : Text) (p : Piece) (out : Effects)
    (again : datagram_of (datagram_text (datagram.Piece p)) ≡ Ok (datagram.Piece p)) (runs : old.stopped ≡ false)
    (last : IsLastPiece old.pieces p h text) (joins : joined h (bytes_of h (with_piece old.pieces p)) ≡ Ok m)
    (handled : HasHandled old new (Comes (datagram_text (datagram.Piece p))) out) where
  -- they join to the message
  is_whole : arrival_of_piece old.pieces p None ≡ Whole m (without h old.pieces)
  is_whole =
      ap (λ (x : Header). if has_number x old.pieces p.number then Waits old.pieces else arrival_of_new old.pieces p) last.of_header
      ∙ ap (λ (b : Bool). if b then Waits old.pieces else arrival_of_new old.pieces p) last.missing
      ∙ ap (λ (x : Header). if are_all x (with_piece old.pieces p) then arrival_of_all (without x old.pieces) (joined x (bytes_of x (with_piece old.pieces p))) else Waits (with_piece old.pieces p)) last.of_header
      ∙ ap (λ (b : Bool). if b then arrival_of_all (without h old.pieces) (joined h (bytes_of h (with_piece old.pieces p))) else Waits (with_piece old.pieces p)) (are_there h text (with_piece old.pieces p) last.all_there)
      ∙ ap (λ (r : Result (Message Value) WireFault). arrival_of_all (without h old.pieces) r) joins

  -- the step is that on the meaning of the piece to the node
  steps : Ok handled.step ≡ step_on old.member (arrival_of_piece old.pieces p (refusal_of old.member p.header))
  steps =
      handled.takes.right_is
      ∙ ap (λ (b : Bool). if b then Err fault.Stopped else running_step old.member old.pieces handled.takes.letter (Comes (datagram_text (datagram.Piece p)))) runs
      ∙ ap (λ (r : Result Datagram WireFault). step_on old.member (arrival_of old.member old.pieces r)) again

  pub took_joined : TookJoined old new h m out
  took_joined = by (refusal_of old.member p.header) refl
    where
      by : (r : Option Refusal) → refusal_of old.member p.header ≡ r → TookJoined old new h m out
      by (Some r) e =
          absurd (let no : Ok handled.step ≡ Err (fault.Foreign (foreign.Message r)) =
          steps ∙ ap (λ (o : Option Refusal). step_on old.member (arrival_of_piece old.pieces p o)) e in cc)
      by None e = record {
        step = handled.step;
        is = sym (steps ∙ ap (λ (o : Option Refusal). step_on old.member (arrival_of_piece old.pieces p o)) e ∙ ap (step_on old.member) is_whole);
        taken = handled.taken;
      }

-- and so is that of the call
pub if_joined : (r : Result Effects NodeFault) (old new : NodeState) (came : Text) (p : Piece) → came ≡ datagram_text (datagram.Piece p)
    → datagram_of (datagram_text (datagram.Piece p)) ≡ Ok (datagram.Piece p) → OnlyRunningNodesTake → PiecesJoinInAnyOrder
    → IfOk r (HasHandled old new (Comes came)) → IfOk r (TookWithLast old new p)
if_joined (Ok out) old new came p same again runs joins handled = λ m carrier build is_message carried last.
    let text : Text = datagram_text (datagram.Piece p) in
    let h : Header = header_with m carrier build in
    let as_read : HasHandled old new (Comes text) out = subst (λ (t : Text). HasHandled old new (Comes t) out) same handled in
    took_joined old new m h (build_text build) p out again (runs old (Comes text) as_read.step as_read.takes) last
    (joins m carrier build (with_piece old.pieces p) is_message carried last.all_there) as_read
if_joined (Err f) old new came p same again runs joins handled = tt
