-- What was not said was not sent, not even in part.
use Rattle.std.proofs.Common.{◌≡◌, ◌<◌, ◌⊎◌, ℕ, zero, suc, List, [], ◌∷◌, length, Option, None, Some, refl, sym, ap, subst, ◌∙◌, inl, inr, arith}
use Rattle.std.specs.Prelude.{Contains}
use Rattle.std.proofs.lemmas.List.Elements.{All-contains}
use Rattle.claims.specs.AgreedList.{Act, Cluster}
use Rattle.claims.specs.Votes.{Has}
use Rattle.ballots.specs.InTheAgreement.{said}
use Rattle.ballots.specs.declared.message.Body.{Body}
use Rattle.ballots.specs.declared.message.Message.{Message}
use Rattle.faults.specs.Bytes.{Text}
use Rattle.node.specs.Parcels.{datagrams_of}
use Rattle.package_record.specs.Build.{build_text}
use Rattle.package_record.proofs.BuildsRead.{build_is_read}
use Rattle.protocol.specs.State.{Value}
use Rattle.engine.specs.Division.{Division}
use Rattle.engine.proofs.Names.{name_tells}
use Rattle.wire.specs.Messages.{IsMessage}
use Rattle.wire.specs.Pieces.{IsDatagram, body_with, carried_in, header_with, numbers_of, piece_at, split_by, split_of}
use Rattle.wire.specs.Reading.{datagram_of}
use Rattle.wire.specs.Spelling.{datagram_text}
use Rattle.wire.specs.Laws.{header_in}
use Rattle.wire.specs.declared.datagram.Carrier.{Carrier}
use Rattle.wire.specs.declared.datagram.Datagram.{Datagram}
use Rattle.wire.specs.declared.datagram.Datagram.TheVariants as datagrams
use Rattle.wire.specs.declared.datagram.Header.{Header}
use Rattle.wire.specs.declared.datagram.Piece.{Piece}
use Rattle.wire.proofs.Cutting.{message_again, split_good}
use Rattle.wire.proofs.DatagramTexts.{datagram_again}
use Rattle.one_list.specs.Safety.{WasSentOf}
use Rattle.world.specs.Sent.{WasSent}
use Rattle.world.specs.World.{IsMade, World}
use Rattle.one_list.specs.Local.{AreKept}
use Rattle.one_list.specs.Matches.{Matches, WasSaid, name_of}
use Rattle.one_list.specs.Mirrored.{after_all_acts}
use Rattle.one_list.proofs.sent.ArrivedMessages.{read_as, whole_came}
use Rattle.one_list.proofs.sent.MessageHeaders.{carries, divided, ok, sent_was_said}
use Rattle.one_list.proofs.sent.SentMessages.{has_preimage}

only : {X : Type 0} (y x : X) → Contains (y ∷ []) x → y ≡ x
only y x (zero, within, e) = e
only y x (suc k, within, e) = absurd (omega arith)

-- The bodies are equal, except for the build that each carries.
abbrev pub AreAlike : Body Value → Body Value → Type 0
AreAlike a b = (b ≡ a)
    ⊎ ((c : Carrier) × (v : Value) × (x : Value) × (carried_in a ≡ Some (c, v))
    × (b ≡ body_with c x))

module _ (division : Division) (weights : List ℕ) (acts : List (Act Value)) (w : World)
    (made : IsMade division weights)
    (of : (w.division ≡ division) × (w.weights ≡ weights))
    (m : Matches w (after_all_acts division weights acts)) where
  -- the cluster after the acts
  abbrev here : Cluster Value
  here = after_all_acts division weights acts

  -- The member said nothing like this for the unit.
  abbrev pub IsUnsaid : ℕ → ℕ → Body Value → Type 0
  IsUnsaid u sender body = (b : Body Value) → AreAlike body b
      → Has (here.at u).sent (said sender b) → ⊥

  module _ (n : Message Value) (good : IsMessage n) (u : ℕ) (within : u < length w.division.units)
      (about : n.path ≡ name_of w u) (unsaid : IsUnsaid u n.sender n.body) where
    was_said : (o : Message Value) → WasSent w.sent o → WasSaid w here o
    was_said = sent_was_said division weights acts w made of m build_is_read

    -- no message that differs only in its build was sent
    pub none_alike : (o : Message Value) → WasSent w.sent o → o.sender ≡ n.sender → o.path ≡ n.path
        → AreAlike n.body o.body → ⊥
    none_alike o is_sent sender path alike =
        let s = was_said o is_sent in
        let unit : s.unit ≡ u = name_tells w.division s.unit u (divided division weights acts w
        made of m) s.listed within (sym s.about ∙ path ∙ about) in
        unsaid o.body alike
        (subst (λ j. Has (here.at u).sent (said j o.body)) sender
        (subst (λ (q : ℕ). Has (here.at q).sent (said o.sender o.body)) unit s.said_there))

    -- no message whose pieces have the header of this one was sent
    none_of_header : (c : Carrier) (v : Value) → carried_in n.body ≡ Some (c, v)
        → (o : Message Value) → WasSent w.sent o → (d : Datagram) → Contains (split_of o) d
        → header_in d ≡ Some (header_with n c v) → ⊥
    none_of_header c v carried o is_sent d there e =
        let h = carries o d (header_with n c v) there e in
        none_alike o is_sent (ap (λ (x : Header). x.sender) h.header)
        (ap (λ (x : Header). x.path) h.header)
        (inr (
          c,
          v,
          h.build,
          carried,
          sym (ap (λ (y : Message Value). y.body) (message_again o h.carrier h.build h.carried))
              ∙ ap (λ (y : Carrier). body_with y h.build) (ap (λ (x : Header). x.carrier) h.header),
        ))

    -- So none of its datagrams was sent.
    pub unsent : (text : Text) → Contains (datagrams_of n) text → Contains w.sent text → ⊥
    unsent text h there = by (carried_in n.body) refl
      where
        p : (d : Datagram) × Contains (split_of n) d × (datagram_text d ≡ text)
        p = let q = has_preimage datagram_text (split_of n) text h in (q.0, q.1, sym q.2)

        read : datagram_of text ≡ ok p.0
        read = ap datagram_of (sym p.2) ∙ datagram_again p.0
            (All-contains IsDatagram (split_of n) p.0 (split_good n good) p.1)

        by : (o : Option (Carrier × Value)) → carried_in n.body ≡ o → ⊥
        by None is =
            let whole : datagrams.Whole n ≡ p.0 = only (datagrams.Whole n) p.0
            (subst (λ o. Contains (split_by n o) p.0) is p.1) in
            none_alike n (whole_came division weights acts w made of m build_is_read text n
            (read ∙ ap ok (sym whole)) there) refl refl (inl refl)
        by (Some x) is =
            let c = read_as division weights acts w made of m build_is_read text p.0 read there in
            let q = has_preimage (λ k. datagrams.Piece
            (piece_at (header_with n x.0 x.1) (build_text x.1) k))
            (numbers_of (length (build_text x.1))) p.0
            (subst (λ o. Contains (split_by n o) p.0) is p.1) in
            none_of_header x.0 x.1 is c.message c.is_sent p.0 c.datagram (ap header_in q.2)

    -- No node keeps a piece of it.
    pub unkept : (c : Carrier) (v : Value) → carried_in n.body ≡ Some (c, v)
        → (pieces : List Piece) → AreKept w pieces → (p : Piece) → Contains pieces p
        → p.header ≡ header_with n c v → ⊥
    unkept c v carried pieces kept p there e =
        let o = All-contains (λ p. (o : Message Value) × WasSentOf w.sent o p) pieces p kept.sent
        there in
        none_of_header c v carried o.0 (o.1).is_sent (datagrams.Piece p) (o.1).piece
        (ap (λ (x : Header). Some x) e)
