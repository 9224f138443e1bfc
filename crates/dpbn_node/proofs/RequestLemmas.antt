-- The bytes that requests for a unit begin with.
use Rattle.std.proofs.Common.{◌≡◌, ◌++◌, ℕ, codes, refl}
use Rattle.ballots.specs.Value.{Value}
use Rattle.ballots.specs.declared.message.Body.{Body}
use Rattle.ballots.specs.declared.message.Body.TheVariants.{Offer, Promise, Propose, Vote, Agreed, Ask, Nay}
use Rattle.faults.specs.Bytes.{Text, begins_with}
use Rattle.wire.specs.Spelling.{body_text, datagram_text, front_text, kind_of}
use Rattle.wire.specs.declared.datagram.Datagram.{Datagram}
use Rattle.wire.specs.declared.datagram.Datagram.TheVariants.{Whole, Piece}
use Rattle.dpbn_node.specs.Requests.{asks, body_asks, request_front}

-- whether a whole datagram begins with them depends on its kind
by_kind : (body : Body Value) (sender : ℕ) (tree path more : Text) → begins_with request_front (front_text (codes "DPB1") (kind_of body) sender tree path ++ more) ≡ body_asks body
by_kind (Offer c) sender tree path more = refl
by_kind (Promise c report) sender tree path more = refl
by_kind (Propose c v) sender tree path more = refl
by_kind (Vote c) sender tree path more = refl
by_kind (Agreed v) sender tree path more = refl
by_kind Ask sender tree path more = refl
by_kind (Nay c promised) sender tree path more = refl

-- a datagram begins with them if and only if it is a request
pub begins_as_it_asks : (d : Datagram) → begins_with request_front (datagram_text d) ≡ asks d
begins_as_it_asks (Whole m) = by_kind m.body m.sender m.tree m.path (body_text m.body)
begins_as_it_asks (Piece p) = refl
