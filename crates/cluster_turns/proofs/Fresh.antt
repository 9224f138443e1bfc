-- Logs without notes.
use Rattle.std.proofs.Common.{◌≡◌, ◌+◌, ◌++◌, ℕ, Bool, true, false, List, [], ◌∷◌, length, refl, ap, arith, length-append, if◌then◌else◌}
use Rattle.ballots.specs.declared.message.Note.{Note}
use Rattle.listing.specs.Tree.{Tree}
use Rattle.node.specs.OnLog.{identity, texts_of}
use Rattle.protocol.specs.State.{Value}
use Rattle.sha2.proofs.Facts256.{length-sha256}
use Rattle.stable_record.specs.Log.{entries, entry, gate_place, header, written_weights}
use Rattle.stable_record.specs.Log as log
use Rattle.stable_record.specs.Magic.{are_ones, plain_magic, weighted_magic}
use Rattle.stable_record.specs.declared.identity.Identity.{Identity}

-- the length of the header before the tree's digest, the numbers and the weights, and with them
magic_len : (b : Bool) → length (if b then plain_magic else weighted_magic) ≡ 8
magic_len true = refl
magic_len false = refl

header_len : (i : Identity) → length i.tree ≡ 32
    → length (header i) ≡ 42 + length (written_weights i)
header_len i size =
    let magic = if are_ones i.weights.items then plain_magic else weighted_magic in
    let two : List ℕ = length i.weights.items ∷ i.me ∷ [] in
    omega (
      arith,
      size,
      magic_len (are_ones i.weights.items),
      length-append (magic ++ i.tree ++ two) (written_weights i),
      length-append (magic ++ i.tree) two,
      length-append magic i.tree,
    )

-- more notes move the gate farther on
no_texts : (i : Identity) (texts : List log.Note) → gate_place i texts ≡ gate_place i []
    → texts ≡ []
no_texts i [] e = refl
no_texts i (t ∷ ts) e = absurd (omega (arith, e))

module _ (tree : Tree) (weights : List ℕ) (me : ℕ) where
  abbrev whose : Identity
  whose = identity tree weights me

  -- the length of a log without notes
  pub fresh_place : gate_place whose [] + 1
      ≡ (if are_ones weights then 44 else 44 + length weights)
  fresh_place = by (are_ones weights) (header_len whose (length-sha256 _))
    where
      by : (b : Bool) → length (header whose) ≡ 42 + length (if b then [] else weights)
          → gate_place whose [] + 1 ≡ (if b then 44 else 44 + length weights)
      by true long = omega (arith, long)
      by false long = omega (arith, long)

  -- if the log is as long, the node has no notes
  pub no_notes : (notes : List (Note Value))
      → gate_place whose (texts_of notes) ≡ gate_place whose [] → notes ≡ []
  no_notes [] e = refl
  no_notes (n ∷ ns) e =
      let none = no_texts whose (texts_of (n ∷ ns)) e in
      absurd (omega (arith, ap length none))
