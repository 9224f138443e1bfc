use Rattle.std.proofs.Common.{◌++◌, ◌∷◌, [], List, ap, sym, arith, length, ℕ, ◌∙◌, rules, map-id}
use Rattle.std.proofs.lemmas.Iterator.Adapters.{YieldsList-from_vec}
use Rattle.std.proofs.lemmas.Iterator.Consumers.{YieldsList-end, YieldsList-turn}
use Rattle.std.proofs.lemmas.List.{length-append}
use Rattle.std.proofs.lemmas.List.FromFn.{map-range_with_len_more}
use Rattle.faults.specs.Bytes.{Text}
use Rattle.wire.specs.Pieces.{piece_at}
use Rattle.wire.specs.declared.datagram.Datagram.{Datagram}
use Rattle.wire.specs.declared.datagram.Datagram.TheVariants.{Piece}
use Rattle.wire.proofs.PieceNumbers.{cut_at}
use Rattle.wire.proofs.CutTexts.{cut_here, joined, made_of_all}
use Rattle.wire.proofs.pieces.numbered.Goals as goal

pub overflow_add-number : goal.overflow_add-number
overflow_add-number c =
    let cuts = c.args.cuts.items in
    let ys = c.loop-bytes.yielded in
    let yields = YieldsList-from_vec {s = c.into_iter-bytes-iterator.result} cuts (search rules) (search rules) in
    let turn = YieldsList-turn yields ys c.loop-bytes.bytes-iterator c.loop-bytes.yielded_by c.next.result c.next.new.self c.in-Some.bytes c.in-Some.is c.next.ensures.steps in
    let here = cut_here cuts c.in-Some.bytes (length ys) c.requires turn.0 turn.1 in
    omega (arith, here.1, c.loop-bytes.invariant.number)

pub loop-bytes-preserved : goal.loop-bytes-preserved
loop-bytes-preserved c =
    let cuts = c.args.cuts.items in
    let ys = c.loop-bytes.yielded in
    let h = c.args.header.now in
    let n = c.loop-bytes.number in
    let sent = λ (k : ℕ). Piece (piece_at h (joined cuts) k) in
    let yields = YieldsList-from_vec {s = c.into_iter-bytes-iterator.result} cuts (search rules) (search rules) in
    let turn = YieldsList-turn yields ys c.loop-bytes.bytes-iterator c.loop-bytes.yielded_by c.next.result c.next.new.self c.in-Some.bytes c.in-Some.is c.next.ensures.steps in
    let here = cut_here cuts c.in-Some.bytes (length ys) c.requires turn.0 turn.1 in
    let one = c.in_ok-piece.ensures ∙ ap (λ (bytes : Text). Piece (record { header = h; number = n; bytes = bytes })) (here.0 ∙ ap (cut_at (joined cuts)) (sym c.loop-bytes.invariant.number)) in
    record {
      pieces = c.in_ok-push.ensures.items ∙ ap (λ (d : Datagram). c.loop-bytes.pieces.items ++ d ∷ []) one
          ∙ ap (λ (ds : List Datagram). ds ++ sent n ∷ []) c.loop-bytes.invariant.pieces
          ∙ sym (map-range_with_len_more sent 0 n n (omega arith));
      number = omega (arith, c.loop-bytes.invariant.number, length-append ys (c.in-Some.bytes ∷ []));
    }

pub returns : goal.returns
returns c =
    let cuts = c.args.cuts.items in
    let ys = c.loop-bytes.yielded in
    let ends = YieldsList-end (YieldsList-from_vec {s = c.into_iter-bytes-iterator.result} cuts (search rules) (search rules)) ys c.loop-bytes.bytes-iterator c.loop-bytes.yielded_by c.next.result c.next.new.self c.in-None.is c.next.ensures.steps in
    let all = c.loop-bytes.invariant.number ∙ ap length (sym (map-id ys) ∙ ends.0) in
    made_of_all (λ (k : ℕ). Piece (piece_at c.args.header.now (joined cuts) k)) cuts c.loop-bytes.number c.loop-bytes.pieces.items c.requires all c.loop-bytes.invariant.pieces
