use Rattle.std.proofs.Common.{◌≡◌, ◌*◌, ◌<◌, ◌≤◌, ◌∙◌, ap, arith}
use Rattle.std.specs.Prelude.{flat_map}
use Rattle.wire.specs.Joining.{bytes_numbered}
use Rattle.wire.specs.Pieces.{piece_size}
use Rattle.wire.proofs.PieceNumbers.{flat_past, flat_within, numbers_all, numbers_below}
use Rattle.wire.proofs.pieces.in_order.Goals.{then-from-header+in_ok-put_numbered, else-from-header}
use Rattle.wire.proofs.pieces.in_order.Goals as goal

pub loop-number-preserved : goal.loop-number-preserved
loop-number-preserved c =
    let h = c.args.header.now in
    let bytes = bytes_numbered h c.args.pieces.now in
    let n = c.loop-number.number in
    elim c.if-from-header.branch [
      | then-from-header+in_ok-put_numbered w ↦
          let within : piece_size * n < h.length = omega (arith, w.if-from-header.true, c.from.ensures) in
          ap (λ v. v.items) w.text-is
          ∙ flat_within bytes n h.length c.loop-number.text.items w.put_numbered.new.out.items c.loop-number.invariant within w.in_ok-put_numbered.ensures
      | else-from-header w ↦
          let past : h.length ≤ piece_size * n = omega (arith, w.if-from-header.false, c.from.ensures) in
          ap (λ v. v.items) w.text-is ∙ flat_past bytes n h.length c.loop-number.text.items c.loop-number.invariant past
    ]

pub returns : goal.returns
returns c =
    let h = c.args.header.now in
    let bytes = bytes_numbered h c.args.pieces.now in
    let n = c.loop-number.number in
    let all : n ≡ 128 = omega (arith, c.loop-number-test.false, c.loop-number.auto.number-end) in
    c.loop-number.invariant ∙ ap (λ k. flat_map bytes (numbers_below k h.length)) all ∙ ap (flat_map bytes) (numbers_all h.length)
