use Rattle.std.proofs.Math.Facts.{Fits-lt-pow}
use Rattle.std.proofs.lemmas.Result.{err_from_is_err_and}
use Rattle.wire.specs.Reading.{datagram_of}
use Rattle.wire.proofs.DatagramTexts.{datagram_is_spelled}
use Rattle.wire.proofs.Refused.{failed}
use Rattle.wire.proofs.decode.Goals as goal

pub returns-clause-datagram : goal.returns-clause-datagram
returns-clause-datagram c = datagram_is_spelled c.args.text.now c.in_ok-datagram.datagram (λ k. Fits-lt-pow (c.type_inv.text k)) c.in_ok-datagram.ensures

pub returns-in_err-datagram-clause-exact : goal.returns-in_err-datagram-clause-exact
returns-in_err-datagram-clause-exact c =
    let p = err_from_is_err_and c.from_residual.result c.from_residual.ensures.1 in
    rw p.1 (failed c.in_err-datagram.field-0.0 p.0 (datagram_of c.args.text.now) p.2 c.in_err-datagram.ensures)
