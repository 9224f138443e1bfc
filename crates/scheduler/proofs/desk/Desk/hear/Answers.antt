use Rattle.std.proofs.Common.{◌≤◌, ◌∙◌, Ok, ap, arith, inl, inr, length}
use Rattle.std.proofs.lemmas.Result.{on_ok_weaker}
use Rattle.scheduler.specs.Hearing.{longest}
use Rattle.scheduler.proofs.KeptUnits.{heard_fault, heard_long, heard_piece, heard_whole}
use Rattle.scheduler.proofs.desk.Desk.hear.Goals as goal

pub returns-in-Ok-Whole-clause-heard : goal.returns-in-Ok-Whole-clause-heard
returns-in-Ok-Whole-clause-heard c =
    let short : length c.args.bytes.now ≤ longest = omega arith in
    on_ok_weaker c.hear_message.result
    (heard_whole c.args.member.now c.args.now c.args.bytes.now c.args.self.now
    c.hear_message.new.self c.in-Ok-Whole.field-0 c.in-Ok-Whole.message short
    c.in-Ok-Whole.ensures.exact c.in-Ok-Whole.field-0-is)
    c.hear_message.ensures.heard

pub returns-then-bytes-gt-LONGEST-clause-heard : goal.returns-then-bytes-gt-LONGEST-clause-heard
returns-then-bytes-gt-LONGEST-clause-heard c =
    heard_long c.args.member.now c.args.now c.args.bytes.now c.args.self.now (omega arith)

pub returns-in-Ok-Piece-clause-heard : goal.returns-in-Ok-Piece-clause-heard
returns-in-Ok-Piece-clause-heard c =
    let short : length c.args.bytes.now ≤ longest = omega arith in
    heard_piece c.args.member.now c.args.now c.args.bytes.now c.args.self.now
    c.in-Ok-Piece.field-0-0 short
    (c.in-Ok-Piece.ensures.exact ∙ ap Ok c.in-Ok-Piece.field-0-is)
