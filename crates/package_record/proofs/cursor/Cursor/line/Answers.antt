use Rattle.package_record.proofs.Cuts.{halves_found, line_found, no_line, nowhere}
use Rattle.package_record.proofs.cursor.Cursor.line.Goals as goal

pub returns-in-Some : goal.returns-in-Some
returns-in-Some c =
    let cut = halves_found 10 c.args.self.rest.now c.in-Some.line.now c.in-Some.rest.now c.in-Some.ensures.halves in
    rw (cut.1, cut.2) (line_found c.args.self.passed c.args.self.rest.now cut.0)

pub returns-in-None : goal.returns-in-None
returns-in-None c = no_line c.args.self.passed c.args.self.rest.now (nowhere 10 c.args.self.rest.now c.in-None.ensures.halves)
