use Rattle.std.proofs.Common.{◌∙◌, option_map, rules, string_bytes}
use Rattle.std.proofs.lemmas.Result.{err_from_is_err_and}
use Rattle.run_file.proofs.Started.{is_started, refused_start, shared_start}
use Rattle.run_file.proofs.start.start_on.Goals as goal

pub returns-in_err-test_folder_mode-clause-refused : goal.returns-in_err-test_folder_mode-clause-refused
returns-in_err-test_folder_mode-clause-refused g c =
    let p = err_from_is_err_and c.from_residual-in_err-test_folder_mode.result
    c.from_residual-in_err-test_folder_mode.ensures.1 in
    rw (p.1, p.2) (shared_start (g.F.LogFolder.had_mode c.args.folder.now)
    (g.F.LogFolder.gave c.args.folder.now c.args.identity.now.me) c.args.identity.now
    (option_map (λ k. k.now) c.args.key) c.args.is_continued _ c.in_ok-mode.ensures.had _
    c.in_err-test_folder_mode.ensures.shared)

pub returns-in_err-log-clause-refused : goal.returns-in_err-log-clause-refused
returns-in_err-log-clause-refused g c =
    let p = err_from_is_err_and c.from_residual-in_err-log.result
    c.from_residual-in_err-log.ensures.1 in
    rw (p.1, p.2) (refused_start (g.F.LogFolder.had_mode c.args.folder.now)
    (g.F.LogFolder.gave c.args.folder.now c.args.identity.now.me) c.args.identity.now
    (option_map (λ k. k.now) c.args.key) c.args.is_continued c.as_bytes.result.now
    c.is_some.result (c.as_bytes.ensures.value ∙ c.in_ok-text.ensures) (search rules) _
    c.in_err-log.ensures.refused)

pub returns-clause-started : goal.returns-clause-started
returns-clause-started g c =
    is_started (g.F.LogFolder.gave c.args.folder.now c.args.identity.now.me)
    (g.F.LogFolder.known c.args.folder.now c.args.identity.now.me) c.args.identity.now
    (option_map (λ k. k.now) c.args.key) c.args.is_continued c.as_bytes.result.now
    (string_bytes c.in_ok-text.text) c.is_some.result c.in_ok-log.log.disk c.in_ok-log.log.plan
    (option_map string_bytes c.unwritten_by-unwritten.result)
    c.as_bytes.ensures.value c.in_ok-text.ensures (search rules) c.in_ok-log.ensures.planned
    c.unwritten_by-unwritten.ensures
