use Rattle.check_log.proofs.real_file.append_to_file.Given as goal

abbrev pub ghost-new : goal.ghost-new
ghost-new g a = g.past
