use Rattle.run_file.proofs.system_folder.locked_disk.Given as goal

abbrev pub ghost-new : goal.ghost-new
ghost-new g a = g.P.Supposed.past
