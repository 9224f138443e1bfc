use Rattle.stable_record.proofs.file_disk.FileDisk.new.Given as goal

abbrev pub ghost-new : goal.ghost-new
ghost-new g a = g.past
