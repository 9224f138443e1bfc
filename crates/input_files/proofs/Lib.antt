mod BuildsFile
