-- How contracts see a file.
use Rattle.package_record.specs.Content.{NamedFile}
use Rattle.package_record.specs.declared.file.File.{File}

-- the file's name and its bytes
abbrev pub file_view : File → NamedFile
file_view f = record { name = f.name.items; bytes = f.bytes.items }
