-- No file before this one has the name.
use Rattle.std.proofs.Common.{◌≡◌, drop}
use Rattle.flux_io.specs.Stores.{file_of}
use Rattle.flux_io.proofs.memory_files.find_file.Given as goal

abbrev pub invariant-files : goal.invariant-files
invariant-files l = file_of (drop l.file-index l.file-items) l.name ≡ file_of l.fn.files l.name
