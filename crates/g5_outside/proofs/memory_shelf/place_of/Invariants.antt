use Rattle.std.proofs.Common.{◌≡◌, drop}
use Rattle.g5_outside.specs.Calls.{file_named}
use Rattle.g5_outside.specs.MemoryFiles.{files_of}
use Rattle.g5_outside.proofs.memory_shelf.place_of.Given as goal

abbrev pub invariant-loop-i : goal.invariant-loop-i
invariant-loop-i l = file_named l.name (files_of (drop l.i l.files)) ≡ file_named l.name (files_of l.files)
