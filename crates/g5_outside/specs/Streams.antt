-- What is seen of the sources and sinks in memory, and of the host's objects.
use Rattle.std.specs.Prelude.{ℕ, Bool, true, false, List, []}
use Rattle.g5_outside.specs.Views.{ShelfView, SourceView, SinkView}

abbrev pub told_source : List ℕ → ℕ → SourceView
told_source left faults = record { told = true; left = left; faults = faults }

abbrev pub told_sink : List ℕ → ℕ → SinkView
told_sink taken faults = record { told = true; taken = taken; faults = faults }

abbrev pub untold_source : ℕ → SourceView
untold_source faults = record { told = false; left = []; faults = faults }

abbrev pub untold_sink : ℕ → SinkView
untold_sink faults = record { told = false; taken = []; faults = faults }

-- nothing is told of the files and their bytes
abbrev pub untold_shelf : List ℕ → Bool → ℕ → ℕ → ShelfView
untold_shelf numbers found read_faults write_faults = record {
  told = false;
  files = [];
  left = [];
  name_of = λ _. [];
  text_of = λ _. [];
  numbers = numbers;
  found = found;
  read_faults = read_faults;
  write_faults = write_faults;
}
