-- What contracts see of each silicon. Source: choice of this project.
use Rattle.std.specs.Prelude.{◌+◌, ◌*◌, slice_index}
use Rattle.silicon.specs.Chip.{Chip}
use Rattle.silicon.specs.Lines.{lines_of}
use Rattle.silicon.specs.declared.script_silicon.ScriptSilicon.{ScriptSilicon}

-- word w of core c stands at 40 c + w
abbrev pub chip : ScriptSilicon → Chip
chip s = record {
  lines = lines_of s.walk;
  begun = λ c. slice_index s.begun c;
  word = λ c w. slice_index s.words (c * 40 + w);
}
