-- The text of an instruction as the one statement of a source.
-- Source: choice of this project.
use Rattle.std.specs.Prelude.{ℕ, ◌==◌, Bool, false, if◌then◌else◌, List, [], ◌∷◌, ◌++◌, None, codes}
use Rattle.esa_model.specs.declared.instructions.Form.{Form}
use Rattle.esa_model.specs.declared.instructions.Form.TheVariants.{Rr, Rx, Rs, Si, S, Ri, Rsi, Rre, Ss1, Ss2}
use Rattle.esa_model.specs.declared.instructions.Decoded.{Decoded}
use Rattle.esa_model.specs.Table.{row_numbered}
use Rattle.asm_model.specs.Program.{Assembly}
use Rattle.asm_text.specs.Operands.{is_shift}
use Rattle.asm_text.specs.Text.{text_of}

-- three lines: a section of a name, the text after one blank, and the end
unfoldable pub between : List ℕ → Decoded → List ℕ
between name d = name ++ codes " CSECT\n " ++ text_of d ++ codes "\n END\n"

-- SPM, IPM and the shifts have one register, and ignore the bits of a second one
abbrev pub has_one_register : Form → ℕ → Bool
has_one_register Rr o = o == 0x04
has_one_register Rs o = is_shift o
has_one_register Rre o = o == 0xB222
has_one_register Rx o = false
has_one_register Si o = false
has_one_register S o = false
has_one_register Ri o = false
has_one_register Rsi o = false
has_one_register Ss1 o = false
has_one_register Ss2 o = false

abbrev pub ignored_by : Form → ℕ → Decoded → ℕ
ignored_by f o d = if has_one_register f o then d.r2 else 0

-- the field that an instruction ignores; zero where it has none
abbrev pub ignored : Decoded → ℕ
ignored d = ignored_by (row_numbered d.row).form (row_numbered d.row).opcode d

-- a program of one section
abbrev pub only_section : ℕ → List ℕ → Assembly
only_section name bytes = record {
  sections = record { name = name; bytes = bytes } ∷ [];
  externals = [];
  constants = [];
  entry = None;
}
