-- What the lines of the classes say of an instruction where it stands: the test of its register
-- numbers, its operands, and what it does.
-- Source: choice of this project; each row has its source in the module of its class.
use Rattle.std.specs.Prelude.{ℕ, List, Bool}
use Rattle.esa_model.specs.declared.machine.Registers.{Registers}
use Rattle.esa_model.specs.declared.kinds.WordKind.{WordKind}
use Rattle.esa_model.specs.declared.kinds.BranchKind.{BranchKind}
use Rattle.esa_model.specs.declared.kinds.StoreKind.{StoreKind}
use Rattle.esa_model.specs.Access.{Operands}
use Rattle.esa_model.specs.Line.{Effect}
use Rattle.esa_model.specs.Rows.Words.{words_line}
use Rattle.esa_model.specs.Rows.Branches.{branches_line}
use Rattle.esa_model.specs.Rows.Stores.{stores_line}
use Rattle.row_frame.specs.declared.instruction.Instruction.{Instruction}
use Rattle.row_frame.specs.Made.{inputs}

abbrev pub words_order : WordKind → ℕ → Registers → List ℕ → Instruction → Bool
words_order kind op r storage i = (words_line kind op).in_order (inputs r storage i)

abbrev pub words_operands : WordKind → ℕ → Registers → List ℕ → Instruction → Operands
words_operands kind op r storage i = (words_line kind op).operands (inputs r storage i)

abbrev pub words_effect : WordKind → ℕ → Registers → List ℕ → Instruction → Effect
words_effect kind op r storage i = (words_line kind op).effect (inputs r storage i)

abbrev pub branches_order : BranchKind → ℕ → Registers → List ℕ → Instruction → Bool
branches_order kind op r storage i = (branches_line kind op).in_order (inputs r storage i)

abbrev pub branches_operands : BranchKind → ℕ → Registers → List ℕ → Instruction → Operands
branches_operands kind op r storage i = (branches_line kind op).operands (inputs r storage i)

abbrev pub branches_effect : BranchKind → ℕ → Registers → List ℕ → Instruction → Effect
branches_effect kind op r storage i = (branches_line kind op).effect (inputs r storage i)

abbrev pub stores_order : StoreKind → ℕ → Registers → List ℕ → Instruction → Bool
stores_order kind op r storage i = (stores_line kind op).in_order (inputs r storage i)

abbrev pub stores_operands : StoreKind → ℕ → Registers → List ℕ → Instruction → Operands
stores_operands kind op r storage i = (stores_line kind op).operands (inputs r storage i)

abbrev pub stores_effect : StoreKind → ℕ → Registers → List ℕ → Instruction → Effect
stores_effect kind op r storage i = (stores_line kind op).effect (inputs r storage i)
