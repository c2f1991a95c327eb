-- Rows that branch or link, SPM, IPM, EX and SVC.
-- Source: Principles of Operation, chapter on general instructions; the registers after are those of BranchRows.
use Rattle.std.specs.Prelude.{ℕ, ◌+◌, ◌*◌, ◌/◌, Bool, true, Some}
use Rattle.esa_model.specs.declared.events.Interruption.TheVariants.{SupervisorCall}
use Rattle.esa_model.specs.declared.kinds.BranchKind.{BranchKind}
use Rattle.esa_model.specs.declared.kinds.BranchKind.TheVariants.{ByRegister, ByIndex, ByBase, ByDistance, Call, Execute}
use Rattle.esa_model.specs.Psw.{address}
use Rattle.esa_model.specs.BranchRows.{branch_row, is_branch}
use Rattle.esa_model.specs.Relative.{relative}
use Rattle.esa_model.specs.Line.{Line, Inputs, indexed, second_at, advanced, always, no_operands, leaves, nothing}

-- a branch to a target: the length code is half the length in bytes, and the next address follows the instruction
abbrev pub branches : ℕ → (Inputs → ℕ) → Line
branches op target = record {
  in_order = always;
  operands = no_operands;
  effect = λ i. leaves (branch_row op (i.len / 2) (address i.registers.psw + i.len) (target i) i.registers i.decoded);
}

-- SVC: its code is the second byte of the instruction
abbrev pub supervisor_call : Line
supervisor_call = record {
  in_order = always;
  operands = no_operands;
  effect = λ i. record (leaves (advanced i.registers i.len)) {
    interruption = Some SupervisorCall;
    code = i.decoded.r1 * 16 + i.decoded.r2;
  };
}

-- EX does what its target does: a line of its own is not looked at
unfoldable pub branches_line : BranchKind → ℕ → Line
branches_line ByRegister op = branches op (λ i. 0)
branches_line ByIndex op = branches op (λ i. indexed i.registers i.decoded)
branches_line ByBase op = branches op (λ i. second_at i.registers i.decoded)
branches_line ByDistance op = branches op (λ i. relative i.registers i.own i.decoded.imm)
branches_line Call op = supervisor_call
branches_line Execute op = nothing

-- whether BranchRows has the registers after a row of this kind and opcode
unfoldable pub has_branch : BranchKind → ℕ → Bool
has_branch ByRegister op = is_branch op
has_branch ByIndex op = is_branch op
has_branch ByBase op = is_branch op
has_branch ByDistance op = is_branch op
has_branch Call op = true
has_branch Execute op = true
