-- Each row that branches is in order, and has no operand.
use Rattle.std.proofs.Common.{◌≡◌, ℕ, true, refl}
use Rattle.esa_model.specs.declared.kinds.BranchKind.{BranchKind}
use Rattle.esa_model.specs.declared.kinds.BranchKind.TheVariants.{ByRegister, ByIndex, ByBase, ByDistance, Call, Execute}
use Rattle.esa_model.specs.Access.{none}
use Rattle.esa_model.specs.Line.{Inputs, one}
use Rattle.esa_model.specs.Rows.Branches.{branches_line}

pub in_order : (kind : BranchKind) (op : ℕ) (i : Inputs) → (branches_line kind op).in_order i ≡ true
unfolding branches_line
in_order ByRegister op i = refl
in_order ByIndex op i = refl
in_order ByBase op i = refl
in_order ByDistance op i = refl
in_order Call op i = refl
in_order Execute op i = refl

pub operands : (kind : BranchKind) (op : ℕ) (i : Inputs)
    → (branches_line kind op).operands i ≡ one none
unfolding branches_line
operands ByRegister op i = refl
operands ByIndex op i = refl
operands ByBase op i = refl
operands ByDistance op i = refl
operands Call op i = refl
operands Execute op i = refl
