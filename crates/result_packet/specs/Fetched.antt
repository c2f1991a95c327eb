-- What an event stores before an interruption fetches its new PSW.
-- Source: Principles of Operation, chapter on interruptions. That the new PSW is fetched after all stores is a choice of
-- this project.
use Rattle.std.specs.Prelude.{ℕ, List, [], Option}
use Rattle.esa_model.specs.declared.events.Interruption.{Interruption}
use Rattle.esa_model.specs.declared.machine.Psw.{Psw}
use Rattle.esa_model.specs.declared.machine.Registers.{Registers}
use Rattle.esa_model.specs.Access.{written}
use Rattle.esa_model.specs.Unit.{Done, interrupted}

-- three stores at effective addresses: of the operand, of the old PSW and of the identification
pub record Stores : Type 0 where
  pub to : ℕ
  pub operand : List ℕ
  pub old_at : ℕ
  pub old : List ℕ
  pub own_at : ℕ
  pub own : List ℕ

-- the storage after them, one after the other
abbrev pub stored_by : Registers → Stores → List ℕ → List ℕ
stored_by r s storage = written r s.own_at s.own (written r s.old_at s.old (written r s.to s.operand storage))

-- an event that stores bytes and then interrupts with this PSW to be stored; it refers to no block
abbrev pub left_by : Registers → ℕ → List ℕ → Option Interruption → Psw → ℕ → Done
left_by r to stored kind psw identification =
    record (interrupted (record r { psw = psw }) kind identification []) { to = to; stored = stored }
