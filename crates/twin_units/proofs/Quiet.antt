-- An effect that reads no console input, sends no order and sets no key.
use Rattle.std.proofs.Common.{◌≡◌, ℕ, List, sym, subst}
use Rattle.std.specs.Prelude.{Option, None}
use Rattle.esa_model.specs.declared.events.KeySet.{KeySet}
use Rattle.esa_model.specs.declared.events.SentOrder.{SentOrder}
use Rattle.esa_model.specs.declared.machine.Signals.{Signals}
use Rattle.row_frame.specs.Made.{ReadsConsole, SetsKey}
use Rattle.control_rows.specs.Orders.{Sends}

pub reads_nothing : (n : Option ℕ) (left : ℕ) (out : List ℕ) → n ≡ None → ReadsConsole n left out
reads_nothing n left out e = subst (λ (o : Option ℕ). ReadsConsole o left out) (sym e) tt

pub sends_nothing : (bus : List Signals) (sent : Option SentOrder) → sent ≡ None → Sends bus sent
sends_nothing bus sent e = subst (λ (o : Option SentOrder). Sends bus o) (sym e) tt

pub sets_nothing : (set_key : Option KeySet) → set_key ≡ None → SetsKey set_key
sets_nothing set_key e = subst SetsKey (sym e) tt
