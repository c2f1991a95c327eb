-- An effect that reads no console input, sends no order or sets no key; an order that is accepted.
use Rattle.std.proofs.Common.{◌≡◌, ℕ, List, ap, sym, subst}
use Rattle.std.specs.Prelude.{Option, None, Bool, true, false, Some, ◌&&◌, if◌then◌else◌, nat_lt}
use Rattle.esa_model.specs.declared.events.KeySet.{KeySet}
use Rattle.esa_model.specs.declared.events.SentOrder.{SentOrder}
use Rattle.esa_model.specs.declared.machine.Signals.{Signals}
use Rattle.esa_model.specs.declared.signalling.SigpAnswer.{SigpAnswer}
use Rattle.esa_model.specs.Rows.Controls.{sent_to}
use Rattle.esa_model.specs.SigpAnswers.{answer_of}
use Rattle.row_frame.specs.Made.{ReadsConsole, SetsKey}
use Rattle.control_rows.specs.Orders.{Sends}

pub reads_nothing : (n : Option ℕ) (left : ℕ) (out : List ℕ) → n ≡ None → ReadsConsole n left out
reads_nothing n left out e = subst (λ (m : Option ℕ). ReadsConsole m left out) (sym e) (record {})

pub sends_nothing : (bus : List Signals) (o : Option SentOrder) → o ≡ None → Sends bus o
sends_nothing bus o e = subst (λ (x : Option SentOrder). Sends bus x) (sym e) (record {})

pub sets_nothing : (k : Option KeySet) → k ≡ None → SetsKey k
sets_nothing k e = subst (λ (x : Option KeySet). SetsKey x) (sym e) (record {})

pub ruleset nothing = (reads_nothing, sends_nothing, sets_nothing)

of_test : (a b : Bool) (bus : List Signals) (order to : ℕ) → (answer_of bus to order).accepted ≡ a
    → Sends bus (if a && b then Some (record { order = order; to = to }) else None)
of_test true true bus order to e = e
of_test true false bus order to e = record {}
of_test false b bus order to e = record {}

pub sends_accepted : (bus : List Signals) (order to : ℕ) (a : SigpAnswer) (o : Option SentOrder)
    → a ≡ answer_of bus to order → o ≡ sent_to order to a → Sends bus o
sends_accepted bus order to a o known sent =
    let answer = sym (ap (λ x. x.accepted) known) in
    let accepted = of_test a.accepted (nat_lt 1 order) bus order to answer in
    subst (λ (x : Option SentOrder). Sends bus x) (sym sent) accepted
