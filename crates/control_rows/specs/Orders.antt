-- The order that a row sends to another CPU.
-- Source: choice of this project.
use Rattle.std.specs.Prelude.{◌≡◌, List, true, Option, Some, None}
use Rattle.esa_model.specs.declared.events.SentOrder.{SentOrder}
use Rattle.esa_model.specs.declared.machine.Signals.{Signals}
use Rattle.esa_model.specs.SigpAnswers.{answer_of}

-- an order, if there is one, is such that the bus accepts it
abbrev pub Sends : List Signals → Option SentOrder → Type 0
Sends bus None = Unit {0}
Sends bus (Some o) = (answer_of bus o.to o.order).accepted ≡ true
