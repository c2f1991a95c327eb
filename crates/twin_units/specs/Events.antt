-- Events that are no unit of operation.
use Rattle.std.specs.Prelude.{ℕ, [], Option, Some, None}
use Rattle.esa_model.specs.declared.events.Interruption.{Interruption}
use Rattle.esa_model.specs.declared.events.Interruption.TheVariants.{External}
use Rattle.esa_model.specs.declared.events.Taken.{Taken}
use Rattle.esa_model.specs.declared.events.Taken.TheVariants as taking
use Rattle.esa_model.specs.declared.machine.Registers.{Registers}
use Rattle.esa_model.specs.declared.machine.Request.{Request}
use Rattle.esa_model.specs.Machine.{request_identification}
use Rattle.esa_model.specs.Unit.{Done, interrupted}

-- an interruption that takes what is pending
abbrev pub interrupted_by : Registers → Interruption → ℕ → Taken → Done
interrupted_by r kind identification t = record (interrupted r (Some kind) identification []) { taken = Some t }

-- the external interruption of the request that is enabled; nothing where none is
abbrev pub requested : Registers → Option Request → Done
requested r None = interrupted r None 0 []
requested r (Some q) = interrupted_by r External (request_identification q) (taking.Request q)
