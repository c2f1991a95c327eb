-- The limits of the inputs.
use Rattle.std.proofs.Common.{◌<◌, ◌^◌, arith}
use Rattle.program_model.specs.Inputs.{limit}
use Rattle.program_model.specs.declared.inputs.Input.{Input}
use Rattle.program_model.specs.declared.inputs.Input.TheVariants.{Deck, Console, Schedule, Script, Keys, Log, Program, Part, Saved}

pub limit_is_small : (input : Input) → limit input < 2 ^ 32
limit_is_small Deck = omega arith
limit_is_small Console = omega arith
limit_is_small Schedule = omega arith
limit_is_small Script = omega arith
limit_is_small Keys = omega arith
limit_is_small Log = omega arith
limit_is_small Program = omega arith
limit_is_small (Part j) = omega arith
limit_is_small Saved = omega arith
