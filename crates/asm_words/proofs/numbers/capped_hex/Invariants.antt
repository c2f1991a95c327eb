use Rattle.std.proofs.Common.{◌≡◌, take}
use Rattle.std.specs.Str.Parse.{digits_value}
use Rattle.asm_model.specs.Words.{capped}
use Rattle.asm_words.proofs.numbers.capped_hex.Given as goal

abbrev pub invariant-loop-b : goal.invariant-loop-b
invariant-loop-b l = l.value ≡ capped (digits_value 16 (take l.b-index l.digits))
