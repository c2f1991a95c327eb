use Rattle.std.proofs.Common.{sym}
use Rattle.g5_debugger.proofs.AddressTexts.{no_address}
use Rattle.g5_debugger.proofs.reading.address_in.Goals as goal

pub returns-in-Err-clause-value : goal.returns-in-Err-clause-value
returns-in-Err-clause-value c = sym (no_address c.args.field.now c.in-Err.ensures.cases.0)
