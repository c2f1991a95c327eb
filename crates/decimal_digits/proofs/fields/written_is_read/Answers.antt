use Rattle.decimal_digits.proofs.Back.{written_is_read}
use Rattle.decimal_digits.proofs.fields.written_is_read.Goals as goal

pub returns : goal.returns
returns c = written_is_read
