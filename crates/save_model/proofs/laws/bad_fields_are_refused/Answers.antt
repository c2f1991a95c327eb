use Rattle.save_model.proofs.SaveRead.{read_bad_field}
use Rattle.save_model.proofs.laws.bad_fields_are_refused.Goals as goal

pub returns : goal.returns
returns c = read_bad_field
