use Rattle.service_log.proofs.Cuts.{some_fields}
use Rattle.service_log.proofs.fields.cut_field.Goals as goal

pub returns-clause-more : goal.returns-clause-more
returns-clause-more c = some_fields c.cut.result.1
