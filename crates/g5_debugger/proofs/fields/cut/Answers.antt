use Rattle.run_model.specs.Script.{fields}
use Rattle.run_model.specs.Script.{is_blank}
use Rattle.service_log.proofs.Cuts.{no_cut, cut_here}
use Rattle.g5_debugger.proofs.fields.cut.Goals as goal

pub returns-in_default-clause-parts : goal.returns-in_default-clause-parts
unfolding fields
returns-in_default-clause-parts c = no_cut is_blank c.args.text.now (cc)

pub returns-clause-parts : goal.returns-clause-parts
unfolding fields
returns-clause-parts c = cut_here is_blank c.args.text.now c.in-Some.end (cc)
