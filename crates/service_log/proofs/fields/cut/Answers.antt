use Rattle.std.specs.Prelude.{◌==◌}
use Rattle.service_log.proofs.Cuts.{no_cut, cut_here}
use Rattle.service_log.proofs.fields.cut.Goals as goal

pub returns-in_default-clause-parts : goal.returns-in_default-clause-parts
returns-in_default-clause-parts c = no_cut (λ b. b == c.args.at) c.args.text.now (cc)

pub returns-clause-parts : goal.returns-clause-parts
returns-clause-parts c = cut_here (λ b. b == c.args.at) c.args.text.now c.in-Some.end (cc)
