use Rattle.link_model.proofs.Whole.{refused_as_loaded}
use Rattle.link_model.proofs.laws.violations_refuse.Goals as goal

pub returns : goal.returns
returns c = refused_as_loaded
