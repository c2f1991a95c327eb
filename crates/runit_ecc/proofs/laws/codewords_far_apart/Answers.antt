use Rattle.runit_ecc.proofs.Distance.{apart}
use Rattle.runit_ecc.proofs.laws.codewords_far_apart.Goals as goal

pub returns : goal.returns
returns c = apart
