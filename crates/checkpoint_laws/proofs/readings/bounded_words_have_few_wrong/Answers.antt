use Rattle.checkpoint_laws.proofs.Few.{few_bounded}
use Rattle.checkpoint_laws.proofs.readings.bounded_words_have_few_wrong.Goals as goal

pub returns : goal.returns
returns c = few_bounded
