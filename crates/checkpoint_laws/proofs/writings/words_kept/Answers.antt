use Rattle.checkpoint_laws.proofs.Kept.{stays, others_stay}
use Rattle.checkpoint_laws.proofs.Chips.{rewrites_others, scrubs_others, attempts_others, changes_others, fills_others}
use Rattle.checkpoint_laws.proofs.writings.words_kept.Goals as goal

pub returns-clause-stays : goal.returns-clause-stays
returns-clause-stays c = stays

pub returns-clause-others : goal.returns-clause-others
returns-clause-others c = others_stay

pub returns-clause-rewrites : goal.returns-clause-rewrites
returns-clause-rewrites c = rewrites_others

pub returns-clause-scrubs : goal.returns-clause-scrubs
returns-clause-scrubs c = scrubs_others

pub returns-clause-attempts : goal.returns-clause-attempts
returns-clause-attempts c = attempts_others

pub returns-clause-changes : goal.returns-clause-changes
returns-clause-changes c = changes_others

pub returns-clause-fills : goal.returns-clause-fills
returns-clause-fills c = fills_others
