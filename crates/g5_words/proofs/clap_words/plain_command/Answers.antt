use Rattle.std.proofs.Common.{◌∙◌, ap₂}
use Rattle.std.proofs.lemmas.Result.{IfOk-weaker}
use Rattle.clap.specs.Simple.{with_rule}
use Rattle.g5_words.proofs.clap_words.plain_command.Goals as goal

pub returns : goal.returns
returns c = IfOk-weaker c.arg.result _ _ (λ r h. h.shape c.names.ensures.local ∙ ap₂ with_rule c.bare_command.ensures c.names.ensures.rule) c.arg.ensures
