use Rattle.status_lines.proofs.Saying.{says_of}
use Rattle.status_lines.proofs.lines.say.Goals as goal

pub returns : goal.returns
returns g c = says_of c.args.text.now _ _ c.add_to_sink.result c.add_to_sink.ensures
