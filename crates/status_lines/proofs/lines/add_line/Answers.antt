use Rattle.status_lines.proofs.Saying.{says_of}
use Rattle.status_lines.proofs.lines.add_line.Goals as goal

pub returns : goal.returns
returns g c = says_of _ _ _ c.add_parts.result c.add_parts.ensures
