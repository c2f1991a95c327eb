use Rattle.std.proofs.Common.{◌∙◌}
use Rattle.seen_memory.proofs.Unused.{first_taken}
use Rattle.seen_memory.proofs.buffers.snoop_used.Goals as goal

pub returns : goal.returns
returns c = c.snoop_all.ensures ∙ first_taken c.args.used c.args.buffers.now c.args.at c.requires.none
