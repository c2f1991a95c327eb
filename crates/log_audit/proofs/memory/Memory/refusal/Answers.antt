use Rattle.log_audit.proofs.Keeping.{judged_next}
use Rattle.log_audit.proofs.memory.Memory.refusal.Goals as goal

pub returns : goal.returns
returns c = λ past n h.
    judged_next c.args.number c.args.c c.args.last past n c.args.self.now c.args.e
    c.known_of-known.result c.lowest-low.result c.is_fenced-fenced.result c.refusal_by.result
    c.requires.cpus h c.known_of-known.ensures c.lowest-low.ensures
    (c.is_fenced-fenced.ensures past n h) c.refusal_by.ensures
