use Rattle.std.proofs.Common.{◌∙◌}
use Rattle.seen_memory.proofs.memory.Memory.commit.Goals as goal

pub invariant_of-self : goal.invariant_of-self
invariant_of-self c =
    let was = c.self.invariant in (
      c.commit_held.ensures.kept,
      c.commit_held.ensures.room,
      c.commit_held.ensures.unused c.self.inside.used was.3 was.2,
      was.3,
      was.4,
      was.5,
      c.commit_held.auto.buffers ∙ was.6,
    )
