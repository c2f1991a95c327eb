use Rattle.log_audit.proofs.Keeping.{remembers_more}
use Rattle.log_audit.proofs.memory.Memory.remember.Goals as goal

pub returns : goal.returns
returns c = λ d turns past n few m h.
    remembers_more d turns past n c.args.self.now _ c.args.e few m h c.teach.ensures
    c.recall-self.ensures (λ k lt. rw (← c.is_returned-returned.ensures) (c.tick.ensures k lt))
    c.tick_taken.ensures (λ k lt. rw (← c.is_fence-fenced.ensures) (c.tick-2.ensures k lt))
