use Rattle.std.proofs.Common.{◌≡◌, drop}
use Rattle.std.specs.List.{position_from}
use Rattle.psw_interrupts.proofs.events_due.first_set.Given as goal

abbrev pub invariant-loop-k : goal.invariant-loop-k
invariant-loop-k l = position_from (λ b. b) 0 l.flags ≡ position_from (λ b. b) l.k (drop l.k l.flags)
