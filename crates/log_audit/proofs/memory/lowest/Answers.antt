use Rattle.std.proofs.Common.{sym, ◌∙◌, arith}
use Rattle.std.specs.Prelude.{slice_index}
use Rattle.log_audit.specs.Remembered.{hand}
use Rattle.log_audit.proofs.Keeping.{lowest_end, lowest_more, lowest_yes}
use Rattle.log_audit.proofs.memory.lowest.Goals as goal

pub returns-then-is_on_hand : goal.returns-then-is_on_hand
returns-then-is_on_hand c =
    lowest_yes
    (hand c.args.c (λ k. slice_index c.args.taken.now k) (λ k. slice_index c.args.returned.now k))
    c.cores.core (omega arith) (sym c.is_on_hand.ensures ∙ c.if-is_on_hand.true) c.cores.invariant

pub cores-preserved : goal.cores-preserved
cores-preserved c =
    lowest_more
    (hand c.args.c (λ k. slice_index c.args.taken.now k) (λ k. slice_index c.args.returned.now k))
    c.cores.core (omega arith) (sym c.is_on_hand.ensures ∙ c.if-is_on_hand.false)
    c.cores.invariant

pub returns : goal.returns
returns c =
    lowest_end
    (hand c.args.c (λ k. slice_index c.args.taken.now k) (λ k. slice_index c.args.returned.now k))
    c.cores.core (omega arith) c.cores.invariant
