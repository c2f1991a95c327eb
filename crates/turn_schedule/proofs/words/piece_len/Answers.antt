use Rattle.std.proofs.Common.{arith, sym, ◌≡◌, true, get_or}
use Rattle.std.proofs.lemmas.Bool.Decides.{nat_tests}
use Rattle.run_model.specs.Schedule.{is_separator}
use Rattle.turn_schedule.proofs.Steps.{first_at}
use Rattle.turn_schedule.proofs.words.piece_len.Goals as goal
use Rattle.turn_schedule.proofs.words.piece_len.Goals.{then-b-eq32-via-then-b-eq32, then-b-eq32-via-else-b-eq32+then-b-eq10}

pub returns-then-b-eq32-clause-value : goal.returns-then-b-eq32-clause-value
returns-then-b-eq32-clause-value c =
    let t = c.args.text.now in
    let at : is_separator (get_or t c.loop-i.i 0) ≡ true = elim c.then-b-eq32.branch [
      | then-b-eq32-via-then-b-eq32 w ↦
          let e = w.if-b-eq32.true in grind (arith, nat_tests)
      | then-b-eq32-via-else-b-eq32+then-b-eq10 w ↦
          let e = w.if-b-eq10.true in grind (arith, nat_tests)
    ] in
    sym (first_at is_separator t c.loop-i.i (omega arith) c.loop-i.invariant at)
