use Rattle.run_loop.proofs.Rising.{Counting}
use Rattle.run_loop.proofs.counting.count_entries.Given as goal

abbrev pub invariant-entries : goal.invariant-entries
invariant-entries l = Counting l.fn.n l.entries l.entry-index l.sum
