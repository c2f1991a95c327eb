use Rattle.g5_outside.specs.declared.outside.Failed.{Failed}
use Rattle.run_loop.proofs.Ends.{log_begins, trace_begins, console_begins}
use Rattle.run_loop.proofs.laws.texts_begin.Goals as goal

pub returns-clause-log : goal.returns-clause-log
returns-clause-log c = λ files front a b o p n f t. log_begins {E = Failed} files front a b o p n f t

pub returns-clause-trace : goal.returns-clause-trace
returns-clause-trace c = λ files front a b o p n f t. trace_begins {E = Failed} files front a b o p n f t

pub returns-clause-console : goal.returns-clause-console
returns-clause-console c = λ files front a b o p n f t. console_begins {E = Failed} files front a b o p n f t
