use Rattle.g5_outside.specs.declared.outside.Failed.{Failed}
use Rattle.saved_runs.proofs.BothParts.{in_two}
use Rattle.saved_runs.proofs.laws.job_in_two_parts.Goals as goal

pub returns : goal.returns
returns q = λ c j n e f g h w x y z s t u v files more a b k d o p q i sum start r starts fits le
    first resumed same rest.
    in_two {E = Failed} c j n e f g h w x y z s t u v files more a b k d o p q i sum start r starts
    fits le first resumed same rest
