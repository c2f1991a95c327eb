use Rattle.saved_runs.proofs.BothParts.{resumes}
use Rattle.saved_runs.proofs.laws.stands_again.Goals as goal

pub returns : goal.returns
returns c = λ f g x y t u lines config by_mode stands.
    resumes f g x y t u lines config by_mode stands
