use Rattle.machine_runs.specs.Views.{view_of}
use Rattle.saved_runs.proofs.Joining.{joined, one_run}
use Rattle.saved_runs.proofs.laws.first_then_rest.Goals as goal

pub returns-clause-joined : goal.returns-clause-joined
returns-clause-joined c = λ e f g h w x y z s t u v ks js ts us a r b.
    joined ks js ts us (view_of e w s) (view_of f x t) (view_of g y u) (view_of h z v) a r b

pub returns-clause-sound : goal.returns-clause-sound
returns-clause-sound c = λ e h w z s v ks ts x all stands sound.
    one_run ks ts (view_of e w s) (view_of h z v) x all stands sound
