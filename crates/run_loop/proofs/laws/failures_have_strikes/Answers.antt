use Rattle.run_loop.proofs.laws.failures_have_strikes.Goals as goal

pub returns : goal.returns
returns g c = λ y z v w files start ks a b o p r m. m.tells.struck
