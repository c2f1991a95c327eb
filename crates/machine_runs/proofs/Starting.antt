-- A machine that was made over silicon that was given the script of its job.
use Rattle.std.proofs.Common.{◌≡◌, ℕ, None, true, sym, ap, ◌∙◌, subst}
use Rattle.g5_machine.specs.Standing.{StandsByMode, StandsFor}
use Rattle.g5_machine.specs.declared.machine.Machine.{Machine}
use Rattle.machine_runs.specs.declared.twin_machine.TwinMachine.{TwinMachine}
use Rattle.program_model.specs.Accepted.{Job, first_machine}
use Rattle.run_laws.specs.Bounds.{BoundedCpus}
use Rattle.run_model.specs.declared.logs.Config.{Config}
use Rattle.run_model.specs.Cores.{first_cores}
use Rattle.run_model.specs.Fate.{first_fate}
use Rattle.run_model.specs.Runs.{first_model}
use Rattle.silicon.specs.Chip.{Arms, Chip, Fresh}
use Rattle.twin_units.specs.Results.{UnitView}
use Rattle.twin_units.specs.UnitsSeen.{plain}
use Rattle.machine_runs.specs.Jobs.{StartsJob}

-- a unit that made no call
abbrev pub new_unit : UnitView
new_unit = record { calls = 0; last = None; exact = true }

-- the machine that was made, on the silicon z that was fresh as x, and its units
pub record Made (c : Config) (j : Job) (m : Machine) (e : TwinMachine) (x y z : Chip) : Type 0 where
  pub fresh : Fresh x
  pub arms : Arms j.strikes x y
  pub machine : e.machine ≡ m
  pub unit_a : plain e.a ≡ new_unit
  pub unit_b : plain e.b ≡ new_unit
  pub stands : StandsFor m z (first_model c (first_machine c j))
  pub by_mode : StandsByMode m (first_cores c)
  pub bounded : BoundedCpus z.lines c (first_fate c)
  pub config : m.config ≡ c
  pub lines : z.lines ≡ y.lines
  pub begun : (k : ℕ) → z.begun k ≡ y.begun k

pub starts_job : (c : Config) (j : Job) (m : Machine) (e : TwinMachine) (x y z : Chip)
    → Made c j m e x y z → StartsJob c j z e
starts_job c j m e x y z h =
    let config : e.machine.config ≡ c = ap (λ (n : Machine). n.config) h.machine ∙ h.config in
    record {
      config = config;
      start = record {
        machine = subst (λ n. StandsByMode n (first_cores n.config)) (sym h.machine)
            (subst (λ d. StandsByMode m (first_cores d)) (sym h.config) h.by_mode);
        calls_a = ap (λ (u : UnitView). u.calls) h.unit_a;
        calls_b = ap (λ (u : UnitView). u.calls) h.unit_b;
        begun = λ k lt. h.begun k ∙ h.arms.begun k ∙ h.fresh.begun k lt;
      };
      lines = h.lines ∙ h.arms.lines;
      stands = subst (λ n. StandsFor n z (first_model c (first_machine c j))) (sym h.machine)
          h.stands;
      bounded = h.bounded;
    }
