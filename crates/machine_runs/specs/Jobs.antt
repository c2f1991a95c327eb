-- A job on a machine: its start, what its turns hand in to the silicon, and the silicon after them.
-- Source: choice of this project.
use Rattle.std.specs.Prelude.{◌≡◌, ◌≤◌, ◌<◌, ◌↔◌, ℕ, List, [], ◌∷◌, ◌++◌, All, IsTrue, false}
use Rattle.checkpoint_laws.specs.Stored.{StoredAs}
use Rattle.core_turns.specs.Handing.{hands}
use Rattle.g5_machine.specs.Standing.{StandsFor}
use Rattle.program_model.specs.Accepted.{Job, first_machine}
use Rattle.run_laws.specs.Bounds.{BoundedCpus}
use Rattle.run_model.specs.declared.faults.Strike.{Strike}
use Rattle.run_model.specs.declared.logs.Config.{Config}
use Rattle.run_model.specs.declared.schedules.RunKind.{RunKind}
use Rattle.run_model.specs.Cores.{is_lost}
use Rattle.run_model.specs.Fate.{first_fate}
use Rattle.run_model.specs.Premise.{Within}
use Rattle.run_model.specs.Runs.{Model, first_model, turned}
use Rattle.run_model.specs.Schedule.{Fits, turns_of}
use Rattle.silicon.specs.Chip.{Chip}
use Rattle.silicon.specs.declared.handed.Handed.{Handed}
use Rattle.machine_runs.specs.RunTells.{turns}
use Rattle.machine_runs.specs.Whole.{AtStart}
use Rattle.machine_runs.specs.declared.ready.Ready.{Ready}
use Rattle.machine_runs.specs.declared.twin_machine.TwinMachine.{TwinMachine}

-- ---- the start

-- machine and silicon stand for the start
pub record StartsJob (c : Config) (j : Job) (z : Chip) (e : TwinMachine) : Type 0 where
  pub config : e.machine.config ≡ c
  pub start : AtStart e z
  pub lines : z.lines ≡ j.strikes
  pub stands : StandsFor e.machine z (first_model c (first_machine c j))
  pub bounded : BoundedCpus z.lines c (first_fate c)

-- and the schedule is the job's, for its CPUs
pub record IsReadyJob (c : Config) (j : Job) (z : Chip) (r : Ready) : Type 0 where
  pub premise : IsTrue r.within ↔ Within j.strikes
  pub schedule : r.schedule ≡ j.runs
  pub fits : All (λ run. Fits c.cpus run.what) j.runs
  pub few : turns_of j.runs ≤ 1000000
  pub starts : StartsJob c j z r.machine

-- ---- what its turns hand in to the silicon

abbrev pub run_hands : List Strike → Config → Model → List RunKind → List Handed
run_hands ls c x [] = []
run_hands ls c x (k ∷ ks) = hands ls x k ++ run_hands ls c (turned ls c x k) ks

unfoldable pub job_hands : Config → Job → List Handed
job_hands c j = run_hands j.strikes c (first_model c (first_machine c j)) (turns j)

-- ---- the silicon after them

-- it has the attempts begun, and each core with a CPU that is not lost stores the CPU's registers,
-- with the wrong positions of this state
pub record LeavesSilicon (c : Config) (x : Model) (z : Chip) : Type 0 where
  pub begun : (k : ℕ) → k < 16 → z.begun k ≡ x.fate.begun k
  pub words : (i : ℕ) → i < c.cpus → is_lost (x.fate.cores.mode i) ≡ false
      → StoredAs z (x.fate.cores.core i) (x.machine.registers i)
      (x.fate.wrong (x.fate.cores.core i))
