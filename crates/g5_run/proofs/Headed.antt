-- The headline of the job that the words and the files give.
use Rattle.std.proofs.Common.{◌≡◌, ◌≤◌, sym, subst, Option, Some, inl, inr}
use Rattle.g5_outside.specs.Views.{ShelfView, SinkView}
use Rattle.program_model.specs.Accepted.{Job}
use Rattle.program_model.specs.Commands.{Command, JobNames, run}
use Rattle.program_model.specs.declared.status.Status.{Status}
use Rattle.program_model.specs.declared.status.Status.TheVariants.{Done, CheckStopped}
use Rattle.run_model.specs.declared.logs.Config.{Config}
use Rattle.run_model.specs.Premise.{Within}
use Rattle.g5_run.specs.Complete.{IsAccepted, IsMade}
use Rattle.g5_run.specs.Ends.{Ends, Reports}
use Rattle.g5_run.specs.Leaving.{Beside, SiliconAfter}
use Rattle.g5_run.specs.Headline.{Headline, SameWithoutFaults}
use Rattle.g5_run.specs.LawfulLogs.{HasLawfulLog}
use Rattle.g5_run.proofs.Accepted.{same_job}
use Rattle.g5_run.proofs.Headlines.{headline_of, same_of}

reported : (names : JobNames) (c : Config) (j : Job) (a b : ShelfView) (o p e f : SinkView)
    (z : SiliconAfter) (status : Status) → Reports names c a b o p e f z status → c.cpus ≤ 8
    → IsAccepted names c j a → Within j.strikes → Headline names c j b o p
reported names c j a b o p e f z status r few ok premise =
    let same : r.whole.job ≡ j =
    same_job names c r.whole.job j a ok.told r.whole.inputs ok.is in
    subst (λ i. Headline names c i b o p) same
    (headline_of names c r.count r.within a b o p z r.whole few
    (subst (λ (i : Job). Within i.strikes) (sym same) premise))

pub ends_headline : (asked : Option Command) (names : JobNames) (c : Config) (j : Job)
    (a b : ShelfView) (o p e f : SinkView) (z : Beside) (status : Status)
    → Ends asked a b o p e f z status → asked ≡ Some (run names c) → IsAccepted names c j a
    → Within j.strikes → IsMade status → Headline names c j b o p
ends_headline asked names c j a b o p e f z status h is ok premise made =
    let u = subst (λ q. Ends q a b o p e f z status) is h in elim made [
      | inl done ↦
          let r = subst (λ s. Ends (Some (run names c)) a b o p e f z s) done u in
          reported names c j a b o p e f z.silicon Done r.1 r.0.cpus ok premise
      | inr stop ↦
          let r = subst (λ s. Ends (Some (run names c)) a b o p e f z s) stop u in
          reported names c j a b o p e f z.silicon CheckStopped r.1 r.0.cpus ok premise
    ]

pub ends_same : (asked : Option Command) (names : JobNames) (c : Config) (j : Job)
    (a b : ShelfView) (o p e f : SinkView) (z : Beside) (status : Status)
    → Ends asked a b o p e f z status → asked ≡ Some (run names c) → IsAccepted names c j a
    → Within j.strikes → status ≡ Done → SameWithoutFaults names c j b o p
ends_same asked names c j a b o p e f z status h is ok premise done =
    let r = subst (λ s. Ends (Some (run names c)) a b o p e f z s) done
    (subst (λ q. Ends q a b o p e f z status) is h) in
    let same : r.1.whole.job ≡ j =
    same_job names c r.1.whole.job j a ok.told r.1.whole.inputs ok.is in
    subst (λ i. SameWithoutFaults names c i b o p) same
    (same_of names c r.1.count r.1.within a b o p z.silicon r.1.whole r.0.cpus
    (subst (λ (i : Job). Within i.strikes) (sym same) premise) r.1.status_is)

-- ---- and its log is lawful, whatever the script

lawful_of : (names : JobNames) (c : Config) (a b : ShelfView) (o p e f : SinkView)
    (z : SiliconAfter) (status : Status) → Reports names c a b o p e f z status
    → HasLawfulLog names c b
lawful_of names c a b o p e f z status r = record {
  told = r.whole.told;
  lawful = r.whole.tells.rules.lawful;
  log = r.whole.holds.log;
}

pub ends_lawful : (asked : Option Command) (names : JobNames) (c : Config) (a b : ShelfView)
    (o p e f : SinkView) (z : Beside) (status : Status)
    → Ends asked a b o p e f z status → asked ≡ Some (run names c) → IsMade status
    → HasLawfulLog names c b
ends_lawful asked names c a b o p e f z status h is made =
    let u = subst (λ q. Ends q a b o p e f z status) is h in elim made [
      | inl done ↦
          let r = subst (λ s. Ends (Some (run names c)) a b o p e f z s) done u in
          lawful_of names c a b o p e f z.silicon Done r.1
      | inr stop ↦
          let r = subst (λ s. Ends (Some (run names c)) a b o p e f z s) stop u in
          lawful_of names c a b o p e f z.silicon CheckStopped r.1
    ]
