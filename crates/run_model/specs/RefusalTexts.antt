-- The texts of refusals: the name, a blank and the number, or the name alone where there is none.
-- Source: choice of this project.
use Rattle.std.specs.Prelude.{ℕ, ◌≡◌, List, ◌++◌, codes, refl}
use Rattle.std.specs.Fmt.{digits}
use Rattle.run_model.specs.Numbers.{decimal}
use Rattle.run_model.specs.declared.schedules.ScheduleRefusal.{ScheduleRefusal}
use Rattle.run_model.specs.declared.schedules.ScheduleRefusal.TheVariants as schedule
use Rattle.run_model.specs.declared.faults.ScriptRefusal.{ScriptRefusal}
use Rattle.run_model.specs.declared.faults.ScriptRefusal.TheVariants as script
use Rattle.run_model.specs.declared.logs.MigrateRefusal.{MigrateRefusal}
use Rattle.run_model.specs.declared.logs.MigrateRefusal.TheVariants as log

abbrev pub numbered_text : List ℕ → ℕ → List ℕ
numbered_text name number = name ++ codes " " ++ decimal number

abbrev pub schedule_refusal_text : ScheduleRefusal → List ℕ
schedule_refusal_text (schedule.BadWord n) = numbered_text (codes "BadWord") n
schedule_refusal_text (schedule.BadCpu n) = numbered_text (codes "BadCpu") n
schedule_refusal_text (schedule.TooLong n) = numbered_text (codes "TooLong") n
schedule_refusal_text schedule.NoMemory = codes "NoMemory"

abbrev pub script_refusal_text : ScriptRefusal → List ℕ
script_refusal_text (script.TooMany n) = numbered_text (codes "TooMany") n
script_refusal_text (script.BadLine n) = numbered_text (codes "BadLine") n
script_refusal_text (script.BadCore n) = numbered_text (codes "BadCore") n
script_refusal_text (script.BadWord n) = numbered_text (codes "BadWord") n
script_refusal_text (script.BadBit n) = numbered_text (codes "BadBit") n
script_refusal_text (script.TwoAtOneAttempt n) = numbered_text (codes "TwoAtOneAttempt") n
script_refusal_text script.NoMemory = codes "NoMemory"

abbrev pub log_refusal_text : MigrateRefusal → List ℕ
log_refusal_text (log.BadLine n) = numbered_text (codes "BadLine") n
log_refusal_text log.NoTail = codes "NoTail"
log_refusal_text log.NoMemory = codes "NoMemory"

-- ---- worked values

pub bad_word : schedule_refusal_text (schedule.BadWord 2) ≡ codes "BadWord 2"
unfolding digits
bad_word = refl

pub two_at_one_attempt : script_refusal_text (script.TwoAtOneAttempt 2) ≡ codes "TwoAtOneAttempt 2"
unfolding digits
two_at_one_attempt = refl

pub bad_line : log_refusal_text (log.BadLine 10) ≡ codes "BadLine 10"
unfolding digits
bad_line = refl
