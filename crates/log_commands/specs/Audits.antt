-- How a log is judged, from its file to the output: each status by its cause.
-- Source: choice of this project.
use Rattle.std.specs.Prelude.{◌≡◌, ℕ, List, ◌++◌, take, Option, Some, None, Result, Ok, Err, IsTrue, true}
use Rattle.g5_outside.specs.Causes.{Rose}
use Rattle.g5_outside.specs.Views.{ShelfView, SinkView}
use Rattle.g5_reading.specs.Inputs.{IsIn, IsUnreadInput}
use Rattle.log_audit.specs.Verdict.{audited}
use Rattle.log_audit.specs.declared.auditing.Audited.{Audited}
use Rattle.program_model.specs.Inputs.{limit}
use Rattle.program_model.specs.Statuses.{audit_line}
use Rattle.program_model.specs.declared.inputs.Input.TheVariants.{Log}
use Rattle.program_model.specs.declared.refusals.AuditRefusal.{AuditRefusal}
use Rattle.program_model.specs.declared.status.Status.{Status}
use Rattle.program_model.specs.declared.status.Status.TheVariants.{WriteFault}

-- none is said of a lawful log
abbrev pub refusal_in : Result Audited AuditRefusal → Option AuditRefusal
refusal_in (Ok counts) = None
refusal_in (Err refusal) = Some refusal

-- the verdict is on the output, and no file was created
pub record Audits (name : List ℕ) (a b : ShelfView) (o p : SinkView)
    (verdict : Option AuditRefusal) : Type 0 where
  pub log : List ℕ
  pub read : IsIn name (limit Log) a log
  pub is : verdict ≡ refusal_in (audited log)
  pub out : IsTrue o.told → p.taken ≡ o.taken ++ audit_line verdict
  pub numbers : b.numbers ≡ a.numbers
  pub found : b.found ≡ true

-- the output failed in the midst of it
pub record AuditsInPart (name : List ℕ) (a b : ShelfView) (o p : SinkView) : Type 0 where
  pub log : List ℕ
  pub read : IsIn name (limit Log) a log
  pub count : ℕ
  pub out : IsTrue o.told
      → p.taken ≡ o.taken ++ take count (audit_line (refusal_in (audited log)))
  pub numbers : b.numbers ≡ a.numbers
  pub cause : Rose o.faults p.faults
  pub found : b.found ≡ true

-- the log was not read
pub record IsUnread (name : List ℕ) (a b : ShelfView) (o p : SinkView) (status : Status) :
    Type 0 where
  pub why : IsUnreadInput Log name a b status
  pub numbers : b.numbers ≡ a.numbers
  pub out : p ≡ o

abbrev pub FailsToAudit : List ℕ → ShelfView → ShelfView → SinkView → SinkView → Status → Type 0
FailsToAudit name a b o p WriteFault = AuditsInPart name a b o p
FailsToAudit name a b o p status = IsUnread name a b o p status
