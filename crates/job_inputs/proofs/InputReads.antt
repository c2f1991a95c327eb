-- Inputs that are read one after another.
use Rattle.std.proofs.Common.{◌≡◌, ℕ, List, sym, ◌∙◌, ap, subst, arith}
use Rattle.g5_outside.specs.Views.{ShelfView}
use Rattle.g5_outside.specs.Calls.{file_named}
use Rattle.g5_reading.specs.Inputs.{IsIn, IsUnreadInput, OnlyReads}
use Rattle.program_model.specs.Commands.{SessionNames}
use Rattle.program_model.specs.Inputs.{session_input}
use Rattle.program_model.specs.declared.inputs.Input.{Input}
use Rattle.program_model.specs.declared.status.Status.{Status}
use Rattle.program_model.specs.declared.status.Status.TheVariants.{Done, CheckStopped, Usage, NoFile, ReadFault, WriteFault, DeckRefused, ScheduleRefused, ScriptRefused, TooLarge, NoMemory, LogRefused, SourceRefused, LinkRefused, SaveRefused, AuditNo}
use Rattle.job_inputs.specs.Reads.{AreBefore, IsUnread}

-- what is so of the files after others were read was so before
pub in_before : (name : List ℕ) (most : ℕ) (a b : ShelfView) (bytes : List ℕ) →
    OnlyReads a b → IsIn name most b bytes → IsIn name most a bytes
in_before name most a b bytes o h = record {
  bound = h.bound;
  is = λ t. ap (λ fs. file_named name fs) (sym (o.files t)) ∙ h.is (o.told ∙ t);
}

-- an input that was not read, behind those that were
pub unread : (input : Input) (names : SessionNames) (a b c : ShelfView) (status : Status)
    → OnlyReads a b → AreBefore names a input
    → IsUnreadInput input (session_input names input) b c status → IsUnread names a c status
unread input names a b c (NoFile at) o before h =
    let is : input ≡ at = sym h.0 in
    subst (λ i. IsUnread names a c (NoFile i)) is (record {
      before = before;
      found = h.1.found;
      missing = λ t. ap (λ fs. file_named (session_input names input) fs) (sym (o.files t))
          ∙ h.1.missing (o.told ∙ t);
    })
unread input names a b c ReadFault o before h = omega (arith, o.reads, h)
unread input names a b c (TooLarge at) o before h =
    let is : input ≡ at = sym h.0 in
    subst (λ i. IsUnread names a c (TooLarge i)) is (record {
      before = before;
      found = h.1.found;
      above = λ t.
          let q = h.1.above (o.told ∙ t) in
          (q.0, ap (λ fs. file_named (session_input names input) fs) (sym (o.files t)) ∙ q.1, q.2);
    })
unread input names a b c NoMemory o before h = tt
unread input names a b c Done o before h = absurd h
unread input names a b c CheckStopped o before h = absurd h
unread input names a b c Usage o before h = absurd h
unread input names a b c WriteFault o before h = absurd h
unread input names a b c (DeckRefused r) o before h = absurd h
unread input names a b c (ScheduleRefused r) o before h = absurd h
unread input names a b c (ScriptRefused r) o before h = absurd h
unread input names a b c (LogRefused r) o before h = absurd h
unread input names a b c (SourceRefused r) o before h = absurd h
unread input names a b c (LinkRefused r) o before h = absurd h
unread input names a b c (SaveRefused r) o before h = absurd h
unread input names a b c (AuditNo r) o before h = absurd h
