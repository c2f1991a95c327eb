-- What steps over the lines of a log answer. Source: choice of this project.
use Rattle.std.specs.Prelude.{ℕ, ◌≡◌, List, ◌∷◌, Some, Result, Ok, Err}
use Rattle.run_model.specs.LogReading.{ending, read_entry}
use Rattle.run_model.specs.LogReading.{Ending as EndNumbers}
use Rattle.run_model.specs.declared.logs.Entry.{Entry}
use Rattle.service_log.specs.declared.ends.Ending.{Ending}
use Rattle.program_model.specs.declared.refusals.AuditRefusal.{AuditRefusal}
use Rattle.program_model.specs.declared.refusals.AuditRefusal.TheVariants.{BadLine}

-- the first of these lines says this entry, and is not the last
pub record BeginsWithEntry (ls : List (List ℕ)) (e : Entry) (behind : List (List ℕ)) : Type 0 where
  pub line : List ℕ
  pub next : List ℕ
  pub more : List (List ℕ)
  pub lines : ls ≡ line ∷ next ∷ more
  pub rest : behind ≡ next ∷ more
  pub entry : read_entry line ≡ Some e

-- the number of a line that has not the form of its place, as a refusal
abbrev pub as_refusal : {A : Type 0} → Result A ℕ → Result A AuditRefusal
as_refusal (Ok value) = Ok value
as_refusal (Err n) = Err (BadLine n)

-- the numbers of a tail, as a call gives them
abbrev pub as_ending : Result Ending AuditRefusal → Result EndNumbers AuditRefusal
as_ending (Ok e) = Ok (ending e.turns e.returned)
as_ending (Err refusal) = Err refusal
