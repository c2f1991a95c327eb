-- A source that is not assembled.
use Rattle.std.proofs.Common.{◌≡◌, ◌⊎◌, List, ℕ, true, Err, inl, inr}
use Rattle.esa_asm.specs.AssembledSource.{assembled}
use Rattle.g5_outside.specs.Views.{ShelfView}
use Rattle.g5_reading.specs.Inputs.{IsIn}
use Rattle.program_model.specs.Conversions.{source_status}
use Rattle.program_model.specs.Given.{Text}
use Rattle.program_model.specs.Inputs.{limit}
use Rattle.program_model.specs.declared.inputs.Input.TheVariants.{Program}
use Rattle.program_model.specs.declared.refusals.AsmRefusal.{AsmRefusal}
use Rattle.program_model.specs.declared.refusals.AsmRefusal.TheVariants.{BadLine, UnknownOp, NoSection, NoEndStatement, TooBig, Doubled, Undefined, NoBase, OutOfRange, NoMemory}
use Rattle.source_commands.specs.Assembles.{FailsToAssemble, RefusesSource}

abbrev MayBe : List ℕ → AsmRefusal → Type 0
MayBe text r = (r ≡ NoMemory) ⊎ (assembled text ≡ Err r)

-- a refusal that is not want of memory
refusing : (source : Text) (a b : ShelfView) (text : List ℕ) (r : AsmRefusal)
    → IsIn source (limit Program) a text → b.numbers ≡ a.numbers → b.found ≡ true
    → (r ≡ NoMemory → ⊥) → MayBe text r → RefusesSource source a b r
refusing source a b text r read numbers found other h = elim h [
  | inl none ↦ absurd (other none)
  | inr is ↦
      record { text = text; read = read; refused = is; numbers = numbers; found = found }
]

pub source_refuses : (source deck : Text) (a b : ShelfView) (text : List ℕ) (r : AsmRefusal)
    → IsIn source (limit Program) a text → b.numbers ≡ a.numbers → b.found ≡ true
    → MayBe text r → FailsToAssemble source deck a b (source_status r)
source_refuses source deck a b text NoMemory read numbers found h = (numbers, tt)
source_refuses source deck a b text (BadLine n) read numbers found h =
    refusing source a b text (BadLine n) read numbers found (λ e. absurd cc) h
source_refuses source deck a b text (UnknownOp n) read numbers found h =
    refusing source a b text (UnknownOp n) read numbers found (λ e. absurd cc) h
source_refuses source deck a b text (NoSection n) read numbers found h =
    refusing source a b text (NoSection n) read numbers found (λ e. absurd cc) h
source_refuses source deck a b text NoEndStatement read numbers found h =
    refusing source a b text NoEndStatement read numbers found (λ e. absurd cc) h
source_refuses source deck a b text (TooBig n) read numbers found h =
    refusing source a b text (TooBig n) read numbers found (λ e. absurd cc) h
source_refuses source deck a b text (Doubled n) read numbers found h =
    refusing source a b text (Doubled n) read numbers found (λ e. absurd cc) h
source_refuses source deck a b text (Undefined n) read numbers found h =
    refusing source a b text (Undefined n) read numbers found (λ e. absurd cc) h
source_refuses source deck a b text (NoBase n) read numbers found h =
    refusing source a b text (NoBase n) read numbers found (λ e. absurd cc) h
source_refuses source deck a b text (OutOfRange n) read numbers found h =
    refusing source a b text (OutOfRange n) read numbers found (λ e. absurd cc) h
