-- The deck of a source, or its first refusal.
-- Source: choice of this project.
use Rattle.std.specs.Prelude.{ℕ, List, Option, Some, None, Result, Ok, Err}
use Rattle.deck_cards.specs.NumberedCards.{deck_bytes}
use Rattle.program_model.specs.declared.refusals.AsmRefusal.{AsmRefusal}
use Rattle.program_model.specs.declared.refusals.AsmRefusal.TheVariants as source
use Rattle.asm_model.specs.declared.refusal.AsmRefusal.{AsmRefusal as StatementRefusal}
use Rattle.asm_model.specs.declared.refusal.AsmRefusal.TheVariants as statement
use Rattle.asm_model.specs.declared.statements.Source.{Source}
use Rattle.asm_model.specs.Line.{sources}
use Rattle.asm_model.specs.Refused.{refusal_of}
use Rattle.asm_model.specs.Program.{Assembly, assembly}
use Rattle.asm_deck.specs.AssembledCards.{assembled_cards}

-- a refusal of the language, as the program says it
abbrev pub source_refusal : StatementRefusal → AsmRefusal
source_refusal (statement.BadLine n) = source.BadLine n
source_refusal (statement.UnknownOp n) = source.UnknownOp n
source_refusal (statement.NoSection n) = source.NoSection n
source_refusal statement.NoEndStatement = source.NoEndStatement
source_refusal (statement.TooBig n) = source.TooBig n
source_refusal (statement.Doubled n) = source.Doubled n
source_refusal (statement.Undefined n) = source.Undefined n
source_refusal (statement.NoBase n) = source.NoBase n
source_refusal (statement.OutOfRange n) = source.OutOfRange n
source_refusal statement.NoMemory = source.NoMemory

-- the bytes of a program's cards, which are numbered from 1
abbrev pub deck_of_program : Assembly → List ℕ
deck_of_program a =
    deck_bytes 1 (assembled_cards a.sections a.externals a.constants a.entry)

abbrev pub deck_unless : Option StatementRefusal → List Source → Result (List ℕ) AsmRefusal
deck_unless None xs = Ok (deck_of_program (assembly xs))
deck_unless (Some r) xs = Err (source_refusal r)

unfoldable pub assembled : List ℕ → Result (List ℕ) AsmRefusal
assembled text = deck_unless (refusal_of (sources text)) (sources text)
