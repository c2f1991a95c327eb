-- An instruction of a storage is one of the table, so its text is a statement of it.
use Rattle.std.proofs.Common.{ℕ, zero, suc, ◌+◌, ◌<◌, if◌then◌else◌, Bool, true, false, List, Option, Some, None, Ok, length, nat_le, slice_index, subst, ap, ◌∙◌, arith}
use Rattle.std.specs.Prelude.{IfSome}
use Rattle.esa_model.specs.declared.instructions.Decoded.{Decoded}
use Rattle.esa_model.specs.Table.{decoded}
use Rattle.esa_table.specs.Encoding.{IsInstruction}
use Rattle.esa_table.proofs.Found.{is_instruction}
use Rattle.asm_model.specs.declared.refusal.AsmRefusal.{AsmRefusal}
use Rattle.asm_model.specs.Line.{sources}
use Rattle.asm_model.specs.Program.{Assembly}
use Rattle.asm_text.specs.Lines.{IsSound, constant_at, item_at, item_by, length_at, six_at}
use Rattle.asm_text.specs.declared.lines.Item.{Item}
use Rattle.asm_text.specs.declared.lines.Item.TheVariants.{Instruction, Outside}
use Rattle.esa_asm.specs.AssembledSource.{assembled, deck_of_program, deck_unless}
use Rattle.text_law.specs.Between.{between}
use Rattle.text_law.proofs.Sources.{text_assembles}
use Rattle.deck_commands.specs.Statements.{IsStatement, ShowsStatements}

-- ---- an instruction of a storage of bytes

six_small : (storage : List ℕ) → ((k : ℕ) → slice_index storage k < 256) → (at k : ℕ)
    → slice_index (six_at storage at) k < 256
six_small storage small at zero = small at
six_small storage small at (suc zero) = small (at + 1)
six_small storage small at (suc (suc zero)) = small (at + 2)
six_small storage small at (suc (suc (suc zero))) = small (at + 3)
six_small storage small at (suc (suc (suc (suc zero)))) = small (at + 4)
six_small storage small at (suc (suc (suc (suc (suc zero))))) = small (at + 5)
six_small storage small at (suc (suc (suc (suc (suc (suc k)))))) = omega arith

sound_if : (storage : List ℕ) (at : ℕ) (d : Decoded) (b : Bool) → IsInstruction d
    → IsSound (if b then Instruction d else constant_at storage at)
sound_if storage at d true h = h
sound_if storage at d false h = tt

sound_by : (storage : List ℕ) (at : ℕ) (o : Option Decoded) → IfSome o IsInstruction
    → IsSound (item_by storage at o)
sound_by storage at None h = tt
sound_by storage at (Some d) h =
    sound_if storage at d (nat_le (at + length_at storage at) (length storage)) h

or_outside : (i : Item) (b : Bool) → IsSound i → IsSound (if b then i else Outside)
or_outside i true h = h
or_outside i false h = tt

sound_at : (storage : List ℕ) → ((k : ℕ) → slice_index storage k < 256) → (at : ℕ)
    → IsSound (item_at storage at)
unfolding item_at
sound_at storage small at =
    or_outside (item_by storage at (decoded (six_at storage at))) (nat_le (at + 2) (length storage))
    (sound_by storage at (decoded (six_at storage at))
    (is_instruction (six_at storage at) (six_small storage small at)))

-- ---- and its text

is_statement : (d : Decoded) → IsInstruction d → IsStatement d
unfolding assembled
is_statement d i name m n g =
    let law = text_assembles name m d n i g in
    ap (λ (r : Option AsmRefusal). deck_unless r (sources (between name d))) law.0
    ∙ ap (λ (a : Assembly). Ok (deck_of_program a)) law.1

pub shows_statements : (storage : List ℕ) → ((k : ℕ) → slice_index storage k < 256)
    → ShowsStatements storage
shows_statements storage small at d h =
    is_statement d (subst IsSound h (sound_at storage small at))
