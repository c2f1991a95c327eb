-- The lines of a storage that is disassembled from an address on.
-- Source: choice of this project.
use Rattle.std.specs.Prelude.{ℕ, zero, suc, ◌+◌, ◌<◌, ◌≤◌, nat_le, if◌then◌else◌, List, [], ◌∷◌, ◌++◌, length, slice_index, Option, Some, None, codes}
use Rattle.run_model.specs.Numbers.{hex_text}
use Rattle.esa_model.specs.declared.instructions.Decoded.{Decoded}
use Rattle.esa_model.specs.Table.{decoded, length_of}
use Rattle.esa_table.specs.Encoding.{IsInstruction}
use Rattle.asm_text.specs.declared.lines.Item.{Item}
use Rattle.asm_text.specs.declared.lines.Item.TheVariants.{Instruction, Constant, Outside}
use Rattle.asm_text.specs.Text.{text_of}

-- six bytes from an address on, and zeros past the storage
abbrev pub six_at : List ℕ → ℕ → List ℕ
six_at storage at =
    slice_index storage at ∷ slice_index storage (at + 1) ∷ slice_index storage (at + 2)
    ∷ slice_index storage (at + 3) ∷ slice_index storage (at + 4) ∷ slice_index storage (at + 5) ∷ []

-- the length of the instruction that would begin at an address
abbrev pub length_at : List ℕ → ℕ → ℕ
length_at storage at = length_of (slice_index storage at)

abbrev pub constant_at : List ℕ → ℕ → Item
constant_at storage at = Constant (slice_index storage at) (slice_index storage (at + 1))

abbrev pub item_by : List ℕ → ℕ → Option Decoded → Item
item_by storage at None = constant_at storage at
item_by storage at (Some d) =
    if nat_le (at + length_at storage at) (length storage) then Instruction d
    else constant_at storage at

-- what is at an address: the instruction, where a row has its opcode and it lies in the storage; else two bytes;
-- and nothing where those two pass the storage
unfoldable pub item_at : List ℕ → ℕ → Item
item_at storage at =
    if nat_le (at + 2) (length storage) then item_by storage at (decoded (six_at storage at)) else Outside

-- an instruction that is found is one of the table
abbrev pub IsSound : Item → Type 0
IsSound (Instruction d) = IsInstruction d
IsSound (Constant a b) = Unit {0}
IsSound Outside = Unit {0}

-- and lies in the storage, as two bytes that are found do
abbrev pub IsWithin : List ℕ → ℕ → Item → Type 0
IsWithin storage at (Instruction d) = IsInstruction d × (at + length_at storage at ≤ length storage)
IsWithin storage at (Constant a b) = at + 2 ≤ length storage
IsWithin storage at Outside = length storage < at + 2

-- what a line says of it
abbrev pub item_text : Item → List ℕ
item_text (Instruction d) = text_of d
item_text (Constant a b) = codes "DC X'" ++ hex_text 2 a ++ hex_text 2 b ++ codes "'"
item_text Outside = codes "outside"

abbrev pub line_by : ℕ → Item → List ℕ
line_by at i = hex_text 6 at ++ codes " " ++ item_text i ++ codes "\n"

-- where the next line begins, if there is one
abbrev pub next_by : List ℕ → ℕ → Item → Option ℕ
next_by storage at (Instruction d) = Some (at + length_at storage at)
next_by storage at (Constant a b) = Some (at + 2)
next_by storage at Outside = None

-- the line of an address, and the address of the next one
unfoldable pub line_at : List ℕ → ℕ → List ℕ
line_at storage at = line_by at (item_at storage at)

unfoldable pub next_at : List ℕ → ℕ → Option ℕ
next_at storage at = next_by storage at (item_at storage at)

abbrev pub on_next : Option ℕ → (ℕ → List ℕ) → List ℕ
on_next None more = []
on_next (Some at) more = more at

-- so many lines from an address on, fewer where one is outside the storage
unfoldable pub listing : List ℕ → ℕ → ℕ → List ℕ
listing storage zero at = []
listing storage (suc n) at = line_at storage at ++ on_next (next_at storage at) (λ a. listing storage n a)
