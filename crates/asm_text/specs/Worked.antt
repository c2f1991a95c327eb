-- Worked values.
use Rattle.std.specs.Prelude.{◌≡◌, [], ◌∷◌, codes, refl}
use Rattle.std.specs.Fmt.{digits}
use Rattle.run_model.specs.Numbers.{hex_text}
use Rattle.esa_model.specs.Table.{decoded, number_of, row_numbered}
use Rattle.asm_text.specs.Operands.{operands_of}
use Rattle.asm_text.specs.Text.{text_of}
use Rattle.asm_text.specs.Lines.{item_at, line_at, next_at, listing}

-- LA and AR, and the end of the storage
pub loaded_and_added :
    listing (0x41 ∷ 0x10 ∷ 0x08 ∷ 0x00 ∷ 0x1A ∷ 0x11 ∷ []) 4 0
    ≡ codes "000000 LA 1,2048(0,0)\n000004 AR 1,1\n000006 outside\n"
unfolding listing line_at next_at item_at text_of operands_of decoded number_of row_numbered hex_text digits
loaded_and_added = refl

-- an instruction that passes the storage
pub cut_off : listing (0x5A ∷ 0x12 ∷ 0x30 ∷ []) 2 0 ≡ codes "000000 DC X'5A12'\n000002 outside\n"
unfolding listing line_at next_at item_at text_of operands_of decoded number_of row_numbered hex_text digits
cut_off = refl

-- lengths, and a halfword below zero
pub moved : line_at (0xD2 ∷ 0xFF ∷ 0x1F ∷ 0xFF ∷ 0x20 ∷ 0x00 ∷ []) 0 ≡ codes "000000 MVC 4095(256,1),0(2)\n"
unfolding line_at item_at text_of operands_of decoded number_of row_numbered hex_text digits
moved = refl

pub branched : line_at (0xA7 ∷ 0x25 ∷ 0xFF ∷ 0xFE ∷ []) 0 ≡ codes "000000 BRAS 2,-2\n"
unfolding line_at item_at text_of operands_of decoded number_of row_numbered hex_text digits
branched = refl
