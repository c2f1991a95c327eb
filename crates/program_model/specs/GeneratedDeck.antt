-- The deck of the generator: CPU 0 stores a restart PSW, restarts the others and joins their loop
-- of 64 instructions that are drawn. Source: choice of this project.
use Rattle.std.specs.Prelude.{ℕ, zero, suc, ◌+◌, ◌-◌, ◌*◌, ◌%◌, ◌≡◌, ◌==◌, false, if◌then◌else◌, List, [], ◌∷◌, ◌++◌, length, take, drop, replicate, flat_map, None, refl}
use Rattle.std.specs.List.{range_with_len}
use Rattle.byteorder.specs.Endian.{big_bytes}
use Rattle.deck_model.specs.Card.{esd, txt, rld}
use Rattle.deck_model.specs.CardWriting.{card_bytes}
use Rattle.deck_model.specs.declared.cards.Card.{Card}
use Rattle.deck_model.specs.declared.cards.Card.TheVariants.{End}
use Rattle.deck_model.specs.declared.cards.EsdItem.{EsdItem}
use Rattle.deck_model.specs.declared.cards.RldItem.{RldItem}
use Rattle.deck_model.specs.declared.cards.Sort.TheVariants.{Section}
use Rattle.program_model.specs.Draws.{after, draw}

-- ---- one instruction of the loop, by its sort and two more draws

-- one of the registers 2 to 9
abbrev pub register : ℕ → ℕ
register d = 2 + d % 8

abbrev pub two_registers : ℕ → ℕ → ℕ
two_registers d e = register d * 16 + register e

abbrev pub register_and_zero : ℕ → ℕ
register_and_zero d = register d * 16

-- base register 12 and the distance of one of the eight words
abbrev pub word : ℕ → List ℕ
word d = big_bytes 2 (0xC1F2 + 4 * (d % 8))

-- and of one of the eight packed fields
abbrev pub field : ℕ → List ℕ
field d = big_bytes 2 (0xC212 + 8 * (d % 8))

-- AR, XR, A, ST, L, SLL, AP, MVC
unfoldable pub instruction : ℕ → ℕ → ℕ → List ℕ
instruction sort d e =
    if sort == 0 then 0x1A ∷ two_registers d e ∷ []
    else (if sort == 1 then 0x17 ∷ two_registers d e ∷ []
    else (if sort == 2 then 0x5A ∷ register_and_zero d ∷ word e
    else (if sort == 3 then 0x50 ∷ register_and_zero d ∷ word e
    else (if sort == 4 then 0x58 ∷ register_and_zero d ∷ word e
    else (if sort == 5 then 0x89 ∷ register_and_zero d ∷ 0 ∷ e % 32 ∷ []
    else (if sort == 6 then 0xFA ∷ 0x77 ∷ field d ++ field e
    else 0xD2 ∷ 0x07 ∷ field d ++ field e))))))

-- so many of them, each drawn by three draws
abbrev pub instructions : ℕ → ℕ → List ℕ
instructions zero x = []
instructions (suc n) x =
    instruction (draw 1 x % 8) (draw 2 x) (draw 3 x) ++ instructions n (after 3 x)

-- ---- the section

-- BALR 12,0; MVC 0(8),X'1FE'(12); LA 3,7; SIGP 0,3 with the order restart and BCT 3 back to it, for
-- each other CPU; BALR 12,0; the loop; BC back to its start
unfoldable pub code : ℕ → List ℕ
code x =
    big_bytes 2 0x05C0 ++ big_bytes 6 0xD2070000C1FE ++ big_bytes 4 0x41300007
    ++ big_bytes 4 0xAE030006 ++ big_bytes 4 0x4630C00A
    ++ big_bytes 2 0x05C0 ++ instructions 64 x ++ big_bytes 4 0x47F0C000

-- zeros up to this offset
abbrev pub up_to : ℕ → List ℕ → List ℕ
up_to n bytes = bytes ++ replicate (n - length bytes) 0

-- the restart PSW, the words 1 to 8, and the packed fields +1 to +8
unfoldable pub operands : List ℕ
operands =
    big_bytes 8 0x0008000080000014
    ++ flat_map (λ n. big_bytes 4 n) (range_with_len 1 8)
    ++ flat_map (λ n. big_bytes 8 (n * 16 + 0xC)) (range_with_len 1 8)

unfoldable pub text : ℕ → List ℕ
text x = up_to 0x200 (code x) ++ operands

-- ---- the cards

-- SD `GEN`
abbrev pub section : EsdItem
section = record {
  name = 0xC7 ∷ 0xC5 ∷ 0xD5 ∷ replicate 5 0x40;
  sort = Section;
  address = 0;
  extent = 0x268;
}

-- so many cards of 56 bytes, from an address on
abbrev pub text_cards : ℕ → ℕ → List ℕ → List Card
text_cards zero at bytes = []
text_cards (suc n) at bytes = txt 1 at (take 56 bytes) ∷ text_cards n (at + 56) (drop 56 bytes)

-- the address in the restart PSW
abbrev pub restart_address : RldItem
restart_address = record {
  target = 1;
  place = 1;
  v_type = false;
  width = 3;
  minus = false;
  address = 0x205;
}

unfoldable pub cards : ℕ → List Card
cards x =
    esd 1 (section ∷ [])
    ∷ text_cards 11 0 (text x) ++ rld (restart_address ∷ []) ∷ End None ∷ []

-- columns 73-80 are blank
unfoldable pub deck : ℕ → List ℕ
deck x = flat_map (λ c. card_bytes c (replicate 8 0x40)) (cards x)

-- the draws that it takes
abbrev pub deck_draws : ℕ
deck_draws = 3 * 64

-- ---- worked values

-- AR 2,8; ST 2,X'1F2'(12); AP X'222'(8,12),X'212'(8,12)
abbrev first_three : List ℕ
first_three = big_bytes 2 0x1A28 ++ big_bytes 4 0x5020C1F2 ++ big_bytes 6 0xFA77C222C212

pub three_instructions : instructions 3 1 ≡ first_three
unfolding after draw instruction
three_instructions = refl

pub length_of_text : length (text 1) ≡ 0x268
unfolding after draw instruction code operands text
length_of_text = refl

pub length_of_code : length (code 1) ≡ 0x114
unfolding after draw instruction code
length_of_code = refl
