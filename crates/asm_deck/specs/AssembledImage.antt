-- The image of an assembled program.
-- Source: choice of this project.
use Rattle.std.specs.Prelude.{◌≡◌, ℕ, ◌+◌, ◌-◌, ◌%◌, ◌<◌, ◌≤◌, ◌⊎◌, Bool, true, false, List, [], ◌∷◌, length, get_or, Option, Result, Ok, Err}
use Rattle.byteorder.specs.Endian.{big_number}
use Rattle.deck_model.specs.Image.{aligned, bytes_from, Image, image_at}
use Rattle.deck_model.specs.declared.decks.DeckRefusal.{DeckRefusal}
use Rattle.deck_model.specs.declared.decks.DeckRefusal.TheVariants.{NoRoom}
use Rattle.deck_cards.specs.NumberedCards.{deck_bytes}
use Rattle.asm_model.specs.Section.{SectionBytes}
use Rattle.asm_model.specs.declared.program.Constant.{Constant}
use Rattle.asm_model.specs.declared.program.Defined.{Defined}
use Rattle.asm_deck.specs.AssembledCards.{assembled_cards}
use Rattle.asm_deck.specs.LoadedSections.{load_at, passes, entry_at, target_of, constant_place}

-- bytes given by their places hold those of each section from its load address on
abbrev pub HoldsSections : (ℕ → ℕ) → ℕ → List SectionBytes → Type 0
HoldsSections byte from [] = Unit {0}
HoldsSections byte from (s ∷ ss) =
    ((a : ℕ) → a < length s.bytes → byte (aligned from + a) ≡ get_or s.bytes a 0)
    × HoldsSections byte (aligned from + length s.bytes) ss

-- the word at a place
abbrev pub word_at : (ℕ → ℕ) → ℕ → ℕ
word_at byte at = big_number 4 (bytes_from byte at 4)

-- each constant is what it was, and the load address that it names
abbrev pub ConstantsMoved :
    (ℕ → ℕ) → (ℕ → ℕ) → ℕ → List SectionBytes → List ℕ → List Constant → Type 0
ConstantsMoved byte before origin ss ms [] = Unit {0}
ConstantsMoved byte before origin ss ms (c ∷ cs) =
    (word_at byte (constant_place origin ss c)
    ≡ (word_at before (constant_place origin ss c) + load_at origin ss (target_of ss ms c))
    % 4294967296)
    × ConstantsMoved byte before origin ss ms cs

-- no constant has a byte at a
abbrev pub IsOutside : ℕ → List SectionBytes → ℕ → List Constant → Type 0
IsOutside origin ss a [] = Unit {0}
IsOutside origin ss a (c ∷ cs) =
    ((a < constant_place origin ss c) ⊎ (constant_place origin ss c + 4 ≤ a))
    × IsOutside origin ss a cs

abbrev pub room_or : Bool → Image → Result Image DeckRefusal
room_or true i = Err NoRoom
room_or false i = Ok i

-- the image from an origin on in a storage of n bytes: want of room exactly where a section's end
-- passes the storage; else the bytes of the sections, with the load address that it names added to
-- each constant
pub record IsImage (origin n : ℕ) (ss : List SectionBytes) (ms : List ℕ) (cs : List Constant)
    (e : Option Defined) (placed byte : ℕ → ℕ) : Type 0 where
  pub image : image_at origin n (deck_bytes 1 (assembled_cards ss ms cs e))
      ≡ room_or (passes n origin ss) (record {
        bytes = bytes_from byte 0 n;
        entry = entry_at origin ss e;
      })
  pub sections : HoldsSections placed origin ss
  pub constants : ConstantsMoved byte placed origin ss ms cs
  pub others : (a : ℕ) → IsOutside origin ss a cs → byte a ≡ placed a

-- bytes from a place on begin with these
abbrev pub BeginsWith : (ℕ → ℕ) → ℕ → List ℕ → Type 0
BeginsWith byte at [] = Unit {0}
BeginsWith byte at (x ∷ xs) = (byte at ≡ x) × BeginsWith byte (at + 1) xs
