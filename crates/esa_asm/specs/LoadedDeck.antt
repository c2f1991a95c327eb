-- What the deck of a source holds when it is loaded.
-- Source: choice of this project.
use Rattle.std.specs.Prelude.{◌≡◌, ℕ, List, Result}
use Rattle.deck_model.specs.Image.{bytes_from, Image, image_at}
use Rattle.deck_model.specs.declared.decks.DeckRefusal.{DeckRefusal}
use Rattle.asm_model.specs.Line.{sources}
use Rattle.asm_model.specs.Places.{start, standings, last}
use Rattle.asm_model.specs.Program.{Assembly}
use Rattle.asm_deck.specs.AssembledImage.{HoldsSections, ConstantsMoved, IsOutside, room_or}
use Rattle.asm_deck.specs.LoadedSections.{passes, entry_at}
use Rattle.asm_laws.specs.LoadedProgram.{StatementsLoaded}

-- want of room exactly where the end of a section passes a storage of n bytes; else these bytes
abbrev pub image_of_program : ℕ → ℕ → Assembly → (ℕ → ℕ) → Result Image DeckRefusal
image_of_program origin n a byte =
    room_or (passes n origin a.sections) (record {
      bytes = bytes_from byte 0 n;
      entry = entry_at origin a.sections a.entry;
    })

-- a deck from an origin on in a storage of n bytes, where a source has the program a: its image has
-- the placed bytes of each section at the section's load address, with the load address that it
-- names added to each constant; and each statement is loaded, an instruction so that it is decoded as
-- its row and fields
pub record IsLoaded (origin n : ℕ) (deck text : List ℕ) (a : Assembly) : Type 0 where
  pub placed : ℕ → ℕ
  pub byte : ℕ → ℕ
  pub image : image_at origin n deck ≡ image_of_program origin n a byte
  pub sections : HoldsSections placed origin a.sections
  pub constants : ConstantsMoved byte placed origin a.sections a.externals a.constants
  pub others : (at : ℕ) → IsOutside origin a.sections at a.constants → byte at ≡ placed at
  pub statements : StatementsLoaded byte origin a.sections (last start (sources text)).names
      (standings start (sources text))
