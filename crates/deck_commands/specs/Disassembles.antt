-- How the instructions of a deck are shown, from its file to the output: each status by its cause.
-- Source: choice of this project.
use Rattle.std.specs.Prelude.{◌≡◌, ℕ, List, ◌++◌, take, Result, Ok, Err, IsTrue, true}
use Rattle.asm_text.specs.Lines.{listing}
use Rattle.deck_model.specs.Image.{Image, image}
use Rattle.deck_model.specs.declared.decks.DeckRefusal.{DeckRefusal}
use Rattle.deck_commands.specs.Statements.{ShowsStatements}
use Rattle.g5_outside.specs.Causes.{Rose}
use Rattle.g5_outside.specs.Views.{ShelfView, SinkView}
use Rattle.g5_reading.specs.Inputs.{IsIn, IsUnreadInput}
use Rattle.program_model.specs.Inputs.{limit}
use Rattle.program_model.specs.declared.inputs.Input.TheVariants.{Deck}
use Rattle.program_model.specs.declared.status.Status.{Status}
use Rattle.program_model.specs.declared.status.Status.TheVariants.{DeckRefused, WriteFault}

-- the largest storage: 16,384 KiB
unfoldable pub storage_size : ℕ
storage_size = 16777216

-- these are the bytes of an image
abbrev pub HasBytes : Result Image DeckRefusal → List ℕ → Type 0
HasBytes (Ok i) storage = storage ≡ i.bytes
HasBytes (Err refusal) storage = ⊥

-- the lines are on the output, and no file was created; each instruction is shown by a statement
-- that assembles to it
pub record Disassembles (name : List ℕ) (at count : ℕ) (a b : ShelfView) (o p : SinkView) :
    Type 0 where
  pub deck : List ℕ
  pub read : IsIn name (limit Deck) a deck
  pub storage : List ℕ
  pub loaded : HasBytes (image storage_size deck) storage
  pub out : IsTrue o.told → p.taken ≡ o.taken ++ listing storage count at
  pub statements : ShowsStatements storage
  pub numbers : b.numbers ≡ a.numbers
  pub found : b.found ≡ true

-- the output failed in the midst of them
pub record DisassemblesInPart (name : List ℕ) (at count : ℕ) (a b : ShelfView) (o p : SinkView) :
    Type 0 where
  pub deck : List ℕ
  pub read : IsIn name (limit Deck) a deck
  pub storage : List ℕ
  pub loaded : HasBytes (image storage_size deck) storage
  pub bytes : ℕ
  pub out : IsTrue o.told → p.taken ≡ o.taken ++ take bytes (listing storage count at)
  pub numbers : b.numbers ≡ a.numbers
  pub cause : Rose o.faults p.faults
  pub found : b.found ≡ true

-- the deck is refused
pub record RefusesDeck (name : List ℕ) (a b : ShelfView) (o p : SinkView) (refusal : DeckRefusal) :
    Type 0 where
  pub deck : List ℕ
  pub read : IsIn name (limit Deck) a deck
  pub refused : image storage_size deck ≡ Err refusal
  pub numbers : b.numbers ≡ a.numbers
  pub out : p ≡ o
  pub found : b.found ≡ true

-- it was not read, or there was no memory
pub record IsUnread (name : List ℕ) (a b : ShelfView) (o p : SinkView) (status : Status) :
    Type 0 where
  pub why : IsUnreadInput Deck name a b status
  pub numbers : b.numbers ≡ a.numbers
  pub out : p ≡ o

abbrev pub FailsToDisassemble : List ℕ → ℕ → ℕ → ShelfView → ShelfView → SinkView → SinkView → Status
    → Type 0
FailsToDisassemble name at count a b o p WriteFault = DisassemblesInPart name at count a b o p
FailsToDisassemble name at count a b o p (DeckRefused refusal) = RefusesDeck name a b o p refusal
FailsToDisassemble name at count a b o p status = IsUnread name a b o p status
