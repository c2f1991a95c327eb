-- How the outputs grow.
use Rattle.std.specs.Prelude.{◌≡◌, ◌≢◌, ◌⊎◌, ℕ, ◌≤◌, List, ◌++◌, take, IsTrue, Result, OnOk, OnErr}
use Rattle.g5_outside.specs.Views.{ShelfView, SinkView, Gave}
use Rattle.g5_outside.specs.Causes.{Rose}
use Rattle.run_model.specs.Pieces.{Piece, text, IsCut}
use Rattle.g5_writing.specs.declared.outputs.OutputFiles.{OutputFiles}
use Rattle.run_model.specs.declared.outputs.Place.TheVariants.{Log, Trace, Out}

-- the two files are there, and are two
pub record HasFiles (shelf : ShelfView) (files : OutputFiles) : Type 0 where
  pub log : Gave shelf.numbers files.log.0
  pub trace : Gave shelf.numbers files.trace.0
  pub two : files.log.0 ≢ files.trace.0

-- of a shelf nothing changed but the text of one file, which has these bytes more
pub record FileGrew (file : ℕ) (more : List ℕ) (old new : ShelfView) : Type 0 where
  pub numbers : new.numbers ≡ old.numbers
  pub found : new.found ≡ old.found
  pub told : new.told ≡ old.told
  pub reads : old.read_faults ≤ new.read_faults
  pub writes : old.write_faults ≤ new.write_faults
  pub text : IsTrue old.told → new.text_of file ≡ old.text_of file ++ more
  pub names : IsTrue old.told → (n : ℕ) → new.name_of n ≡ old.name_of n
  pub others : IsTrue old.told → (n : ℕ) → n ≢ file → new.text_of n ≡ old.text_of n

pub record SinkGrew (more : List ℕ) (old new : SinkView) : Type 0 where
  pub told : new.told ≡ old.told
  pub faults : old.faults ≤ new.faults
  pub text : IsTrue old.told → new.taken ≡ old.taken ++ more

-- some first bytes of a text were added, all of them at Ok, and at Err the count of faults rose
pub record AddsToFile {T E : Type 0} (file : ℕ) (bytes : List ℕ) (old new : ShelfView) (result : Result T E) : Type 0 where
  pub count : ℕ
  pub grew : FileGrew file (take count bytes) old new
  pub all : OnOk result (take count bytes ≡ bytes)
  pub cause : OnErr result (Rose old.write_faults new.write_faults)

pub record AddsToSink {T E : Type 0} (bytes : List ℕ) (old new : SinkView) (result : Result T E) : Type 0 where
  pub count : ℕ
  pub grew : SinkGrew (take count bytes) old new
  pub all : OnOk result (take count bytes ≡ bytes)
  pub cause : OnErr result (Rose old.faults new.faults)

-- the three outputs have these pieces more, and nothing else changed, nor any other file
pub record Grew (files : OutputFiles) (pieces : List Piece) (old new : ShelfView) (out_old out_new : SinkView) : Type 0 where
  pub numbers : new.numbers ≡ old.numbers
  pub found : new.found ≡ old.found
  pub told : new.told ≡ old.told
  pub reads : old.read_faults ≤ new.read_faults
  pub writes : old.write_faults ≤ new.write_faults
  pub out_told : out_new.told ≡ out_old.told
  pub out_faults : out_old.faults ≤ out_new.faults
  pub names : IsTrue old.told → (n : ℕ) → new.name_of n ≡ old.name_of n
  pub others : IsTrue old.told → (n : ℕ) → n ≢ files.log.0 → n ≢ files.trace.0
      → new.text_of n ≡ old.text_of n
  pub log : IsTrue old.told → new.text_of files.log.0 ≡ old.text_of files.log.0 ++ text Log pieces
  pub trace : IsTrue old.told → new.text_of files.trace.0 ≡ old.text_of files.trace.0 ++ text Trace pieces
  pub out : IsTrue out_old.told → out_new.taken ≡ out_old.taken ++ text Out pieces

-- These pieces were written, in their one order: all of them at Ok, and at Err up to some place in one of them,
-- and there a count of faults rose.
pub record Puts {T E : Type 0} (files : OutputFiles) (whole : List Piece) (old new : ShelfView) (out_old out_new : SinkView) (result : Result T E) : Type 0 where
  pub held : List Piece
  pub grew : Grew files held old new out_old out_new
  pub all : OnOk result (held ≡ whole)
  pub cut : OnErr result (IsCut held whole)
  pub cause : OnErr result (Rose old.write_faults new.write_faults ⊎ Rose out_old.faults out_new.faults)
