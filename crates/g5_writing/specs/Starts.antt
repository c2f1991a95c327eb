-- The start of the two files, the making of one, and the files by the names that they were created
-- under.
use Rattle.std.specs.Prelude.{◌≡◌, ◌⊎◌, ℕ, ◌≤◌, List, [], ◌∷◌, take, Result, IfOk, OnOk, OnErr, IsTrue, if◌then◌else◌}
use Rattle.std.specs.Str.{bytes_eq}
use Rattle.g5_outside.specs.Views.{ShelfView, Gave}
use Rattle.g5_outside.specs.Causes.{Rose}
use Rattle.g5_writing.specs.Outputs.{HasFiles}
use Rattle.g5_writing.specs.declared.outputs.OutputFiles.{OutputFiles}

abbrev pub text_among : ShelfView → List ℕ → List ℕ → List ℕ
text_among shelf name [] = []
text_among shelf name (n ∷ ns) = if bytes_eq (shelf.name_of n) name then shelf.text_of n else text_among shelf name ns

-- the bytes of the newest file that was created under a name, or none
abbrev pub text_named : ShelfView → List ℕ → List ℕ
text_named shelf name = text_among shelf name shelf.numbers

-- no file was created under any other name
abbrev pub OnlyNames : List ℕ → List ℕ → ShelfView → Type 0
OnlyNames log trace shelf = (n : ℕ) → Gave shelf.numbers n → (shelf.name_of n ≡ log) ⊎ (shelf.name_of n ≡ trace)

-- two empty files of these names, or as many of them as could be made
pub record Starts {E : Type 0} (log trace : List ℕ) (old new : ShelfView) (result : Result OutputFiles E) : Type 0 where
  pub told : new.told ≡ old.told
  pub found : new.found ≡ old.found
  pub reads : old.read_faults ≤ new.read_faults
  pub writes : old.write_faults ≤ new.write_faults
  pub log_empty : IsTrue old.told → text_named new log ≡ []
  pub trace_empty : IsTrue old.told → text_named new trace ≡ []
  pub files : IfOk result (λ files. HasFiles new files)
  pub numbers : IfOk result (λ files. new.numbers ≡ files.trace.0 ∷ files.log.0 ∷ [])
  pub log_name : IsTrue old.told → IfOk result (λ files. new.name_of files.log.0 ≡ log)
  pub trace_name : IsTrue old.told → IfOk result (λ files. new.name_of files.trace.0 ≡ trace)
  pub named : IsTrue old.told → OnlyNames log trace new
  pub cause : OnErr result (Rose old.write_faults new.write_faults)

-- ---- one file, written whole

-- no file was created under another name
abbrev pub OnlyName : List ℕ → ShelfView → Type 0
OnlyName name shelf = (n : ℕ) → Gave shelf.numbers n → shelf.name_of n ≡ name

-- A file of this name was created and has some first bytes of the text: all of them at Ok, and at Err
-- the count of faults rose. A file that could not be created has none.
pub record MakesFile {T E : Type 0} (name text : List ℕ) (old new : ShelfView) (result : Result T E) :
    Type 0 where
  pub count : ℕ
  pub told : new.told ≡ old.told
  pub found : new.found ≡ old.found
  pub text_is : IsTrue old.told → text_named new name ≡ take count text
  pub named : IsTrue old.told → OnlyName name new
  pub created : OnOk result ((file : ℕ) × (new.numbers ≡ file ∷ []))
  pub all : OnOk result (take count text ≡ text)
  pub cause : OnErr result (Rose old.write_faults new.write_faults)
