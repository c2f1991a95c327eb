-- What the calls of a shelf, a source and a sink do to what is told of them.
use Rattle.std.specs.Prelude.{◌≡◌, ◌≢◌, ℕ, ◌≤◌, Bool, List, [], ◌∷◌, ◌++◌, take, length, Option, Some, None, Result, MatchResult, IfOk, IsTrue, if◌then◌else◌}
use Rattle.std.specs.Str.{bytes_eq}
use Rattle.g5_outside.specs.Views.{ShelfView, SinkView, Gave}
use Rattle.g5_outside.specs.declared.outside.FileNo.{FileNo}

-- the bytes of the first file of that name
abbrev pub file_named : List ℕ → List (List ℕ × List ℕ) → Option (List ℕ)
file_named name [] = None
file_named name (file ∷ files) = if bytes_eq file.0 name then Some file.1 else file_named name files

-- created files stay as they were
pub record KeepsCreated (old new : ShelfView) : Type 0 where
  pub names : (n : ℕ) → new.name_of n ≡ old.name_of n
  pub texts : (n : ℕ) → new.text_of n ≡ old.text_of n

-- true, and reading starts at the front, or false where no such file is
pub record Finds {E : Type 0} (name : List ℕ) (old new : ShelfView) (result : Result Bool E) : Type 0 where
  pub files : new.files ≡ old.files
  pub created : KeepsCreated old new
  pub answer : IfOk result (λ there. file_named name old.files ≡ (if there then Some new.left else None))

-- some bytes from the front of what is left, and none only where nothing is
pub record Reads {E : Type 0} (into : List ℕ) (old new : ShelfView) (result : Result ℕ E) : Type 0 where
  pub files : new.files ≡ old.files
  pub created : KeepsCreated old new
  pub bytes : IfOk result (λ n. old.left ≡ take n into ++ new.left)
  pub end : IfOk result (λ n. n ≡ 0 → old.left ≡ [])

-- a new file of that name with no byte, and every earlier number stays
pub record Creates {E : Type 0} (name : List ℕ) (old new : ShelfView) (result : Result FileNo E) : Type 0 where
  pub name_is : IfOk result (λ file. new.name_of file.0 ≡ name)
  pub empty : IfOk result (λ file. new.text_of file.0 ≡ [])
  pub names : (n : ℕ) → Gave old.numbers n → new.name_of n ≡ old.name_of n
  pub texts : (n : ℕ) → Gave old.numbers n → new.text_of n ≡ old.text_of n

-- Some first bytes were taken, and at an answer so many. How many is known of every shelf.
pub record Writes {E : Type 0} (file : ℕ) (bytes : List ℕ) (old new : ShelfView) (result : Result ℕ E) : Type 0 where
  pub count : ℕ
  pub bound : count ≤ length bytes
  pub answer : IfOk result (λ n. n ≡ count)
  pub text : IsTrue old.told → new.text_of file ≡ old.text_of file ++ take count bytes
  pub names : IsTrue old.told → (n : ℕ) → new.name_of n ≡ old.name_of n
  pub others : IsTrue old.told → (n : ℕ) → n ≢ file → new.text_of n ≡ old.text_of n

-- as `Writes`, of a sink
pub record Takes {E : Type 0} (bytes : List ℕ) (old new : SinkView) (result : Result ℕ E) : Type 0 where
  pub count : ℕ
  pub bound : count ≤ length bytes
  pub answer : IfOk result (λ n. n ≡ count)
  pub text : IsTrue old.told → new.taken ≡ old.taken ++ take count bytes

-- the numbers that were given, after a create
abbrev pub Numbers : {E : Type 0} → List ℕ → List ℕ → Result FileNo E → Type 0
Numbers old new result = MatchResult result (λ file. (new ≡ file.0 ∷ old) × ¬ Gave old file.0) (λ _. new ≡ old)

-- as `Reads`, of a source
pub record ReadsFrom {E : Type 0} (into old new : List ℕ) (result : Result ℕ E) : Type 0 where
  pub bytes : IfOk result (λ n. old ≡ take n into ++ new)
  pub end : IfOk result (λ n. n ≡ 0 → old ≡ [])
