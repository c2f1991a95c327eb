-- Files in memory, as names and bytes.
use Rattle.std.specs.Prelude.{ℕ, suc, zero, List, [], ◌∷◌, string_bytes}
use Rattle.g5_outside.specs.declared.memory_shelf.NamedFile.{NamedFile}

abbrev pub files_of : List NamedFile → List (List ℕ × List ℕ)
files_of [] = []
files_of (file ∷ files) = (string_bytes file.name, file.bytes.items) ∷ files_of files

-- the bytes of the file at a place
abbrev pub bytes_at : List NamedFile → ℕ → List ℕ
bytes_at [] i = []
bytes_at (file ∷ files) zero = file.bytes.items
bytes_at (file ∷ files) (suc i) = bytes_at files i
