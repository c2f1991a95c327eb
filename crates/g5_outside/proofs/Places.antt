-- Files by name and by place, and the numbers that were given.
use Rattle.std.proofs.Common.{◌≡◌, ℕ, suc, zero, ◌+◌, ◌≤◌, ◌<◌, List, [], ◌∷◌, length, drop, get_or, refl, ap, arith, true, false, string_bytes, Some, inl, inr}
use native.Mathlib.Numerals.{unary_clauses}
use Rattle.std.proofs.Math.Seq.{drop-nil}
use Rattle.std.specs.Str.{bytes_eq}
use Rattle.g5_outside.specs.Views.{Gave}
use Rattle.g5_outside.specs.Numbers.{numbers_below}
use Rattle.g5_outside.specs.Calls.{file_named}
use Rattle.g5_outside.specs.MemoryFiles.{files_of, bytes_at}
use Rattle.g5_outside.specs.declared.memory_shelf.NamedFile.{NamedFile}

-- the files from a place on, where the first has the name
pub named_here : (name : List ℕ) (files : List NamedFile) (i : ℕ) (d : NamedFile) → i < length files → bytes_eq (string_bytes (get_or files i d).name) name ≡ true → file_named name (files_of (drop i files)) ≡ Some (bytes_at files i)
named_here name [] i d lt same = absurd (omega arith)
named_here name (file ∷ files) zero d lt same = rw same refl
named_here name (file ∷ files) (suc i) d lt same = named_here name files i d (omega arith) same

-- and where it has not
pub named_later : (name : List ℕ) (files : List NamedFile) (i : ℕ) (d : NamedFile) → i < length files → bytes_eq (string_bytes (get_or files i d).name) name ≡ false → file_named name (files_of (drop (i + 1) files)) ≡ file_named name (files_of (drop i files))
named_later name [] i d lt same = absurd (omega arith)
named_later name (file ∷ files) zero d lt same = rw same refl
named_later name (file ∷ files) (suc i) d lt same = simp unary_clauses (simp unary_clauses at (named_later name files i d (omega arith) same))

pub gave_below : (k n : ℕ) → Gave (numbers_below k) n → n < k
gave_below zero n h = absurd h
gave_below (suc k) n h = elim h [ inl e ↦ omega arith | inr more ↦ (let lt = gave_below k n more in omega arith) ]

pub length-numbers_below : (k : ℕ) → length (numbers_below k) ≡ k
length-numbers_below zero = refl
length-numbers_below (suc k) = ap suc (length-numbers_below k)

pub bytes_at_get : (files : List NamedFile) (i : ℕ) (d : NamedFile) → i < length files → bytes_at files i ≡ (get_or files i d).bytes.items
bytes_at_get [] i d lt = absurd (omega arith)
bytes_at_get (file ∷ files) zero d lt = refl
bytes_at_get (file ∷ files) (suc i) d lt = bytes_at_get files i d (omega arith)

pub bytes_at_past : (files : List NamedFile) (i : ℕ) → length files ≤ i → bytes_at files i ≡ []
bytes_at_past [] i le = refl
bytes_at_past (file ∷ files) zero le = absurd (omega arith)
bytes_at_past (file ∷ files) (suc i) le = bytes_at_past files i (omega arith)

pub left_past : (files : List NamedFile) (i at : ℕ) → length files ≤ i → drop at (bytes_at files i) ≡ []
left_past files i at le = rw (bytes_at_past files i le) (drop-nil at)
