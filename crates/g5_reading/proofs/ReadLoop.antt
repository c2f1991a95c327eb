-- The loop that reads a file.
use Rattle.std.proofs.Common.{◌≡◌, ℕ, ◌+◌, ◌≤◌, List, ◌++◌, length, refl, ◌∙◌, arith, IsTrue}
use Rattle.g5_outside.specs.Views.{ShelfView, SourceView}
use Rattle.g5_reading.specs.Inputs.{OnlyReads}
use Rattle.g5_reading.specs.Sources.{OnlyTakes}

pub only_same : (a : ShelfView) → OnlyReads a a
only_same a = record { numbers = refl; told = refl; reads = omega arith; writes = omega arith; files = λ t. refl; names = λ t n. refl; texts = λ t n. refl }

pub only_more : (a b c : ShelfView) → OnlyReads a b → OnlyReads b c → OnlyReads a c
only_more a b c p q = record {
  numbers = q.numbers ∙ p.numbers;
  told = q.told ∙ p.told;
  reads = omega (arith, p.reads, q.reads);
  writes = omega (arith, p.writes, q.writes);
  files = λ t. q.files (p.told ∙ t) ∙ p.files t;
  names = λ t n. q.names (p.told ∙ t) n ∙ p.names t n;
  texts = λ t n. q.texts (p.told ∙ t) n ∙ p.texts t n;
}

-- so many bytes are read, and with those that are left they are all
pub record ReadSoFar (limit : ℕ) (bytes : List ℕ) (start now : ShelfView) : Type 0 where
  pub only : OnlyReads start now
  pub found : IsTrue now.found
  pub bound : length bytes ≤ limit + 1
  pub same : IsTrue start.told → bytes ++ now.left ≡ start.left

-- the same of a source
pub takes_none : (a : SourceView) → OnlyTakes a a
takes_none a = record { told = refl; faults = omega arith }

pub takes_more : (a b c : SourceView) → OnlyTakes a b → OnlyTakes b c → OnlyTakes a c
takes_more a b c p q = record { told = q.told ∙ p.told; faults = omega (arith, p.faults, q.faults) }

pub record TakenSoFar (limit : ℕ) (bytes : List ℕ) (start now : SourceView) : Type 0 where
  pub only : OnlyTakes start now
  pub bound : length bytes ≤ limit + 1
  pub same : IsTrue start.told → bytes ++ now.left ≡ start.left
