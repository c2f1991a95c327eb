use Rattle.std.proofs.Common.{◌≡◌, ℕ, List, length}
use Rattle.cached_storage.specs.Caches.{AllCoherent}
use Rattle.cached_storage.proofs.caches.new_caches.Given as goal

abbrev pub invariant-loop-core : goal.invariant-loop-core
invariant-loop-core l = record {
  cores : length l.caches.items ≡ l._core;
  coherent : (s : List ℕ) → AllCoherent l.caches.items s;
}
