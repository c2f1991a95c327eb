use Rattle.std.proofs.Common.{ℕ, List}
use Rattle.l1_cache.specs.Lines.{DiffersInLine, line_of}
use Rattle.cached_storage.specs.Caches.{AllCoherent}
use Rattle.cached_storage.proofs.Parts.{Parted}
use Rattle.cached_storage.proofs.caches.invalidate_line.Given as goal

abbrev pub invariant-loop-cache : goal.invariant-loop-cache
invariant-loop-cache l =
    (s t : List ℕ) → DiffersInLine (line_of l.at) s t → AllCoherent l.fn.caches s → Parted l.cache-index l.caches s t
