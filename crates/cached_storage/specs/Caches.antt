-- Several caches over one storage.
-- Source: choice of this project.
use Rattle.std.specs.Prelude.{ℕ, List, All}
use Rattle.l1_cache.specs.Lines.{Lines, Coherent}

-- in each cache, each byte of a line that is present is the storage's
abbrev pub AllCoherent : List Lines → List ℕ → Type 0
AllCoherent cs s = All (λ (c : Lines). Coherent c s) cs
