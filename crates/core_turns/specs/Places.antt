-- In which places the number of a core stands: with a CPU that is not lost, among the spares, among
-- the fenced. Source: choice of this project.
use Rattle.std.specs.Prelude.{◌≡◌, ℕ, ◌+◌, List, [], ◌∷◌, ◌==◌, if◌then◌else◌}
use Rattle.run_model.specs.declared.logs.Config.{Config}
use Rattle.run_model.specs.Cores.{belongs}
use Rattle.sparing.specs.Pools.{holds}
use Rattle.core_turns.specs.Held.{CorePool, spare_number, fenced_number}
use Rattle.core_turns.specs.declared.held.Held.{Held}
use Rattle.core_turns.specs.declared.held.Held.TheVariants.{Running, Recovering, Lost, Taken}

-- once on this core
abbrev pub on : ℕ → ℕ → ℕ
on core k = if core == k then 1 else 0

-- how often core k stands with a CPU
abbrev pub with_cpu : ℕ → Held → ℕ
with_cpu k (Running r) = on r.core.0 k
with_cpu k (Recovering r) = on r.core.0 k
with_cpu k (Lost c retries) = 0
with_cpu k Taken = 0

abbrev pub with_cpus : ℕ → List Held → ℕ
with_cpus k [] = 0
with_cpus k (h ∷ hs) = with_cpu k h + with_cpus k hs

-- and how often in a pool
abbrev pub in_pool : ℕ → CorePool → ℕ
in_pool k p = holds spare_number k p.spares + holds fenced_number k p.fenced

-- each core of the machine stands in one place, and no other core in any
abbrev pub EachInOnePlace : Config → List Held → CorePool → Type 0
EachInOnePlace c held pool = (k : ℕ)
    → with_cpus k held + in_pool k pool ≡ (if belongs c k then 1 else 0)
