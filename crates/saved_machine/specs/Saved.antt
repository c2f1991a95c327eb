-- The save of a machine, of what its run counted, and of its silicon.
-- Source: choice of this project.
use Rattle.std.specs.Prelude.{ℕ, ◌*◌, List, map, nat_lt, not, if◌then◌else◌, slice_get}
use Rattle.std.specs.Option.{unwrap_or}
use Rattle.std.specs.List.{range_with_len}
use Rattle.esa_model.specs.Bus.{signals_of}
use Rattle.esa_model.specs.declared.machine.Signals.{Signals}
use Rattle.run_model.specs.Cores.{belongs}
use Rattle.run_model.specs.declared.logs.Config.{Config}
use Rattle.save_model.specs.Save.{Save}
use Rattle.save_model.specs.declared.parts.SaveHead.{SaveHead}
use Rattle.save_model.specs.declared.parts.SavedCpu.{SavedCpu}
use Rattle.save_model.specs.declared.parts.SavedCore.{SavedCore}
use Rattle.save_model.specs.declared.parts.SavedNumbers.{SavedNumbers}
use Rattle.silicon.specs.Chip.{Chip}
use Rattle.sparing.specs.Pools.{stands}
use Rattle.core_turns.specs.Held.{CorePool, fenced_number}
use Rattle.core_turns.specs.Places.{with_cpus}
use Rattle.core_turns.specs.declared.held.Held.{Held}
use Rattle.core_turns.specs.declared.held.Held.TheVariants.{Taken}
use Rattle.g5_machine.specs.declared.machine.Machine.{Machine}
use Rattle.saved_machine.specs.Numbers.{saved_cpu}
use Rattle.saved_machine.specs.declared.counts.Counts.{Counts}

abbrev pub head_of : Config → SaveHead
head_of c = record {
  cpus = c.cpus;
  spares = c.spares;
  threshold = c.threshold;
  zero = 0;
  pages = c.pages;
}

abbrev pub numbers_of : Machine → Counts → SavedNumbers
numbers_of m n = record {
  turns = m.counts.turns;
  commits = m.counts.commits;
  clock = m.side.clock;
  console_read = m.counts.read;
  console_written = m.counts.written;
  retries = n.retries;
  spared = n.spared;
  stopped = n.stopped;
  returned = n.returned;
}

abbrev pub counts_of : SavedNumbers → Counts
counts_of n = record {
  retries = n.retries;
  spared = n.spared;
  stopped = n.stopped;
  returned = n.returned;
}

-- ---- the CPUs

abbrev pub held_at : List Held → ℕ → Held
held_at cpus i = unwrap_or (slice_get cpus i) Taken

abbrev pub cpu_at : List Held → List Signals → ℕ → SavedCpu
cpu_at cpus bus i = saved_cpu (held_at cpus i) (signals_of bus i)

unfoldable pub cpus_of : List Held → List Signals → ℕ → List SavedCpu
cpus_of cpus bus n = map (cpu_at cpus bus) (range_with_len 0 n)

-- ---- the cores

-- none, with a CPU, spare, fenced
unfoldable pub place_of : Config → List Held → CorePool → ℕ → ℕ
place_of c cpus pool k =
    if not (belongs c k) then 0
    else (if nat_lt 0 (with_cpus k cpus) then 1
    else (if stands fenced_number pool.fenced k then 3 else 2))

abbrev pub core_at : Config → List Held → CorePool → Chip → ℕ → SavedCore
core_at c cpus pool z k = record {
  place = place_of c cpus pool k;
  zeros = 0;
  begun = z.begun k;
  stored = map (z.word k) (range_with_len 0 40);
}

unfoldable pub cores_of : Config → List Held → CorePool → Chip → List SavedCore
cores_of c cpus pool z = map (core_at c cpus pool z) (range_with_len 0 16)

-- ---- so many bytes of a list, zeros behind its end

abbrev pub byte_at : List ℕ → ℕ → ℕ
byte_at bytes k = unwrap_or (slice_get bytes k) 0

unfoldable pub first_bytes : List ℕ → ℕ → List ℕ
first_bytes bytes n = map (byte_at bytes) (range_with_len 0 n)

-- ---- the save

unfoldable pub saved : Machine → Counts → Chip → Save
saved m n z = record {
  head = head_of m.config;
  numbers = numbers_of m n;
  cpus = cpus_of m.cpus.items m.side.bus m.config.cpus;
  cores = cores_of m.config m.cpus.items m.pool z;
  keys = first_bytes m.side.keys m.config.pages;
  storage = first_bytes m.memory.bytes (4096 * m.config.pages);
}
