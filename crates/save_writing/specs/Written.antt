-- The parts of a save as they are written. The bytes of a CPU do not depend on the CPUs before it, nor those of a
-- core on the CPUs.
-- Source: choice of this project.
use Rattle.std.specs.Prelude.{ℕ, List, [], ◌∷◌, ◌++◌}
use Rattle.std.specs.List.{flat_map}
use Rattle.byteorder.specs.Endian.{big_bytes}
use Rattle.save_model.specs.declared.parts.SaveHead.{SaveHead}
use Rattle.save_model.specs.declared.parts.SavedNumbers.{SavedNumbers}
use Rattle.save_model.specs.declared.parts.SavedCpu.{SavedCpu}
use Rattle.save_model.specs.declared.parts.SavedCore.{SavedCore}
use Rattle.save_model.specs.Fields.{bytes_of_fields}
use Rattle.save_model.specs.Parts.{head_fields, number_fields, cpus_fields, cores_fields}
use Rattle.save_model.specs.Save.{Save, magic}

abbrev pub save_of : SaveHead → SavedNumbers → List SavedCpu → List SavedCore → List ℕ → List ℕ → Save
save_of head numbers cpus cores keys storage = record {
  head = head;
  numbers = numbers;
  cpus = cpus;
  cores = cores;
  keys = keys;
  storage = storage;
}

-- all that stands before the keys
unfoldable pub front_of : SaveHead → SavedNumbers → List SavedCpu → List SavedCore → List ℕ
front_of head numbers cpus cores =
    magic
    ++ (bytes_of_fields (head_fields head)
    ++ (bytes_of_fields (number_fields numbers)
    ++ (bytes_of_fields (cpus_fields head [] cpus) ++ bytes_of_fields (cores_fields head cpus 0 cores))))

abbrev pub cpu_written : SavedCpu → List ℕ
cpu_written c =
    flat_map (λ n. big_bytes 1 n)
    (c.mode ∷ c.core ∷ c.retries ∷ c.state ∷ c.restart ∷ c.key ∷ c.malfunction ∷ c.emergency ∷ c.external_call ∷ [])
    ++ (big_bytes 7 c.zeros ++ flat_map (λ n. big_bytes 8 n) c.words)

abbrev pub core_written : SavedCore → List ℕ
core_written c =
    flat_map (λ n. big_bytes 1 n) (c.place ∷ [])
    ++ (big_bytes 7 c.zeros
    ++ (flat_map (λ n. big_bytes 8 n) (c.begun ∷ []) ++ flat_map (λ n. big_bytes 16 n) c.stored))
