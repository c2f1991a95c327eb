-- A whole save: its bytes, and what bytes are read as, or the first refusal.
-- Source: choice of this project.
use Rattle.std.specs.Prelude.{◌≡◌, ℕ, ◌+◌, ◌*◌, ◌==◌, nat_lt, nat_le, if◌then◌else◌, List, [], ◌∷◌, ◌++◌, Bool, true, ◌&&◌, not, bytes_eq, codes, drop, length, replicate, take, Option, Some, None, Result, Ok, Err, ⊤}
use Rattle.save_model.specs.declared.parts.SaveHead.{SaveHead}
use Rattle.save_model.specs.declared.parts.SavedNumbers.{SavedNumbers}
use Rattle.save_model.specs.declared.parts.SavedCpu.{SavedCpu}
use Rattle.save_model.specs.declared.parts.SavedCore.{SavedCore}
use Rattle.save_model.specs.declared.refusal.SaveRefusal.{SaveRefusal}
use Rattle.save_model.specs.declared.refusal.SaveRefusal.TheVariants.{BadHead, BadLength, BadField, PastSchedule, PastConsole}
use Rattle.save_model.specs.Fields.{Field, AllFit, bytes_of_fields, numbers, behind, many, behind_many, all_good, first_bad}
use Rattle.save_model.specs.Parts.{head_fields, number_fields, cpus_fields, cores_fields, key_fields, head_widths, head_of, number_widths, numbers_of, cpu_widths, cpu_of, core_widths, core_of}

-- CPUs 0 on, cores 0 to 15, a key for each page, and the bytes of the storage
pub record Save : Type 0 where
  pub head : SaveHead
  pub numbers : SavedNumbers
  pub cpus : List SavedCpu
  pub cores : List SavedCore
  pub keys : List ℕ
  pub storage : List ℕ

-- ---- its bytes

-- all fields behind the head; the bytes of the storage have any value
unfoldable pub fields : Save → List Field
fields s =
    number_fields s.numbers
    ++ (cpus_fields s.head [] s.cpus ++ (cores_fields s.head s.cpus 0 s.cores ++ key_fields s.keys))

-- `G5SAVE1` and a line feed
abbrev pub magic : List ℕ
magic = codes "G5SAVE1\n"

unfoldable pub bytes_of : Save → List ℕ
bytes_of s = magic ++ (bytes_of_fields (head_fields s.head) ++ (bytes_of_fields (fields s) ++ s.storage))

-- ---- what bytes are read as

abbrev pub behind_numbers : List ℕ → List ℕ
behind_numbers bs = behind number_widths bs

abbrev pub behind_cpus : SaveHead → List ℕ → List ℕ
behind_cpus h bs = behind_many cpu_widths h.cpus (behind_numbers bs)

abbrev pub behind_cores : SaveHead → List ℕ → List ℕ
behind_cores h bs = behind_many core_widths 16 (behind_cpus h bs)

-- the save with this head and these bytes behind it
unfoldable pub read_by : SaveHead → List ℕ → Save
read_by h bs = record {
  head = h;
  numbers = numbers_of (numbers number_widths bs);
  cpus = many cpu_of cpu_widths h.cpus (behind_numbers bs);
  cores = many core_of core_widths 16 (behind_cpus h bs);
  keys = numbers (replicate h.pages 1) (behind_cores h bs);
  storage = behind (replicate h.pages 1) (behind_cores h bs);
}

abbrev pub head_in : List ℕ → SaveHead
head_in bs = head_of (numbers head_widths (drop 8 bs))

abbrev pub read_all : List ℕ → Save
read_all bs = read_by (head_in bs) (behind head_widths (drop 8 bs))

-- ---- the refusals, in their order

-- the first 16 bytes are there and hold the head of a machine that there can be
unfoldable pub head_good : List ℕ → Bool
head_good bs = nat_le 16 (length bs) && (bytes_eq (take 8 bs) magic && all_good (head_fields (head_in bs)))

-- how many bytes a save with this head has
abbrev pub size_by : SaveHead → ℕ
size_by h = 10584 + 336 * h.cpus + 4097 * h.pages

abbrev pub past : ℕ → ℕ → Save → Result Save SaveRefusal
past turns console s =
    if nat_lt turns s.numbers.turns then Err PastSchedule
    else (if nat_lt console s.numbers.console_read then Err PastConsole
    else Ok s)

abbrev pub judged : ℕ → ℕ → Save → Option ℕ → Result Save SaveRefusal
judged turns console s (Some at) = Err (BadField at)
judged turns console s None = past turns console s

-- bytes, where the schedule has so many turns and the console input so many bytes
unfoldable pub read_save : ℕ → ℕ → List ℕ → Result Save SaveRefusal
read_save turns console bs =
    if not (head_good bs) then Err BadHead
    else (if not (length bs == size_by (head_in bs)) then Err BadLength
    else judged turns console (read_all bs) (first_bad 16 (fields (read_all bs))))

-- how many CPUs the save has
unfoldable pub cpus_in : List ℕ → Result ℕ SaveRefusal
cpus_in bs = if head_good bs then Ok (head_in bs).cpus else Err BadHead

-- ---- which saves there are

abbrev pub CpusShaped : List SavedCpu → Type 0
CpusShaped [] = ⊤
CpusShaped (c ∷ cs) = (length c.words ≡ 40) × CpusShaped cs

abbrev pub CoresShaped : List SavedCore → Type 0
CoresShaped [] = ⊤
CoresShaped (c ∷ cs) = (length c.stored ≡ 40) × CoresShaped cs

-- as many parts as the head tells, and each number has room in its bytes
pub record IsShaped (s : Save) : Type 0 where
  pub head_fits : AllFit (head_fields s.head)
  pub fits : AllFit (fields s)
  pub cpus : length s.cpus ≡ s.head.cpus
  pub words : CpusShaped s.cpus
  pub cores : length s.cores ≡ 16
  pub stored : CoresShaped s.cores
  pub keys : length s.keys ≡ s.head.pages
  pub storage : length s.storage ≡ 4096 * s.head.pages

-- and all fields have one of their values
pub record IsSave (s : Save) : Type 0 where
  pub shaped : IsShaped s
  pub head : all_good (head_fields s.head) ≡ true
  pub good : first_bad 16 (fields s) ≡ None
