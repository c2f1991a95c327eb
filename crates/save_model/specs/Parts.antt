-- The parts of a save: their fields in order, with the values of each.
-- Source: choice of this project. A sentence on two fields is asked at its subject: that a CPU is lost exactly
-- where it is check-stopped at the mode, where a core is at the core's place.
use Rattle.std.specs.Prelude.{ℕ, ◌+◌, ◌*◌, ◌%◌, ◌^◌, ◌==◌, nat_lt, nat_le, if◌then◌else◌, List, [], ◌∷◌, ◌++◌, Bool, true, ◌&&◌, ◌||◌, not, drop, replicate, slice_index}
use Rattle.std.specs.List.{list_any}
use Rattle.esa_model.specs.Access.{prefix_page}
use Rattle.run_model.specs.declared.logs.Config.{Config}
use Rattle.run_model.specs.Checkpoint.{width}
use Rattle.run_model.specs.Cores.{belongs}
use Rattle.save_model.specs.declared.parts.SaveHead.{SaveHead}
use Rattle.save_model.specs.declared.parts.SavedNumbers.{SavedNumbers}
use Rattle.save_model.specs.declared.parts.SavedCpu.{SavedCpu}
use Rattle.save_model.specs.declared.parts.SavedCore.{SavedCore}
use Rattle.save_model.specs.Fields.{Field, field}

-- ---- the head: bytes 8 to 15

-- 128 to 16,384 KiB in steps of 64
abbrev pub is_size : ℕ → Bool
is_size pages = (nat_le 32 pages && nat_le pages 4096) && (pages % 16 == 0)

abbrev pub head_fields : SaveHead → List Field
head_fields h =
    field 1 h.cpus (nat_le 1 h.cpus && nat_le h.cpus 8)
    ∷ field 1 h.spares (nat_le h.spares 8)
    ∷ field 1 h.threshold (nat_le h.threshold 15)
    ∷ field 1 h.zero (h.zero == 0)
    ∷ field 4 h.pages (is_size h.pages)
    ∷ []

abbrev pub config_of : SaveHead → Config
config_of h = record { cpus = h.cpus; spares = h.spares; pages = h.pages; threshold = h.threshold }

-- ---- bytes 16 to 87

abbrev pub number_fields : SavedNumbers → List Field
number_fields n =
    field 8 n.turns (nat_le n.turns 1000000)
    ∷ field 8 n.commits (nat_le n.commits n.turns)
    ∷ field 8 n.clock true
    ∷ field 8 n.console_read (nat_le n.console_read (256 * n.commits))
    ∷ field 8 n.console_written (nat_le n.console_written (256 * n.commits))
    ∷ field 8 n.retries (nat_le n.retries n.turns)
    ∷ field 8 n.spared (nat_le n.spared n.turns)
    ∷ field 8 n.stopped (nat_le n.stopped n.turns)
    ∷ field 8 n.returned (nat_le n.returned n.turns)
    ∷ []

-- ---- a CPU

abbrev pub mode_good : ℕ → ℕ → Bool
mode_good mode state = nat_le mode 2 && (if mode == 2 then state == 2 else not (state == 2))

-- whether core k is with one of these CPUs that is not lost
abbrev pub is_with_cpu : List SavedCpu → ℕ → Bool
is_with_cpu cs k = list_any (λ (c : SavedCpu). nat_le c.mode 1 && (c.core == k)) cs

-- the machine has the core, and no CPU before has it unless one of the two is lost
abbrev pub core_good : SaveHead → List SavedCpu → ℕ → ℕ → Bool
core_good h before mode core = belongs (config_of h) core && not (nat_le mode 1 && is_with_cpu before core)

-- checkpoint word k of registers: words 35, 38, 39 and the left half of the words below are zero, and the prefix
-- (word 34) is that of a page of the storage
abbrev pub is_word : ℕ → ℕ → ℕ → Bool
is_word pages k w =
    if nat_lt k 34 then nat_lt w (2 ^ 32)
    else (if k == 34 then nat_lt w (2 ^ 32) && nat_lt (prefix_page w) pages
    else (if (k == 36) || (k == 37) then true
    else w == 0))

abbrev pub word_good : ℕ → ℕ → ℕ → ℕ → Bool
word_good pages mode k w = if mode == 0 then is_word pages k w else w == 0

-- words from number k on
abbrev pub word_fields : ℕ → ℕ → ℕ → List ℕ → List Field
word_fields pages mode k [] = []
word_fields pages mode k (w ∷ ws) = field 8 w (word_good pages mode k w) ∷ word_fields pages mode (k + 1) ws

-- a CPU, behind others
abbrev pub cpu_fields : SaveHead → List SavedCpu → SavedCpu → List Field
cpu_fields h before c =
    field 1 c.mode (mode_good c.mode c.state)
    ∷ field 1 c.core (core_good h before c.mode c.core)
    ∷ field 1 c.retries (nat_le c.retries h.threshold)
    ∷ field 1 c.state (nat_le c.state 2)
    ∷ field 1 c.restart (nat_le c.restart 1)
    ∷ field 1 c.key (nat_le c.key 1)
    ∷ field 1 c.malfunction (nat_lt c.malfunction (2 ^ h.cpus))
    ∷ field 1 c.emergency (nat_lt c.emergency (2 ^ h.cpus))
    ∷ field 1 c.external_call (nat_lt c.external_call h.cpus || (c.external_call == 255))
    ∷ field 7 c.zeros (c.zeros == 0)
    ∷ word_fields h.pages c.mode 0 c.words

abbrev pub cpus_fields : SaveHead → List SavedCpu → List SavedCpu → List Field
cpus_fields h before [] = []
cpus_fields h before (c ∷ cs) = cpu_fields h before c ++ cpus_fields h (before ++ c ∷ []) cs

-- ---- a core

-- none exactly where the machine has no such core, with a CPU exactly where one that is not lost has it
abbrev pub place_good : SaveHead → List SavedCpu → ℕ → ℕ → Bool
place_good h cs k place =
    if not (belongs (config_of h) k) then place == 0
    else (if is_with_cpu cs k then place == 1
    else (place == 2) || (place == 3))

-- a stored word has the bits of its code
abbrev pub stored_good : ℕ → ℕ → Bool
stored_good k w = nat_lt w (2 ^ width k)

-- stored words from number k on
abbrev pub stored_fields : ℕ → List ℕ → List Field
stored_fields k [] = []
stored_fields k (w ∷ ws) = field 16 w (stored_good k w) ∷ stored_fields (k + 1) ws

-- core k of a machine with these CPUs
abbrev pub core_fields : SaveHead → List SavedCpu → ℕ → SavedCore → List Field
core_fields h cs k c =
    field 1 c.place (place_good h cs k c.place)
    ∷ field 7 c.zeros (c.zeros == 0)
    ∷ field 8 c.begun (nat_le c.begun 1000000)
    ∷ stored_fields 0 c.stored

-- cores from number k on
abbrev pub cores_fields : SaveHead → List SavedCpu → ℕ → List SavedCore → List Field
cores_fields h cs k [] = []
cores_fields h cs k (c ∷ rest) = core_fields h cs k c ++ cores_fields h cs (k + 1) rest

-- ---- the keys, in whose bytes bit 7 is zero

abbrev pub key_fields : List ℕ → List Field
key_fields [] = []
key_fields (k ∷ ks) = field 1 k (k % 2 == 0) ∷ key_fields ks

-- ---- the parts that numbers say

abbrev pub head_widths : List ℕ
head_widths = 1 ∷ 1 ∷ 1 ∷ 1 ∷ 4 ∷ []

abbrev pub head_of : List ℕ → SaveHead
head_of xs = record {
  cpus = slice_index xs 0;
  spares = slice_index xs 1;
  threshold = slice_index xs 2;
  zero = slice_index xs 3;
  pages = slice_index xs 4;
}

abbrev pub number_widths : List ℕ
number_widths = 8 ∷ 8 ∷ 8 ∷ 8 ∷ 8 ∷ 8 ∷ 8 ∷ 8 ∷ 8 ∷ []

abbrev pub numbers_of : List ℕ → SavedNumbers
numbers_of xs = record {
  turns = slice_index xs 0;
  commits = slice_index xs 1;
  clock = slice_index xs 2;
  console_read = slice_index xs 3;
  console_written = slice_index xs 4;
  retries = slice_index xs 5;
  spared = slice_index xs 6;
  stopped = slice_index xs 7;
  returned = slice_index xs 8;
}

unfoldable pub word_widths : List ℕ
word_widths = replicate 40 8

abbrev pub cpu_widths : List ℕ
cpu_widths = 1 ∷ 1 ∷ 1 ∷ 1 ∷ 1 ∷ 1 ∷ 1 ∷ 1 ∷ 1 ∷ 7 ∷ word_widths

abbrev pub cpu_of : List ℕ → SavedCpu
cpu_of xs = record {
  mode = slice_index xs 0;
  core = slice_index xs 1;
  retries = slice_index xs 2;
  state = slice_index xs 3;
  restart = slice_index xs 4;
  key = slice_index xs 5;
  malfunction = slice_index xs 6;
  emergency = slice_index xs 7;
  external_call = slice_index xs 8;
  zeros = slice_index xs 9;
  words = drop 10 xs;
}

unfoldable pub stored_widths : List ℕ
stored_widths = replicate 40 16

abbrev pub core_widths : List ℕ
core_widths = 1 ∷ 7 ∷ 8 ∷ stored_widths

abbrev pub core_of : List ℕ → SavedCore
core_of xs = record {
  place = slice_index xs 0;
  zeros = slice_index xs 1;
  begun = slice_index xs 2;
  stored = drop 3 xs;
}
