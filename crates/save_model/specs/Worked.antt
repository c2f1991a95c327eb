-- Worked values.
use Rattle.std.specs.Prelude.{◌≡◌, ℕ, ◌+◌, ◌^◌, List, [], ◌∷◌, ◌++◌, true, false, Some, None, Ok, Err, replicate, slice_set, take, refl}
use Rattle.run_model.specs.Checkpoint.{width}
use Rattle.save_model.specs.declared.parts.SaveHead.{SaveHead}
use Rattle.save_model.specs.declared.parts.SavedNumbers.{SavedNumbers}
use Rattle.save_model.specs.declared.parts.SavedCpu.{SavedCpu}
use Rattle.save_model.specs.declared.parts.SavedCore.{SavedCore}
use Rattle.save_model.specs.declared.refusal.SaveRefusal.TheVariants.{BadHead, BadLength}
use Rattle.save_model.specs.Fields.{bytes_of_fields, numbers, size, first_bad}
use Rattle.save_model.specs.Parts.{head_fields, head_of, head_widths, number_fields, cpu_fields, core_fields, key_fields}
use Rattle.save_model.specs.Save.{magic, head_good, read_save, cpus_in, size_by}

-- one CPU, one spare, a threshold of 3, 128 KiB
abbrev pub small : SaveHead
small = record { cpus = 1; spares = 1; threshold = 3; zero = 0; pages = 32 }

abbrev pub small_bytes : List ℕ
small_bytes = 1 ∷ 1 ∷ 3 ∷ 0 ∷ 0 ∷ 0 ∷ 0 ∷ 32 ∷ []

pub small_written : bytes_of_fields (head_fields small) ≡ small_bytes
small_written = refl

pub small_read : head_of (numbers head_widths small_bytes) ≡ small
small_read = refl

pub small_size : size_by small ≡ 142024
small_size = refl

-- 8 CPUs and 16,384 KiB make the largest save
pub largest_size : size_by (record { cpus = 8; spares = 8; threshold = 15; zero = 0; pages = 4096 }) ≡ 16794584
largest_size = refl

-- ---- heads

pub small_head : head_good (magic ++ small_bytes) ≡ true
unfolding head_good
small_head = refl

pub one_cpu : cpus_in (magic ++ small_bytes) ≡ Ok 1
unfolding cpus_in head_good
one_cpu = refl

-- 144 KiB is no step of 64
pub between_steps : head_good (magic ++ slice_set small_bytes 7 36) ≡ false
unfolding head_good
between_steps = refl

pub nine_cpus : cpus_in (magic ++ slice_set small_bytes 0 9) ≡ Err BadHead
unfolding cpus_in head_good
nine_cpus = refl

pub cut_head : read_save 0 0 (take 15 (magic ++ small_bytes)) ≡ Err BadHead
unfolding read_save head_good
cut_head = refl

pub only_a_head : read_save 0 0 (magic ++ small_bytes) ≡ Err BadLength
unfolding read_save head_good
only_a_head = refl

-- ---- the numbers, from byte 16 on

abbrev pub three_turns : SavedNumbers
three_turns = record {
  turns = 3;
  commits = 2;
  clock = 2;
  console_read = 0;
  console_written = 512;
  retries = 0;
  spared = 0;
  stopped = 0;
  returned = 0;
}

pub three_turns_good : first_bad 16 (number_fields three_turns) ≡ None
three_turns_good = refl

pub too_many_commits : first_bad 16 (number_fields (record three_turns { commits = 4 })) ≡ Some 24
too_many_commits = refl

pub too_much_written : first_bad 16 (number_fields (record three_turns { console_written = 513 })) ≡ Some 48
too_much_written = refl

-- ---- a CPU, from byte 88 on

-- its core is to be recovered, it can be retried twice more, and it waits for CPU 0
abbrev pub recovering : SavedCpu
recovering = record {
  mode = 1;
  core = 0;
  retries = 1;
  state = 0;
  restart = 0;
  key = 1;
  malfunction = 0;
  emergency = 1;
  external_call = 255;
  zeros = 0;
  words = replicate 40 0;
}

pub recovering_written : take 17 (bytes_of_fields (cpu_fields small [] recovering))
    ≡ 1 ∷ 0 ∷ 1 ∷ 0 ∷ 0 ∷ 1 ∷ 0 ∷ 1 ∷ 255 ∷ 0 ∷ 0 ∷ 0 ∷ 0 ∷ 0 ∷ 0 ∷ 0 ∷ 0 ∷ []
recovering_written = refl

pub recovering_size : size (cpu_fields small [] recovering) ≡ 336
recovering_size = refl

pub recovering_good : first_bad 88 (cpu_fields small [] recovering) ≡ None
recovering_good = refl

-- it would have to be check-stopped
pub lost_and_operating : first_bad 88 (cpu_fields small [] (record recovering { mode = 2 })) ≡ Some 88
lost_and_operating = refl

-- the machine has the cores 0 and 8
pub no_such_core : first_bad 88 (cpu_fields small [] (record recovering { core = 1 })) ≡ Some 89
no_such_core = refl

pub core_of_another : first_bad 88 (cpu_fields small (recovering ∷ []) recovering) ≡ Some 89
core_of_another = refl

pub request_of_no_cpu : first_bad 88 (cpu_fields small [] (record recovering { emergency = 2 })) ≡ Some 95
request_of_no_cpu = refl

-- a core that does not run has no registers
pub words_of_none : first_bad 88 (cpu_fields small [] (record recovering { words = 5 ∷ replicate 39 0 })) ≡ Some 104
words_of_none = refl

abbrev pub running : SavedCpu
running = record recovering { mode = 0; words = 5 ∷ replicate 33 0 ++ (0x4000 ∷ 0 ∷ 2 ^ 63 ∷ 2 ^ 63 ∷ 0 ∷ 0 ∷ []) }

pub running_good : first_bad 88 (cpu_fields small [] running) ≡ None
running_good = refl

-- the prefix is that of page 32 of 32
pub prefix_outside : first_bad 88 (cpu_fields small [] (record running { words = slice_set running.words 34 0x20000 })) ≡ Some 376
prefix_outside = refl

pub word_of_33_bits : first_bad 88 (cpu_fields small [] (record running { words = slice_set running.words 16 (2 ^ 32) })) ≡ Some 232
word_of_33_bits = refl

-- ---- a core

abbrev pub with_cpu : SavedCore
with_cpu = record { place = 1; zeros = 0; begun = 3; stored = replicate 40 0 }

pub with_cpu_size : size (core_fields small (running ∷ []) 0 with_cpu) ≡ 656
with_cpu_size = refl

pub with_cpu_good : first_bad 424 (core_fields small (running ∷ []) 0 with_cpu) ≡ None
unfolding width
with_cpu_good = refl

-- core 0 serves the CPU, core 1 is none of the machine
pub spare_that_serves : first_bad 424 (core_fields small (running ∷ []) 0 (record with_cpu { place = 2 })) ≡ Some 424
spare_that_serves = refl

pub fenced_that_is_none : first_bad 1080 (core_fields small (running ∷ []) 1 (record with_cpu { place = 3 })) ≡ Some 1080
fenced_that_is_none = refl

-- 40 bits in a word of 39
pub word_too_wide : first_bad 424 (core_fields small (running ∷ []) 0 (record with_cpu { stored = slice_set with_cpu.stored 2 (2 ^ 39) })) ≡ Some 472
unfolding width
word_too_wide = refl

-- ---- keys

pub odd_key : first_bad 10920 (key_fields (0x10 ∷ 0x06 ∷ 0x01 ∷ [])) ≡ Some 10922
odd_key = refl
