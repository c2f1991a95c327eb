-- Worked values: the log entries of some runs, by the fate of their turns. Source: choice of this
-- project. The machine is seen as the same at each turn: no CPU or a given one is idle, and a step
-- changes general register 1 and the second word of the PSW.
use Rattle.std.specs.Prelude.{ℕ, ◌≡◌, ◌==◌, ◌||◌, ◌++◌, Bool, false, List, [], ◌∷◌, Some, None, replicate, refl}
use Rattle.run_model.specs.declared.faults.Cause.TheVariants.{Mismatch}
use Rattle.run_model.specs.declared.faults.Strike.{Strike}
use Rattle.run_model.specs.declared.faults.Strike.TheVariants.{Packet, Word}
use Rattle.run_model.specs.declared.faults.Unit.TheVariants.{A}
use Rattle.run_model.specs.declared.logs.Config.{Config}
use Rattle.run_model.specs.declared.logs.Entry.{Entry}
use Rattle.run_model.specs.declared.logs.What.TheVariants.{Fail, Retry, Corrected, Uncorrectable, Fenced, Spared, NoSpare, Stop, Returned}
use Rattle.run_model.specs.declared.schedules.RunKind.{RunKind}
use Rattle.run_model.specs.declared.schedules.RunKind.TheVariants.{Turns, Return}
use Rattle.run_model.specs.Checkpoint.{width}
use Rattle.run_model.specs.Script.{core_no}
use Rattle.run_model.specs.Strikes.{mask_byte, same_masks, fetch_bit, store_bit, cause, flips}
use Rattle.run_model.specs.Reading.{mark, reading}
use Rattle.esa_model.specs.Bus.{cpu_no}
use Rattle.run_model.specs.Cores.{entry, does, is_fenced}
use Rattle.run_model.specs.Fate.{Fate, Sight, fate, first_fate, met}

abbrev seen : Bool → Sight
seen waits = record { waits = waits; changes = λ w. (w == 1) || (w == 33) }

abbrev all_run : ℕ → Sight
all_run i = seen false

abbrev second_idle : ℕ → Sight
second_idle i = seen (i == 1)

-- the entries of these turns, and the number of commits after them
abbrev entries_from : List Strike → Config → (ℕ → Sight) → Fate → List RunKind → List Entry
entries_from ls c g s [] = []
entries_from ls c g s (k ∷ ks) =
    (fate ls c g s k).outline.entries ++ entries_from ls c g (fate ls c g s k).after ks

abbrev commits_from : List Strike → Config → (ℕ → Sight) → Fate → List RunKind → ℕ
commits_from ls c g s [] = s.cores.commits
commits_from ls c g s (k ∷ ks) = commits_from ls c g (fate ls c g s k).after ks

abbrev entries_of_run : List Strike → Config → (ℕ → Sight) → List RunKind → List Entry
entries_of_run ls c g ks = entries_from ls c g (first_fate c) ks

abbrev commits_of_run : List Strike → Config → (ℕ → Sight) → List RunKind → ℕ
commits_of_run ls c g ks = commits_from ls c g (first_fate c) ks

-- so many turns of CPU i
abbrev turns : ℕ → ℕ → List RunKind
turns i n = replicate n (Turns (cpu_no i))

-- so many CPUs and spares, and a threshold of three retries
abbrev machine : ℕ → ℕ → Config
machine cpus spares = record { cpus = cpus; spares = spares; pages = 32; threshold = 3 }

-- A bit that no event uses, struck once: one failure and one retry.
pub unused_bit :
    entries_of_run (Packet (core_no 0) 2 A 2000 (Some 1) ∷ []) (machine 1 0) all_run (turns 0 12)
    ≡ entry 3 0 0 (Fail Mismatch 2) ∷ entry 4 0 0 (Retry 1) ∷ []
unfolding met does is_fenced cause same_masks mask_byte fetch_bit store_bit flips mark reading width
unused_bit = refl

-- a bit that is struck at every attempt from the third on: three retries, and the core is given up
abbrev lasting : List Strike
lasting = Packet (core_no 0) 2 A 2000 None ∷ []

abbrev given_up : List Entry
given_up =
    entry 3 0 0 (Fail Mismatch 2) ∷ entry 4 0 0 (Retry 1) ∷ entry 5 0 0 (Fail Mismatch 3)
    ∷ entry 6 0 0 (Retry 2) ∷ entry 7 0 0 (Fail Mismatch 4) ∷ entry 8 0 0 (Retry 3)
    ∷ entry 9 0 0 (Fail Mismatch 5) ∷ entry 10 0 0 Fenced ∷ []

-- The spare is taken.
pub spare_taken : entries_of_run lasting (machine 1 1) all_run (turns 0 18)
    ≡ given_up ++ entry 10 0 0 (Spared (core_no 8)) ∷ []
unfolding met does is_fenced cause same_masks mask_byte fetch_bit store_bit flips mark reading width
spare_taken = refl

-- There is none, and the CPU stops; the other one is idle.
pub no_spare : entries_of_run lasting (machine 2 0) second_idle (turns 0 12 ++ turns 1 2)
    ≡ given_up ++ entry 10 0 0 NoSpare ∷ entry 10 0 0 Stop ∷ []
unfolding met does is_fenced cause same_masks mask_byte fetch_bit store_bit flips mark reading width
no_spare = refl

-- Two of its turns committed.
pub no_spare_commits : commits_of_run lasting (machine 2 0) second_idle (turns 0 12 ++ turns 1 2)
    ≡ 2
unfolding met does is_fenced cause same_masks mask_byte fetch_bit store_bit flips mark reading width
no_spare_commits = refl

-- a bit of word 5 of core 0
abbrev on_word : ℕ → ℕ → Strike
on_word n bit = Word (core_no 0) n 5 bit

-- A bit of a stored word is struck, and corrected before attempt 16.
pub word_corrected : entries_of_run (on_word 3 10 ∷ []) (machine 1 0) all_run (turns 0 20)
    ≡ entry 17 0 0 (Corrected 5 10) ∷ []
unfolding met does is_fenced cause same_masks mask_byte fetch_bit store_bit flips mark reading width
word_corrected = refl

abbrev two_bits : List Strike
two_bits = on_word 3 10 ∷ on_word 4 11 ∷ []

-- Two bits of it are struck: the word is lost.
pub word_lost : entries_of_run two_bits (machine 1 0) all_run (turns 0 20)
    ≡ entry 17 0 0 (Uncorrectable 5) ∷ entry 17 0 0 Fenced ∷ entry 17 0 0 Stop ∷ []
unfolding met does is_fenced cause same_masks mask_byte fetch_bit store_bit flips mark reading width
word_lost = refl

-- That run made 16 commits.
pub word_lost_commits : commits_of_run two_bits (machine 1 0) all_run (turns 0 20)
    ≡ 16
unfolding met does is_fenced cause same_masks mask_byte fetch_bit store_bit flips mark reading width
word_lost_commits = refl

-- One bit is struck twice, and so is not wrong.
pub word_struck_twice :
    entries_of_run (on_word 3 10 ∷ on_word 4 10 ∷ []) (machine 1 0) all_run (turns 0 20)
    ≡ []
unfolding met does is_fenced cause same_masks mask_byte fetch_bit store_bit flips mark reading width
word_struck_twice = refl

-- The core that was given up is repaired and returned.
pub core_returned :
    entries_of_run lasting (machine 1 1) all_run (turns 0 18 ++ Return (core_no 0) ∷ [])
    ≡ given_up ++ entry 10 0 0 (Spared (core_no 8)) ∷ entry 19 255 0 Returned ∷ []
unfolding met does is_fenced cause same_masks mask_byte fetch_bit store_bit flips mark reading width
core_returned = refl

abbrev both_cores : List Strike
both_cores = Packet (core_no 0) 2 A 2000 (Some 4) ∷ Packet (core_no 8) 0 A 2000 None ∷ []

abbrev there_and_back : List RunKind
there_and_back = turns 0 10 ++ Return (core_no 0) ∷ turns 0 9

-- The CPU comes back to it when its second core fails too.
pub core_taken_again : entries_of_run both_cores (machine 1 1) all_run there_and_back
    ≡ given_up ++ entry 10 0 0 (Spared (core_no 8)) ∷ entry 11 255 0 Returned
    ∷ entry 12 0 8 (Fail Mismatch 0) ∷ entry 13 0 8 (Retry 1) ∷ entry 14 0 8 (Fail Mismatch 1)
    ∷ entry 15 0 8 (Retry 2) ∷ entry 16 0 8 (Fail Mismatch 2) ∷ entry 17 0 8 (Retry 3)
    ∷ entry 18 0 8 (Fail Mismatch 3) ∷ entry 19 0 8 Fenced ∷ entry 19 0 8 (Spared (core_no 0))
    ∷ []
unfolding met does is_fenced cause same_masks mask_byte fetch_bit store_bit flips mark reading width
core_taken_again = refl

-- That run made three commits.
pub core_taken_again_commits : commits_of_run both_cores (machine 1 1) all_run there_and_back
    ≡ 3
unfolding met does is_fenced cause same_masks mask_byte fetch_bit store_bit flips mark reading width
core_taken_again_commits = refl
