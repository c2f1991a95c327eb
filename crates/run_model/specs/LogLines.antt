-- The lines of the service log, version 2. Source: choice of this project.
-- The head is `G5LOG 2 CPUS c SPARES s THRESHOLD t`: the logical CPUs, the spare cores, the retries
-- before a core is given up. The tail is `END n RETURNED m`: n turns were made, and m entries are
-- RETURNED. An entry is the turn, the CPU, the core and what happened. The core is the one that was
-- struck, read, fenced or returned, for SPARED the one that is given up.
--   FAIL cause n     attempt n failed: FETCH, MISMATCH or STORE
--   RETRY r          the r-th retry since the last commit or transfer of this CPU
--   CORRECTED w b    position b of checkpoint word w was wrong
--   UNCORRECTABLE w  word w is lost
--   FENCED           the core is given up
--   SPARED k         the CPU goes on on core k
--   NOSPARE          there was no spare
--   STOP             the CPU is check-stopped
--   RETURNED         the core is a spare again; the CPU is written `-`
-- Fields are parted by one blank, numbers are decimals, and each line ends with a line feed.
use Rattle.std.specs.Prelude.{ℕ, ◌≡◌, Bool, true, false, if◌then◌else◌, List, [], ◌∷◌, ◌++◌, map, codes, refl}
use Rattle.std.specs.Fmt.{digits}
use Rattle.run_model.specs.Numbers.{decimal}
use Rattle.run_model.specs.Script.{core_no}
use Rattle.run_model.specs.Cores.{entry}
use Rattle.run_model.specs.declared.faults.Cause.{Cause}
use Rattle.run_model.specs.declared.faults.Cause.TheVariants.{Fetch, Mismatch, Store}
use Rattle.run_model.specs.declared.logs.Config.{Config}
use Rattle.run_model.specs.declared.logs.Entry.{Entry}
use Rattle.run_model.specs.declared.logs.What.{What}
use Rattle.run_model.specs.declared.logs.What.TheVariants.{Fail, Retry, Corrected, Uncorrectable, Fenced, Spared, NoSpare, Stop, Returned}

-- ---- head and tail

-- the numbers of a head
pub record Heading : Type 0 where
  pub cpus : ℕ
  pub spares : ℕ
  pub threshold : ℕ

abbrev pub heading : ℕ → ℕ → ℕ → Heading
heading cpus spares threshold = record { cpus = cpus; spares = spares; threshold = threshold }

unfoldable pub head_line : Heading → List ℕ
head_line h =
    codes "G5LOG 2 CPUS " ++ decimal h.cpus ++ codes " SPARES " ++ decimal h.spares
    ++ codes " THRESHOLD " ++ decimal h.threshold ++ 10 ∷ []

-- the first line of a log
abbrev pub head : Config → List ℕ
head c = head_line (heading c.cpus c.spares c.threshold)

-- its last line
unfoldable pub tail : ℕ → ℕ → List ℕ
tail turns returned =
    codes "END " ++ decimal turns ++ codes " RETURNED " ++ decimal returned ++ 10 ∷ []

-- ---- entries

abbrev pub cause_text : Cause → List ℕ
cause_text Fetch = codes "FETCH"
cause_text Mismatch = codes "MISMATCH"
cause_text Store = codes "STORE"

abbrev pub what_text : What → List ℕ
what_text (Fail why n) = codes "FAIL " ++ cause_text why ++ codes " " ++ decimal n
what_text (Retry r) = codes "RETRY " ++ decimal r
what_text (Corrected w b) = codes "CORRECTED " ++ decimal w ++ codes " " ++ decimal b
what_text (Uncorrectable w) = codes "UNCORRECTABLE " ++ decimal w
what_text Fenced = codes "FENCED"
what_text (Spared k) = codes "SPARED " ++ decimal k.0
what_text NoSpare = codes "NOSPARE"
what_text Stop = codes "STOP"
what_text Returned = codes "RETURNED"

abbrev pub is_returned : What → Bool
is_returned Returned = true
is_returned what = false

-- a core is returned by no CPU
abbrev pub cpu_text : Entry → List ℕ
cpu_text e = if is_returned e.what then codes "-" else decimal e.cpu.0

unfoldable pub entry_line : Entry → List ℕ
entry_line e =
    decimal e.turn ++ codes " " ++ cpu_text e ++ codes " " ++ decimal e.core.0
    ++ codes " " ++ what_text e.what ++ 10 ∷ []

-- ---- worked values

-- each kind of entry
abbrev pub some_entries : List Entry
some_entries =
    entry 2 0 8 (Fail Fetch 1)
    ∷ entry 3 0 0 (Fail Mismatch 2)
    ∷ entry 1000000 7 15 (Fail Store 999999)
    ∷ entry 4 0 0 (Retry 1)
    ∷ entry 17 0 0 (Corrected 5 10)
    ∷ entry 17 0 0 (Uncorrectable 5)
    ∷ entry 10 0 0 Fenced
    ∷ entry 10 0 0 (Spared (core_no 8))
    ∷ entry 10 0 0 NoSpare
    ∷ entry 10 0 0 Stop
    ∷ entry 19 255 0 Returned
    ∷ []

-- and its line
abbrev pub their_lines : List (List ℕ)
their_lines =
    codes "2 0 8 FAIL FETCH 1\n"
    ∷ codes "3 0 0 FAIL MISMATCH 2\n"
    ∷ codes "1000000 7 15 FAIL STORE 999999\n"
    ∷ codes "4 0 0 RETRY 1\n"
    ∷ codes "17 0 0 CORRECTED 5 10\n"
    ∷ codes "17 0 0 UNCORRECTABLE 5\n"
    ∷ codes "10 0 0 FENCED\n"
    ∷ codes "10 0 0 SPARED 8\n"
    ∷ codes "10 0 0 NOSPARE\n"
    ∷ codes "10 0 0 STOP\n"
    ∷ codes "19 - 0 RETURNED\n"
    ∷ []

pub entries_written : map entry_line some_entries ≡ their_lines
unfolding entry_line digits
entries_written = refl

pub first_line : head_line (heading 1 0 3) ≡ codes "G5LOG 2 CPUS 1 SPARES 0 THRESHOLD 3\n"
unfolding head_line digits
first_line = refl

pub last_line : tail 19 1 ≡ codes "END 19 RETURNED 1\n"
unfolding tail digits
last_line = refl

pub nothing_returned : tail 10 0 ≡ codes "END 10 RETURNED 0\n"
unfolding tail digits
nothing_returned = refl
