-- The debugger: what a line asks, and the answer. Source: choice of this project.
--   turns N   the next N turns of the schedule are made, or those that are left; the turns so far
--   psw c     the two words of CPU c's PSW
--   regs c    its sixteen general registers
--   ctl c     its sixteen control registers
--   prefix c  its prefix
--   mem A L   L bytes from absolute address A on
--   key A     the storage key of the block of absolute address A
--   cpu c     the state of CPU c and the number of its core
--   console   the bytes written to the console and those read
--   quit      the session ends
-- Words are parted by one blank. N is a decimal from 1 to 1,000,000, L one from 1 to 64, c the
-- number of a CPU, A an address. Any other line, and each one of more than 120 bytes, is unknown.
use Rattle.std.specs.Prelude.{ℕ, ◌+◌, ◌-◌, ◌/◌, Bool, true, false, nat_lt, if◌then◌else◌, List, [], ◌∷◌, ◌++◌, length, take, drop, flat_map, slice_get, Option, Some, None, option_map, codes}
use Rattle.std.specs.Str.{bytes_eq}
use Rattle.esa_model.specs.declared.machine.CpuNo.{CpuNo}
use Rattle.esa_model.specs.declared.machine.CpuState.{CpuState}
use Rattle.esa_model.specs.declared.machine.CpuState.TheVariants.{Operating, Stopped, CheckStop}
use Rattle.esa_model.specs.declared.machine.Psw.{Psw}
use Rattle.esa_model.specs.Bus.{cpu_no, signals_of}
use Rattle.esa_model.specs.Machine.{Machine}
use Rattle.run_model.specs.declared.faults.Mode.{Mode}
use Rattle.run_model.specs.declared.faults.Mode.TheVariants.{Running, Recovering, Lost}
use Rattle.run_model.specs.Cores.{Cores}
use Rattle.run_model.specs.Numbers.{decimal, hex_text, number_up_to}
use Rattle.run_model.specs.Script.{fields}
use Rattle.run_model.specs.Trace.{bytes_text}
use Rattle.program_model.specs.declared.questions.Question.{Question}
use Rattle.program_model.specs.declared.questions.Question.TheVariants.{Turns, Psw as PswOf, General, Control, Prefix, Memory, Key, Cpu, Console, Quit}
use Rattle.program_model.specs.Addresses.{address}
use Rattle.program_model.specs.Commands.{number_in}

-- ---- what a line asks, of a machine with so many CPUs

abbrev pub cpu_in : ℕ → List ℕ → Option CpuNo
cpu_in cpus text = option_map cpu_no (number_up_to (cpus - 1) text)

abbrev pub memory_if : Option ℕ → Option ℕ → Option Question
memory_if (Some at) (Some count) = Some (Memory at count)
memory_if _ _ = None

unfoldable pub of_one_word : List ℕ → Option Question
of_one_word word =
    if bytes_eq word (codes "console") then Some Console
    else (if bytes_eq word (codes "quit") then Some Quit
    else None)

unfoldable pub of_two_words : ℕ → List ℕ → List ℕ → Option Question
of_two_words cpus word text =
    if bytes_eq word (codes "turns") then option_map Turns (number_in 1 1000000 text)
    else (if bytes_eq word (codes "psw") then option_map PswOf (cpu_in cpus text)
    else (if bytes_eq word (codes "regs") then option_map General (cpu_in cpus text)
    else (if bytes_eq word (codes "ctl") then option_map Control (cpu_in cpus text)
    else (if bytes_eq word (codes "prefix") then option_map Prefix (cpu_in cpus text)
    else (if bytes_eq word (codes "key") then option_map Key (address text)
    else (if bytes_eq word (codes "cpu") then option_map Cpu (cpu_in cpus text)
    else None))))))

unfoldable pub of_three_words : List ℕ → List ℕ → List ℕ → Option Question
of_three_words word at count =
    if bytes_eq word (codes "mem") then memory_if (address at) (number_in 1 64 count) else None

abbrev pub of_words : ℕ → List (List ℕ) → Option Question
of_words cpus [] = None
of_words cpus (word ∷ []) = of_one_word word
of_words cpus (word ∷ a ∷ []) = of_two_words cpus word a
of_words cpus (word ∷ a ∷ b ∷ []) = of_three_words word a b
of_words cpus (word ∷ a ∷ b ∷ c ∷ more) = None

unfoldable pub question : ℕ → List ℕ → Option Question
question cpus line = if nat_lt 120 (length line) then None else of_words cpus (fields line)

-- ---- the answer, by the machine and the cores after the turns that were made

-- words, parted by one blank
abbrev pub words_text : List ℕ → List ℕ
words_text [] = []
words_text (w ∷ ws) = hex_text 8 w ++ flat_map (λ v. codes " " ++ hex_text 8 v) ws

abbrev pub psw_words : Psw → List ℕ
psw_words p = p.w0 ∷ p.w1 ∷ []

abbrev pub is_check_stop : CpuState → Bool
is_check_stop Operating = false
is_check_stop Stopped = false
is_check_stop CheckStop = true

abbrev pub is_running : Mode → Bool
is_running Running = true
is_running Recovering = false
is_running Lost = false

-- the words of CPU i, which has none where it is check-stopped or its core is to be recovered; a
-- CPU whose core was lost is check-stopped
abbrev pub cpu_words : Machine → Cores → ℕ → List ℕ → List ℕ
cpu_words m s i ws =
    if is_check_stop (signals_of m.bus i).state then codes "check-stop"
    else (if is_running (s.mode i) then words_text ws
    else codes "recovering")

abbrev pub storage_text : List ℕ → ℕ → ℕ → List ℕ
storage_text storage at count =
    if nat_lt (length storage) (at + count) then codes "outside"
    else bytes_text (take count (drop at storage))

abbrev pub key_text : Option ℕ → List ℕ
key_text None = codes "outside"
key_text (Some key) = hex_text 2 key

abbrev pub state_text : CpuState → List ℕ
state_text Operating = codes "operating"
state_text Stopped = codes "stopped"
state_text CheckStop = codes "check-stop"

abbrev pub two_texts : List ℕ → List ℕ → List ℕ
two_texts a b = a ++ codes " " ++ b

unfoldable pub answer : Machine → Cores → Question → List ℕ
answer m s (Turns n) = codes "at " ++ decimal s.turns
answer m s (PswOf c) = cpu_words m s c.0 (psw_words (m.registers c.0).psw)
answer m s (General c) = cpu_words m s c.0 (m.registers c.0).general
answer m s (Control c) = cpu_words m s c.0 (m.registers c.0).control
answer m s (Prefix c) = cpu_words m s c.0 ((m.registers c.0).prefix ∷ [])
answer m s (Memory at count) = storage_text m.storage at count
answer m s (Key at) = key_text (slice_get m.keys (at / 4096))
answer m s (Cpu c) = two_texts (state_text (signals_of m.bus c.0).state) (decimal (s.core c.0))
answer m s Console = two_texts (decimal (length m.console_written)) (decimal m.console_read)
answer m s Quit = []

abbrev pub unknown : List ℕ
unknown = codes "unknown"
