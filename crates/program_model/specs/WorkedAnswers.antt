-- Answers of the debugger worked by hand, over a machine of one CPU with 32 bytes of storage.
-- Source: choice of this project.
use Rattle.std.specs.Prelude.{ℕ, ◌≡◌, refl, List, [], ◌∷◌, ◌++◌, Option, Some, None, replicate, codes}
use Rattle.std.specs.Fmt.{digits}
use Rattle.esa_model.specs.declared.machine.CpuState.{CpuState}
use Rattle.esa_model.specs.declared.machine.CpuState.TheVariants.{Operating, CheckStop}
use Rattle.esa_model.specs.Bus.{quiet, signals_of}
use Rattle.esa_model.specs.Event.{signals_at_start}
use Rattle.esa_model.specs.Machine.{Machine, start, start_registers}
use Rattle.run_model.specs.declared.faults.Mode.{Mode}
use Rattle.run_model.specs.declared.faults.Mode.TheVariants.{Running, Recovering, Lost}
use Rattle.run_model.specs.declared.logs.Config.{Config}
use Rattle.run_model.specs.declared.outputs.Place.TheVariants.{Out}
use Rattle.run_model.specs.Cores.{Cores, first_cores}
use Rattle.run_model.specs.Numbers.{hex_text, number_up_to, is_decimal}
use Rattle.run_model.specs.Pieces.{text}
use Rattle.run_model.specs.Script.{fields, lines}
use Rattle.program_model.specs.declared.questions.Question.{Question}
use Rattle.program_model.specs.Addresses.{address}
use Rattle.program_model.specs.Debugger.{of_one_word, of_two_words, of_three_words, question, answer, unknown}
use Rattle.program_model.specs.Session.{first_session, with_turns, session}

abbrev one_cpu : Config
one_cpu = record { cpus = 1; spares = 1; pages = 0; threshold = 3 }

-- the two bytes X'C8C9' at X'1C', and condition code 2
abbrev machine : CpuState → Machine
machine state =
    let m = start 1 (replicate 28 0 ++ 0xC8 ∷ 0xC9 ∷ 0 ∷ 0 ∷ []) 0x10006 (codes "in") in
    record m {
      bus = quiet state ∷ [];
      console_written = codes "out";
      registers = λ i. record (start_registers 0x10006 i) {
        psw = record { w0 = 0x00082000; w1 = 0x80010006 };
        prefix = 0x4000;
      };
    }

-- two turns were made
abbrev cores : Mode → Cores
cores mode = record (first_cores one_cpu) { turns = 2; mode = λ i. mode }

abbrev answer_by : Machine → Cores → Option Question → List ℕ
answer_by m s None = unknown
answer_by m s (Some q) = answer m s q

-- the answer to a line
pub answer_to : CpuState → Mode → List ℕ → List ℕ
unfolding of_one_word of_two_words of_three_words question answer address
    fields lines number_up_to is_decimal hex_text digits
    start signals_of signals_at_start start_registers
answer_to state mode line = answer_by (machine state) (cores mode) (question 1 line)

abbrev said : List ℕ → List ℕ
said line = answer_to Operating Running line

pub two_turns : said (codes "turns 2") ≡ codes "at 2"
unfolding answer_to
two_turns = refl

pub psw : said (codes "psw 0") ≡ codes "00082000 80010006"
unfolding answer_to
psw = refl

pub two_bytes : said (codes "mem 00001C 2") ≡ codes "C8C9"
unfolding answer_to
two_bytes = refl

pub no_such_cpu : said (codes "psw 1") ≡ codes "unknown"
unfolding answer_to
no_such_cpu = refl

pub prefix : said (codes "prefix 0") ≡ codes "00004000"
unfolding answer_to
prefix = refl

pub past_storage : said (codes "mem 00001F 2") ≡ codes "outside"
unfolding answer_to
past_storage = refl

pub no_key : said (codes "key 000000") ≡ codes "outside"
unfolding answer_to
no_key = refl

pub state_and_core : said (codes "cpu 0") ≡ codes "operating 0"
unfolding answer_to
state_and_core = refl

pub console : said (codes "console") ≡ codes "3 0"
unfolding answer_to
console = refl

pub small_letters : said (codes "mem 00001c 2") ≡ codes "unknown"
unfolding answer_to
small_letters = refl

pub two_blanks : said (codes "psw  0") ≡ codes "unknown"
unfolding answer_to
two_blanks = refl

pub recovering : answer_to Operating Recovering (codes "regs 0") ≡ codes "recovering"
unfolding answer_to
recovering = refl

pub check_stopped : answer_to CheckStop Lost (codes "ctl 0") ≡ codes "check-stop"
unfolding answer_to
check_stopped = refl

pub stopped : answer_to CheckStop Lost (codes "cpu 0") ≡ codes "check-stop 0"
unfolding answer_to
stopped = refl

-- ---- a session where the schedule has no turns

abbrev sessions_text : List ℕ → List ℕ
sessions_text commands =
    let start = first_session one_cpu (machine Operating) [] in
    text Out (session [] one_cpu start commands).pieces

pub no_turns : sessions_text (codes "turns 2\nx\n\ncpu 0\nquit\ncpu 0\n")
    ≡ codes "at 0\nunknown\nunknown\noperating 0\n"
unfolding answer_to with_turns session
no_turns = refl

pub last_line : sessions_text (codes "console") ≡ codes "3 0\n"
unfolding answer_to with_turns session
last_line = refl
