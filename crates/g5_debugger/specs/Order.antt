-- What a line that is read asks is in order: its CPU is one of the machine's, its numbers are in
-- their ranges. Source: choice of this project.
use Rattle.std.specs.Prelude.{⊤, ℕ, ◌<◌, ◌≤◌, ◌^◌}
use Rattle.program_model.specs.declared.questions.Question.{Question}
use Rattle.program_model.specs.declared.questions.Question.TheVariants.{Turns, Psw, General, Control, Prefix, Memory, Key, Cpu, Console, Quit}

abbrev pub IsInOrder : ℕ → Question → Type 0
IsInOrder cpus (Turns n) = (1 ≤ n) × (n ≤ 1000000)
IsInOrder cpus (Psw c) = c.0 < cpus
IsInOrder cpus (General c) = c.0 < cpus
IsInOrder cpus (Control c) = c.0 < cpus
IsInOrder cpus (Prefix c) = c.0 < cpus
IsInOrder cpus (Memory at count) = (at < 2 ^ 24) × (1 ≤ count) × (count ≤ 64)
IsInOrder cpus (Key at) = at < 2 ^ 24
IsInOrder cpus (Cpu c) = c.0 < cpus
IsInOrder cpus Console = ⊤
IsInOrder cpus Quit = ⊤
