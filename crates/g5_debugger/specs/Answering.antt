-- Parts of answers. Source: choice of this project.
use Rattle.std.specs.Prelude.{⊤, ◌≡◌, ℕ, List, [], ◌∷◌, ◌++◌, codes, if◌then◌else◌}
use Rattle.esa_model.specs.declared.machine.Registers.{Registers}
use Rattle.program_model.specs.Debugger.{is_running, psw_words, words_text}
use Rattle.program_model.specs.declared.questions.Question.{Question}
use Rattle.program_model.specs.declared.questions.Question.TheVariants.{Turns}
use Rattle.run_model.specs.Numbers.{decimal}
use Rattle.run_model.specs.declared.faults.Mode.{Mode}
use Rattle.g5_debugger.specs.declared.answers.CpuWords.{CpuWords}
use Rattle.g5_debugger.specs.declared.answers.CpuWords.TheVariants.{Psw, General, Control, Prefix}

abbrev pub words_in : CpuWords → Registers → List ℕ
words_in Psw r = psw_words r.psw
words_in General r = r.general
words_in Control r = r.control
words_in Prefix r = r.prefix ∷ []

-- the words of a CPU that is not check-stopped
abbrev pub held_words : Mode → List ℕ → List ℕ
held_words mode ws = if is_running mode then words_text ws else codes "recovering"

-- the answer to `turns` is the number of turns that were made
abbrev pub TellsTurns : Question → ℕ → List ℕ → Type 0
TellsTurns (Turns n) turns text = text ≡ codes "at " ++ decimal turns
TellsTurns _ turns text = ⊤
