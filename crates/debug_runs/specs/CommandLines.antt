-- The lines of commands: which of them are carried out, how many turns they ask for, and what is
-- written for an answer. Source: choice of this project.
use Rattle.std.specs.Prelude.{ℕ, ◌+◌, Bool, true, false, if◌then◌else◌, List, [], ◌∷◌, Option, Some, None}
use Rattle.g5_debugger.specs.Sessions.{turns_of_line}
use Rattle.g5_debugger.specs.declared.session.Answer.{Answer}
use Rattle.g5_debugger.specs.declared.session.Answer.TheVariants.{Text, Unknown, Quit}
use Rattle.program_model.specs.Debugger.{question, unknown}
use Rattle.program_model.specs.declared.questions.Question.{Question}
use Rattle.program_model.specs.declared.questions.Question.TheVariants.{Quit as AskedToQuit}

-- whether a line ends the session
abbrev pub ends : Option Question → Bool
ends None = false
ends (Some AskedToQuit) = true
ends (Some other) = false

-- the lines before the first that ends the session, for a machine of so many CPUs
abbrev pub before_quit : ℕ → List (List ℕ) → List (List ℕ)
before_quit cpus [] = []
before_quit cpus (line ∷ more) =
    if ends (question cpus line) then [] else line ∷ before_quit cpus more

-- how many turns lines ask for
abbrev pub turns_in : ℕ → List (List ℕ) → ℕ
turns_in cpus [] = 0
turns_in cpus (line ∷ more) = turns_of_line (question cpus line) + turns_in cpus more

-- the text of an answer, without its line feed; none where the session ends
abbrev pub text_of : Answer → Option (List ℕ)
text_of (Text text) = Some text.items
text_of Unknown = Some unknown
text_of Quit = None
