-- What a step of a migration answers. Source: choice of this project.
use Rattle.std.specs.Prelude.{ℕ, List, Bool, Option, None, Result, Ok, Err}
use Rattle.run_model.specs.Migrate.{Migrated, Answers, after_line}
use Rattle.run_model.specs.declared.logs.MigrateRefusal.{MigrateRefusal}

-- the text of what is made, or the refusal
abbrev pub made : {A : Type 0} → (A → List ℕ) → Result A MigrateRefusal → Migrated
made text (Ok value) = Ok (text value)
made text (Err e) = Err e

-- the same at a line that is no entry, whatever would come behind it
abbrev pub AnswersEnd : Bool → ℕ → List ℕ → Option ℕ → Migrated → Type 0
AnswersEnd fed number so_far turns answer =
    (rest : List ℕ → Migrated) → Answers (after_line fed number so_far None turns rest) answer
