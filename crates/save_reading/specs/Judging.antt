-- Fields judged one behind another.
-- Source: choice of this project.
use Rattle.std.specs.Prelude.{ℕ, ◌+◌, List, [], ◌∷◌, Option, Some, None, if◌then◌else◌, Bool}
use Rattle.save_model.specs.Fields.{Field}
use Rattle.save_reading.specs.declared.judge.Judge.{Judge}

abbrev pub found : Option ℕ → ℕ → Bool → Option ℕ
found (Some b) at good = Some b
found None at good = if good then None else Some at

abbrev pub judge_one : Judge → ℕ → Bool → Judge
judge_one j width good = record { at = j.at + width; bad = found j.bad j.at good }

abbrev pub judge_all : Judge → List Field → Judge
judge_all j [] = j
judge_all j (f ∷ fs) = judge_all (judge_one j f.width f.good) fs
