-- The entries since a CPU's last commit or transfer, by its turns. Source: choice of this project.
use Rattle.std.specs.Prelude.{ℕ, ◌+◌, List, [], ◌∷◌, Bool, false, Option, Some, ◌==◌, ◌||◌, if◌then◌else◌}
use Rattle.std.specs.List.{list_any}
use Rattle.esa_model.specs.declared.machine.Event.{Event}
use Rattle.esa_model.specs.declared.machine.Event.TheVariants.{Commit}
use Rattle.run_model.specs.declared.logs.Entry.{Entry}
use Rattle.run_model.specs.Sorts.{is_spared, of_cpu, how_many}
use Rattle.run_model.specs.Cores.{Outline}

abbrev pub commits_of : ℕ → Option Event → Bool
commits_of i (Some (Commit j)) = j.0 == i
commits_of i e = false

-- a turn with a commit or a transfer of CPU i
abbrev pub clears : ℕ → Outline → Bool
clears i o = commits_of i o.event || list_any (of_cpu i is_spared) o.entries

-- how many entries of a sort there are since the last such turn; the latest turn is the first of
-- the list
abbrev pub since : ℕ → (Entry → Bool) → List Outline → ℕ
since i sort [] = 0
since i sort (o ∷ os) = if clears i o then 0 else how_many sort o.entries + since i sort os

-- a list put in front of another one by one, so that its last stands first
abbrev pub pushed : {A : Type 0} → List A → List A → List A
pushed [] past = past
pushed (x ∷ xs) past = pushed xs (x ∷ past)
