-- What is counted of a run, for its report and its summary. Source: choice of this project.
use Rattle.std.specs.Prelude.{ℕ, ◌+◌, List, [], ◌∷◌, Option, Some, None}
use Rattle.esa_model.specs.declared.machine.Event.{Event}
use Rattle.esa_model.specs.declared.machine.Event.TheVariants.{Commit, Idle, Stop, Key}
use Rattle.run_model.specs.declared.logs.Entry.{Entry}
use Rattle.run_model.specs.declared.logs.What.{What}
use Rattle.run_model.specs.declared.logs.What.TheVariants as what
use Rattle.run_model.specs.declared.outputs.Counts.{Counts}
use Rattle.run_model.specs.Runs.{Told}

abbrev pub none_made : Counts
none_made = record {
  turns = 0;
  commits = 0;
  fails = 0;
  retries = 0;
  corrected = 0;
  spared = 0;
  stopped = 0;
  returned = 0;
}

-- a commit adds one to the commits
abbrev pub commits_by : Option Event → ℕ → ℕ
commits_by None n = n
commits_by (Some (Commit i)) n = n + 1
commits_by (Some (Idle i)) n = n
commits_by (Some (Stop i)) n = n
commits_by (Some (Key i)) n = n

abbrev pub count_what : Counts → What → Counts
count_what n (what.Fail why at) = record n { fails = n.fails + 1 }
count_what n (what.Retry r) = record n { retries = n.retries + 1 }
count_what n (what.Corrected w b) = record n { corrected = n.corrected + 1 }
count_what n (what.Uncorrectable w) = n
count_what n what.Fenced = n
count_what n (what.Spared k) = record n { spared = n.spared + 1 }
count_what n what.NoSpare = n
count_what n what.Stop = record n { stopped = n.stopped + 1 }
count_what n what.Returned = record n { returned = n.returned + 1 }

abbrev pub count_entries : Counts → List Entry → Counts
count_entries n [] = n
count_entries n (e ∷ es) = count_entries (count_what n e.what) es

abbrev pub count_turn : Counts → Told → Counts
count_turn n t = count_entries (record n {
  turns = n.turns + 1;
  commits = commits_by t.event n.commits;
}) t.entries

abbrev pub count_turns : Counts → List Told → Counts
count_turns n [] = n
count_turns n (t ∷ ts) = count_turns (count_turn n t) ts

-- the commits after these turns, before which there were so many
abbrev pub commits_after : ℕ → List Told → ℕ
commits_after n [] = n
commits_after n (t ∷ ts) = commits_after (commits_by t.event n) ts

-- of these turns
abbrev pub counts : List Told → Counts
counts ts = count_turns none_made ts
