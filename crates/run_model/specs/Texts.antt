-- The whole texts of a run, its report, and the summary of a generated run.
-- Source: choice of this project.
-- The texts are pieces in one order: the head of the log; of each turn its log entries and, where
-- it is a commit, its trace line and its console bytes; the tail of the log.
use Rattle.std.specs.Prelude.{ℕ, ◌+◌, ◌≡◌, Bool, true, false, List, [], ◌∷◌, ◌++◌, map, length, Option, Some, None, codes, refl}
use Rattle.std.specs.Fmt.{digits}
use Rattle.esa_model.specs.declared.machine.Event.{Event}
use Rattle.esa_model.specs.declared.machine.Event.TheVariants.{Commit, Idle, Stop, Key}
use Rattle.run_model.specs.declared.faults.Cause.TheVariants.{Mismatch}
use Rattle.run_model.specs.declared.logs.Config.{Config}
use Rattle.run_model.specs.declared.logs.Entry.{Entry}
use Rattle.run_model.specs.declared.logs.What.TheVariants.{Fail, Corrected, Returned}
use Rattle.run_model.specs.declared.outputs.Counts.{Counts}
use Rattle.run_model.specs.declared.outputs.Place.TheVariants.{Log, Trace, Out}
use Rattle.run_model.specs.Numbers.{decimal, hex_text}
use Rattle.run_model.specs.Pieces.{Piece, piece, text}
use Rattle.run_model.specs.Trace.{trace_line, changes_text}
use Rattle.run_model.specs.LogLines.{head, head_line, tail, entry_line}
use Rattle.esa_model.specs.Bus.{cpu_no}
use Rattle.run_model.specs.Cores.{entry}
use Rattle.run_model.specs.Runs.{Told, tells_nothing_else}
use Rattle.run_model.specs.Counts.{commits_by, counts, none_made}

-- ---- pieces

abbrev pub entry_pieces : List Entry → List Piece
entry_pieces entries = map (λ (e : Entry). piece Log (entry_line e)) entries

-- of a turn before which so many commits were made, by its event
abbrev pub commit_pieces : ℕ → Told → Option Event → List Piece
commit_pieces commits t None = []
commit_pieces commits t (Some (Commit i)) =
    piece Trace (trace_line (commits + 1) i.0 t.psw t.changed) ∷ piece Out t.console ∷ []
commit_pieces commits t (Some (Idle i)) = []
commit_pieces commits t (Some (Stop i)) = []
commit_pieces commits t (Some (Key i)) = []

unfoldable pub turn_pieces : ℕ → Told → List Piece
turn_pieces commits t = entry_pieces t.entries ++ commit_pieces commits t t.event

-- of turns before which so many commits were made
abbrev pub turns_pieces : ℕ → List Told → List Piece
turns_pieces commits [] = []
turns_pieces commits (t ∷ ts) =
    turn_pieces commits t ++ turns_pieces (commits_by t.event commits) ts

-- of a whole run
unfoldable pub whole : Config → List Told → List Piece
whole c ts =
    piece Log (head c)
    ∷ (turns_pieces 0 ts ++ piece Log (tail (counts ts).turns (counts ts).returned) ∷ [])

-- of a run whose first turns alone are these
unfoldable pub front : Config → List Told → List Piece
front c ts = piece Log (head c) ∷ turns_pieces 0 ts

-- ---- report and summary

-- whether the script is within the premise
abbrev pub premise_text : Bool → List ℕ
premise_text true = codes "premise within"
premise_text false = codes "premise broken"

unfoldable pub report : Bool → Counts → List ℕ
report within c =
    premise_text within ++ 10 ∷ codes "turns " ++ decimal c.turns
    ++ codes " commits " ++ decimal c.commits ++ codes " retries " ++ decimal c.retries
    ++ codes " spared " ++ decimal c.spared ++ codes " stopped " ++ decimal c.stopped ++ 10 ∷ []

abbrev pub count_line : List ℕ → ℕ → List ℕ
count_line name n = name ++ codes " " ++ decimal n ++ 10 ∷ []

-- the last number is that of the bytes that the trace would have
unfoldable pub summary : Counts → ℕ → List ℕ
summary c trace =
    count_line (codes "turns") c.turns ++ count_line (codes "commits") c.commits
    ++ count_line (codes "fails") c.fails ++ count_line (codes "retries") c.retries
    ++ count_line (codes "corrected") c.corrected ++ count_line (codes "spared") c.spared
    ++ count_line (codes "stopped") c.stopped ++ count_line (codes "trace") trace

abbrev pub trace_bytes : List Told → ℕ
trace_bytes ts = length (text Trace (turns_pieces 0 ts))

unfoldable pub run_summary : List Told → List ℕ
run_summary ts = summary (counts ts) (trace_bytes ts)

-- ---- worked values

-- a commit after a correction, an attempt that fails, an idle turn, and the return of a core
abbrev four_turns : List Told
four_turns =
    record {
      entries = entry 1 0 0 (Corrected 5 10) ∷ [];
      event = Some (Commit (cpu_no 0));
      psw = record { w0 = 0x00080000; w1 = 0x80010002 };
      changed = record { at = 0x12000; byte = 0x40 } ∷ [];
      console = 0xC8 ∷ 0xC9 ∷ [];
    }
    ∷ tells_nothing_else (entry 2 0 0 (Fail Mismatch 1) ∷ []) None
    ∷ tells_nothing_else [] (Some (Idle (cpu_no 1)))
    ∷ tells_nothing_else (entry 4 255 9 Returned ∷ []) None
    ∷ []

abbrev two_cpus : Config
two_cpus = record { cpus = 2; spares = 2; pages = 32; threshold = 3 }

abbrev their_pieces : List Piece
their_pieces =
    piece Log (codes "G5LOG 2 CPUS 2 SPARES 2 THRESHOLD 3\n")
    ∷ piece Log (codes "1 0 0 CORRECTED 5 10\n")
    ∷ piece Trace (codes "1 C0 00080000 80010002 012000=40\n")
    ∷ piece Out (0xC8 ∷ 0xC9 ∷ [])
    ∷ piece Log (codes "2 0 0 FAIL MISMATCH 1\n")
    ∷ piece Log (codes "4 - 9 RETURNED\n")
    ∷ piece Log (codes "END 4 RETURNED 1\n")
    ∷ []

pub in_one_order : whole two_cpus four_turns ≡ their_pieces
unfolding whole turn_pieces entry_line trace_line changes_text head_line tail digits hex_text
in_one_order = refl

abbrev ten_commits : Counts
ten_commits = record none_made { turns = 10; commits = 10 }

abbrev report_of_ten : List ℕ
report_of_ten = codes "premise within\nturns 10 commits 10 retries 0 spared 0 stopped 0\n"

pub ten_turns : report true ten_commits ≡ report_of_ten
unfolding report digits
ten_turns = refl

abbrev one_stop : Counts
one_stop = record none_made { turns = 14; commits = 2; fails = 4; retries = 3; stopped = 1 }

abbrev report_of_stop : List ℕ
report_of_stop = codes "premise broken\nturns 14 commits 2 retries 3 spared 0 stopped 1\n"

pub stopped_once : report false one_stop ≡ report_of_stop
unfolding report digits
stopped_once = refl

abbrev summary_of_two : List ℕ
summary_of_two =
    codes "turns 2\ncommits 2\nfails 0\nretries 0\ncorrected 0\nspared 0\nstopped 0\ntrace 78\n"

pub two_turns : summary (record none_made { turns = 2; commits = 2 }) 78 ≡ summary_of_two
unfolding summary digits
two_turns = refl

pub first_trace_line : trace_bytes four_turns ≡ 33
unfolding turn_pieces entry_line trace_line changes_text digits hex_text
first_trace_line = refl
