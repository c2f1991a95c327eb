-- The form of a service log of version 2: its first line is a head, its last a tail, and each line
-- between them an entry; each line ends with a line feed. Source: choice of this project.
use Rattle.std.specs.Prelude.{ℕ, ◌+◌, ◌-◌, ◌==◌, if◌then◌else◌, List, [], ◌∷◌, Option, Some, None, Result, Ok, Err}
use Rattle.run_model.specs.LogLines.{Heading}
use Rattle.run_model.specs.LogReading.{Ending, read_entry}
use Rattle.run_model.specs.declared.logs.Entry.{Entry}
use Rattle.service_log.specs.Headings.{head_of_line, tail_of_line}

-- ---- lines with their line feeds; what stands behind the last line feed is a line too

abbrev pub before_lines : ℕ → List (List ℕ) → List (List ℕ)
before_lines b [] = (b ∷ []) ∷ []
before_lines b (l ∷ ls) = (b ∷ l) ∷ ls

abbrev pub with_byte : ℕ → List (List ℕ) → List (List ℕ)
with_byte b ls = if b == 10 then (b ∷ []) ∷ ls else before_lines b ls

abbrev pub fed_lines : List ℕ → List (List ℕ)
fed_lines [] = []
fed_lines (b ∷ bs) = with_byte b (fed_lines bs)

-- ---- what the lines say, or the number of the first that has not the form of its place

-- the lines behind the head
pub record Body : Type 0 where
  pub entries : List Entry
  pub ending : Ending

abbrev pub last_line : ℕ → Option Ending → Result Body ℕ
last_line n None = Err n
last_line n (Some t) = Ok (record { entries = []; ending = t })

abbrev pub before_body : Entry → Result Body ℕ → Result Body ℕ
before_body e (Ok b) = Ok (record { entries = e ∷ b.entries; ending = b.ending })
before_body e (Err n) = Err n

abbrev pub line_between : ℕ → Option Entry → Result Body ℕ → Result Body ℕ
line_between n None behind = Err n
line_between n (Some e) behind = before_body e behind

-- from the line of this number on; where there is none, the line before it is the last and no tail
abbrev pub body_from : ℕ → List (List ℕ) → Result Body ℕ
body_from n [] = Err (n - 1)
body_from n (l ∷ []) = last_line n (tail_of_line l)
body_from n (l ∷ m ∷ ls) = line_between n (read_entry l) (body_from (n + 1) (m ∷ ls))

pub record Log : Type 0 where
  pub heading : Heading
  pub body : Body

abbrev pub under_head : Option Heading → Result Body ℕ → Result Log ℕ
under_head None body = Err 1
under_head (Some h) (Ok b) = Ok (record { heading = h; body = b })
under_head (Some h) (Err n) = Err n

abbrev pub by_lines : List (List ℕ) → Result Log ℕ
by_lines [] = Err 1
by_lines (l ∷ ls) = under_head (head_of_line l) (body_from 2 ls)

-- what a log says; a log without a line lacks its first
unfoldable pub log_in : List ℕ → Result Log ℕ
log_in text = by_lines (fed_lines text)

-- ---- parts of it

-- the entries of the lines before the last, up to one that is none
abbrev pub while_entry : Option Entry → List Entry → List Entry
while_entry None behind = []
while_entry (Some e) behind = e ∷ behind

abbrev pub entries_in : List (List ℕ) → List Entry
entries_in [] = []
entries_in (l ∷ []) = []
entries_in (l ∷ m ∷ ls) = while_entry (read_entry l) (entries_in (m ∷ ls))

abbrev pub ending_of : Result Body ℕ → Result Ending ℕ
ending_of (Ok b) = Ok b.ending
ending_of (Err n) = Err n
