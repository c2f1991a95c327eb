-- A service log of version 1 brought to version 2: the same numbers and the same entries, and no
-- core was returned. Source: choice of this project.
-- In version 1 the head is `G5LOG 1 CPUS c SPARES s THRESHOLD t`, the tail is `END n`, and no entry
-- is RETURNED. Line 1 is a head, and each later line is an entry, or the tail where it is the last.
-- The first line that has not the form of its place is refused; then a log without a line, or whose
-- last line is no tail or lacks its line feed.
use Rattle.std.specs.Prelude.{ℕ, ◌+◌, ◌≡◌, Bool, if◌then◌else◌, List, [], ◌∷◌, ◌++◌, map, Option, Some, None, Result, Ok, Err, codes, refl, ⊤}
use Rattle.std.specs.Fmt.{digits}
use Rattle.run_model.specs.Numbers.{is_decimal, number_up_to}
use Rattle.run_model.specs.Script.{fields, lines}
use Rattle.run_model.specs.LogLines.{Heading, head_line, tail, is_returned, entry_line}
use Rattle.run_model.specs.LogReading.{old_head_in, old_tail_in, entry_in, one_field, two_fields, three_fields, cause_in, cpu_in, long_in, byte_in, has_line_feed}
use Rattle.run_model.specs.declared.logs.Entry.{Entry}
use Rattle.run_model.specs.declared.logs.MigrateRefusal.{MigrateRefusal}
use Rattle.run_model.specs.declared.logs.MigrateRefusal.TheVariants.{BadLine, NoTail, NoMemory}

abbrev pub Migrated : Type 0
Migrated = Result (List ℕ) MigrateRefusal

abbrev pub not_returned : Option Entry → Option Entry
not_returned None = None
not_returned (Some e) = if is_returned e.what then None else Some e

-- the entry of a line of version 1
unfoldable pub old_entry_in : List ℕ → Option Entry
old_entry_in line = not_returned (entry_in line)

-- the turns of a tail, behind which there is no line
abbrev pub last_tail_in : List ℕ → List (List ℕ) → Option ℕ
last_tail_in line [] = old_tail_in line
last_tail_in line (l ∷ ls) = None

-- the line of this number, an entry, a last tail or neither, behind the text that is so far
abbrev pub after_line :
    Bool → ℕ → List ℕ → Option Entry → Option ℕ → (List ℕ → Migrated) → Migrated
after_line fed number so_far (Some e) turns rest = rest (so_far ++ entry_line e)
after_line fed number so_far None (Some turns) rest =
    if fed then Ok (so_far ++ tail turns 0) else Err NoTail
after_line fed number so_far None None rest = Err (BadLine number)

-- the lines from the one of this number on
abbrev pub lines_from : Bool → ℕ → List ℕ → List (List ℕ) → Migrated
lines_from fed number so_far [] = Err NoTail
lines_from fed number so_far (l ∷ ls) =
    after_line fed number so_far (old_entry_in l) (last_tail_in l ls)
    (λ text. lines_from fed (number + 1) text ls)

abbrev pub after_head : Option Heading → (List ℕ → Migrated) → Migrated
after_head None rest = Err (BadLine 1)
after_head (Some h) rest = rest (head_line h)

-- all lines; whether the last one has its line feed
abbrev pub by_lines : Bool → List (List ℕ) → Migrated
by_lines fed [] = Err NoTail
by_lines fed (l ∷ ls) = after_head (old_head_in l) (λ text. lines_from fed 2 text ls)

-- the text of version 2, or the refusal
unfoldable pub migrated : List ℕ → Migrated
migrated log = by_lines (has_line_feed log) (lines log)

-- a call may refuse by this; want of memory may come at any time
abbrev pub MayRefuse : Migrated → MigrateRefusal → Type 0
MayRefuse meant NoMemory = ⊤
MayRefuse meant (BadLine n) = meant ≡ Err (BadLine n)
MayRefuse meant NoTail = meant ≡ Err NoTail

-- what a call answers: the text, or a refusal
abbrev pub Answers : Migrated → Migrated → Type 0
Answers meant (Ok text) = meant ≡ Ok text
Answers meant (Err e) = MayRefuse meant e

-- ---- worked values

abbrev old_head : List ℕ
old_head = codes "G5LOG 1 CPUS 1 SPARES 0 THRESHOLD 3\n"

abbrev new_head : List ℕ
new_head = codes "G5LOG 2 CPUS 1 SPARES 0 THRESHOLD 3\n"

abbrev two_entries : List ℕ
two_entries = codes "3 0 0 FAIL MISMATCH 2\n" ++ codes "4 0 0 RETRY 1\n"

abbrev accepted : List (List ℕ × List ℕ)
accepted =
    (old_head ++ codes "END 10\n", new_head ++ codes "END 10 RETURNED 0\n")
    ∷ (
      old_head ++ two_entries ++ codes "END 12\n",
      new_head ++ two_entries ++ codes "END 12 RETURNED 0\n",
    )
    ∷ []

pub texts : map (λ a. migrated a.0) accepted ≡ map (λ a. Ok a.1) accepted
unfolding migrated lines fields old_head_in old_tail_in old_entry_in entry_in entry_line one_field
    two_fields three_fields cause_in cpu_in long_in byte_in number_up_to is_decimal head_line tail
    digits
texts = refl

abbrev refused : List (List ℕ × MigrateRefusal)
refused =
    ([], NoTail)
    ∷ (codes "\n", BadLine 1)
    ∷ (old_head, NoTail)
    ∷ (codes "G5LOG 1 CPUS 1 SPARES 0 THRESHOLD 3", NoTail)
    ∷ (new_head ++ codes "END 10\n", BadLine 1)
    ∷ (old_head ++ codes "x\n", BadLine 2)
    ∷ (old_head ++ codes "x", BadLine 2)
    ∷ (old_head ++ codes "END 10", NoTail)
    ∷ (old_head ++ two_entries, NoTail)
    ∷ (old_head ++ codes "END 10\n" ++ two_entries, BadLine 2)
    ∷ (old_head ++ codes "END 10 RETURNED 0\n", BadLine 2)
    ∷ (old_head ++ two_entries ++ codes "5 - 0 RETURNED\n", BadLine 4)
    ∷ []

pub refusals : map (λ r. migrated r.0) refused ≡ map (λ r. Err r.1) refused
unfolding migrated lines fields old_head_in old_tail_in old_entry_in entry_in entry_line one_field
    two_fields three_fields cause_in cpu_in long_in byte_in number_up_to is_decimal head_line tail
    digits
refusals = refl
