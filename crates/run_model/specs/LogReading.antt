-- What a line of the service log says. Source: choice of this project.
-- A number is in the range of its type: a turn and an attempt are below 2^64; a CPU, a core,
-- a retry, a checkpoint word and a position are bytes. `-` is the CPU of RETURNED and of no other
-- entry, and stands for CPU 255.
use Rattle.std.specs.Prelude.{ℕ, ◌-◌, ◌^◌, ◌<◌, ◌≡◌, Bool, true, ◌&&◌, ◌==◌, if◌then◌else◌, List, [], ◌∷◌, length, take, slice_index, Option, Some, None, option_map, option_and_then, bytes_eq, codes, refl, map, replicate, ⊤}
use Rattle.run_model.specs.Numbers.{is_decimal, number_up_to}
use Rattle.run_model.specs.Schedule.{from_one}
use Rattle.run_model.specs.Script.{fields, core_no}
use Rattle.run_model.specs.Cores.{entry}
use Rattle.run_model.specs.LogLines.{Heading, heading, is_returned, entry_line, some_entries, their_lines}
use Rattle.run_model.specs.declared.faults.Cause.{Cause}
use Rattle.run_model.specs.declared.faults.Cause.TheVariants.{Fetch, Mismatch, Store}
use Rattle.run_model.specs.declared.logs.Entry.{Entry}
use Rattle.run_model.specs.declared.logs.What.{What}
use Rattle.run_model.specs.declared.logs.What.TheVariants.{Fail, Retry, Corrected, Uncorrectable, Fenced, Spared, NoSpare, Stop, Returned}

-- ---- fields

unfoldable pub long_in : List ℕ → Option ℕ
long_in f = number_up_to (2 ^ 64 - 1) f

unfoldable pub byte_in : List ℕ → Option ℕ
byte_in f = number_up_to 255 f

-- both are there
abbrev pub both : {A B C : Type 0} → (A → B → C) → Option A → Option B → Option C
both f None b = None
both f (Some a) None = None
both f (Some a) (Some b) = Some (f a b)

-- ---- head and tail, without their line feeds

abbrev pub heading_of : Option ℕ → Option ℕ → Option ℕ → Option Heading
heading_of None spares threshold = None
heading_of (Some c) None threshold = None
heading_of (Some c) (Some s) None = None
heading_of (Some c) (Some s) (Some t) = Some (heading c s t)

-- 1 to 8 CPUs, up to 8 spares, a threshold up to 15
abbrev pub heading_in : List ℕ → List ℕ → List ℕ → Option Heading
heading_in c s t = heading_of (from_one (number_up_to 8 c)) (number_up_to 8 s) (number_up_to 15 t)

-- the words of a head whose version is written so
abbrev pub are_head_words : List ℕ → List ℕ → List ℕ → List ℕ → List ℕ → List ℕ → Bool
are_head_words version g v c s t =
    bytes_eq g (codes "G5LOG") && (bytes_eq v version && (bytes_eq c (codes "CPUS")
    && (bytes_eq s (codes "SPARES") && bytes_eq t (codes "THRESHOLD"))))

abbrev pub head_of : List ℕ → List (List ℕ) → Option Heading
head_of version (g ∷ v ∷ cw ∷ c ∷ sw ∷ s ∷ tw ∷ t ∷ []) =
    if are_head_words version g v cw sw tw then heading_in c s t else None
head_of version others = None

-- the head of version 1, and that of version 2
unfoldable pub old_head_in : List ℕ → Option Heading
old_head_in text = head_of (codes "1") (fields text)

unfoldable pub head_in : List ℕ → Option Heading
head_in text = head_of (codes "2") (fields text)

-- the numbers of a tail
pub record Ending : Type 0 where
  pub turns : ℕ
  pub returned : ℕ

abbrev pub ending : ℕ → ℕ → Ending
ending turns returned = record { turns = turns; returned = returned }

abbrev pub old_tail_of : List (List ℕ) → Option ℕ
old_tail_of (e ∷ n ∷ []) = if bytes_eq e (codes "END") then long_in n else None
old_tail_of others = None

abbrev pub tail_of : List (List ℕ) → Option Ending
tail_of (e ∷ n ∷ r ∷ m ∷ []) =
    if bytes_eq e (codes "END") && bytes_eq r (codes "RETURNED")
    then both ending (long_in n) (long_in m) else None
tail_of others = None

-- the tail of version 1 is `END n`
unfoldable pub old_tail_in : List ℕ → Option ℕ
old_tail_in text = old_tail_of (fields text)

unfoldable pub tail_in : List ℕ → Option Ending
tail_in text = tail_of (fields text)

-- ---- entries

unfoldable pub cause_in : List ℕ → Option Cause
cause_in f =
    if bytes_eq f (codes "FETCH") then Some Fetch
    else (if bytes_eq f (codes "MISMATCH") then Some Mismatch
    else (if bytes_eq f (codes "STORE") then Some Store
    else None))

-- what happened, by its number of fields
unfoldable pub one_field : List ℕ → Option What
one_field name =
    if bytes_eq name (codes "FENCED") then Some Fenced
    else (if bytes_eq name (codes "NOSPARE") then Some NoSpare
    else (if bytes_eq name (codes "STOP") then Some Stop
    else (if bytes_eq name (codes "RETURNED") then Some Returned
    else None)))

unfoldable pub two_fields : List ℕ → List ℕ → Option What
two_fields name n =
    if bytes_eq name (codes "RETRY") then option_map Retry (byte_in n)
    else (if bytes_eq name (codes "UNCORRECTABLE") then option_map Uncorrectable (byte_in n)
    else (if bytes_eq name (codes "SPARED") then option_map (λ k. Spared (core_no k)) (byte_in n)
    else None))

unfoldable pub three_fields : List ℕ → List ℕ → List ℕ → Option What
three_fields name a b =
    if bytes_eq name (codes "FAIL") then both Fail (cause_in a) (long_in b)
    else (if bytes_eq name (codes "CORRECTED") then both Corrected (byte_in a) (byte_in b)
    else None)

-- the CPU of what happened
unfoldable pub cpu_in : What → List ℕ → Option ℕ
cpu_in what f =
    if is_returned what then (if bytes_eq f (codes "-") then Some 255 else None)
    else byte_in f

abbrev pub entry_of : Option ℕ → Option ℕ → Option ℕ → What → Option Entry
entry_of None cpu core what = None
entry_of (Some t) None core what = None
entry_of (Some t) (Some c) None what = None
entry_of (Some t) (Some c) (Some k) what = Some (entry t c k what)

abbrev pub entry_by : List ℕ → List ℕ → List ℕ → Option What → Option Entry
entry_by t c k None = None
entry_by t c k (Some what) = entry_of (long_in t) (cpu_in what c) (byte_in k) what

abbrev pub entry_by_fields : List (List ℕ) → Option Entry
entry_by_fields (t ∷ c ∷ k ∷ n ∷ []) = entry_by t c k (one_field n)
entry_by_fields (t ∷ c ∷ k ∷ n ∷ a ∷ []) = entry_by t c k (two_fields n a)
entry_by_fields (t ∷ c ∷ k ∷ n ∷ a ∷ b ∷ []) = entry_by t c k (three_fields n a b)
entry_by_fields others = None

-- the entry of a line without its line feed
unfoldable pub entry_in : List ℕ → Option Entry
entry_in text = entry_by_fields (fields text)

abbrev pub has_line_feed : List ℕ → Bool
has_line_feed text = slice_index text (length text - 1) == 10

-- a line without the line feed that ends it
unfoldable pub content : List ℕ → Option (List ℕ)
content line = if has_line_feed line then Some (take (length line - 1) line) else None

-- the entry of a line
unfoldable pub read_entry : List ℕ → Option Entry
read_entry line = option_and_then entry_in (content line)

-- ---- what reading promises

abbrev pub AreBytes : What → Type 0
AreBytes (Fail why n) = n < 2 ^ 64
AreBytes (Retry r) = r < 256
AreBytes (Corrected w b) = (w < 256) × (b < 256)
AreBytes (Uncorrectable w) = w < 256
AreBytes Fenced = ⊤
AreBytes (Spared k) = k.0 < 256
AreBytes NoSpare = ⊤
AreBytes Stop = ⊤
AreBytes Returned = ⊤

-- the numbers of an entry are in their ranges, and the CPU of RETURNED is 255
pub record IsEntry (e : Entry) : Type 0 where
  pub turn : e.turn < 2 ^ 64
  pub cpu : e.cpu.0 < 256
  pub core : e.core.0 < 256
  pub what : AreBytes e.what
  pub returned : is_returned e.what ≡ true → e.cpu.0 ≡ 255

-- the line of an entry is read as that entry
abbrev pub WrittenIsRead : Type 0
WrittenIsRead = (e : Entry) → IsEntry e → read_entry (entry_line e) ≡ Some e

-- and a line that is read is the line of its entry
abbrev pub ReadIsWritten : Type 0
ReadIsWritten =
    (line : List ℕ) (e : Entry) → read_entry line ≡ Some e → IsEntry e × (line ≡ entry_line e)

-- ---- worked values

pub lines_read : map read_entry their_lines ≡ map Some some_entries
unfolding read_entry content entry_in fields one_field two_fields three_fields cause_in cpu_in
    long_in byte_in number_up_to is_decimal
lines_read = refl

-- RETURNED has no CPU and every other entry has one; numbers are decimals in their ranges
abbrev no_entries : List (List ℕ)
no_entries =
    codes "19 255 0 RETURNED\n"
    ∷ codes "10 - 0 STOP\n"
    ∷ codes "10 256 0 STOP\n"
    ∷ codes "18446744073709551616 0 0 STOP\n"
    ∷ codes "10 0 0 RETRY 256\n"
    ∷ codes "01 0 0 STOP\n"
    ∷ codes "10 0  0 STOP\n"
    ∷ codes "10 0 0 FAIL FETCH\n"
    ∷ codes "10 0 0 stop\n"
    ∷ codes "10 0 0 STOP\n\n"
    ∷ codes "10 0 0 STOP"
    ∷ []
    ∷ []

pub no_entries_read : map read_entry no_entries ≡ replicate 12 None
unfolding read_entry content entry_in fields one_field two_fields three_fields cause_in cpu_in
    long_in byte_in number_up_to is_decimal
no_entries_read = refl

pub first_line : head_in (codes "G5LOG 2 CPUS 1 SPARES 0 THRESHOLD 3") ≡ Some (heading 1 0 3)
unfolding head_in fields number_up_to is_decimal
first_line = refl

abbrev greatest_head : List ℕ
greatest_head = codes "G5LOG 1 CPUS 8 SPARES 8 THRESHOLD 15"

pub old_first_line : old_head_in greatest_head ≡ Some (heading 8 8 15)
unfolding old_head_in fields number_up_to is_decimal
old_first_line = refl

-- another version, and numbers that no machine has
abbrev no_heads : List (List ℕ)
no_heads =
    codes "G5LOG 1 CPUS 1 SPARES 0 THRESHOLD 3"
    ∷ codes "G5LOG 2 CPUS 0 SPARES 0 THRESHOLD 3"
    ∷ codes "G5LOG 2 CPUS 9 SPARES 0 THRESHOLD 3"
    ∷ codes "G5LOG 2 CPUS 1 SPARES 9 THRESHOLD 3"
    ∷ codes "G5LOG 2 CPUS 1 SPARES 0 THRESHOLD 16"
    ∷ []

pub no_heads_read : map head_in no_heads ≡ replicate 5 None
unfolding head_in fields number_up_to is_decimal
no_heads_read = refl

pub last_line : tail_in (codes "END 19 RETURNED 1") ≡ Some (ending 19 1)
unfolding tail_in fields long_in number_up_to is_decimal
last_line = refl

pub old_last_line : old_tail_in (codes "END 10") ≡ Some 10
unfolding old_tail_in fields long_in number_up_to is_decimal
old_last_line = refl
