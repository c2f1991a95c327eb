-- A fault script: a strike a line. Source: choice of this project.
--   U core attempt unit bit count    a bit of the packet of unit A or B, at so many attempts, or at
--                                    all of them where the count is `*`
--   F core attempt bit               a bit of the fetch latch
--   S core attempt bit               a bit of the store latch
--   W core attempt word bit          a bit of a stored checkpoint word, as the attempt begins
-- Fields are parted by one blank. An empty line is passed over. The first line that is refused
-- decides, and in it the form and the attempt come first, then core, word and bit, then an earlier
-- line.
use Rattle.std.specs.Prelude.{ℕ, ◌+◌, ◌-◌, ◌<◌, ◌≤◌, ◌≡◌, ◌==◌, ◌&&◌, Bool, false, nat_lt, if◌then◌else◌, List, [], ◌∷◌, ◌++◌, length, slice_index, Option, Some, None, Result, Ok, Err, codes, refl, ⊤}
use Rattle.std.specs.List.{list_any, slice_split}
use Rattle.run_model.specs.Numbers.{is_decimal, number_up_to}
use Rattle.run_model.specs.Checkpoint.{width}
use Rattle.run_model.specs.declared.faults.CoreNo.{CoreNo}
use Rattle.run_model.specs.declared.faults.Spot.{Spot}
use Rattle.run_model.specs.declared.faults.Unit.{Unit}
use Rattle.run_model.specs.declared.faults.Unit.TheVariants.{A, B}
use Rattle.run_model.specs.declared.faults.Strike.{Strike}
use Rattle.run_model.specs.declared.faults.Strike.TheVariants.{Packet, Fetch, Store, Word}
use Rattle.run_model.specs.declared.faults.ScriptRefusal.{ScriptRefusal}
use Rattle.run_model.specs.declared.faults.ScriptRefusal.TheVariants.{TooMany, BadLine, BadCore, BadWord, BadBit, TwoAtOneAttempt, NoMemory}

abbrev pub is_line_feed : ℕ → Bool
is_line_feed b = b == 10

abbrev pub is_blank : ℕ → Bool
is_blank b = b == 32

-- the pieces without an empty last one
abbrev pub without_last_empty : List (List ℕ) → List (List ℕ)
without_last_empty [] = []
without_last_empty (x ∷ []) = if length x == 0 then [] else x ∷ []
without_last_empty (x ∷ y ∷ more) = x ∷ without_last_empty (y ∷ more)

-- each line ends with a line feed, which the last may lack
unfoldable pub lines : List ℕ → List (List ℕ)
lines text = without_last_empty (slice_split is_line_feed text)

-- the pieces between blanks
unfoldable pub fields : List ℕ → List (List ℕ)
fields line = slice_split is_blank line

-- the field is this one byte
abbrev pub is_letter : ℕ → List ℕ → Bool
is_letter b f = (length f == 1) && (slice_index f 0 == b)

-- the core of this number
abbrev pub core_no : ℕ → CoreNo
core_no k = record { 0 = k }

-- the numbers of the line of this number, each where it is in its range
abbrev pub ranged : ℕ → Option ℕ → Option ℕ → Option ℕ → Option ℕ → Result Spot ScriptRefusal
ranged line None core word bit = Err (BadLine line)
ranged line (Some n) None word bit = Err (BadCore line)
ranged line (Some n) (Some c) None bit = Err (BadWord line)
ranged line (Some n) (Some c) (Some w) None = Err (BadBit line)
ranged line (Some n) (Some c) (Some w) (Some b) =
    Ok (record { core = core_no c; attempt = n; word = w; bit = b })

-- core, attempt and bit, where the bits are up to a greatest one
unfoldable pub spot : ℕ → ℕ → List ℕ → List ℕ → List ℕ → Result Spot ScriptRefusal
spot line most c n b =
    if is_decimal c && is_decimal b then
    ranged line (number_up_to 999999 n) (number_up_to 15 c) (Some 0) (number_up_to most b)
    else Err (BadLine line)

-- the last position of a checkpoint word
abbrev pub last_position : Option ℕ → ℕ
last_position None = 0
last_position (Some w) = width w - 1

-- core, attempt, checkpoint word and position of its bit, which is one of the word
unfoldable pub word_spot : ℕ → List ℕ → List ℕ → List ℕ → List ℕ → Result Spot ScriptRefusal
word_spot line c n w b =
    if is_decimal c && (is_decimal w && is_decimal b) then
    ranged line (number_up_to 999999 n) (number_up_to 15 c) (number_up_to 39 w)
    (number_up_to (last_position (number_up_to 39 w)) b)
    else Err (BadLine line)

abbrev pub as_fetch : Result Spot ScriptRefusal → Result Strike ScriptRefusal
as_fetch (Ok s) = Ok (Fetch s.core s.attempt s.bit)
as_fetch (Err e) = Err e

abbrev pub as_store : Result Spot ScriptRefusal → Result Strike ScriptRefusal
as_store (Ok s) = Ok (Store s.core s.attempt s.bit)
as_store (Err e) = Err e

abbrev pub as_word : Result Spot ScriptRefusal → Result Strike ScriptRefusal
as_word (Ok s) = Ok (Word s.core s.attempt s.word s.bit)
as_word (Err e) = Err e

unfoldable pub unit : List ℕ → Option Unit
unit f = if is_letter 65 f then Some A else (if is_letter 66 f then Some B else None)

abbrev pub from_one : Option ℕ → Option (Option ℕ)
from_one None = None
from_one (Some m) = if m == 0 then None else Some (Some m)

-- `*`, or 1 to 1,000,000
unfoldable pub attempts : List ℕ → Option (Option ℕ)
attempts f = if is_letter 42 f then Some None else from_one (number_up_to 1000000 f)

abbrev pub as_packet : ℕ → Option Unit → Option (Option ℕ) → Result Spot ScriptRefusal
    → Result Strike ScriptRefusal
as_packet line None m s = Err (BadLine line)
as_packet line (Some u) None s = Err (BadLine line)
as_packet line (Some u) (Some m) (Err e) = Err e
as_packet line (Some u) (Some m) (Ok s) = Ok (Packet s.core s.attempt u s.bit m)

-- the lines of each number of fields
unfoldable pub four_fields : ℕ → List ℕ → List ℕ → List ℕ → List ℕ → Result Strike ScriptRefusal
four_fields line k c n b =
    if is_letter 70 k then as_fetch (spot line 64 c n b)
    else (if is_letter 83 k then as_store (spot line 4096 c n b) else Err (BadLine line))

unfoldable pub five_fields : ℕ → List ℕ → List ℕ → List ℕ → List ℕ → List ℕ
    → Result Strike ScriptRefusal
five_fields line k c n w b =
    if is_letter 87 k then as_word (word_spot line c n w b) else Err (BadLine line)

unfoldable pub six_fields : ℕ → List ℕ → List ℕ → List ℕ → List ℕ → List ℕ → List ℕ
    → Result Strike ScriptRefusal
six_fields line k c n u b m =
    if is_letter 85 k then as_packet line (unit u) (attempts m) (spot line 4095 c n b)
    else Err (BadLine line)

abbrev pub by_fields : ℕ → List (List ℕ) → Result Strike ScriptRefusal
by_fields line [] = Err (BadLine line)
by_fields line (k ∷ []) = Err (BadLine line)
by_fields line (k ∷ c ∷ []) = Err (BadLine line)
by_fields line (k ∷ c ∷ n ∷ []) = Err (BadLine line)
by_fields line (k ∷ c ∷ n ∷ b ∷ []) = four_fields line k c n b
by_fields line (k ∷ c ∷ n ∷ w ∷ b ∷ []) = five_fields line k c n w b
by_fields line (k ∷ c ∷ n ∷ u ∷ b ∷ m ∷ []) = six_fields line k c n u b m
by_fields line (k ∷ c ∷ n ∷ u ∷ b ∷ m ∷ x ∷ xs) = Err (BadLine line)

-- what the line of this number says by itself
unfoldable pub strike_of : ℕ → List ℕ → Result Strike ScriptRefusal
strike_of line text = by_fields line (fields text)

-- both strike the fetch latch, or both the store latch, of one core at one attempt
abbrev pub same_latch : Strike → Strike → Bool
same_latch (Fetch c n b) (Fetch d m x) = (d.0 == c.0) && (m == n)
same_latch (Fetch c n b) (Packet d m u x k) = false
same_latch (Fetch c n b) (Store d m x) = false
same_latch (Fetch c n b) (Word d m w x) = false
same_latch (Store c n b) (Store d m x) = (d.0 == c.0) && (m == n)
same_latch (Store c n b) (Packet d m u x k) = false
same_latch (Store c n b) (Fetch d m x) = false
same_latch (Store c n b) (Word d m w x) = false
same_latch (Packet c n u b k) t = false
same_latch (Word c n w b) t = false

-- a line that says this, after the strikes of earlier lines
abbrev pub added : ℕ → List Strike → Result Strike ScriptRefusal
    → (List Strike → Result (List Strike) ScriptRefusal) → Result (List Strike) ScriptRefusal
added line earlier (Err e) rest = Err e
added line earlier (Ok s) rest =
    if list_any (same_latch s) earlier then Err (TwoAtOneAttempt line)
    else rest (earlier ++ s ∷ [])

-- the lines from the one of this number on, after these strikes
abbrev pub strikes_from : ℕ → List Strike → List (List ℕ) → Result (List Strike) ScriptRefusal
strikes_from line earlier [] = Ok earlier
strikes_from line earlier (l ∷ ls) =
    if nat_lt 10000 line then Err (TooMany line)
    else (if length l == 0 then strikes_from (line + 1) earlier ls
    else added line earlier (strike_of line l) (λ strikes. strikes_from (line + 1) strikes ls))

-- the strikes of a script, one for each line that is not empty, or the first refusal
unfoldable pub script : List ℕ → Result (List Strike) ScriptRefusal
script text = strikes_from 1 [] (lines text)

-- a call may refuse by this; want of memory may come at any time
abbrev pub MayRefuse : Result (List Strike) ScriptRefusal → ScriptRefusal → Type 0
MayRefuse meant NoMemory = ⊤
MayRefuse meant (TooMany n) = meant ≡ Err (TooMany n)
MayRefuse meant (BadLine n) = meant ≡ Err (BadLine n)
MayRefuse meant (BadCore n) = meant ≡ Err (BadCore n)
MayRefuse meant (BadWord n) = meant ≡ Err (BadWord n)
MayRefuse meant (BadBit n) = meant ≡ Err (BadBit n)
MayRefuse meant (TwoAtOneAttempt n) = meant ≡ Err (TwoAtOneAttempt n)

-- ---- strikes in form: each number in its range, no latch struck twice at one attempt

abbrev pub CountInRange : Option ℕ → Type 0
CountInRange None = ⊤
CountInRange (Some count) = (1 ≤ count) × (count ≤ 1000000)

abbrev pub InRange : Strike → Type 0
InRange (Packet core first unit bit count) =
    (core.0 < 16) × (first ≤ 999999) × (bit < 4096) × CountInRange count
InRange (Fetch core first bit) = (core.0 < 16) × (first ≤ 999999) × (bit ≤ 64)
InRange (Store core first bit) = (core.0 < 16) × (first ≤ 999999) × (bit ≤ 4096)
InRange (Word core first word bit) =
    (core.0 < 16) × (first ≤ 999999) × (word < 40) × (bit < width word)

abbrev pub AllInRange : List Strike → Type 0
AllInRange [] = ⊤
AllInRange (s ∷ ss) = InRange s × AllInRange ss

abbrev pub OnceEach : List Strike → Type 0
OnceEach [] = ⊤
OnceEach (s ∷ ss) = (list_any (same_latch s) ss ≡ false) × OnceEach ss

pub record InForm (strikes : List Strike) : Type 0 where
  pub ranges : AllInRange strikes
  pub latches : OnceEach strikes

-- worked values
pub packet_line : script (codes "\nU 0 2 A 2000 *") ≡ Ok (Packet (core_no 0) 2 A 2000 None ∷ [])
unfolding script lines fields strike_of four_fields five_fields six_fields spot word_spot unit attempts width is_decimal number_up_to
packet_line = refl

pub twice : script (codes "F 0 1 0\nF 0 1 0\n") ≡ Err (TwoAtOneAttempt 2)
unfolding script lines fields strike_of four_fields five_fields six_fields spot word_spot unit attempts width is_decimal number_up_to
twice = refl

pub word_36 : script (codes "W 0 1 36 0") ≡ Ok (Word (core_no 0) 1 36 0 ∷ [])
unfolding script lines fields strike_of four_fields five_fields six_fields spot word_spot unit attempts width is_decimal number_up_to
word_36 = refl

pub word_40 : script (codes "W 0 1 40 0") ≡ Err (BadWord 1)
unfolding script lines fields strike_of four_fields five_fields six_fields spot word_spot unit attempts width is_decimal number_up_to
word_40 = refl

pub bit_72 : script (codes "W 0 1 36 72") ≡ Err (BadBit 1)
unfolding script lines fields strike_of four_fields five_fields six_fields spot word_spot unit attempts width is_decimal number_up_to
bit_72 = refl

pub bit_39 : script (codes "W 0 1 35 39") ≡ Err (BadBit 1)
unfolding script lines fields strike_of four_fields five_fields six_fields spot word_spot unit attempts width is_decimal number_up_to
bit_39 = refl

pub core_before_word : script (codes "W 16 1 40 72") ≡ Err (BadCore 1)
unfolding script lines fields strike_of four_fields five_fields six_fields spot word_spot unit attempts width is_decimal number_up_to
core_before_word = refl

pub two_blanks : script (codes "F  0 1 0") ≡ Err (BadLine 1)
unfolding script lines fields strike_of four_fields five_fields six_fields spot word_spot unit attempts width is_decimal number_up_to
two_blanks = refl
