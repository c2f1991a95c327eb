-- A schedule: which turn follows which. Source: choice of this project.
-- Words are parted by blanks and line feeds, in any number. `c` is one turn of CPU c, `c*n` is n
-- turns, `Kc` is one turn that presses the interrupt key of CPU c, `Rk` is one turn in which core k
-- is returned. c is one digit, n a decimal from 1, k a decimal from 0 to 15. The first word that is
-- refused decides.
use Rattle.std.specs.Prelude.{ℕ, ◌+◌, ◌-◌, ◌<◌, ◌≡◌, Bool, false, ◌&&◌, ◌||◌, ◌==◌, nat_le, nat_lt, if◌then◌else◌, List, [], ◌∷◌, ◌++◌, length, filter, flat_map, map, replicate, drop, slice_index, sum_by, Option, Some, None, option_map, Result, Ok, Err, codes, refl, ⊤}
use Rattle.std.specs.Char.{is_ascii_digit}
use Rattle.std.specs.List.{slice_split}
use Rattle.run_model.specs.Numbers.{number, number_up_to, is_decimal}
use Rattle.run_model.specs.declared.schedules.Run.{Run}
use Rattle.run_model.specs.declared.schedules.RunKind.{RunKind}
use Rattle.run_model.specs.declared.schedules.RunKind.TheVariants.{Turns, Key, Return}
use Rattle.run_model.specs.declared.schedules.ScheduleRefusal.{ScheduleRefusal}
use Rattle.run_model.specs.declared.schedules.ScheduleRefusal.TheVariants.{BadWord, BadCpu, TooLong, NoMemory}

-- ---- words

-- a blank or a line feed
abbrev pub is_separator : ℕ → Bool
is_separator b = (b == 32) || (b == 10)

abbrev pub is_word : List ℕ → Bool
is_word w = nat_lt 0 (length w)

-- the longest runs of bytes that are no separators
unfoldable pub words : List ℕ → List (List ℕ)
words text = filter is_word (slice_split is_separator text)

-- ---- what a word says

-- so many turns of one kind
abbrev pub run : RunKind → ℕ → Run
run what count = record { what = what; count = count }

-- turns of the CPU whose number is this digit
abbrev pub turns_of_digit : ℕ → ℕ → Run
turns_of_digit digit count = run (Turns (record { 0 = digit - 48 })) count

-- the interrupt key of the CPU whose number is this digit
abbrev pub key_of_digit : ℕ → Run
key_of_digit digit = run (Key (record { 0 = digit - 48 })) 1

-- the return of a core
abbrev pub return_of : ℕ → Run
return_of core = run (Return (record { 0 = core })) 1

abbrev pub from_one : Option ℕ → Option ℕ
from_one None = None
from_one (Some n) = if n == 0 then None else Some n

-- how many turns a decimal names, which is one from 1
unfoldable pub count : List ℕ → Option ℕ
count t = from_one (number t)

abbrev pub is_turn : List ℕ → Bool
is_turn w = (length w == 1) && is_ascii_digit (slice_index w 0)

abbrev pub is_key : List ℕ → Bool
is_key w = (length w == 2) && ((slice_index w 0 == 75) && is_ascii_digit (slice_index w 1))

abbrev pub is_return : List ℕ → Bool
is_return w = nat_lt 1 (length w) && (slice_index w 0 == 82)

abbrev pub is_count : List ℕ → Bool
is_count w = nat_lt 2 (length w) && (is_ascii_digit (slice_index w 0) && (slice_index w 1 == 42))

-- `c`, `Kc`, `Rk` or `c*n`
unfoldable pub run_of : List ℕ → Option Run
run_of w =
    if is_turn w then Some (turns_of_digit (slice_index w 0) 1)
    else (if is_key w then Some (key_of_digit (slice_index w 1))
    else (if is_return w then option_map return_of (number_up_to 15 (drop 1 w))
    else (if is_count w then option_map (turns_of_digit (slice_index w 0)) (count (drop 2 w))
    else None)))

-- ---- the whole

abbrev pub turns_of : List Run → ℕ
turns_of runs = sum_by (λ r. r.count) runs

-- the turns one by one, in their order
unfoldable pub kinds_of : List Run → List RunKind
kinds_of runs = flat_map (λ r. replicate r.count r.what) runs

-- the turns are of a CPU that a machine of so many CPUs has not
abbrev pub is_beyond : ℕ → RunKind → Bool
is_beyond cpus (Turns c) = nat_le cpus c.0
is_beyond cpus (Key c) = nat_le cpus c.0
is_beyond cpus (Return k) = false

-- a machine of so many CPUs can make the turns: it has the CPU, and the core is one of 16
abbrev pub Fits : ℕ → RunKind → Type 0
Fits cpus (Turns c) = c.0 < cpus
Fits cpus (Key c) = c.0 < cpus
Fits cpus (Return k) = k.0 < 16

-- what the word of this number says after so many turns, or why it is refused
abbrev pub judged : ℕ → ℕ → ℕ → Option Run → Result Run ScheduleRefusal
judged cpus number so_far None = Err (BadWord number)
judged cpus number so_far (Some r) =
    if is_beyond cpus r.what then Err (BadCpu number)
    else (if nat_lt 1000000 (so_far + r.count) then Err (TooLong number) else Ok r)

abbrev pub Runs : Type 0
Runs = Result (List Run) ScheduleRefusal

abbrev pub after : Result Run ScheduleRefusal → (Run → Runs) → Runs
after (Ok r) rest = rest r
after (Err e) rest = Err e

-- the words from the one of this number on, after these runs
abbrev pub runs_from : ℕ → ℕ → List Run → List (List ℕ) → Runs
runs_from cpus number earlier [] = Ok earlier
runs_from cpus number earlier (w ∷ ws) =
    after (judged cpus number (turns_of earlier) (run_of w))
    (λ r. runs_from cpus (number + 1) (earlier ++ r ∷ []) ws)

-- the runs of a schedule for so many CPUs, one for each word, or the first refusal
unfoldable pub schedule : ℕ → List ℕ → Runs
schedule cpus text = runs_from cpus 1 [] (words text)

-- a call may refuse by this; want of memory may come at any time
abbrev pub MayRefuse : Runs → ScheduleRefusal → Type 0
MayRefuse meant NoMemory = ⊤
MayRefuse meant (BadWord n) = meant ≡ Err (BadWord n)
MayRefuse meant (BadCpu n) = meant ≡ Err (BadCpu n)
MayRefuse meant (TooLong n) = meant ≡ Err (TooLong n)

-- what a call answers: the runs, or a refusal
abbrev pub Answers : Runs → Runs → Type 0
Answers meant (Ok runs) = meant ≡ Ok runs
Answers meant (Err e) = MayRefuse meant e

-- ---- worked values

abbrev five_runs : List Run
five_runs =
    turns_of_digit 48 2 ∷ key_of_digit 55 ∷ turns_of_digit 49 1 ∷ return_of 0 ∷ return_of 15 ∷ []

pub forms : schedule 8 (codes "0*2 K7\n 1 R0 R15") ≡ Ok five_runs
unfolding schedule words run_of count number number_up_to is_decimal
forms = refl

pub empty : schedule 1 [] ≡ Ok []
unfolding schedule words
empty = refl

-- within a word the form comes first, then the CPU, then the length
abbrev refused : List (List ℕ × ScheduleRefusal)
refused =
    (codes "0 x", BadWord 2)
    ∷ (codes "0 1", BadCpu 2)
    ∷ (codes "0*1000000 0", TooLong 2)
    ∷ (codes "0*1000000 R0", TooLong 2)
    ∷ (codes "1*99999999999999999999", BadCpu 1)
    ∷ (codes "K1", BadCpu 1)
    ∷ (codes "0*0", BadWord 1)
    ∷ (codes "K0*2", BadWord 1)
    ∷ (codes "R16", BadWord 1)
    ∷ (codes "R01", BadWord 1)
    ∷ (codes "R", BadWord 1)
    ∷ (codes "R0*2", BadWord 1)
    ∷ []

pub refusals : map (λ r. schedule 1 r.0) refused ≡ map (λ r. Err r.1) refused
unfolding schedule words run_of count number number_up_to is_decimal
refusals = refl

-- two turns of CPU 0, the key of CPU 7, the return of core 9
abbrev four_turns : List RunKind
four_turns =
    Turns (record { 0 = 0 }) ∷ Turns (record { 0 = 0 })
    ∷ Key (record { 0 = 7 }) ∷ Return (record { 0 = 9 }) ∷ []

pub one_by_one : kinds_of (turns_of_digit 48 2 ∷ key_of_digit 55 ∷ return_of 9 ∷ []) ≡ four_turns
unfolding kinds_of
one_by_one = refl
