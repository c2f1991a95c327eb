-- The generator: a deck, a schedule and a fault script that are drawn from one number, in this
-- order. Source: choice of this project.
use Rattle.std.specs.Prelude.{ℕ, zero, suc, ◌+◌, ◌-◌, ◌*◌, ◌/◌, ◌%◌, ◌≡◌, ◌==◌, min, if◌then◌else◌, List, [], ◌∷◌, ◌++◌, length, flat_map, Option, Some, None, codes, refl}
use Rattle.std.specs.Fmt.{digits}
use Rattle.esa_model.specs.Bus.{cpu_no}
use Rattle.run_model.specs.Numbers.{decimal}
use Rattle.run_model.specs.Schedule.{run}
use Rattle.run_model.specs.Script.{core_no}
use Rattle.run_model.specs.declared.faults.CoreNo.{CoreNo}
use Rattle.run_model.specs.declared.faults.Strike.{Strike}
use Rattle.run_model.specs.declared.faults.Strike.TheVariants.{Packet, Fetch, Store, Word}
use Rattle.run_model.specs.declared.faults.Unit.{Unit}
use Rattle.run_model.specs.declared.faults.Unit.TheVariants.{A, B}
use Rattle.run_model.specs.declared.logs.Config.{Config}
use Rattle.run_model.specs.declared.schedules.Run.{Run}
use Rattle.run_model.specs.declared.schedules.RunKind.{RunKind}
use Rattle.run_model.specs.declared.schedules.RunKind.TheVariants.{Turns, Key, Return}
use Rattle.program_model.specs.Draws.{after, draw}
use Rattle.program_model.specs.GeneratedDeck.{deck, deck_draws}

-- ---- the schedule: 32 turns of CPU 0, then turns of CPUs that are drawn, 8 to 16 at once

abbrev pub turns_of : ℕ → ℕ → Run
turns_of cpu count = run (Turns (cpu_no cpu)) count

-- for so many turns that are left, the last of them cut; at most so many words
abbrev pub drawn_runs : ℕ → ℕ → ℕ → List Run
drawn_runs zero left x = []
drawn_runs (suc most) left x =
    if left == 0 then []
    else (let count = min left (8 + draw 2 x % 9) in
    turns_of (draw 1 x % 8) count ∷ drawn_runs most (left - count) (after 2 x))

-- behind the first 32 turns
unfoldable pub later_runs : ℕ → ℕ → List Run
later_runs turns x = drawn_runs ((turns - 32 + 7) / 8) (turns - 32) x

abbrev pub schedule_runs : ℕ → ℕ → List Run
schedule_runs turns x = turns_of 0 (min turns 32) ∷ later_runs turns x

abbrev pub kind_text : RunKind → ℕ → List ℕ
kind_text (Turns cpu) count = decimal cpu.0 ++ codes "*" ++ decimal count
kind_text (Key cpu) count = codes "K" ++ decimal cpu.0
kind_text (Return core) count = codes "R" ++ decimal core.0

abbrev pub run_text : Run → List ℕ
run_text r = kind_text r.what r.count

-- one blank parts the words
unfoldable pub schedule : ℕ → ℕ → List ℕ
schedule turns x =
    run_text (turns_of 0 (min turns 32))
    ++ flat_map (λ (r : Run). codes " " ++ run_text r) (later_runs turns x)

-- the draws that it takes
unfoldable pub schedule_draws : ℕ → ℕ → ℕ
schedule_draws turns x = 2 * length (later_runs turns x)

-- ---- the script: a line for each 500 turns, the attempt and the sort drawn first

abbrev pub strike : ℕ → CoreNo → ℕ → ℕ → ℕ → Strike
strike sort core attempt d e =
    if sort == 0 then Packet core attempt A (d % 4096) (Some 1)
    else (if sort == 1 then Fetch core attempt (d % 65)
    else (if sort == 2 then Store core attempt (d % 4097)
    else Word core attempt (d % 36) (e % 39)))

-- a word and its bit take two draws
abbrev pub draws_of_sort : ℕ → ℕ
draws_of_sort sort = if sort == 3 then 4 else 3

-- so many lines, from number j on
abbrev pub strikes : ℕ → ℕ → ℕ → List Strike
strikes zero j x = []
strikes (suc n) j x =
    strike (draw 2 x % 4) (core_no (j % 8)) (50 * (j / 8) + draw 1 x % 32) (draw 3 x) (draw 4 x)
    ∷ strikes n (j + 1) (after (draws_of_sort (draw 2 x % 4)) x)

abbrev pub unit_text : Unit → List ℕ
unit_text A = codes "A"
unit_text B = codes "B"

abbrev pub attempts_text : Option ℕ → List ℕ
attempts_text None = codes "*"
attempts_text (Some n) = decimal n

-- a blank and a number
abbrev pub and_number : ℕ → List ℕ
and_number n = codes " " ++ decimal n

abbrev pub strike_text : Strike → List ℕ
strike_text (Packet core attempt unit bit count) =
    codes "U" ++ and_number core.0 ++ and_number attempt
    ++ codes " " ++ unit_text unit ++ and_number bit ++ codes " " ++ attempts_text count
strike_text (Fetch core attempt bit) =
    codes "F" ++ and_number core.0 ++ and_number attempt ++ and_number bit
strike_text (Store core attempt bit) =
    codes "S" ++ and_number core.0 ++ and_number attempt ++ and_number bit
strike_text (Word core attempt word bit) =
    codes "W" ++ and_number core.0 ++ and_number attempt ++ and_number word ++ and_number bit

-- a line feed ends each line
unfoldable pub script : List Strike → List ℕ
script ls = flat_map (λ s. strike_text s ++ 10 ∷ []) ls

-- ---- all of it

pub record Generated : Type 0 where
  pub deck : List ℕ
  pub schedule : List ℕ
  pub script : List ℕ

abbrev pub generated_strikes : ℕ → ℕ → List Strike
generated_strikes number turns =
    let x = after deck_draws number in
    strikes (turns / 500) 0 (after (schedule_draws turns x) x)

-- what is drawn from a number, for so many turns
unfoldable pub generated : ℕ → ℕ → Generated
generated number turns = record {
  deck = deck number;
  schedule = schedule turns (after deck_draws number);
  script = script (generated_strikes number turns);
}

-- it runs with this configuration, and without console input
abbrev pub generated_config : Config
generated_config = record { cpus = 8; spares = 1; pages = 32; threshold = 3 }

-- ---- worked values

pub two_turns : (generated 1 2).schedule ≡ codes "0*2"
unfolding after draw later_runs schedule generated digits
two_turns = refl

pub fifty_turns : (generated 1 50).schedule ≡ codes "0*32 4*11 7*7"
unfolding after draw later_runs schedule generated digits
fifty_turns = refl

pub no_strikes : (generated 1 499).script ≡ []
unfolding after draw later_runs schedule_draws script generated digits
no_strikes = refl

pub first_strikes : (generated 7 1000).script ≡ codes "W 0 1 27 19\nS 1 15 2612\n"
unfolding after draw later_runs schedule_draws script generated digits
first_strikes = refl
