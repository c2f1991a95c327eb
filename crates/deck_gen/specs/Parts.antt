-- Parts of the generated texts. Source: choice of this project.
use Rattle.std.specs.Prelude.{ℕ, ◌+◌, ◌*◌, ◌/◌, ◌%◌, List, ◌++◌, codes, flat_map, replicate}
use Rattle.deck_model.specs.CardWriting.{card_bytes}
use Rattle.deck_model.specs.declared.cards.Card.{Card}
use Rattle.program_model.specs.Draws.{draw}
use Rattle.program_model.specs.Generator.{run_text, later_runs, strike, draws_of_sort}
use Rattle.run_model.specs.Script.{core_no}
use Rattle.run_model.specs.declared.faults.Strike.{Strike}
use Rattle.run_model.specs.declared.schedules.Run.{Run}

-- columns 73 to 80
abbrev pub blank_sequence : List ℕ
blank_sequence = replicate 8 0x40

-- cards one behind another
abbrev pub bytes_of_cards : List Card → List ℕ
bytes_of_cards cs = flat_map (λ c. card_bytes c blank_sequence) cs

-- words of a schedule, each behind a blank
abbrev pub behind_blanks : List Run → List ℕ
behind_blanks runs = flat_map (λ (r : Run). codes " " ++ run_text r) runs

-- the words behind the first 32 turns
abbrev pub later_text : ℕ → ℕ → List ℕ
later_text turns x = behind_blanks (later_runs turns x)

-- the strike of the script's line j, from 0
abbrev pub next_strike : ℕ → ℕ → Strike
next_strike j x =
    strike (draw 2 x % 4) (core_no (j % 8)) (50 * (j / 8) + draw 1 x % 32) (draw 3 x) (draw 4 x)

-- the draws that it takes
abbrev pub next_draws : ℕ → ℕ
next_draws x = draws_of_sort (draw 2 x % 4)
