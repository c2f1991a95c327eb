-- The numbers of heads and tails, as calls give them. Source: choice of this project.
use Rattle.std.specs.Prelude.{ℕ, ◌≤◌, ◌<◌, ◌^◌, ◌≡◌, List, Option, Some, option_and_then, option_map}
use Rattle.run_model.specs.LogLines.{heading, head_line, tail}
use Rattle.run_model.specs.LogLines.{Heading as Numbers}
use Rattle.run_model.specs.LogReading.{content, ending, head_in, tail_in}
use Rattle.run_model.specs.LogReading.{Ending as EndNumbers}
use Rattle.service_log.specs.declared.ends.Ending.{Ending}
use Rattle.service_log.specs.declared.ends.Heading.{Heading}

abbrev pub numbers : Option Heading → Option Numbers
numbers h = option_map (λ n. heading n.cpus n.spares n.threshold) h

abbrev pub end_numbers : Option Ending → Option EndNumbers
end_numbers e = option_map (λ n. ending n.turns n.returned) e

-- a machine may be made with these numbers
pub record IsOfMachine (h : Heading) : Type 0 where
  pub some_cpu : 1 ≤ h.cpus
  pub cpus : h.cpus ≤ 8
  pub spares : h.spares ≤ 8
  pub threshold : h.threshold ≤ 15

-- the numbers of a line of version 2 that is a head, and of one that is a tail; each with its line
-- feed
unfoldable pub head_of_line : List ℕ → Option Numbers
head_of_line line = option_and_then head_in (content line)

unfoldable pub tail_of_line : List ℕ → Option EndNumbers
tail_of_line line = option_and_then tail_in (content line)

-- a head that is written is read as its numbers, and so is a tail
abbrev pub HeadIsRead : Type 0
HeadIsRead =
    (c s t : ℕ) → 1 ≤ c → c ≤ 8 → s ≤ 8 → t ≤ 15
    → head_of_line (head_line (heading c s t)) ≡ Some (heading c s t)

abbrev pub TailIsRead : Type 0
TailIsRead =
    (n m : ℕ) → n < 2 ^ 64 → m < 2 ^ 64 → tail_of_line (tail n m) ≡ Some (ending n m)
