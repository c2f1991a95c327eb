-- The clock, the clock comparator and the CPU timer: 64 bits each, bit 0 at the left.
-- Source: Principles of Operation, chapter on control (timing) and control instructions. That the clock starts at 0, that
-- each event advances it by 4,096, one unit of its bit 51, and that the timer runs with it, are choices of this project.
use Rattle.std.specs.Prelude.{ℕ, ◌+◌, ◌-◌, ◌/◌, ◌%◌, ◌^◌, ◌≡◌, nat_lt, ◌==◌, ◌||◌, Bool, if◌then◌else◌, List, [], ◌∷◌, Some, None, slice_index, slice_set, replicate, true, false, refl}
use Rattle.esa_model.specs.declared.clocks.ClockRow.{ClockRow}

-- ---- the clock words of a CPU: the comparator, the clock's value at which the timer is zero, and two that are zero

abbrev pub comparator : List ℕ → ℕ
comparator words = slice_index words 0

-- the timer: that value less the clock
abbrev pub timer : List ℕ → ℕ → ℕ
timer words clock = (slice_index words 1 + 2 ^ 64 - clock) % 2 ^ 64

-- the clock is greater than the comparator
abbrev pub passes_comparator : List ℕ → ℕ → Bool
passes_comparator words clock = nat_lt (comparator words) clock

-- the timer's leftmost bit is one
abbrev pub is_timer_negative : List ℕ → ℕ → Bool
is_timer_negative words clock = timer words clock / 2 ^ 63 == 1

-- the clock after an event
abbrev pub advanced_clock : ℕ → ℕ
advanced_clock clock = (clock + 4096) % 2 ^ 64

-- ---- the rows, from the clock words, the clock before the event, and the operand

abbrev pub sets : List ℕ → ClockRow
sets words = record { words = words; stored = None }

abbrev pub keeps : List ℕ → ℕ → ClockRow
keeps words stored = record { words = words; stored = Some stored }

-- STCK SCKC STCKC SPT STPT
abbrev pub is_clock_row : ℕ → Bool
is_clock_row op = op == 0xB205 || (op == 0xB206 || (op == 0xB207 || (op == 0xB208 || op == 0xB209)))

unfoldable pub clock_row : ℕ → List ℕ → ℕ → ℕ → ClockRow
clock_row op words clock operand =
    if op == 0xB205 then keeps words clock else
    if op == 0xB206 then sets (slice_set words 0 operand) else
    if op == 0xB207 then keeps words (comparator words) else
    if op == 0xB208 then sets (slice_set words 1 ((operand + clock) % 2 ^ 64)) else
    keeps words (timer words clock)

-- ---- worked values

-- the timer is set to 5 at the clock 4,096, and an event later it is 4,091 below zero
pub timer_set : (clock_row 0xB208 (replicate 4 0) 4096 5).words ≡ 0 ∷ 4101 ∷ 0 ∷ 0 ∷ []
unfolding clock_row
timer_set = refl

pub timer_runs : timer (0 ∷ 4101 ∷ 0 ∷ 0 ∷ []) 8192 ≡ 0xFFFFFFFFFFFFF005
timer_runs = refl

-- equal is not greater
pub comparator_reached : passes_comparator (0x2000 ∷ 0 ∷ 0 ∷ 0 ∷ []) 0x2000 ≡ false
comparator_reached = refl

pub comparator_passed : passes_comparator (0x2000 ∷ 0 ∷ 0 ∷ 0 ∷ []) 0x3000 ≡ true
comparator_passed = refl
