-- EDIT and EDIT AND MARK: one step for each pattern byte, and the run over the pattern.
-- Source: Principles of Operation, chapter Decimal Instructions.
-- Choice of this project: a bad digit suppresses, and source bytes that are not used are not looked at.
use Rattle.std.specs.Prelude.{ℕ, ◌+◌, ◌-◌, ◌/◌, ◌%◌, ◌<◌, ◌≡◌, Bool, true, false, not, ◌&&◌, ◌||◌, ◌==◌, nat_lt, if◌then◌else◌, List, [], ◌∷◌, slice_index, Some, None, fold}
use Rattle.esa_model.specs.declared.codes.TheConstants.{STAYS, DATA}
use Rattle.esa_model.specs.declared.decimals.Editing.{Editing}
use Rattle.esa_model.specs.declared.decimals.SourceDigit.{SourceDigit}
use Rattle.esa_model.specs.declared.decimals.Edited.{Edited}

-- A, C, E, F
abbrev pub is_plus : ℕ → Bool
is_plus half = (half == 10) || ((half == 12) || ((half == 14) || (half == 15)))

-- the next source digit: the right half of the byte in use, or the left half of the next byte.
-- A right half that is a sign is seen with the left digit and passed over
unfoldable pub digit_of : List ℕ → Editing → SourceDigit
digit_of source e =
    if e.halfway
    then record { value = slice_index source (e.used - 1) % 16; used = e.used; halfway = false; plus = false }
    else record {
      value = slice_index source e.used / 16;
      used = e.used + 1;
      halfway = nat_lt (slice_index source e.used % 16) 10;
      plus = is_plus (slice_index source e.used % 16);
    }

-- the digit selector and the significance starter take a digit
abbrev pub takes_digit : ℕ → Bool
takes_digit p = (p == 0x20) || (p == 0x21)

abbrev pub is_separator : ℕ → Bool
is_separator p = p == 0x22

-- a digit other than zero turns the significance indicator on, the significance starter does in any case,
-- and a plus sign then turns it off
abbrev pub after_digit : Editing → ℕ → SourceDigit → Editing
after_digit e p d =
    if nat_lt 9 d.value then record e { used = d.used; bad = true }
    else record {
      at = e.at + 1;
      used = d.used;
      halfway = d.halfway;
      significant = ((e.significant || not (d.value == 0)) || (p == 0x21)) && not d.plus;
      nonzero = e.nonzero || not (d.value == 0);
      mark = if not e.significant && not (d.value == 0) then Some e.at else e.mark;
      bad = false;
    }

-- the state after a pattern byte, by the next digit. The field separator turns the indicator off and begins
-- a field, a message byte changes nothing, and a bad digit ends all
abbrev pub step_by : Editing → ℕ → SourceDigit → Editing
step_by e p d =
    if e.bad then e
    else (if takes_digit p then after_digit e p d
    else (if is_separator p then record e { at = e.at + 1; significant = false; nonzero = false }
    else record e { at = e.at + 1 }))

unfoldable pub stepped : List ℕ → Editing → ℕ → Editing
stepped source e p = step_by e p (digit_of source e)

-- the byte that replaces a pattern byte: a zoned digit, a message byte or the fill byte
abbrev pub shown_by : ℕ → Editing → ℕ → SourceDigit → ℕ
shown_by fill e p d =
    if takes_digit p then (if e.significant || not (d.value == 0) then 0xF0 + d.value else fill)
    else (if is_separator p || not e.significant then fill else p)

unfoldable pub shown : List ℕ → ℕ → Editing → ℕ → ℕ
shown source fill e p = shown_by fill e p (digit_of source e)

-- the indicator is off at first
abbrev pub start : Editing
start = record { at = 0; used = 0; halfway = false; significant = false; nonzero = false; mark = None; bad = false }

-- the state after the pattern
abbrev pub state : List ℕ → List ℕ → Editing
state source pattern = fold (stepped source) start pattern

-- the bytes that replace the pattern from a state on
abbrev pub replaced : List ℕ → ℕ → Editing → List ℕ → List ℕ
replaced source fill e [] = []
replaced source fill e (p ∷ ps) = shown source fill e p ∷ replaced source fill (stepped source e p) ps

-- the pattern after an edit; its first byte is the fill byte, and is then treated like the others
unfoldable pub edited_pattern : List ℕ → List ℕ → List ℕ
edited_pattern source pattern =
    if (state source pattern).bad then pattern
    else replaced source (slice_index pattern 0) start pattern

-- 0 where the last field has no digit other than zero, else 1 with the indicator on, 2 with it off
unfoldable pub answer : Editing → Edited
answer e =
    if e.bad then record { used = e.used; mark = None; cc = STAYS; fault = DATA }
    else record {
      used = e.used;
      mark = e.mark;
      cc = if not e.nonzero then 0 else (if e.significant then 1 else 2);
      fault = 0;
    }

-- the same bytes at the first n places
abbrev pub SameUpTo : ℕ → List ℕ → List ℕ → Type 0
SameUpTo n s t = (k : ℕ) → k < n → slice_index s k ≡ slice_index t k
