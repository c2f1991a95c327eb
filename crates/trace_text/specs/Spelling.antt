-- A line from the left, as it is written: its start, and then the changed bytes one by one.
-- Source: choice of this project.
use Rattle.std.specs.Prelude.{ℕ, ◌+◌, ◌==◌, Bool, true, false, not, List, [], ◌∷◌, ◌++◌, Option, Some, None, codes}
use Rattle.run_model.specs.Numbers.{decimal, hex_text}
use Rattle.run_model.specs.Trace.{stretch_start}
use Rattle.esa_model.specs.declared.changes.Changed.{Changed}
use Rattle.esa_model.specs.declared.machine.Psw.{Psw}

-- the line as far as the PSW
abbrev pub line_start : ℕ → ℕ → Psw → List ℕ
line_start commit cpu psw =
    decimal commit ++ codes " C" ++ decimal cpu ++ codes " " ++ hex_text 8 psw.w0
    ++ codes " " ++ hex_text 8 psw.w1

-- the byte stands at the address that goes on
abbrev pub goes_on : Option ℕ → Changed → Bool
goes_on None c = false
goes_on (Some next) c = next == c.at

-- a byte, with its address where it is the first of a stretch
abbrev pub spelled_byte : Bool → Changed → List ℕ
spelled_byte true c = stretch_start c.at ++ hex_text 2 c.byte
spelled_byte false c = hex_text 2 c.byte

-- the bytes after one at the address before this
abbrev pub spelled : Option ℕ → List Changed → List ℕ
spelled next [] = []
spelled next (c ∷ cs) = spelled_byte (not (goes_on next c)) c ++ spelled (Some (c.at + 1)) cs
