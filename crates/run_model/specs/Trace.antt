-- The line of the trace that a commit writes. Source: choice of this project.
use Rattle.std.specs.Prelude.{ℕ, ◌≡◌, List, [], ◌∷◌, ◌++◌, flat_map, codes, refl}
use Rattle.run_model.specs.Numbers.{decimal, hex_text}
use Rattle.std.specs.Fmt.{digits}
use Rattle.esa_model.specs.Changes.{Stretch, stretches, changed_bytes}
use Rattle.esa_model.specs.declared.changes.Changed.{Changed}
use Rattle.esa_model.specs.declared.machine.Psw.{Psw}

-- a blank, the first address and `=`
abbrev pub stretch_start : ℕ → List ℕ
stretch_start first = codes " " ++ hex_text 6 first ++ codes "="

abbrev pub bytes_text : List ℕ → List ℕ
bytes_text bytes = flat_map (λ b. hex_text 2 b) bytes

abbrev pub stretch_text : Stretch → List ℕ
stretch_text s = stretch_start s.first ++ bytes_text s.bytes

unfoldable pub changes_text : List Changed → List ℕ
changes_text cs = flat_map stretch_text (stretches cs)

-- the commit's number, `C` and the CPU, the two words of the PSW after it, what it changed
unfoldable pub trace_line : ℕ → ℕ → Psw → List Changed → List ℕ
trace_line commit cpu psw changed =
    decimal commit ++ codes " C" ++ decimal cpu ++ codes " " ++ hex_text 8 psw.w0 ++ codes " " ++ hex_text 8 psw.w1
    ++ changes_text changed ++ 10 ∷ []

-- worked values
pub two_stretches : changes_text (changed_bytes (0 ∷ 1 ∷ 2 ∷ 3 ∷ []) (9 ∷ 171 ∷ 2 ∷ 4 ∷ [])) ≡ codes " 000000=09AB 000003=04"
unfolding changes_text hex_text changed_bytes
two_stretches = refl

pub first_line : trace_line 1 0 (record { w0 = 0x00080000; w1 = 0x80010004 }) [] ≡ codes "1 C0 00080000 80010004" ++ 10 ∷ []
unfolding trace_line changes_text hex_text digits
first_line = refl
