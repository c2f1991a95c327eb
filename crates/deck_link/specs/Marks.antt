-- Marks on the bytes of constants, by which those that clash are found.
-- Source: choice of this project.
use Rattle.std.specs.Prelude.{ℕ, zero, suc, ◌+◌, ◌*◌, Bool, false, ◌&&◌, ◌||◌, ◌==◌, not, nat_lt, if◌then◌else◌, List, [], ◌∷◌, Option, Some, None}
use Rattle.std.specs.List.{list_any}
use Rattle.deck_link.specs.declared.constants.Constant.{Constant}

-- what marks byte i of a constant; 0 marks a byte on which none stands
abbrev pub tag : ℕ → ℕ → ℕ
tag width i = width * 4 + i + 1

-- a mark of another constant
abbrev pub is_other : ℕ → ℕ → ℕ → Bool
is_other width i mark = not (mark == 0) && not (mark == tag width i)

-- another constant has one of n bytes, the first of which is byte i of the constant
abbrev pub hits : (ℕ → ℕ) → ℕ → ℕ → ℕ → ℕ → Bool
hits marks at width i zero = false
hits marks at width i (suc n) =
    is_other width i (marks (at + i)) || hits marks at width (i + 1) n

-- two constants share a byte and differ in place or width
abbrev pub overlap : ℕ → ℕ → ℕ → ℕ → Bool
overlap a w b x = not ((a == b) && (w == x)) && (nat_lt a (b + x) && nat_lt b (a + w))

abbrev pub clash : Constant → Constant → Bool
clash c d = overlap c.at c.width d.at d.width

-- the card of the first that clashes with an earlier one; the earlier ones stand with the last of
-- them first
abbrev pub clash_in : List Constant → List Constant → Option ℕ
clash_in earlier [] = None
clash_in earlier (c ∷ cs) =
    if list_any (clash c) earlier then Some c.number else clash_in (c ∷ earlier) cs
