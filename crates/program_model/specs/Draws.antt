-- The stream of numbers that the generator draws. Source: choice of this project.
use Rattle.std.specs.Prelude.{ℕ, ◌+◌, ◌*◌, ◌/◌, ◌%◌, ◌^◌, ◌≡◌, refl}
use Rattle.std.specs.Fn.{iterate}

-- the number behind the stream, which each draw replaces
abbrev pub next : ℕ → ℕ
next x = (x * 1664525 + 1013904223) % 2 ^ 32

-- after so many draws
unfoldable pub after : ℕ → ℕ → ℕ
after n x = iterate next n x

-- the n-th draw, from 1, where x stands behind the stream
unfoldable pub draw : ℕ → ℕ → ℕ
draw n x = after n x / 65536

-- ---- worked values

pub first_of_one : draw 1 1 ≡ 15496
unfolding after draw
first_of_one = refl

pub second_of_one : draw 2 1 ≡ 24200
unfolding after draw
second_of_one = refl

pub third_of_seven : draw 3 7 ≡ 40140
unfolding after draw
third_of_seven = refl
