-- An address is ASCII.
use Rattle.std.proofs.Common.{◌≡◌, ℕ, zero, suc, ◌<◌, Bool, true, false, ◌&&◌, ◌==◌, List, [], ◌∷◌, length, None, refl, sym, true≢false, arith}
use Rattle.std.specs.Prelude.{slice_index}
use Rattle.std.specs.List.{list_all}
use Rattle.std.specs.Str.{IsUtf8}
use Rattle.std.proofs.lemmas.Str.{IsUtf8-from_ascii}
use Rattle.std.proofs.lemmas.Str.Ascii.{IsAscii-nil}
use Rattle.program_model.specs.Addresses.{address, is_capital_digit}

all_left : (a b : Bool) → (a && b) ≡ true → a ≡ true
all_left true b e = refl
all_left false b e = e

all_right : (a b : Bool) → (a && b) ≡ true → b ≡ true
all_right true b e = e
all_right false b e = absurd (true≢false (sym e))

capital_ascii : (b : ℕ) → is_capital_digit b ≡ true → b < 128
capital_ascii b e = grind arith

all_ascii : (t : List ℕ) → list_all is_capital_digit t ≡ true → (i : ℕ) → slice_index t i < 128
all_ascii [] e i = IsAscii-nil i
all_ascii (b ∷ bs) e zero =
    capital_ascii b (all_left (is_capital_digit b) (list_all is_capital_digit bs) e)
all_ascii (b ∷ bs) e (suc i) =
    all_ascii bs (all_right (is_capital_digit b) (list_all is_capital_digit bs) e) i

pub no_address : (t : List ℕ) → ¬ (IsUtf8 t) → address t ≡ None
unfolding address
no_address t wide = go ((length t == 6) && list_all is_capital_digit t) refl
  where
    go : (b : Bool) → ((length t == 6) && list_all is_capital_digit t) ≡ b → address t ≡ None
    go true e =
        let capital = all_right (length t == 6) (list_all is_capital_digit t) e in
        absurd (wide (IsUtf8-from_ascii t (all_ascii t capital)))
    go false e = rw e refl
