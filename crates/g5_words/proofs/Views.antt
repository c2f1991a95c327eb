-- What a word looks like, in one of four ways.
use Rattle.std.proofs.Common.{◌≡◌, ℕ, ◌==◌, Bool, true, false, [], ◌∷◌, Option, Some, None, refl, ap, arith}
use Rattle.std.specs.Str.{bytes_eq, chars}
use Rattle.std.specs.Prelude.{slice_get}
use Rattle.clap.specs.Lexer.{long_of, short_of}
use Rattle.program_model.specs.Given.{Text, is_name, option_of, cut}

abbrev pub dash_dash : Text
dash_dash = 45 ∷ 45 ∷ []

-- the characters of the text after a hyphen are some
abbrev pub Spelt : Text → Type 0
Spelt word = (x : ℕ) (xs : Text) → word ≡ 45 ∷ x ∷ xs → (c : ℕ) × (slice_get (chars (x ∷ xs)) 0 ≡ Some c)

pub data View (word : Text) : Type 0 where
  dashes : bytes_eq word dash_dash ≡ true → View word
  plain : bytes_eq word dash_dash ≡ false → long_of word ≡ None → short_of word ≡ None → is_name word ≡ true → View word
  long : (p : Text × Option Text) → bytes_eq word dash_dash ≡ false → long_of word ≡ Some p → is_name word ≡ false → option_of word ≡ Some p → View word
  short : (x : ℕ) (xs : Text) → bytes_eq word dash_dash ≡ false → long_of word ≡ None → short_of word ≡ Some (x ∷ xs) → is_name word ≡ false → option_of word ≡ None → word ≡ 45 ∷ x ∷ xs → View word

hyphen : (b : ℕ) → (b == 45) ≡ true → b ≡ 45
hyphen b e = grind (arith, e)

pub view : (word : Text) → View word
view [] = plain refl refl refl refl
view (b ∷ []) = one (b == 45) refl
  where
    one : (t : Bool) → (b == 45) ≡ t → View (b ∷ [])
    one true e = plain (rw e refl) (rw e refl) (rw e refl) refl
    one false e = plain (rw e refl) (rw e refl) (rw e refl) refl
view (b ∷ c ∷ []) = two (b == 45) (c == 45) refl refl
  where
    two : (t u : Bool) → (b == 45) ≡ t → (c == 45) ≡ u → View (b ∷ c ∷ [])
    two false u e f = plain (rw e refl) (rw e refl) (rw e refl) (rw e refl)
    two true true e f = dashes (rw (e, f) refl)
    two true false e f = short c [] (rw (e, f) refl) (rw (e, f) refl) (rw (e, f) refl) (rw e refl) refl (ap (λ h. h ∷ c ∷ []) (hyphen b e))
view (b ∷ c ∷ d ∷ bs) = more (b == 45) (c == 45) refl refl
  where
    more : (t u : Bool) → (b == 45) ≡ t → (c == 45) ≡ u → View (b ∷ c ∷ d ∷ bs)
    more false u e f = plain (rw e refl) (rw e refl) (rw e refl) (rw e refl)
    more true true e f = long (cut (d ∷ bs)) (rw (e, f) refl) (rw (e, f) refl) (rw e refl) (rw (e, f) refl)
    more true false e f = short c (d ∷ bs) (rw (e, f) refl) (rw (e, f) refl) (rw (e, f) refl) (rw e refl) (rw (e, f) refl) (ap (λ h. h ∷ c ∷ d ∷ bs) (hyphen b e))
