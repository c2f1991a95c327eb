-- Words are text.
use Rattle.std.proofs.Common.{◌≡◌, ◌∙◌, ℕ, List, [], ◌∷◌, map, drop, length, Some, refl, ap, subst, arith}
use Rattle.std.specs.Prelude.{slice_get, String, string_bytes}
use Rattle.std.specs.Str.{chars, IsUtf8, encode_utf8_all}
use Rattle.std.specs.Char.{encode_utf8}
use Rattle.std.proofs.lemmas.Str.{IsUtf8-string_bytes, encodes-chars, chars_past_char}
use Rattle.std.specs.declared.alloc.Global.{Global}
use Rattle.program_model.specs.Given.{Text}
use Rattle.g5_words.proofs.Views.{Spelt}
use Rattle.g5_words.proofs.Agreement.{AllSpelt}

spelt_from : (x : ℕ) (xs : Text) → IsUtf8 (45 ∷ x ∷ xs) → (c : ℕ) × (slice_get (chars (x ∷ xs)) 0 ≡ Some c)
unfolding encode_utf8
spelt_from x xs u = go (chars (x ∷ xs)) refl
  where
    go : (cs : Text) → chars (x ∷ xs) ≡ cs → (c : ℕ) × (slice_get cs 0 ≡ Some c)
    go (c ∷ cs) e = (c, refl)
    go [] e =
        let whole : chars (45 ∷ x ∷ xs) ≡ 45 ∷ [] = chars_past_char (45 ∷ x ∷ xs) (x ∷ xs) 45 u refl ∙ ap (λ cs. 45 ∷ cs) e in
        let bytes = subst (λ cs. encode_utf8_all cs ≡ 45 ∷ x ∷ xs) whole (encodes-chars (45 ∷ x ∷ xs) u) in
        absurd (omega (arith, ap length bytes))

spelt : (word : Text) → IsUtf8 word → Spelt word
spelt word u x xs e = spelt_from x xs (subst IsUtf8 e u)

pub all_spelt : (words : List (String Global)) → AllSpelt (map string_bytes words)
all_spelt [] = tt
all_spelt (w ∷ ws) = (spelt (string_bytes w) (IsUtf8-string_bytes w), all_spelt ws)

pub rest_spelt : (words : List (String Global)) → AllSpelt (drop 1 (map string_bytes words))
rest_spelt [] = tt
rest_spelt (w ∷ ws) = all_spelt ws
