-- Words one after another.
use Rattle.std.proofs.Common.{◌≡◌, ℕ, ◌+◌, ◌<◌, List, [], ◌∷◌, ◌++◌, length, take, get_or, ap, ◌∙◌, append-nil, refl}
use Rattle.std.specs.List.{flat_map}
use Rattle.std.proofs.lemmas.Grind.{flat_map-append}
use Rattle.std.proofs.lemmas.List.{take_more}
use Rattle.run_model.specs.Numbers.{hex_text}
use Rattle.g5_debugger.specs.Words.{after_blank}

pub word_more : (ws : List ℕ) (i : ℕ) → i < length ws
    → flat_map after_blank (take (i + 1) ws)
    ≡ flat_map after_blank (take i ws) ++ after_blank (get_or ws i 0)
word_more ws i lt =
    ap (flat_map after_blank) (take_more ws i 0 lt)
    ∙ flat_map-append after_blank (take i ws) (get_or ws i 0 ∷ [])
    ∙ ap (λ z. flat_map after_blank (take i ws) ++ z) (append-nil (after_blank (get_or ws i 0)))

pub length_word : (word : ℕ) → length (hex_text 8 word) ≡ 8
unfolding hex_text
length_word word = refl
