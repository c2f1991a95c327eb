-- Words between blanks, and lines between line feeds.
use Rattle.std.proofs.Common.{◌≡◌, ℕ, ◌<◌, eqb, false, List, [], ◌∷◌, length, Some, refl, sym, ap, ◌∙◌, arith}
use Rattle.std.specs.List.{filter, slice_split, join_with_byte}
use Rattle.std.proofs.lemmas.Bool.Decides.{nat_tests}
use Rattle.std.proofs.lemmas.List.Splits.{join_with_byte-slice_split, length-slice_split}
use Rattle.run_model.specs.Script.{lines, is_line_feed, without_last_empty}
use Rattle.asm_model.specs.Line.{head_words, is_word}
use Rattle.asm_lines.specs.Reading.{first_or_nothing}

-- ---- words

pub word_here :
    (w : List ℕ) (ws : List (List ℕ)) → 0 < length w
    → filter is_word (w ∷ ws) ≡ w ∷ filter is_word ws
word_here w ws h = let z : eqb (length w) 0 ≡ false = grind (arith, nat_tests) in rw z refl

pub blank_here :
    (w : List ℕ) (ws : List (List ℕ)) → length w ≡ 0
    → filter is_word (w ∷ ws) ≡ filter is_word ws
blank_here w ws h = rw h refl

pub head_is :
    (label o : List ℕ) (ws : List (List ℕ))
    → head_words label (o ∷ ws)
    ≡ Some (record { label = label; operation = o; operands = first_or_nothing ws })
head_is label o [] = refl
head_is label o (t ∷ more) = refl

-- ---- lines

pub lines_none : (t : List ℕ) → length t ≡ 0 → lines t ≡ []
unfolding lines
lines_none [] e = refl
lines_none (x ∷ xs) e = absurd (omega arith)

only : (t : List ℕ) → 0 < length t → without_last_empty (t ∷ []) ≡ t ∷ []
only t h = let z : eqb (length t) 0 ≡ false = grind (arith, nat_tests) in rw z refl

more :
    (l : List ℕ) (ps : List (List ℕ)) → 0 < length ps
    → without_last_empty (l ∷ ps) ≡ l ∷ without_last_empty ps
more l [] h = absurd (omega arith)
more l (p ∷ ps) h = refl

pub lines_last :
    (t l : List ℕ) → 0 < length t → slice_split is_line_feed t ≡ l ∷ [] → lines t ≡ l ∷ lines []
unfolding lines
lines_last t l some h =
    let same : l ≡ t = sym (ap (join_with_byte 10) h) ∙ join_with_byte-slice_split 10 t in
    ap without_last_empty h ∙ only l (rw same some)

pub lines_next :
    (t l r : List ℕ) → slice_split is_line_feed t ≡ l ∷ slice_split is_line_feed r
    → lines t ≡ l ∷ lines r
unfolding lines
lines_next t l r h =
    let count = length-slice_split is_line_feed r in
    ap without_last_empty h ∙ more l (slice_split is_line_feed r) (omega arith)
