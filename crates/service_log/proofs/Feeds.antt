-- The lines of a text, one by one.
use Rattle.std.proofs.Common.{◌≡◌, ℕ, ◌+◌, ◌<◌, eqb, Bool, false, List, [], ◌∷◌, length, Option, Some, None, sym, ◌∙◌, ap, subst, refl, arith}
use Rattle.std.specs.Borrow.{Bor}
use Rattle.std.specs.List.{join_with_byte}
use Rattle.std.proofs.lemmas.Bool.Decides.{nat_tests}
use Rattle.std.proofs.lemmas.List.Splits.{join_with_byte-slice_split, length-slice_split}
use Rattle.run_model.specs.Script.{lines, is_line_feed, without_last_empty}
use Rattle.run_model.specs.Migrate.{Migrated, Answers, after_line, last_tail_in, lines_from, old_entry_in}
use Rattle.service_log.specs.Migrating.{AnswersEnd}
use Rattle.service_log.specs.Parts.{IsCut, cut_at}

pub lines_none : (t : List ℕ) → length t ≡ 0 → lines t ≡ []
unfolding lines
lines_none [] e = refl
lines_none (x ∷ xs) e = absurd (omega arith)

only : (t : List ℕ) → 0 < length t → without_last_empty (t ∷ []) ≡ t ∷ []
only t h = let z : eqb (length t) 0 ≡ false = grind (arith, nat_tests) in rw z refl

more :
    (l : List ℕ) (ps : List (List ℕ)) → 0 < length ps
    → without_last_empty (l ∷ ps) ≡ l ∷ without_last_empty ps
more l [] h = absurd (omega arith)
more l (p ∷ ps) h = refl

pub lines_last :
    (t l : List ℕ) → 0 < length t → cut_at 10 t ≡ l ∷ [] → lines t ≡ l ∷ lines []
unfolding lines
lines_last t l some h =
    let same : l ≡ t = sym (ap (join_with_byte 10) h) ∙ join_with_byte-slice_split 10 t in
    ap without_last_empty h ∙ only l (rw same some)

pub lines_next :
    (t l r : List ℕ) → cut_at 10 t ≡ l ∷ cut_at 10 r → lines t ≡ l ∷ lines r
unfolding lines
lines_next t l r h =
    let count = length-slice_split is_line_feed r in
    ap without_last_empty h ∙ more l (cut_at 10 r) (omega arith)

pub last_cut :
    (t l : List ℕ) (after : Option (Bor (List ℕ))) → IsCut (cut_at 10) t l after
    → after ≡ None → 0 < length t → lines t ≡ l ∷ lines []
last_cut t l None h e some = lines_last t l some h
last_cut t l (Some r) h e some = absurd (cc)

pub next_cut :
    (t l : List ℕ) (after : Option (Bor (List ℕ))) (r : Bor (List ℕ))
    → IsCut (cut_at 10) t l after → after ≡ Some r → lines t ≡ l ∷ lines r.now
next_cut t l None r h e = absurd (cc)
next_cut t l (Some s) r h e =
    let same : s ≡ r = cc in
    lines_next t l s.now h ∙ ap (λ x. l ∷ lines x.now) same

-- ---- a line that is no entry

pub ended_here :
    (fed : Bool) (n : ℕ) (so_far line : List ℕ) (after all : List (List ℕ)) (turns : Option ℕ)
    (meant answer : Migrated)
    → lines_from fed n so_far all ≡ meant → all ≡ line ∷ after → old_entry_in line ≡ None
    → turns ≡ last_tail_in line after → AnswersEnd fed n so_far turns answer
    → Answers meant answer
ended_here fed n so_far line after all turns meant answer so are none last ends =
    let rest : List ℕ → Migrated = λ text. lines_from fed (n + 1) text after in
    let step : lines_from fed n so_far all ≡ after_line fed n so_far None turns rest =
    ap (lines_from fed n so_far) are
    ∙ ap (λ o. after_line fed n so_far o (last_tail_in line after) rest) none
    ∙ ap (λ t. after_line fed n so_far None t rest) (sym last) in
    subst (λ m. Answers m answer) (sym step ∙ so) (ends rest)
