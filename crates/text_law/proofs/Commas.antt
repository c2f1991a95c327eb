-- Texts that are one piece between commas.
use Rattle.std.proofs.Common.{◌≡◌, ℕ, Bool, true, false, not, ◌&&◌, ◌||◌, List, [], ◌∷◌, ◌++◌, refl, sym, ◌∙◌, ap, append_assoc, append-nil}
use Rattle.std.specs.List.{list_any}
use Rattle.asm_model.specs.Pieces.{is_left, is_right, is_comma, is_within, piece_step, pieces}
use Rattle.text_law.proofs.Marks.{Free, free_append, none_any}

pieces_front :
    (held w rest : List ℕ) → Free is_comma w → pieces held (w ++ rest) ≡ pieces (held ++ w) rest
pieces_front held [] rest h = ap (λ xs. pieces xs rest) (sym (append-nil held))
pieces_front held (b ∷ w) rest h =
    ap (λ c. piece_step (c && not (is_within held)) held b (λ next. pieces next (w ++ rest))) h.0
    ∙ (pieces_front (held ++ b ∷ []) w rest h.1
    ∙ ap (λ xs. pieces xs rest) (append_assoc held (b ∷ []) w))

pieces_inside :
    (held rest : List ℕ) → is_within held ≡ true
    → pieces held (44 ∷ rest) ≡ pieces (held ++ 44 ∷ []) rest
pieces_inside held rest h =
    ap (λ c. piece_step (not c) held 44 (λ next. pieces next rest)) h

pub outside : (w : List ℕ) → Free is_left w → is_within w ≡ false
outside w h = ap (λ b. b && not (list_any is_right w)) (none_any is_left w h)

or_some : (b : Bool) → (b || true) ≡ true
or_some true = refl
or_some false = refl

some_any :
    (p : ℕ → Bool) (v : List ℕ) (m : ℕ) (w : List ℕ) → p m ≡ true → list_any p (v ++ m ∷ w) ≡ true
some_any p [] m w h = ap (λ b. b || list_any p w) h
some_any p (x ∷ v) m w h = ap (λ b. p x || b) (some_any p v m w h) ∙ or_some (p x)

inside : (v w : List ℕ) → Free is_right v → Free is_right w → is_within (v ++ 40 ∷ w) ≡ true
inside v w h k =
    let r : Free is_right (v ++ 40 ∷ w) = free_append is_right v (40 ∷ w) h (refl, k) in
    ap (λ b. b && not (list_any is_right (v ++ 40 ∷ w))) (some_any is_left v 40 w refl)
    ∙ ap not (none_any is_right (v ++ 40 ∷ w) r)

and_no : (b : Bool) → (b && false) ≡ false
and_no true = refl
and_no false = refl

-- what ends with a right parenthesis is closed
closed_again : (v : List ℕ) → is_within (v ++ 41 ∷ []) ≡ false
closed_again v =
    ap (λ b. list_any is_left (v ++ 41 ∷ []) && not b) (some_any is_right v 41 [] refl)
    ∙ and_no (list_any is_left (v ++ 41 ∷ []))

-- ---- a text that is one piece, whatever comma follows

pub record IsPiece (w : List ℕ) : Type 0 where
  pub front : (rest : List ℕ) → pieces [] (w ++ rest) ≡ pieces w rest
  pub closed : is_within w ≡ false

pub free_piece : (w : List ℕ) → Free is_comma w → is_within w ≡ false → IsPiece w
free_piece w f c = record { front = λ rest. pieces_front [] w rest f; closed = c }

-- v(w,x) where no mark stands in v, w and x
pub indexed_piece :
    (v w x : List ℕ) → Free is_comma v → Free is_comma w → Free is_comma x → Free is_right v
    → Free is_right w → IsPiece (v ++ 40 ∷ (w ++ 44 ∷ (x ++ 41 ∷ [])))
indexed_piece v w x cv cw cx rv rw =
    let head = v ++ 40 ∷ w in
    let tail = x ++ 41 ∷ [] in
    let whole = v ++ 40 ∷ (w ++ 44 ∷ tail) in
    let fh : Free is_comma head = free_append is_comma v (40 ∷ w) cv (refl, cw) in
    let ft : Free is_comma tail = free_append is_comma x (41 ∷ []) cx (refl, tt) in
    let same : head ++ 44 ∷ tail ≡ whole = append_assoc v (40 ∷ w) (44 ∷ tail) in
    let last : (head ++ 44 ∷ x) ++ 41 ∷ [] ≡ whole = append_assoc head (44 ∷ x) (41 ∷ []) ∙ same in
    record {
      front = λ rest.
          ap (λ xs. pieces [] (xs ++ rest)) (sym same)
          ∙ (ap (pieces []) (append_assoc head (44 ∷ tail) rest)
          ∙ (pieces_front [] head (44 ∷ (tail ++ rest)) fh
          ∙ (pieces_inside head (tail ++ rest) (inside v w rv rw)
          ∙ (pieces_front (head ++ 44 ∷ []) tail rest ft
          ∙ ap (λ xs. pieces xs rest) (append_assoc head (44 ∷ []) tail ∙ same)))));
      closed = ap is_within (sym last) ∙ closed_again (head ++ 44 ∷ x);
    }

pub based_piece :
    (v w : List ℕ) → Free is_comma v → Free is_comma w → IsPiece (v ++ 40 ∷ (w ++ 41 ∷ []))
based_piece v w cv cw =
    let tail = w ++ 41 ∷ [] in
    let same : (v ++ 40 ∷ w) ++ 41 ∷ [] ≡ v ++ 40 ∷ tail = append_assoc v (40 ∷ w) (41 ∷ []) in
    let ft : Free is_comma tail = free_append is_comma w (41 ∷ []) cw (refl, tt) in
    free_piece (v ++ 40 ∷ tail) (free_append is_comma v (40 ∷ tail) cv (refl, ft))
    (ap is_within (sym same) ∙ closed_again (v ++ 40 ∷ w))

-- ---- pieces one after another

outside_comma :
    (held rest : List ℕ) → is_within held ≡ false
    → pieces held (44 ∷ rest) ≡ held ∷ pieces [] rest
outside_comma held rest h =
    ap (λ c. piece_step (not c) held 44 (λ next. pieces next rest)) h

pub first_piece :
    (w rest : List ℕ) → IsPiece w → pieces [] (w ++ 44 ∷ rest) ≡ w ∷ pieces [] rest
first_piece w rest h = h.front (44 ∷ rest) ∙ outside_comma w rest h.closed

pub last_piece : (w : List ℕ) → IsPiece w → pieces [] w ≡ w ∷ []
last_piece w h = ap (pieces []) (sym (append-nil w)) ∙ h.front []
