-- An operand's text, byte by byte.
use Rattle.std.proofs.Common.{◌≡◌, ℕ, zero, suc, ◌+◌, ◌-◌, ◌<◌, ◌≤◌, Bool, true, false, cond, not, eqb, ◌&&◌, ◌||◌, List, [], ◌∷◌, ◌++◌, length, take, drop, get_or, refl, sym, ◌∙◌, ap, arith, length-drop}
use Rattle.std.proofs.lemmas.Bool.Decides.{nat_tests}
use Rattle.std.proofs.lemmas.List.{take_all, take_more, drop_more, drop-drop}
use Rattle.std.specs.List.{list_any}
use Rattle.asm_model.specs.Pieces.{pieces, piece_step, is_left, is_right}
use Rattle.asm_words.specs.Cuts.{pieces_at, IsInPiece}

drop_end : (xs : List ℕ) → drop (length xs) xs ≡ []
drop_end [] = refl
drop_end (x ∷ xs) = drop_end xs

or_none : (b : Bool) → (b || false) ≡ b
or_none true = refl
or_none false = refl

or_more : (a b c : Bool) → (a || (b || c)) ≡ ((a || b) || c)
or_more true b c = refl
or_more false b c = refl

any_next :
    (p : ℕ → Bool) (xs : List ℕ) (x : ℕ) → list_any p (xs ++ x ∷ []) ≡ (list_any p xs || p x)
any_next p [] x = or_none (p x)
any_next p (y ∷ ys) x =
    ap (λ b. p y || b) (any_next p ys x) ∙ or_more (p y) (list_any p ys) (p x)

pub at_start : (text : List ℕ) → IsInPiece text 0 false false
at_start text = record { rest = refl; opened = refl; shut = refl }

abbrev stops : ℕ → Bool → Bool → Bool
stops b left right = eqb b 44 && not (left && not right)

next_is :
    (text : List ℕ) (i : ℕ) (left right : Bool) → i < length text → IsInPiece text i left right
    → pieces [] text
    ≡ piece_step (stops (get_or text i 0) left right) (take i text) (get_or text i 0)
    (λ next. pieces next (drop (i + 1) text))
next_is text i left right h p =
    let b : ℕ = get_or text i 0 in
    let after : List ℕ → List (List ℕ) = λ next. pieces next (drop (i + 1) text) in
    p.rest
    ∙ (ap (pieces (take i text)) (drop_more text i 0 h)
    ∙ (ap (λ l. piece_step (stops b l (list_any is_right (take i text))) (take i text) b after)
    (sym p.opened)
    ∙ ap (λ r. piece_step (stops b left r) (take i text) b after) (sym p.shut)))

pub piece_ends :
    (text : List ℕ) (i : ℕ) (left right : Bool) → i < length text → IsInPiece text i left right
    → stops (get_or text i 0) left right ≡ true → pieces [] text ≡ pieces_at text i
piece_ends text i left right h p e =
    let n : eqb i (length text) ≡ false = grind (arith, nat_tests) in
    next_is text i left right h p
    ∙ (ap (λ b. piece_step b (take i text) (get_or text i 0)
    (λ next. pieces next (drop (i + 1) text))) e
    ∙ sym (ap (λ b. cond b (text ∷ []) (take i text ∷ pieces [] (drop (i + 1) text))) n))

pub piece_goes :
    (text : List ℕ) (i : ℕ) (left right : Bool) → i < length text → IsInPiece text i left right
    → stops (get_or text i 0) left right ≡ false
    → IsInPiece text (i + 1) (left || eqb (get_or text i 0) 40) (right || eqb (get_or text i 0) 41)
piece_goes text i left right h p e =
    let t = take_more text i 0 h in
    let b : ℕ = get_or text i 0 in
    record {
      rest = next_is text i left right h p
          ∙ (ap (λ c. piece_step c (take i text) b (λ next. pieces next (drop (i + 1) text))) e
          ∙ ap (λ xs. pieces xs (drop (i + 1) text)) (sym t));
      opened = ap (λ l. l || eqb b 40) p.opened
          ∙ (sym (any_next is_left (take i text) b) ∙ ap (list_any is_left) (sym t));
      shut = ap (λ r. r || eqb b 41) p.shut
          ∙ (sym (any_next is_right (take i text) b) ∙ ap (list_any is_right) (sym t));
    }

pub piece_whole :
    (text : List ℕ) (i : ℕ) (left right : Bool) → i ≡ length text → IsInPiece text i left right
    → pieces [] text ≡ pieces_at text (length text)
piece_whole text i left right e p =
    let n : eqb (length text) (length text) ≡ true = grind (arith, nat_tests) in
    let t : take i text ≡ text = take_all i text (omega (arith, e)) in
    let d : drop i text ≡ [] = ap (λ k. drop k text) e ∙ drop_end text in
    p.rest
    ∙ (ap (pieces (take i text)) d
    ∙ (ap (λ xs. xs ∷ []) t
    ∙ sym (ap (λ b. cond b (text ∷ [])
    (take (length text) text ∷ pieces [] (drop (length text + 1) text))) n)))

-- ---- cut where the first piece ends

pub last_piece :
    (t l tail : List ℕ) (n : ℕ) → pieces [] t ≡ pieces_at t n → n ≤ length t → l ≡ take n t
    → tail ≡ drop n t → length tail ≡ 0 → pieces [] t ≡ l ∷ []
last_piece t l tail n e within le te none =
    let m : length tail ≡ length t - n = ap length te ∙ length-drop n t in
    let whole : n ≡ length t = omega arith in
    let y : eqb n (length t) ≡ true = grind (arith, nat_tests) in
    e
    ∙ (ap (λ b. cond b (t ∷ []) (take n t ∷ pieces [] (drop (n + 1) t))) y
    ∙ ap (λ x. x ∷ []) (sym (le ∙ take_all n t (omega arith))))

pub first_piece :
    (t l tail after : List ℕ) (n : ℕ) → pieces [] t ≡ pieces_at t n → l ≡ take n t
    → tail ≡ drop n t → 0 < length tail → after ≡ drop 1 tail
    → pieces [] t ≡ l ∷ pieces [] after
first_piece t l tail after n e le te some ae =
    let m : length tail ≡ length t - n = ap length te ∙ length-drop n t in
    let lt : n < length t = omega arith in
    let no : eqb n (length t) ≡ false = grind (arith, nat_tests) in
    let is : after ≡ drop (n + 1) t = ae ∙ (ap (drop 1) te ∙ drop-drop 1 n t) in
    e
    ∙ (ap (λ b. cond b (t ∷ []) (take n t ∷ pieces [] (drop (n + 1) t))) no
    ∙ (ap (λ x. x ∷ pieces [] (drop (n + 1) t)) (sym le)
    ∙ ap (λ x. l ∷ pieces [] x) (sym is)))
