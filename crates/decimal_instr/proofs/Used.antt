-- An edit depends on the source bytes that it uses, and on no other.
use Rattle.std.proofs.Common.{◌≡◌, ℕ, ◌+◌, ◌-◌, ◌/◌, ◌%◌, ◌≤◌, Bool, true, false, not, cond, ◌&&◌, ◌||◌, eqb, ltb, List, [], ◌∷◌, get_or, refl, ap, sym, ◌∙◌, arith}
use Rattle.std.specs.Prelude.{fold, Some, None}
use Rattle.esa_model.specs.declared.codes.TheConstants.{STAYS, DATA}
use Rattle.esa_model.specs.declared.decimals.Editing.{Editing}
use Rattle.esa_model.specs.declared.decimals.SourceDigit.{SourceDigit}
use Rattle.esa_model.specs.declared.decimals.Edited.{Edited}
use Rattle.esa_model.specs.Edit.{is_plus, digit_of, takes_digit, stepped, shown, start, state, replaced, answer, edited_pattern, SameUpTo}

-- the right half that is next stands in a byte that was used
abbrev Fine : Editing → Type 0
Fine e = e.halfway ≡ true → 1 ≤ e.used

-- the digit that is read where a byte is in use, and where none is
abbrev digit_by : Bool → List ℕ → ℕ → SourceDigit
digit_by true s u =
    record { value = get_or s (u - 1) 0 % 16; used = u; halfway = false; plus = false }
digit_by false s u = record {
  value = get_or s u 0 / 16;
  used = u + 1;
  halfway = ltb (get_or s u 0 % 16) 10;
  plus = is_plus (get_or s u 0 % 16);
}

abbrev half_digit : ℕ → ℕ → SourceDigit
half_digit b u = record { value = b % 16; used = u; halfway = false; plus = false }

abbrev whole_digit : ℕ → ℕ → SourceDigit
whole_digit b u =
    record { value = b / 16; used = u + 1; halfway = ltb (b % 16) 10; plus = is_plus (b % 16) }

by_half : (h : Bool) (s : List ℕ) (u : ℕ)
    → cond h (half_digit (get_or s (u - 1) 0) u) (whole_digit (get_or s u 0) u) ≡ digit_by h s u
by_half true s u = refl
by_half false s u = refl

digit_is : (s : List ℕ) (e : Editing) → digit_of s e ≡ digit_by e.halfway s e.used
unfolding digit_of
digit_is s e = by_half e.halfway s e.used

digit_used : (h : Bool) (s : List ℕ) (u : ℕ) → u ≤ (digit_by h s u).used
digit_used true s u = omega arith
digit_used false s u = omega arith

digit_fine : (h : Bool) (s : List ℕ) (u : ℕ) → (digit_by h s u).halfway ≡ true
    → 1 ≤ (digit_by h s u).used
digit_fine true s u e = absurd (cc e)
digit_fine false s u e = omega arith

digit_same : (h : Bool) (s t : List ℕ) (u : ℕ) → (h ≡ true → 1 ≤ u)
    → SameUpTo (digit_by h s u).used s t → digit_by h t u ≡ digit_by h s u
digit_same true s t u fine same =
    let f = fine refl in
    let e = same (u - 1) (omega arith) in
    ap (λ b. half_digit b u) (sym e)
digit_same false s t u fine same =
    let e = same u (omega arith) in
    ap (λ b. whole_digit b u) (sym e)

-- after a step no fewer bytes are used
abbrev after_by : Bool → Bool → Bool → Bool → Editing → ℕ → SourceDigit → Editing
after_by bad digit bad_digit field e p d =
    cond bad e (cond digit (cond bad_digit (record e { used = d.used; bad = true }) (record {
      at = e.at + 1;
      used = d.used;
      halfway = d.halfway;
      significant = ((e.significant || not (eqb d.value 0)) || eqb p 0x21) && not d.plus;
      nonzero = e.nonzero || not (eqb d.value 0);
      mark = cond (not e.significant && not (eqb d.value 0)) (Some e.at) e.mark;
      bad = false;
    }))
    (cond field (record e { at = e.at + 1; significant = false; nonzero = false })
    (record e { at = e.at + 1 })))

used_more : (a b c f : Bool) (e : Editing) (p : ℕ) (d : SourceDigit) → e.used ≤ d.used
    → e.used ≤ (after_by a b c f e p d).used
used_more true b c f e p d h = omega arith
used_more false true true f e p d h = h
used_more false true false f e p d h = h
used_more false false c true e p d h = omega arith
used_more false false c false e p d h = omega arith

fine_more : (a b c f : Bool) (e : Editing) (p : ℕ) (d : SourceDigit) → e.used ≤ d.used → Fine e
    → (d.halfway ≡ true → 1 ≤ d.used) → Fine (after_by a b c f e p d)
fine_more true b c f e p d h fine next = fine
fine_more false true true f e p d h fine next = λ t. let g = fine t in omega arith
fine_more false true false f e p d h fine next = next
fine_more false false c true e p d h fine next = fine
fine_more false false c false e p d h fine next = fine

-- a step that looks at no digit does not depend on it
same_more : (a b c g f : Bool) (e : Editing) (p : ℕ) (d x : SourceDigit)
    → ((c ≡ ltb 9 d.value) × (g ≡ ltb 9 x.value)) → (SameDigit : (a ≡ false) → (b ≡ true) → x ≡ d)
    → after_by a b (ltb 9 x.value) f e p x ≡ after_by a b (ltb 9 d.value) f e p d
same_more true b c g f e p d x h s = refl
same_more false true c g f e p d x h s =
    ap (λ (y : SourceDigit). after_by false true (ltb 9 y.value) f e p y) (s refl refl)
same_more false false c g f e p d x h s = refl

step_used : (s : List ℕ) (e : Editing) (p : ℕ) → e.used ≤ (stepped s e p).used
unfolding stepped
step_used s e p =
    let d = digit_is s e in
    let u = digit_used e.halfway s e.used in
    let le : e.used ≤ (digit_of s e).used = omega (arith, ap (λ (y : SourceDigit). y.used) d) in
    used_more e.bad (takes_digit p) (ltb 9 (digit_of s e).value) (eqb p 0x22) e p (digit_of s e) le

step_fine : (s : List ℕ) (e : Editing) (p : ℕ) → Fine e → Fine (stepped s e p)
unfolding stepped
step_fine s e p fine =
    let d = digit_is s e in
    let u = digit_used e.halfway s e.used in
    let le : e.used ≤ (digit_of s e).used = omega (arith, ap (λ (y : SourceDigit). y.used) d) in
    let half = ap (λ (y : SourceDigit). y.halfway) d in
    let next : (digit_of s e).halfway ≡ true → 1 ≤ (digit_of s e).used = λ t.
    let f = digit_fine e.halfway s e.used (sym half ∙ t) in
    omega (arith, ap (λ (y : SourceDigit). y.used) d) in
    let bad : Bool = ltb 9 (digit_of s e).value in
    fine_more e.bad (takes_digit p) bad (eqb p 0x22) e p (digit_of s e) le fine next

used_at : (b : Bool) (s : List ℕ) (e : Editing) (p : ℕ) (d : SourceDigit) (c f : Bool) → b ≡ true
    → (after_by false b c f e p d).used ≡ d.used
used_at true s e p d true f t = refl
used_at true s e p d false f t = refl
used_at false s e p d c f t = absurd (cc t)

reads_digit : (s : List ℕ) (e : Editing) (p : ℕ) → e.bad ≡ false → takes_digit p ≡ true
    → (stepped s e p).used ≡ (digit_of s e).used
unfolding stepped
reads_digit s e p good digit =
    let d = digit_of s e in
    let bad : Bool = ltb 9 d.value in
    let field : Bool = eqb p 0x22 in
    ap (λ (a : Bool). (after_by a (takes_digit p) bad field e p d).used) good
    ∙ used_at (takes_digit p) s e p d bad field digit

step_same : (s t : List ℕ) (e : Editing) (p : ℕ) → Fine e → SameUpTo (stepped s e p).used s t
    → stepped t e p ≡ stepped s e p
unfolding stepped
step_same s t e p fine same =
    let x = digit_of s e in
    let y = digit_of t e in
    let digit : Bool = takes_digit p in
    same_more e.bad digit (ltb 9 x.value) (ltb 9 y.value) (eqb p 0x22) e p x y (refl, refl)
    (λ good digit.
    let u : (stepped s e p).used ≡ (digit_of s e).used = reads_digit s e p good digit in
    let d = digit_is s e in
    let v = ap (λ (y : SourceDigit). y.used) d in
    digit_is t e ∙ digit_same e.halfway s t e.used fine (λ k lt. same k (omega arith)) ∙ sym d)

fold_used : (s : List ℕ) (e : Editing) (ps : List ℕ) → e.used ≤ (fold (stepped s) e ps).used
fold_used s e [] = omega arith
fold_used s e (p ∷ ps) =
    let a = step_used s e p in let b = fold_used s (stepped s e p) ps in omega arith

fold_same : (s t : List ℕ) (e : Editing) (ps : List ℕ) → Fine e
    → SameUpTo (fold (stepped s) e ps).used s t → fold (stepped t) e ps ≡ fold (stepped s) e ps
fold_same s t e [] fine same = refl
fold_same s t e (p ∷ ps) fine same =
    let more = fold_used s (stepped s e p) ps in
    let one = step_same s t e p fine (λ k lt. same k (omega arith)) in
    ap (λ (y : Editing). fold (stepped t) y ps) one
    ∙ fold_same s t (stepped s e p) ps (step_fine s e p fine) same

fold_fine : (s : List ℕ) (e : Editing) (ps : List ℕ) → Fine e → Fine (fold (stepped s) e ps)
fold_fine s e [] fine = fine
fold_fine s e (p ∷ ps) fine = fold_fine s (stepped s e p) ps (step_fine s e p fine)

-- a state that is not bad was not bad before
good_more : (a b c f : Bool) (e : Editing) (p : ℕ) (d : SourceDigit) → a ≡ e.bad
    → (after_by a b c f e p d).bad ≡ false → e.bad ≡ false
good_more true b c f e p d is h = h
good_more false b c f e p d is h = sym is

good_step : (s : List ℕ) (e : Editing) (p : ℕ) → (stepped s e p).bad ≡ false → e.bad ≡ false
unfolding stepped
good_step s e p h =
    let bad : Bool = ltb 9 (digit_of s e).value in
    good_more e.bad (takes_digit p) bad (eqb p 0x22) e p (digit_of s e) refl h

good_start : (s : List ℕ) (e : Editing) (ps : List ℕ) → (fold (stepped s) e ps).bad ≡ false
    → e.bad ≡ false
good_start s e [] h = h
good_start s e (p ∷ ps) h = good_step s e p (good_start s (stepped s e p) ps h)

-- the byte shown
abbrev show_by : Bool → ℕ → Editing → ℕ → SourceDigit → ℕ
show_by b fill e p d =
    cond b (cond (e.significant || not (eqb d.value 0)) (0xF0 + d.value) fill)
    (cond (eqb p 0x22 || not e.significant) fill p)

show_more : (b : Bool) (fill : ℕ) (e : Editing) (p : ℕ) (d x : SourceDigit) → (b ≡ true → x ≡ d)
    → show_by b fill e p x ≡ show_by b fill e p d
show_more true fill e p d x h = ap (λ (y : SourceDigit). show_by true fill e p y) (h refl)
show_more false fill e p d x h = refl

shown_same : (s t : List ℕ) (fill : ℕ) (e : Editing) (p : ℕ) → Fine e → e.bad ≡ false
    → SameUpTo (stepped s e p).used s t → shown t fill e p ≡ shown s fill e p
unfolding shown
shown_same s t fill e p fine good same =
    show_more (takes_digit p) fill e p (digit_of s e) (digit_of t e) (λ digit.
    let u : (stepped s e p).used ≡ (digit_of s e).used = reads_digit s e p good digit in
    let d = digit_is s e in
    let v = ap (λ (y : SourceDigit). y.used) d in
    digit_is t e ∙ digit_same e.halfway s t e.used fine (λ k lt. same k (omega arith)) ∙ sym d)

replaced_same : (s t : List ℕ) (fill : ℕ) (e : Editing) (ps : List ℕ) → Fine e
    → (fold (stepped s) e ps).bad ≡ false
    → SameUpTo (fold (stepped s) e ps).used s t → replaced t fill e ps ≡ replaced s fill e ps
replaced_same s t fill e [] fine good same = refl
replaced_same s t fill e (p ∷ ps) fine good same =
    let next = stepped s e p in
    let more = fold_used s next ps in
    let near : SameUpTo next.used s t = λ k lt. same k (omega arith) in
    let one = step_same s t e p fine near in
    let byte = shown_same s t fill e p fine (good_start s e (p ∷ ps) good) near in
    ap (λ (y : Editing). shown t fill e p ∷ replaced t fill y ps) one
    ∙ ap (λ b. b ∷ replaced t fill next ps) byte
    ∙ ap (λ l. shown s fill e p ∷ l)
    (replaced_same s t fill next ps (step_fine s e p fine) good same)

none_next : Fine start
none_next h = absurd (cc h)

pub state_same : (pattern s t : List ℕ) → SameUpTo (state s pattern).used s t
    → state t pattern ≡ state s pattern
state_same pattern s t same = fold_same s t start pattern none_next same

abbrev pattern_by : Bool → List ℕ → List ℕ → List ℕ
pattern_by bad pattern all = cond bad pattern all

by_state : (bad : Bool) (pattern xs ys : List ℕ) → (bad ≡ false → xs ≡ ys)
    → pattern_by bad pattern xs ≡ pattern_by bad pattern ys
by_state true pattern xs ys h = refl
by_state false pattern xs ys h = h refl

pub pattern_same : (pattern s t : List ℕ) → SameUpTo (state s pattern).used s t
    → edited_pattern t pattern ≡ edited_pattern s pattern
unfolding edited_pattern
pattern_same pattern s t same =
    let fill = get_or pattern 0 0 in
    let x = replaced t fill start pattern in
    let y = replaced s fill start pattern in
    ap (λ (e : Editing). pattern_by e.bad pattern x) (state_same pattern s t same)
    ∙ by_state (state s pattern).bad pattern x y
    (λ good. replaced_same s t fill start pattern none_next good same)

abbrev answer_by : Bool → Editing → Edited
answer_by bad e =
    cond bad (record { used = e.used; mark = None; cc = STAYS; fault = DATA }) (record {
      used = e.used;
      mark = e.mark;
      cc = cond (not e.nonzero) 0 (cond e.significant 1 2);
      fault = 0;
    })

used_by : (bad : Bool) (e : Editing) → (answer_by bad e).used ≡ e.used
used_by true e = refl
used_by false e = refl

pub answer_used : (e : Editing) → (answer e).used ≡ e.used
unfolding answer
answer_used e = used_by e.bad e
