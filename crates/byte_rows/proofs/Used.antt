-- An edit uses no more source bytes than its pattern has.
use Rattle.std.proofs.Common.{ℕ, ◌+◌, ◌-◌, ◌/◌, ◌%◌, ◌<◌, ◌≤◌, Bool, true, false, List, [], ◌∷◌, length, arith}
use Rattle.std.specs.Prelude.{if◌then◌else◌, ◌==◌, ◌&&◌, ◌||◌, not, nat_lt, slice_index, fold, Some, None}
use Rattle.esa_model.specs.declared.codes.TheConstants.{STAYS, DATA}
use Rattle.esa_model.specs.declared.decimals.Editing.{Editing}
use Rattle.esa_model.specs.declared.decimals.SourceDigit.{SourceDigit}
use Rattle.esa_model.specs.declared.decimals.Edited.{Edited}
use Rattle.esa_model.specs.Edit.{is_plus, digit_of, takes_digit, is_separator, after_digit, step_by, stepped, start, state, answer}

number : (b : Bool) (x y n : ℕ) → x < n → y < n → (if b then x else y) < n
number true x y n p q = p
number false x y n p q = q

digit : (b : Bool) (x y : SourceDigit) (n : ℕ) → x.used ≤ n → y.used ≤ n
    → (if b then x else y).used ≤ n
digit true x y n p q = p
digit false x y n p q = q

editing : (b : Bool) (x y : Editing) (n : ℕ) → x.used ≤ n → y.used ≤ n
    → (if b then x else y).used ≤ n
editing true x y n p q = p
editing false x y n p q = q

digit_more : (s : List ℕ) (e : Editing) → (digit_of s e).used ≤ e.used + 1
unfolding digit_of
digit_more s e =
    digit e.halfway
    (record {
      value = slice_index s (e.used - 1) % 16;
      used = e.used;
      halfway = false;
      plus = false;
    })
    (record {
      value = slice_index s e.used / 16;
      used = e.used + 1;
      halfway = nat_lt (slice_index s e.used % 16) 10;
      plus = is_plus (slice_index s e.used % 16);
    }) (e.used + 1) (omega arith) (omega arith)

after_more : (e : Editing) (p : ℕ) (d : SourceDigit) (n : ℕ) → d.used ≤ n
    → (after_digit e p d).used ≤ n
after_more e p d n h =
    editing (nat_lt 9 d.value) (record e { used = d.used; bad = true })
    (record {
      at = e.at + 1;
      used = d.used;
      halfway = d.halfway;
      significant = ((e.significant || not (d.value == 0)) || (p == 0x21)) && not d.plus;
      nonzero = e.nonzero || not (d.value == 0);
      mark = if not e.significant && not (d.value == 0) then Some e.at else e.mark;
      bad = false;
    }) n h h

by_more : (e : Editing) (p : ℕ) (d : SourceDigit) → d.used ≤ e.used + 1
    → (step_by e p d).used ≤ e.used + 1
by_more e p d h =
    let separated : Editing = record e { at = e.at + 1; significant = false; nonzero = false } in
    let shown : Editing = record e { at = e.at + 1 } in
    let other : Editing = if is_separator p then separated else shown in
    editing e.bad e (if takes_digit p then after_digit e p d else other) (e.used + 1) (omega arith)
    (editing (takes_digit p) (after_digit e p d) other (e.used + 1) (after_more e p d (e.used + 1) h)
    (editing (is_separator p) separated shown (e.used + 1) (omega arith) (omega arith)))

step_more : (s : List ℕ) (e : Editing) (p : ℕ) → (stepped s e p).used ≤ e.used + 1
unfolding stepped
step_more s e p = by_more e p (digit_of s e) (digit_more s e)

run_more : (s : List ℕ) (e : Editing) (ps : List ℕ)
    → (fold (stepped s) e ps).used ≤ e.used + length ps
run_more s e [] = omega arith
run_more s e (p ∷ ps) =
    let h = run_more s (stepped s e p) ps in
    let k = step_more s e p in
    omega arith

answer_used : (b : Bool) (x y : Edited) (n : ℕ) → x.used ≤ n → y.used ≤ n
    → (if b then x else y).used ≤ n
answer_used true x y n p q = p
answer_used false x y n p q = q

answer_cc : (b : Bool) (x y : Edited) → x.cc < 5 → y.cc < 5 → (if b then x else y).cc < 5
answer_cc true x y p q = p
answer_cc false x y p q = q

abbrev bad_digit : Editing → Edited
bad_digit e = record { used = e.used; mark = None; cc = STAYS; fault = DATA }

abbrev edited : Editing → Edited
edited e = record {
  used = e.used;
  mark = e.mark;
  cc = if not e.nonzero then 0 else (if e.significant then 1 else 2);
  fault = 0;
}

pub used_short : (s ps : List ℕ) → (answer (state s ps)).used ≤ length ps
unfolding answer
used_short s ps =
    let e : Editing = state s ps in
    let h = run_more s start ps in
    answer_used e.bad (bad_digit e) (edited e) (length ps) (omega arith) (omega arith)

pub answer_code : (e : Editing) → (answer e).cc < 5
unfolding answer
answer_code e =
    answer_cc e.bad (bad_digit e) (edited e) (omega arith)
    (number (not e.nonzero) 0 (if e.significant then 1 else 2) 5 (omega arith)
    (number e.significant 1 2 5 (omega arith) (omega arith)))
