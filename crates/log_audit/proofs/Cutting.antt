-- The lines of a log, one by one.
use Rattle.std.proofs.Common.{◌≡◌, ℕ, suc, ◌+◌, ◌-◌, ◌<◌, ◌≤◌, eqb, Bool, true, false, not, cond, List, [], ◌∷◌, length, take, drop, inl, inr, Option, Some, None, Result, Ok, Err, sym, ◌∙◌, ap, refl, arith, length-drop, nat_lt}
use Rattle.std.specs.Prelude.{position, ok_or}
use Rattle.std.specs.List.{position_or_len}
use Rattle.std.proofs.lemmas.List.{take_all}
use Rattle.std.proofs.lemmas.Bool.Decides.{nat_tests}
use Rattle.run_model.specs.LogReading.{read_entry}
use Rattle.run_model.specs.LogReading.{Ending as EndNumbers}
use Rattle.run_model.specs.declared.logs.Entry.{Entry}
use Rattle.run_model.specs.declared.logs.LogRefusal.{LogRefusal}
use Rattle.run_model.specs.declared.logs.LogRefusal.TheVariants.{BadLine}
use Rattle.service_log.specs.Headings.{tail_of_line}
use Rattle.service_log.proofs.Cuts.{cases_bool, found_at}
use Rattle.log_audit.specs.Form.{Body, before_body, before_lines, body_from, ending_of, entries_in, fed_lines, last_line, line_between, while_entry, with_byte}
use Rattle.log_audit.specs.Next.{BeginsWithEntry, as_refusal}
use Rattle.program_model.specs.declared.refusals.AuditRefusal.{AuditRefusal}
use Rattle.program_model.specs.declared.refusals.AuditRefusal.TheVariants as audit

is_feed : ℕ → Bool
is_feed b = eqb b 10

-- ---- where a line ends

not_past :
    (p : ℕ → Bool) (xs : List ℕ) → position_or_len p xs < length xs → position p xs ≡ None → ⊥
not_past p xs lt e =
    let y : nat_lt (position_or_len p xs) (length xs) ≡ true = grind (arith, nat_tests) in
    let is : position p xs ≡ Some (position_or_len p xs) = rw y refl in
    absurd (cc)

at_most : (p : ℕ → Bool) (xs : List ℕ) → position_or_len p xs ≤ length xs
at_most p [] = omega arith
at_most p (x ∷ xs) = let r = at_most p xs in elim (cases_bool (p x)) [
  | inl y ↦ rw y (omega arith)
  | inr n ↦ rw n (omega arith)
]

whole_by :
    (x : ℕ) (xs : List ℕ) (b : Bool) → eqb x 10 ≡ b
    → cond (not b) (1 + position_or_len (λ z. eqb z 10) xs) 0 ≡ suc (length xs)
    → (position_or_len (λ z. eqb z 10) xs ≡ length xs
    → before_lines x (fed_lines xs) ≡ (x ∷ xs) ∷ [])
    → fed_lines (x ∷ xs) ≡ (x ∷ xs) ∷ []
whole_by x xs true e h r = absurd (omega arith)
whole_by x xs false e h r = rw e (r (omega arith))

whole :
    (xs : List ℕ) → position_or_len (λ z. eqb z 10) xs ≡ length xs → 0 < length xs
    → fed_lines xs ≡ xs ∷ []
whole [] e lt = absurd (omega arith)
whole (x ∷ []) e lt = whole_by x [] (eqb x 10) refl e (λ q. refl)
whole (x ∷ y ∷ ys) e lt =
    whole_by x (y ∷ ys) (eqb x 10) refl e
    (λ q. ap (before_lines x) (whole (y ∷ ys) q (omega arith)))

pub no_feed :
    (xs : List ℕ) → 0 < length xs → position (λ z. eqb z 10) xs ≡ None → fed_lines xs ≡ xs ∷ []
no_feed xs some e =
    let m = at_most (λ z. eqb z 10) xs in
    let past = λ (lt : position_or_len (λ z. eqb z 10) xs < length xs).
    not_past (λ z. eqb z 10) xs lt e in
    whole xs (omega (arith, past)) some

abbrev cut_after : ℕ → List ℕ → List (List ℕ)
cut_after k xs = take k xs ∷ fed_lines (drop k xs)

cut_by :
    (x : ℕ) (xs : List ℕ) (b : Bool) → eqb x 10 ≡ b
    → cond (not b) (1 + position_or_len (λ z. eqb z 10) xs) 0 < suc (length xs)
    → (position_or_len (λ z. eqb z 10) xs < length xs
    → fed_lines xs ≡ cut_after (position_or_len (λ z. eqb z 10) xs + 1) xs)
    → fed_lines (x ∷ xs)
    ≡ cut_after (cond (not b) (1 + position_or_len (λ z. eqb z 10) xs) 0 + 1) (x ∷ xs)
cut_by x xs true e h r = rw e refl
cut_by x xs false e h r =
    let n = position_or_len (λ z. eqb z 10) xs in
    let s : suc (n + 1) ≡ 1 + n + 1 = omega arith in
    rw e
    (ap (before_lines x) (r (omega arith)) ∙ ap (λ k. cut_after k (x ∷ xs)) s)

cut :
    (xs : List ℕ) → position_or_len (λ z. eqb z 10) xs < length xs
    → fed_lines xs ≡ cut_after (position_or_len (λ z. eqb z 10) xs + 1) xs
cut [] lt = absurd (omega arith)
cut (x ∷ xs) lt = cut_by x xs (eqb x 10) refl lt (cut xs)

pub feed_at :
    (xs : List ℕ) (i : ℕ) → position (λ z. eqb z 10) xs ≡ Some i
    → fed_lines xs ≡ take (i + 1) xs ∷ fed_lines (take (length xs - (i + 1)) (drop (i + 1) xs))
feed_at xs i e =
    let f = found_at (λ z. eqb z 10) xs i e in
    let l = length-drop (i + 1) xs in
    let all = take_all (length xs - (i + 1)) (drop (i + 1) xs) (omega arith) in
    cut xs (omega (arith, f.0, f.1))
    ∙ ap (λ k. cut_after (k + 1) xs) f.0
    ∙ ap (λ x. take (i + 1) xs ∷ fed_lines x) (sym all)

-- ---- a text that is not empty has a line

abbrev HasLine : List (List ℕ) → Type 0
HasLine ls = (l : List ℕ) × (more : List (List ℕ)) × (ls ≡ l ∷ more)

with_some : (b : ℕ) (ls : List (List ℕ)) (c : Bool) → eqb b 10 ≡ c → HasLine (with_byte b ls)
with_some b ls true e = (b ∷ [], ls, rw e refl)
with_some b [] false e = (b ∷ [], [], rw e refl)
with_some b (l ∷ ls) false e = (b ∷ l, ls, rw e refl)

fed_some : (t : List ℕ) → 0 < length t → HasLine (fed_lines t)
fed_some [] lt = absurd (omega arith)
fed_some (b ∷ bs) lt = with_some b (fed_lines bs) (eqb b 10) refl

fed_none : (t : List ℕ) → length t ≡ 0 → fed_lines t ≡ []
fed_none [] e = refl
fed_none (b ∷ bs) e = absurd (omega arith)

-- ---- what the next line is

some_of :
    (o : Option Entry) (e : Entry) → ok_or o BadLine ≡ Ok e → o ≡ Some e
some_of None e h = absurd (cc)
some_of (Some a) e h = cc

none_of :
    (o : Option Entry) (x : LogRefusal) → ok_or o BadLine ≡ Err x → o ≡ None
none_of None x h = refl
none_of (Some a) x h = absurd (cc)

pub entry_here :
    (text line after : List ℕ) (e : Entry) → fed_lines text ≡ line ∷ fed_lines after
    → 0 < length after → ok_or (read_entry line) BadLine ≡ Ok e
    → BeginsWithEntry (fed_lines text) e (fed_lines after)
entry_here text line after e is some so =
    let f = fed_some after some in
    record {
      line = line;
      next = f.0;
      more = f.1;
      lines = is ∙ ap (λ z. line ∷ z) f.2;
      rest = f.2;
      entry = some_of (read_entry line) e so;
    }

none_here :
    (line : List ℕ) (ls : List (List ℕ)) → read_entry line ≡ None → entries_in (line ∷ ls) ≡ []
none_here line [] e = refl
none_here line (m ∷ ms) e = ap (λ o. while_entry o (entries_in (m ∷ ms))) e

pub bad_here :
    (text line after : List ℕ) (x : LogRefusal) → fed_lines text ≡ line ∷ fed_lines after
    → ok_or (read_entry line) BadLine ≡ Err x → entries_in (fed_lines text) ≡ []
bad_here text line after x is so =
    ap entries_in is ∙ none_here line (fed_lines after) (none_of (read_entry line) x so)

pub last_here :
    (text line after : List ℕ) → fed_lines text ≡ line ∷ fed_lines after → length after ≡ 0
    → entries_in (fed_lines text) ≡ []
last_here text line after is e =
    ap entries_in is ∙ ap (λ z. entries_in (line ∷ z)) (fed_none after e)

pub no_line_here : (text : List ℕ) → fed_lines text ≡ [] → entries_in (fed_lines text) ≡ []
no_line_here text is = ap entries_in is

-- ---- a step over an entry

pub entries_step :
    (ls : List (List ℕ)) (e : Entry) (behind : List (List ℕ)) → BeginsWithEntry ls e behind
    → entries_in ls ≡ e ∷ entries_in behind
entries_step ls e behind h =
    ap entries_in h.lines
    ∙ ap (λ o. while_entry o (entries_in (h.next ∷ h.more))) h.entry
    ∙ ap (λ z. e ∷ entries_in z) (sym h.rest)

same_ending : (e : Entry) (r : Result Body ℕ) → ending_of (before_body e r) ≡ ending_of r
same_ending e (Ok b) = refl
same_ending e (Err n) = refl

pub ending_step :
    (n : ℕ) (ls : List (List ℕ)) (e : Entry) (behind : List (List ℕ))
    → BeginsWithEntry ls e behind
    → ending_of (body_from n ls) ≡ ending_of (body_from (n + 1) behind)
ending_step n ls e behind h =
    ap (λ z. ending_of (body_from n z)) h.lines
    ∙ ap (λ o. ending_of (line_between n o (body_from (n + 1) (h.next ∷ h.more)))) h.entry
    ∙ same_ending e (body_from (n + 1) (h.next ∷ h.more))
    ∙ ap (λ z. ending_of (body_from (n + 1) z)) (sym h.rest)

-- ---- the last line

abbrev ends : ℕ → List ℕ → Result EndNumbers AuditRefusal
ends n text = as_refusal (ending_of (body_from n (fed_lines text)))

pub no_last :
    (n : ℕ) (text : List ℕ) → fed_lines text ≡ [] → Err (audit.BadLine n) ≡ ends (n + 1) text
no_last n text e =
    let same : n ≡ n + 1 - 1 = omega arith in
    ap (λ k. Err (audit.BadLine k)) same
    ∙ ap (λ z. as_refusal (ending_of (body_from (n + 1) z))) (sym e)

while_none : (o : Option Entry) (es : List Entry) → while_entry o es ≡ [] → o ≡ None
while_none None es h = refl
while_none (Some e) es h = absurd (cc)

pub not_last :
    (n : ℕ) (text line after : List ℕ) → fed_lines text ≡ line ∷ fed_lines after
    → 0 < length after → entries_in (fed_lines text) ≡ [] → Err (audit.BadLine n) ≡ ends n text
not_last n text line after is some none =
    let f = fed_some after some in
    let whole : fed_lines text ≡ line ∷ f.0 ∷ f.1 = is ∙ ap (λ z. line ∷ z) f.2 in
    let bad : read_entry line ≡ None =
    while_none (read_entry line) (entries_in (f.0 ∷ f.1)) (sym (ap entries_in whole) ∙ none) in
    sym
    (ap (λ z. as_refusal (ending_of (body_from n z))) whole
    ∙ ap (λ o. as_refusal (ending_of (line_between n o (body_from (n + 1) (f.0 ∷ f.1))))) bad)

pub last_is :
    (n : ℕ) (text line after : List ℕ) (t : Option EndNumbers)
    → fed_lines text ≡ line ∷ fed_lines after → length after ≡ 0 → t ≡ tail_of_line line
    → as_refusal (ending_of (last_line n t)) ≡ ends n text
last_is n text line after t is e tail =
    ap (λ o. as_refusal (ending_of (last_line n o))) tail
    ∙ sym
    (ap (λ z. as_refusal (ending_of (body_from n z))) (is ∙ ap (λ z. line ∷ z) (fed_none after e)))
