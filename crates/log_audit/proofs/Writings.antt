-- A log that is written is read as what was written.
use Rattle.std.proofs.Common.{◌≡◌, ℕ, ◌+◌, ◌<◌, ◌^◌, eqb, Bool, true, false, not, List, [], ◌∷◌, ◌++◌, inl, inr, Some, Ok, refl, ap, ◌∙◌, arith, append_assoc, codes}
use Rattle.std.specs.Char.{is_ascii_digit}
use Rattle.std.specs.Fmt.{decimal}
use Rattle.std.specs.List.{list_all}
use Rattle.std.proofs.lemmas.Bool.Decides.{nat_tests}
use Rattle.esa_words.proofs.Digits.{digit_is, is_decimal_text, parts_of}
use Rattle.run_model.specs.declared.faults.Cause.{Cause}
use Rattle.run_model.specs.declared.faults.Cause.TheVariants.{Fetch, Mismatch, Store}
use Rattle.run_model.specs.declared.logs.Entry.{Entry}
use Rattle.run_model.specs.declared.logs.What.{What}
use Rattle.run_model.specs.declared.logs.What.TheVariants.{Fail, Retry, Corrected, Uncorrectable, Fenced, Spared, NoSpare, Stop, Returned}
use Rattle.run_model.specs.LogLines.{cause_text, cpu_text, entry_line, head_line, heading, is_returned, tail, what_text}
use Rattle.run_model.specs.LogReading.{AreBytes, IsEntry, ending, read_entry}
use Rattle.service_log.proofs.Cuts.{cases_bool}
use Rattle.service_log.proofs.EndsRead.{head_is_read, tail_is_read}
use Rattle.service_log.proofs.Plain.{blank}
use Rattle.service_log.proofs.Written.{written_is_read}
use Rattle.log_audit.specs.Form.{Body, before_body, before_lines, body_from, by_lines, fed_lines, last_line, line_between, log_in, under_head}
use Rattle.log_audit.specs.Written.{AreEntries, WrittenIsRead, entry_lines}

-- ---- texts without a line feed

not_feed : ℕ → Bool
not_feed b = not (eqb b 10)

abbrev fed : List ℕ → List ℕ
fed t = t ++ (10 ∷ [])

-- every byte of it stands within a line
abbrev Within : List ℕ → Type 0
Within t = list_all (λ b. not (eqb b 10)) t ≡ true

within_more :
    (b : ℕ) (t : List ℕ) → Within (b ∷ t) → (eqb b 10 ≡ false) × Within t
within_more b t h = (grind (arith, nat_tests), grind (arith, nat_tests))

within_cons :
    (b : ℕ) (t : List ℕ) → eqb b 10 ≡ false → Within t → Within (b ∷ t)
within_cons b t e h = rw e h

within_append : (s t : List ℕ) → Within s → Within t → Within (s ++ t)
within_append [] t h g = g
within_append (b ∷ s) t h g =
    let m = within_more b s h in within_cons b (s ++ t) m.0 (within_append s t m.1 g)

digits_within : (t : List ℕ) → list_all is_ascii_digit t ≡ true → Within t
digits_within [] h = refl
digits_within (b ∷ t) h =
    let d : is_ascii_digit b ≡ true = grind (arith, nat_tests) in
    let r = digits_within t (grind (arith, nat_tests)) in
    let i = digit_is b d in
    let no : eqb b 10 ≡ false = grind (arith, nat_tests) in
    within_cons b t no r

decimal_within : (n : ℕ) → n < 2 ^ 64 → Within (decimal n)
decimal_within n h = digits_within (decimal n) (parts_of (decimal n) (is_decimal_text n h)).digits

-- ---- a line in front of others

fed_step :
    (t rest : List ℕ) → Within t → fed_lines (t ++ (10 ∷ rest)) ≡ fed t ∷ fed_lines rest
fed_step [] rest h = refl
fed_step (b ∷ t) rest h =
    let m = within_more b t h in
    rw m.0 (ap (before_lines b) (fed_step t rest m.1))

line_first :
    (t rest : List ℕ) → Within t → fed_lines (fed t ++ rest) ≡ fed t ∷ fed_lines rest
line_first t rest h = ap fed_lines (append_assoc t (10 ∷ []) rest) ∙ fed_step t rest h

-- ---- the lines of a log

cause_within : (why : Cause) → Within (cause_text why)
cause_within Fetch = refl
cause_within Mismatch = refl
cause_within Store = refl

what_within : (w : What) → AreBytes w → Within (what_text w)
what_within (Fail why n) h =
    within_append (codes "FAIL " ++ cause_text why ++ codes " ") (decimal n)
    (within_append (codes "FAIL " ++ cause_text why) (codes " ")
    (within_append (codes "FAIL ") (cause_text why) refl (cause_within why)) refl)
    (decimal_within n h)
what_within (Retry r) h =
    within_append (codes "RETRY ") (decimal r) refl (decimal_within r (omega (arith, h)))
what_within (Corrected w b) h =
    within_append (codes "CORRECTED " ++ decimal w ++ codes " ") (decimal b)
    (within_append (codes "CORRECTED " ++ decimal w) (codes " ")
    (within_append (codes "CORRECTED ") (decimal w) refl
    (decimal_within w (omega (arith, h.0)))) refl)
    (decimal_within b (omega (arith, h.1)))
what_within (Uncorrectable w) h =
    within_append (codes "UNCORRECTABLE ") (decimal w) refl (decimal_within w (omega (arith, h)))
what_within Fenced h = refl
what_within (Spared k) h =
    within_append (codes "SPARED ") (decimal k.0) refl (decimal_within k.0 (omega (arith, h)))
what_within NoSpare h = refl
what_within Stop h = refl
what_within Returned h = refl

cpu_within : (e : Entry) → IsEntry e → Within (cpu_text e)
cpu_within e i = elim (cases_bool (is_returned e.what)) [
  | inl y ↦ rw y refl
  | inr n ↦ let small = i.cpu in rw n (decimal_within e.cpu.0 (omega arith))
]

abbrev entry_text : Entry → List ℕ
entry_text e =
    decimal e.turn ++ blank ++ cpu_text e ++ blank ++ decimal e.core.0 ++ blank ++ what_text e.what

entry_within : (e : Entry) → IsEntry e → Within (entry_text e)
entry_within e i =
    let t = decimal e.turn in
    let c = t ++ blank ++ cpu_text e in
    let k = c ++ blank ++ decimal e.core.0 in
    let small = i.core in
    within_append (k ++ blank) (what_text e.what)
    (within_append k blank
    (within_append (c ++ blank) (decimal e.core.0)
    (within_append c blank
    (within_append (t ++ blank) (cpu_text e)
    (within_append t blank (decimal_within e.turn i.turn) refl) (cpu_within e i)) refl)
    (decimal_within e.core.0 (omega arith))) refl)
    (what_within e.what i.what)

entry_first :
    (e : Entry) (rest : List ℕ) → IsEntry e
    → fed_lines (entry_line e ++ rest) ≡ entry_line e ∷ fed_lines rest
unfolding entry_line
entry_first e rest i = line_first (entry_text e) rest (entry_within e i)

abbrev head_text : ℕ → ℕ → ℕ → List ℕ
head_text c s t =
    codes "G5LOG 2 CPUS " ++ decimal c ++ codes " SPARES " ++ decimal s ++ codes " THRESHOLD "
    ++ decimal t

head_within :
    (c s t : ℕ) → c < 2 ^ 64 → s < 2 ^ 64 → t < 2 ^ 64 → Within (head_text c s t)
head_within c s t hc hs ht =
    let a = codes "G5LOG 2 CPUS " ++ decimal c in
    let b = a ++ codes " SPARES " ++ decimal s in
    within_append (b ++ codes " THRESHOLD ") (decimal t)
    (within_append b (codes " THRESHOLD ")
    (within_append (a ++ codes " SPARES ") (decimal s)
    (within_append a (codes " SPARES ")
    (within_append (codes "G5LOG 2 CPUS ") (decimal c) refl (decimal_within c hc)) refl)
    (decimal_within s hs)) refl)
    (decimal_within t ht)

head_first :
    (c s t : ℕ) (rest : List ℕ) → c < 2 ^ 64 → s < 2 ^ 64 → t < 2 ^ 64
    → fed_lines (head_line (heading c s t) ++ rest)
    ≡ head_line (heading c s t) ∷ fed_lines rest
unfolding head_line
head_first c s t rest hc hs ht = line_first (head_text c s t) rest (head_within c s t hc hs ht)

abbrev tail_text : ℕ → ℕ → List ℕ
tail_text n m = codes "END " ++ decimal n ++ codes " RETURNED " ++ decimal m

tail_within : (n m : ℕ) → n < 2 ^ 64 → m < 2 ^ 64 → Within (tail_text n m)
tail_within n m h g =
    within_append (codes "END " ++ decimal n ++ codes " RETURNED ") (decimal m)
    (within_append (codes "END " ++ decimal n) (codes " RETURNED ")
    (within_append (codes "END ") (decimal n) refl (decimal_within n h)) refl)
    (decimal_within m g)

tail_only : (n m : ℕ) → n < 2 ^ 64 → m < 2 ^ 64 → fed_lines (tail n m) ≡ tail n m ∷ []
unfolding tail
tail_only n m h g = fed_step (tail_text n m) [] (tail_within n m h g)

-- ---- what they say

abbrev body : List Entry → ℕ → ℕ → Body
body es n m = record { entries = es; ending = ending n m }

between :
    (k : ℕ) (line : List ℕ) (e : Entry) (ls : List (List ℕ)) (b : Body)
    → read_entry line ≡ Some e → body_from (k + 1) ls ≡ Ok b
    → body_from k (line ∷ ls) ≡ before_body e (Ok b)
between k line e [] b r h = absurd (cc)
between k line e (m ∷ ms) b r h =
    ap (λ o. line_between k o (body_from (k + 1) (m ∷ ms))) r ∙ ap (before_body e) h

lines_read :
    (k : ℕ) (es : List Entry) (n m : ℕ) → AreEntries es → n < 2 ^ 64 → m < 2 ^ 64
    → body_from k (fed_lines (entry_lines es ++ tail n m)) ≡ Ok (body es n m)
lines_read k [] n m each h g =
    ap (body_from k) (tail_only n m h g) ∙ ap (last_line k) (tail_is_read n m h g)
lines_read k (e ∷ es) n m each h g =
    let rest = entry_lines es ++ tail n m in
    let parts = append_assoc (entry_line e) (entry_lines es) (tail n m) in
    ap (λ t. body_from k (fed_lines t)) parts
    ∙ ap (body_from k) (entry_first e rest each.0)
    ∙ between k (entry_line e) e (fed_lines rest) (body es n m) (written_is_read e each.0)
    (lines_read (k + 1) es n m each.1 h g)

pub written_log_is_read : WrittenIsRead
unfolding log_in
written_log_is_read c es n m w =
    let a = w.some_cpu in
    let cpus = w.cpus in
    let spares = w.spares in
    let threshold = w.threshold in
    let rest = entry_lines es ++ tail n m in
    let first =
    head_first c.cpus c.spares c.threshold rest (omega arith) (omega arith) (omega arith) in
    let read = head_is_read c.cpus c.spares c.threshold a cpus spares threshold in
    ap by_lines first
    ∙ ap (λ o. under_head o (body_from 2 (fed_lines rest))) read
    ∙ ap (under_head (Some (heading c.cpus c.spares c.threshold)))
    (lines_read 2 es n m w.each w.turns_fit w.returned_fit)
