-- The line of an entry is read as that entry.
use Rattle.std.proofs.Common.{◌≡◌, ℕ, ◌-◌, ◌<◌, ◌^◌, true, List, ◌∷◌, ◌++◌, inl, inr, Some, sym, ◌∙◌, ap, refl, arith, append_assoc, codes}
use Rattle.std.specs.Prelude.{option_map, option_and_then}
use Rattle.std.specs.Fmt.{decimal}
use Rattle.esa_words.proofs.Digits.{of_text}
use Rattle.run_model.specs.declared.faults.Cause.{Cause}
use Rattle.run_model.specs.declared.faults.Cause.TheVariants.{Fetch, Mismatch, Store}
use Rattle.run_model.specs.declared.logs.Entry.{Entry}
use Rattle.run_model.specs.declared.logs.What.{What}
use Rattle.run_model.specs.declared.logs.What.TheVariants.{Fail, Retry, Corrected, Uncorrectable, Fenced, Spared, NoSpare, Stop, Returned}
use Rattle.run_model.specs.Script.{fields, core_no}
use Rattle.run_model.specs.LogLines.{cause_text, what_text, cpu_text, is_returned, entry_line}
use Rattle.run_model.specs.LogReading.{long_in, byte_in, cause_in, one_field, two_fields, three_fields, cpu_in, entry_by, entry_by_fields, entry_in, read_entry, AreBytes, IsEntry, WrittenIsRead}
use Rattle.service_log.proofs.Cuts.{cases_bool}
use Rattle.service_log.proofs.Plain.{is_plain, first_field, only_field, decimal_plain, blank, four_parts, content_fed}

pub long_read : (n : ℕ) → n < 2 ^ 64 → long_in (decimal n) ≡ Some n
unfolding long_in
long_read n h = of_text (2 ^ 64 - 1) n (omega arith) (omega arith)

byte_read : (n : ℕ) → n < 256 → byte_in (decimal n) ≡ Some n
unfolding byte_in
byte_read n h = of_text 255 n (omega arith) (omega arith)

cause_read : (why : Cause) → cause_in (cause_text why) ≡ Some why
unfolding cause_in
cause_read Fetch = refl
cause_read Mismatch = refl
cause_read Store = refl

-- ---- what happened

-- these fields behind turn, CPU and core say this
abbrev Says : List ℕ → What → Type 0
Says text w = (t c k : List ℕ) → entry_by_fields (t ∷ c ∷ k ∷ fields text) ≡ entry_by t c k (Some w)

says_one :
    (name : List ℕ) (w : What) → is_plain name ≡ true → one_field name ≡ Some w → Says name w
says_one name w p h t c k =
    ap (λ l. entry_by_fields (t ∷ c ∷ k ∷ l)) (only_field name p) ∙ ap (entry_by t c k) h

says_two :
    (name : List ℕ) (n : ℕ) (w : What) → is_plain name ≡ true → n < 256
    → two_fields name (decimal n) ≡ Some w → Says (name ++ (32 ∷ decimal n)) w
says_two name n w p small h t c k =
    let f = first_field name (decimal n) p in
    let g = only_field (decimal n) (decimal_plain n (omega arith)) in
    ap (λ l. entry_by_fields (t ∷ c ∷ k ∷ l)) (f ∙ ap (λ l. name ∷ l) g) ∙ ap (entry_by t c k) h

says_three :
    (name a : List ℕ) (n : ℕ) (w : What) → is_plain name ≡ true → is_plain a ≡ true → n < 2 ^ 64
    → three_fields name a (decimal n) ≡ Some w → Says (name ++ (32 ∷ (a ++ (32 ∷ decimal n)))) w
says_three name a n w p q small h t c k =
    let f = first_field name (a ++ (32 ∷ decimal n)) p in
    let g = first_field a (decimal n) q in
    let i = only_field (decimal n) (decimal_plain n small) in
    ap (λ l. entry_by_fields (t ∷ c ∷ k ∷ l)) (f ∙ ap (λ l. name ∷ l) (g ∙ ap (λ l. a ∷ l) i))
    ∙ ap (entry_by t c k) h

fail_fields :
    (why : Cause) (n : ℕ) → n < 2 ^ 64
    → three_fields (codes "FAIL") (cause_text why) (decimal n) ≡ Some (Fail why n)
unfolding three_fields
fail_fields why n h = rw (cause_read why, long_read n h) refl

says_fail : (why : Cause) (n : ℕ) → n < 2 ^ 64 → Says (what_text (Fail why n)) (Fail why n)
says_fail Fetch n h =
    says_three (codes "FAIL") (codes "FETCH") n (Fail Fetch n) refl refl h (fail_fields Fetch n h)
says_fail Mismatch n h =
    says_three (codes "FAIL") (codes "MISMATCH") n (Fail Mismatch n) refl refl h
    (fail_fields Mismatch n h)
says_fail Store n h =
    says_three (codes "FAIL") (codes "STORE") n (Fail Store n) refl refl h (fail_fields Store n h)

corrected_fields :
    (w b : ℕ) → w < 256 → b < 256
    → three_fields (codes "CORRECTED") (decimal w) (decimal b) ≡ Some (Corrected w b)
unfolding three_fields
corrected_fields w b h g = rw (byte_read w h, byte_read b g) refl

says_corrected :
    (w b : ℕ) → w < 256 → b < 256 → Says (what_text (Corrected w b)) (Corrected w b)
says_corrected w b h g t c k =
    let parts = append_assoc (codes "CORRECTED " ++ decimal w) blank (decimal b) in
    let p = decimal_plain w (omega arith) in
    let f = corrected_fields w b h g in
    ap (λ l. entry_by_fields (t ∷ c ∷ k ∷ fields l)) parts
    ∙ says_three (codes "CORRECTED") (decimal w) b (Corrected w b) refl p (omega arith) f t c k

retry_fields : (r : ℕ) → r < 256 → two_fields (codes "RETRY") (decimal r) ≡ Some (Retry r)
unfolding two_fields
retry_fields r h = ap (option_map (λ x. Retry x)) (byte_read r h)

lost_fields :
    (w : ℕ) → w < 256 → two_fields (codes "UNCORRECTABLE") (decimal w) ≡ Some (Uncorrectable w)
unfolding two_fields
lost_fields w h = ap (option_map (λ x. Uncorrectable x)) (byte_read w h)

spared_fields :
    (k : ℕ) → k < 256 → two_fields (codes "SPARED") (decimal k) ≡ Some (Spared (core_no k))
unfolding two_fields
spared_fields k h = ap (option_map (λ x. Spared (core_no x))) (byte_read k h)

says_what : (w : What) → AreBytes w → Says (what_text w) w
unfolding one_field
says_what (Fail why n) h = says_fail why n h
says_what (Retry r) h = says_two (codes "RETRY") r (Retry r) refl h (retry_fields r h)
says_what (Corrected w b) h = says_corrected w b h.0 h.1
says_what (Uncorrectable w) h =
    says_two (codes "UNCORRECTABLE") w (Uncorrectable w) refl h (lost_fields w h)
says_what Fenced h = says_one (codes "FENCED") Fenced refl refl
says_what (Spared k) h = says_two (codes "SPARED") k.0 (Spared k) refl h (spared_fields k.0 h)
says_what NoSpare h = says_one (codes "NOSPARE") NoSpare refl refl
says_what Stop h = says_one (codes "STOP") Stop refl refl
says_what Returned h = says_one (codes "RETURNED") Returned refl refl

-- ---- the whole line

cpu_read : (e : Entry) → IsEntry e → cpu_in e.what (cpu_text e) ≡ Some e.cpu.0
unfolding cpu_in
cpu_read e i = elim (cases_bool (is_returned e.what)) [
  | inl y ↦ rw y (ap (λ x. Some x) (sym (i.returned y)))
  | inr n ↦ rw n (byte_read e.cpu.0 i.cpu)
]

cpu_plain : (e : Entry) → IsEntry e → is_plain (cpu_text e) ≡ true
cpu_plain e i = elim (cases_bool (is_returned e.what)) [
  | inl y ↦ rw y refl
  | inr n ↦ let small = i.cpu in rw n (decimal_plain e.cpu.0 (omega arith))
]

-- the line without its line feed
abbrev pub entry_text : Entry → List ℕ
entry_text e =
    decimal e.turn ++ blank ++ cpu_text e ++ blank ++ decimal e.core.0 ++ blank ++ what_text e.what

text_read : (e : Entry) → IsEntry e → entry_in (entry_text e) ≡ Some e
unfolding entry_in
text_read e i =
    let small = i.core in
    let t = decimal e.turn in
    let c = cpu_text e in
    let k = decimal e.core.0 in
    let w = what_text e.what in
    let parts = four_parts t c k w in
    let f = first_field t (c ++ (32 ∷ (k ++ (32 ∷ w)))) (decimal_plain e.turn i.turn) in
    let g = first_field c (k ++ (32 ∷ w)) (cpu_plain e i) in
    let j = first_field k w (decimal_plain e.core.0 (omega arith)) in
    ap (λ l. entry_by_fields (fields l)) parts
    ∙ ap entry_by_fields (f ∙ ap (λ l. t ∷ l) (g ∙ ap (λ l. c ∷ l) j))
    ∙ says_what e.what i.what t c k
    ∙ rw (long_read e.turn i.turn, cpu_read e i, byte_read e.core.0 i.core) refl

pub written_is_read : WrittenIsRead
unfolding read_entry entry_line
written_is_read e i = ap (option_and_then entry_in) (content_fed (entry_text e)) ∙ text_read e i
