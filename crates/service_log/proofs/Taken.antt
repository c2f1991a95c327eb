-- A line that is read is the line of its entry.
use Rattle.std.proofs.Common.{◌≡◌, ℕ, ◌-◌, ◌<◌, ◌≤◌, ◌^◌, Bool, true, false, List, [], ◌∷◌, ◌++◌, inl, inr, Option, Some, None, sym, ◌∙◌, ap, refl, arith, append_assoc, codes, if◌then◌else◌, nat_le}
use Rattle.std.specs.Prelude.{option_map, option_and_then, bytes_eq}
use Rattle.std.specs.Fmt.{decimal}
use Rattle.std.specs.List.{join_with_byte}
use Rattle.std.specs.Str.Parse.{digits_value}
use Rattle.std.proofs.lemmas.Bool.Decides.{nat_tests}
use Rattle.std.proofs.lemmas.List.Splits.{join_with_byte-slice_split}
use Rattle.std.proofs.lemmas.Slice.Eq.{bytes_eq-Decides}
use Rattle.esa_words.proofs.Digits.{not_decimal, too_great, is_number, text_of}
use Rattle.run_model.specs.Numbers.{is_decimal, number_up_to}
use Rattle.run_model.specs.declared.faults.Cause.{Cause}
use Rattle.run_model.specs.declared.faults.Cause.TheVariants.{Fetch, Mismatch, Store}
use Rattle.run_model.specs.declared.logs.Entry.{Entry}
use Rattle.run_model.specs.declared.logs.What.{What}
use Rattle.run_model.specs.declared.logs.What.TheVariants.{Fail, Retry, Corrected, Uncorrectable, Fenced, Spared, NoSpare, Stop, Returned}
use Rattle.run_model.specs.Cores.{entry}
use Rattle.run_model.specs.Script.{fields, core_no}
use Rattle.run_model.specs.LogLines.{cause_text, what_text, cpu_text, is_returned, entry_line}
use Rattle.run_model.specs.LogReading.{long_in, byte_in, both, cause_in, one_field, two_fields, three_fields, cpu_in, entry_of, entry_by, entry_by_fields, entry_in, content, read_entry, AreBytes, IsEntry, ReadIsWritten}
use Rattle.service_log.proofs.Cuts.{cases_bool}
use Rattle.service_log.proofs.Plain.{blank, four_parts, content_is}
use Rattle.service_log.proofs.Written.{entry_text}

-- ---- numbers

number_back :
    (most n : ℕ) (t : List ℕ) → most < 2 ^ 64 → number_up_to most t ≡ Some n
    → (t ≡ decimal n) × (n ≤ most)
number_back most n t h e = elim (cases_bool (is_decimal t)) [
  | inl y ↦ elim (cases_bool (nat_le (digits_value 10 t) most)) [
    | inl low ↦
        let le : digits_value 10 t ≤ most = grind (arith, nat_tests) in
        let is = is_number most t y le in
        let same : digits_value 10 t ≡ n = cc in
        (text_of t y (omega arith) ∙ ap decimal same, omega arith)
    | inr high ↦
        let lt : most < digits_value 10 t = grind (arith, nat_tests) in
        let none = too_great most t lt in
        absurd (cc)
  ]
  | inr n ↦ let none = not_decimal most t n in absurd (cc)
]

long_back : (n : ℕ) (t : List ℕ) → long_in t ≡ Some n → (t ≡ decimal n) × (n < 2 ^ 64)
unfolding long_in
long_back n t e =
    let b = number_back (2 ^ 64 - 1) n t (omega arith) e in
    let le = b.1 in
    (b.0, omega arith)

byte_back : (n : ℕ) (t : List ℕ) → byte_in t ≡ Some n → (t ≡ decimal n) × (n < 256)
unfolding byte_in
byte_back n t e =
    let b = number_back 255 n t (omega arith) e in
    let le = b.1 in
    (b.0, omega arith)

-- ---- choices

pick :
    {A : Type 0} (b : Bool) (x rest : Option A) (w : A) (P : Type 0)
    → (if b then x else rest) ≡ Some w → (b ≡ true → x ≡ Some w → P) → (rest ≡ Some w → P) → P
pick true x rest w P h f g = f refl h
pick false x rest w P h f g = g h

mapped :
    {B : Type 0} (f : ℕ → B) (o : Option ℕ) (w : B) (P : Type 0) → option_map f o ≡ Some w
    → ((n : ℕ) → o ≡ Some n → f n ≡ w → P) → P
mapped f None w P h g = absurd (cc)
mapped f (Some n) w P h g = g n refl (cc)

both_are :
    {A B C : Type 0} (f : A → B → C) (x : Option A) (y : Option B) (w : C) (P : Type 0)
    → both f x y ≡ Some w → ((a : A) (b : B) → x ≡ Some a → y ≡ Some b → f a b ≡ w → P) → P
both_are f None y w P h g = absurd (cc)
both_are f (Some a) None w P h g = absurd (cc)
both_are f (Some a) (Some b) w P h g = g a b refl refl (cc)

word_is : (n word : List ℕ) → bytes_eq n word ≡ true → n ≡ word
word_is n word y = (bytes_eq-Decides n word).0 y

cause_step :
    (f : List ℕ) (why w : Cause) → bytes_eq f (cause_text why) ≡ true → Some why ≡ Some w
    → f ≡ cause_text w
cause_step f why w y e =
    let s : why ≡ w = cc in
    word_is f (cause_text why) y ∙ ap cause_text s

cause_back : (f : List ℕ) (w : Cause) → cause_in f ≡ Some w → f ≡ cause_text w
unfolding cause_in
cause_back f w h =
    pick _ _ _ w _ h (λ y e. cause_step f Fetch w y e)
    (λ r. pick _ _ _ w _ r (λ y e. cause_step f Mismatch w y e)
    (λ s. pick _ _ _ w _ s (λ y e. cause_step f Store w y e) (λ n. absurd (cc))))

-- ---- what happened

abbrev Told : List ℕ → What → Type 0
Told text w = (text ≡ what_text w) × AreBytes w

told_as : (text : List ℕ) (v w : What) → v ≡ w → Told text v → Told text w
told_as text v w s t = rw (sym s) t

one_step :
    (n : List ℕ) (v w : What) → AreBytes v → bytes_eq n (what_text v) ≡ true
    → Some v ≡ Some w → Told n w
one_step n v w a y e = told_as n v w (cc) (word_is n (what_text v) y, a)

one_back : (n : List ℕ) (w : What) → one_field n ≡ Some w → Told n w
unfolding one_field
one_back n w h =
    pick _ _ _ w _ h (λ y e. one_step n Fenced w tt y e)
    (λ r. pick _ _ _ w _ r (λ y e. one_step n NoSpare w tt y e)
    (λ s. pick _ _ _ w _ s (λ y e. one_step n Stop w tt y e)
    (λ t. pick _ _ _ w _ t (λ y e. one_step n Returned w tt y e) (λ z. absurd (cc)))))

two_step :
    (name word a : List ℕ) (f : ℕ → What) (w : What)
    → ((r : ℕ) → word ++ (32 ∷ decimal r) ≡ what_text (f r)) → ((r : ℕ) → r < 256 → AreBytes (f r))
    → bytes_eq name word ≡ true → option_map f (byte_in a) ≡ Some w → Told (name ++ (32 ∷ a)) w
two_step name word a f w text bytes y e =
    mapped f (byte_in a) w _ e (λ r is s.
    let b = byte_back r a is in
    told_as (name ++ (32 ∷ a)) (f r) w s (
      ap (λ x. x ++ (32 ∷ a)) (word_is name word y) ∙ ap (λ x. word ++ (32 ∷ x)) b.0 ∙ text r,
      bytes r b.1,
    ))

two_back : (n a : List ℕ) (w : What) → two_fields n a ≡ Some w → Told (n ++ (32 ∷ a)) w
unfolding two_fields
two_back n a w h =
    pick _ _ _ w _ h
    (two_step n (codes "RETRY") a (λ r. Retry r) w (λ r. refl) (λ r l. l))
    (λ g. pick _ _ _ w _ g
    (two_step n (codes "UNCORRECTABLE") a (λ r. Uncorrectable r) w (λ r. refl) (λ r l. l))
    (λ s. pick _ _ _ w _ s
    (two_step n (codes "SPARED") a (λ r. Spared (core_no r)) w (λ r. refl) (λ r l. l))
    (λ z. absurd (cc))))

fail_text :
    (why : Cause) (n : ℕ)
    → codes "FAIL" ++ (32 ∷ (cause_text why ++ (32 ∷ decimal n))) ≡ what_text (Fail why n)
fail_text Fetch n = refl
fail_text Mismatch n = refl
fail_text Store n = refl

fail_step :
    (name a b : List ℕ) (w : What) → bytes_eq name (codes "FAIL") ≡ true
    → both (λ why n. Fail why n) (cause_in a) (long_in b) ≡ Some w
    → Told (name ++ (32 ∷ (a ++ (32 ∷ b)))) w
fail_step name a b w y e =
    both_are (λ why n. Fail why n) (cause_in a) (long_in b) w _ e (λ why n p q s.
    let c = cause_back a why p in
    let d = long_back n b q in
    told_as (name ++ (32 ∷ (a ++ (32 ∷ b)))) (Fail why n) w s (
      ap (λ x. x ++ (32 ∷ (a ++ (32 ∷ b)))) (word_is name (codes "FAIL") y)
          ∙ ap (λ x. codes "FAIL" ++ (32 ∷ (x ++ (32 ∷ b)))) c
          ∙ ap (λ x. codes "FAIL" ++ (32 ∷ (cause_text why ++ (32 ∷ x)))) d.0
          ∙ fail_text why n,
      d.1,
    ))

corrected_step :
    (name a b : List ℕ) (w : What) → bytes_eq name (codes "CORRECTED") ≡ true
    → both (λ n m. Corrected n m) (byte_in a) (byte_in b) ≡ Some w
    → Told (name ++ (32 ∷ (a ++ (32 ∷ b)))) w
corrected_step name a b w y e =
    both_are (λ n m. Corrected n m) (byte_in a) (byte_in b) w _ e (λ n m p q s.
    let c = byte_back n a p in
    let d = byte_back m b q in
    told_as (name ++ (32 ∷ (a ++ (32 ∷ b)))) (Corrected n m) w s (
      ap (λ x. x ++ (32 ∷ (a ++ (32 ∷ b)))) (word_is name (codes "CORRECTED") y)
          ∙ ap (λ x. codes "CORRECTED" ++ (32 ∷ (x ++ (32 ∷ b)))) c.0
          ∙ ap (λ x. codes "CORRECTED" ++ (32 ∷ (decimal n ++ (32 ∷ x)))) d.0
          ∙ sym (append_assoc (codes "CORRECTED " ++ decimal n) blank (decimal m)),
      (c.1, d.1),
    ))

three_back :
    (n a b : List ℕ) (w : What) → three_fields n a b ≡ Some w
    → Told (n ++ (32 ∷ (a ++ (32 ∷ b)))) w
unfolding three_fields
three_back n a b w h =
    pick _ _ _ w _ h (fail_step n a b w)
    (λ r. pick _ _ _ w _ r (corrected_step n a b w) (λ z. absurd (cc)))

-- ---- the whole line

cpu_by :
    (b : Bool) (f : List ℕ) (n : ℕ)
    → (if b then (if bytes_eq f (codes "-") then Some 255 else None) else byte_in f) ≡ Some n
    → (f ≡ (if b then codes "-" else decimal n)) × (n < 256) × (b ≡ true → n ≡ 255)
cpu_by true f n h =
    pick (bytes_eq f (codes "-")) (Some 255) None n _ h (λ z s.
    let is : 255 ≡ n = cc in
    (word_is f (codes "-") z, omega arith, λ r. sym is)) (λ z. absurd (cc))
cpu_by false f n h = let b = byte_back n f h in (b.0, b.1, λ r. absurd (cc))

cpu_back :
    (e : Entry) (f : List ℕ) → cpu_in e.what f ≡ Some e.cpu.0
    → (f ≡ cpu_text e) × (e.cpu.0 < 256) × (is_returned e.what ≡ true → e.cpu.0 ≡ 255)
unfolding cpu_in
cpu_back e f h = cpu_by (is_returned e.what) f e.cpu.0 h

record Parts (t c k : List ℕ) (e : Entry) : Type 0 where
  turn : long_in t ≡ Some e.turn
  cpu : cpu_in e.what c ≡ Some e.cpu.0
  core : byte_in k ≡ Some e.core.0

of_entry :
    (a b d : Option ℕ) (w : What) (e : Entry) → entry_of a b d w ≡ Some e
    → (a ≡ Some e.turn) × (b ≡ Some e.cpu.0) × (d ≡ Some e.core.0) × (w ≡ e.what)
of_entry None b d w e h = absurd (cc)
of_entry (Some t) None d w e h = absurd (cc)
of_entry (Some t) (Some c) None w e h = absurd (cc)
of_entry (Some t) (Some c) (Some k) w e h =
    let s : entry t c k w ≡ e = cc in (
      ap (λ x. Some x.turn) s,
      ap (λ x. Some x.cpu.0) s,
      ap (λ x. Some x.core.0) s,
      ap (λ x. x.what) s,
    )

parts_back :
    (t c k : List ℕ) (o : Option What) (e : Entry) → entry_by t c k o ≡ Some e
    → (o ≡ Some e.what) × Parts t c k e
parts_back t c k None e h = absurd (cc)
parts_back t c k (Some w) e h =
    let p = of_entry (long_in t) (cpu_in w c) (byte_in k) w e h in
    let same : w ≡ e.what = p.3 in (
      ap (λ x. Some x) same,
      record {
        turn = p.0;
        cpu = ap (λ x. cpu_in x c) (sym same) ∙ p.1;
        core = p.2;
      },
    )

-- an entry in its ranges, and its text
abbrev Whole : List ℕ → Entry → Type 0
Whole text e = IsEntry e × (text ≡ entry_text e)

whole :
    (t c k r : List ℕ) (e : Entry) → Parts t c k e → Told r e.what
    → Whole (t ++ (32 ∷ (c ++ (32 ∷ (k ++ (32 ∷ r)))))) e
whole t c k r e p told =
    let a = long_back e.turn t p.turn in
    let b = cpu_back e c p.cpu in
    let d = byte_back e.core.0 k p.core in (
      record { turn = a.1; cpu = b.1; core = d.1; what = told.1; returned = b.2 },
      ap (λ x. x ++ (32 ∷ (c ++ (32 ∷ (k ++ (32 ∷ r)))))) a.0
          ∙ ap (λ x. decimal e.turn ++ (32 ∷ (x ++ (32 ∷ (k ++ (32 ∷ r)))))) b.0
          ∙ ap (λ x. decimal e.turn ++ (32 ∷ (cpu_text e ++ (32 ∷ (x ++ (32 ∷ r)))))) d.0
          ∙ ap (λ x. decimal e.turn ++ (32 ∷ (cpu_text e ++ (32 ∷ (decimal e.core.0 ++ (32 ∷ x))))))
          told.0
          ∙ sym (four_parts (decimal e.turn) (cpu_text e) (decimal e.core.0) (what_text e.what)),
    )

fields_back :
    (fs : List (List ℕ)) (e : Entry) → entry_by_fields fs ≡ Some e → Whole (join_with_byte 32 fs) e
fields_back [] e h = absurd (cc)
fields_back (t ∷ []) e h = absurd (cc)
fields_back (t ∷ c ∷ []) e h = absurd (cc)
fields_back (t ∷ c ∷ k ∷ []) e h = absurd (cc)
fields_back (t ∷ c ∷ k ∷ n ∷ []) e h =
    let p = parts_back t c k (one_field n) e h in
    whole t c k n e p.1 (one_back n e.what p.0)
fields_back (t ∷ c ∷ k ∷ n ∷ a ∷ []) e h =
    let p = parts_back t c k (two_fields n a) e h in
    whole t c k (n ++ (32 ∷ a)) e p.1 (two_back n a e.what p.0)
fields_back (t ∷ c ∷ k ∷ n ∷ a ∷ b ∷ []) e h =
    let p = parts_back t c k (three_fields n a b) e h in
    whole t c k (n ++ (32 ∷ (a ++ (32 ∷ b)))) e p.1 (three_back n a b e.what p.0)
fields_back (t ∷ c ∷ k ∷ n ∷ a ∷ b ∷ x ∷ xs) e h = absurd (cc)

text_back : (text : List ℕ) (e : Entry) → entry_in text ≡ Some e → Whole text e
unfolding entry_in fields
text_back text e h =
    let w = fields_back (fields text) e h in
    (w.0, sym (join_with_byte-slice_split 32 text) ∙ w.1)

line_back :
    (line : List ℕ) (o : Option (List ℕ)) (e : Entry) → content line ≡ o
    → option_and_then entry_in o ≡ Some e → IsEntry e × (line ≡ entry_text e ++ 10 ∷ [])
line_back line None e c h = absurd (cc)
line_back line (Some text) e c h =
    let w = text_back text e h in
    (w.0, content_is line text c ∙ ap (λ x. x ++ 10 ∷ []) w.1)

pub read_is_written : ReadIsWritten
unfolding read_entry entry_line
read_is_written line e h = line_back line (content line) e refl h
