-- A head and a tail that were written are read as their numbers.
use Rattle.std.proofs.Common.{◌≡◌, ℕ, ◌≤◌, ◌<◌, ◌^◌, eqb, true, false, List, [], ◌∷◌, ◌++◌, Some, ◌∙◌, ap, refl, arith, append_assoc, codes}
use Rattle.std.specs.Prelude.{option_and_then}
use Rattle.std.specs.Fmt.{decimal}
use Rattle.std.proofs.lemmas.Bool.Decides.{nat_tests}
use Rattle.esa_words.proofs.Digits.{of_text}
use Rattle.run_model.specs.Numbers.{number_up_to}
use Rattle.run_model.specs.Schedule.{from_one}
use Rattle.run_model.specs.Script.{fields}
use Rattle.run_model.specs.LogLines.{heading, head_line, tail}
use Rattle.run_model.specs.LogReading.{ending, head_of, head_in, tail_of, tail_in}
use Rattle.service_log.specs.Headings.{head_of_line, tail_of_line, HeadIsRead, TailIsRead}
use Rattle.service_log.proofs.Plain.{is_plain, first_field, only_field, decimal_plain, content_fed}
use Rattle.service_log.proofs.Written.{long_read}

-- ---- the tail

abbrev tail_text : ℕ → ℕ → List ℕ
tail_text n m = codes "END " ++ decimal n ++ codes " RETURNED " ++ decimal m

tail_fields :
    (n m : ℕ) → n < 2 ^ 64 → m < 2 ^ 64
    → fields (tail_text n m)
    ≡ codes "END" ∷ decimal n ∷ codes "RETURNED" ∷ decimal m ∷ []
tail_fields n m h g =
    let last = codes "RETURNED" ++ (32 ∷ decimal m) in
    let a = append_assoc (codes "END " ++ decimal n) (codes " RETURNED ") (decimal m) in
    let b = append_assoc (codes "END ") (decimal n) (32 ∷ last) in
    let c = first_field (codes "END") (decimal n ++ (32 ∷ last)) refl in
    let d = first_field (decimal n) last (decimal_plain n h) in
    let e = first_field (codes "RETURNED") (decimal m) refl in
    let f = only_field (decimal m) (decimal_plain m g) in
    ap fields (a ∙ b)
    ∙ c
    ∙ ap (λ l. codes "END" ∷ l) (d ∙ ap (λ l. decimal n ∷ l) (e ∙ ap (λ l. codes "RETURNED" ∷ l) f))

tail_read : (n m : ℕ) → n < 2 ^ 64 → m < 2 ^ 64 → tail_in (tail_text n m) ≡ Some (ending n m)
unfolding tail_in
tail_read n m h g =
    ap tail_of (tail_fields n m h g) ∙ rw (long_read n h, long_read m g) refl

pub tail_is_read : TailIsRead
unfolding tail_of_line tail
tail_is_read n m h g =
    ap (option_and_then tail_in) (content_fed (tail_text n m)) ∙ tail_read n m h g

-- ---- the head

abbrev head_text : ℕ → ℕ → ℕ → List ℕ
head_text c s t =
    codes "G5LOG 2 CPUS " ++ decimal c ++ codes " SPARES " ++ decimal s ++ codes " THRESHOLD "
    ++ decimal t

-- a word and a number in front of further fields
numbered :
    (word rest : List ℕ) (n : ℕ) → is_plain word ≡ true → n < 2 ^ 64
    → fields (word ++ (32 ∷ (decimal n ++ (32 ∷ rest)))) ≡ word ∷ decimal n ∷ fields rest
numbered word rest n p h =
    first_field word (decimal n ++ (32 ∷ rest)) p
    ∙ ap (λ l. word ∷ l) (first_field (decimal n) rest (decimal_plain n h))

head_fields :
    (c s t : ℕ) → c < 2 ^ 64 → s < 2 ^ 64 → t < 2 ^ 64
    → fields (head_text c s t)
    ≡ codes "G5LOG" ∷ codes "2" ∷ codes "CPUS" ∷ decimal c ∷ codes "SPARES" ∷ decimal s
    ∷ codes "THRESHOLD" ∷ decimal t ∷ []
head_fields c s t hc hs ht =
    let last = codes "THRESHOLD" ++ (32 ∷ decimal t) in
    let more = codes "SPARES" ++ (32 ∷ (decimal s ++ (32 ∷ last))) in
    let cpus = codes "CPUS" ++ (32 ∷ (decimal c ++ (32 ∷ more))) in
    let g = codes "G5LOG 2 CPUS " in
    let front = g ++ decimal c ++ codes " SPARES " in
    let parts =
    append_assoc (front ++ decimal s) (codes " THRESHOLD ") (decimal t)
    ∙ append_assoc front (decimal s) (32 ∷ last)
    ∙ append_assoc (g ++ decimal c) (codes " SPARES ") (decimal s ++ (32 ∷ last))
    ∙ append_assoc g (decimal c) (32 ∷ more) in
    let thresholds =
    first_field (codes "THRESHOLD") (decimal t) refl
    ∙ ap (λ l. codes "THRESHOLD" ∷ l) (only_field (decimal t) (decimal_plain t ht)) in
    let spares =
    numbered (codes "SPARES") last s refl hs
    ∙ ap (λ l. codes "SPARES" ∷ decimal s ∷ l) thresholds in
    let all =
    numbered (codes "CPUS") more c refl hc ∙ ap (λ l. codes "CPUS" ∷ decimal c ∷ l) spares in
    ap fields parts
    ∙ first_field (codes "G5LOG") (codes "2" ++ (32 ∷ cpus)) refl
    ∙ ap (λ l. codes "G5LOG" ∷ l)
    (first_field (codes "2") cpus refl ∙ ap (λ l. codes "2" ∷ l) all)

cpus_read : (c : ℕ) → 1 ≤ c → c ≤ 8 → from_one (number_up_to 8 (decimal c)) ≡ Some c
cpus_read c low high =
    let some : eqb c 0 ≡ false = grind (arith, nat_tests) in
    ap from_one (of_text 8 c high (omega arith)) ∙ rw some refl

head_read :
    (c s t : ℕ) → 1 ≤ c → c ≤ 8 → s ≤ 8 → t ≤ 15
    → head_in (head_text c s t) ≡ Some (heading c s t)
unfolding head_in
head_read c s t low hc hs ht =
    let a = cpus_read c low hc in
    let b = of_text 8 s hs (omega arith) in
    let d = of_text 15 t ht (omega arith) in
    ap (head_of (codes "2")) (head_fields c s t (omega arith) (omega arith) (omega arith))
    ∙ rw (a, b, d) refl

pub head_is_read : HeadIsRead
unfolding head_of_line head_line
head_is_read c s t low hc hs ht =
    ap (option_and_then head_in) (content_fed (head_text c s t)) ∙ head_read c s t low hc hs ht
