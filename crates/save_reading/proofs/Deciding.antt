-- What was read and judged is the answer of the definition.
use Rattle.std.proofs.Common.{◌≡◌, ◌≢◌, ℕ, zero, suc, ◌+◌, ◌≤◌, List, [], ◌∷◌, ◌++◌, length, take, drop, replicate, refl, sym, ap, ◌∙◌, Option, None, true, false, Bool, Err, arith}
use Rattle.std.specs.Prelude.{◌==◌, ◌&&◌}
use Rattle.std.proofs.lemmas.Bool.{eqb-true}
use Rattle.save_model.specs.declared.refusal.SaveRefusal.TheVariants.{BadHead, BadLength}
use Rattle.save_model.specs.declared.parts.SaveHead.{SaveHead}
use Rattle.save_model.specs.declared.parts.SavedNumbers.{SavedNumbers}
use Rattle.save_model.specs.declared.parts.SavedCpu.{SavedCpu}
use Rattle.save_model.specs.declared.parts.SavedCore.{SavedCore}
use Rattle.save_model.specs.Fields.{Field, numbers, behind, many, behind_many, all_good, first_bad}
use Rattle.save_model.specs.Parts.{head_fields, number_fields, cpus_fields, cores_fields, key_fields, head_of, head_widths, numbers_of, number_widths, cpu_of, cpu_widths, core_of, core_widths}
use Rattle.save_model.specs.Save.{Save, fields, read_by, read_all, head_good, size_by, judged, read_save}
use Rattle.save_model.proofs.SaveRead.{read_as}
use Rattle.save_writing.specs.Written.{save_of}
use Rattle.save_reading.specs.declared.judge.Judge.{Judge}
use Rattle.save_reading.specs.Judging.{judge_all}
use Rattle.save_reading.proofs.Judges.{judge_append, judged_first}
use Rattle.save_reading.proofs.Numbering.{ones_read, ones_behind}

last_false : (a b c : Bool) → c ≡ false → (a && (b && c)) ≡ false
last_false true true c e = e
last_false true false c e = refl
last_false false b c e = refl

-- ---- the refusals before the fields

pub bad_head : (turns console : ℕ) (bs : List ℕ) → head_good bs ≡ false → read_save turns console bs ≡ Err BadHead
unfolding read_save
bad_head turns console bs e = rw e refl

neq_by : (a b : ℕ) (t : Bool) → (a == b) ≡ t → a ≢ b → (a == b) ≡ false
neq_by a b true e ne = absurd (ne (eqb-true a b e))
neq_by a b false e ne = e

pub bad_length : (turns console : ℕ) (bs : List ℕ) (h : SaveHead) → head_good bs ≡ true → h ≡ head_of (numbers head_widths (drop 8 bs)) → length bs ≢ size_by h
    → read_save turns console bs ≡ Err BadLength
unfolding read_save
bad_length turns console bs h good e differ =
    let long : (length bs == size_by h) ≡ false = neq_by (length bs) (size_by h) (length bs == size_by h) refl differ in
    let same : (length bs == size_by (head_of (numbers head_widths (drop 8 bs)))) ≡ false = ap (λ z. length bs == size_by z) (sym e) ∙ long in
    rw (good, same) refl

-- ---- the body

drop_twice : (m n : ℕ) (xs : List ℕ) → drop n (drop m xs) ≡ drop (m + n) xs
drop_twice zero n xs = let e : n ≡ zero + n = omega arith in ap (λ k. drop k xs) e
drop_twice (suc m) zero [] = let e : suc m ≡ suc m + zero = omega arith in ap (λ k. drop k []) e
drop_twice (suc m) (suc n) [] = let e : suc (suc (m + n)) ≡ suc m + suc n = omega arith in ap (λ k. drop k []) e
drop_twice (suc m) n (x ∷ xs) = let e : suc (m + n) ≡ suc m + n = omega arith in drop_twice m n xs ∙ ap (λ k. drop k (x ∷ xs)) e

behind_head : (bs : List ℕ) → behind head_widths (drop 8 bs) ≡ drop 16 bs
behind_head bs =
    ap (λ z. drop 4 (drop 1 (drop 1 (drop 1 z)))) (drop_twice 8 1 bs)
    ∙ ap (λ z. drop 4 (drop 1 (drop 1 z))) (drop_twice 9 1 bs)
    ∙ ap (λ z. drop 4 (drop 1 z)) (drop_twice 10 1 bs)
    ∙ ap (λ z. drop 4 z) (drop_twice 11 1 bs)
    ∙ drop_twice 12 4 bs

pub read_by_parts : (turns console : ℕ) (bs : List ℕ) (h : SaveHead) (s : Save) (bad : Option ℕ) → head_good bs ≡ true → h ≡ head_of (numbers head_widths (drop 8 bs)) → length bs ≡ size_by h
    → s ≡ read_by h (drop 16 bs) → bad ≡ first_bad 16 (fields s) → read_save turns console bs ≡ judged turns console s bad
read_by_parts turns console bs h s bad good e long read first =
    let head : SaveHead = head_of (numbers head_widths (drop 8 bs)) in
    let all : read_all bs ≡ s = ap (λ z. read_by head z) (behind_head bs) ∙ sym (read ∙ ap (λ z. read_by z (drop 16 bs)) e) in
    read_as turns console bs s bad good (long ∙ ap size_by e) all (sym first)

same_parts : (h : SaveHead) {s t : SavedNumbers} {c d : List SavedCpu} {k l : List SavedCore} {y z u v : List ℕ}
    → s ≡ t → c ≡ d → k ≡ l → y ≡ z → u ≡ v → save_of h s c k y u ≡ save_of h t d l z v
same_parts h e1 e2 e3 e4 e5 = rw (e1, e2, e3, e4, e5) refl

pub body_read : (h : SaveHead) (s : SavedNumbers) (cs : List SavedCpu) (ks : List SavedCore) (ys zs bs r1 r2 r3 : List ℕ)
    → s ≡ numbers_of (numbers number_widths bs) → r1 ≡ behind number_widths bs → cs ≡ many cpu_of cpu_widths h.cpus r1 → r2 ≡ behind_many cpu_widths h.cpus r1
    → ks ≡ many core_of core_widths 16 r2 → r3 ≡ behind_many core_widths 16 r2 → ys ≡ take h.pages r3 → zs ≡ drop h.pages r3 → h.pages ≤ length r3
    → save_of h s cs ks ys zs ≡ read_by h bs
unfolding read_by
body_read h s cs ks ys zs bs r1 r2 r3 e1 e2 e3 e4 e5 e6 e7 e8 le =
    let s1 : List ℕ = behind number_widths bs in
    let s2 : List ℕ = behind_many cpu_widths h.cpus s1 in
    let s3 : List ℕ = behind_many core_widths 16 s2 in
    let f2 : r2 ≡ s2 = e4 ∙ ap (λ z. behind_many cpu_widths h.cpus z) e2 in
    let f3 : r3 ≡ s3 = e6 ∙ ap (λ z. behind_many core_widths 16 z) f2 in
    let cpus : cs ≡ many cpu_of cpu_widths h.cpus s1 = e3 ∙ ap (λ z. many cpu_of cpu_widths h.cpus z) e2 in
    let cores : ks ≡ many core_of core_widths 16 s2 = e5 ∙ ap (λ z. many core_of core_widths 16 z) f2 in
    let keys : ys ≡ numbers (replicate h.pages 1) s3 = e7 ∙ sym (ones_read h.pages r3 le) ∙ ap (λ z. numbers (replicate h.pages 1) z) f3 in
    let storage : zs ≡ behind (replicate h.pages 1) s3 = e8 ∙ sym (ones_behind h.pages r3 le) ∙ ap (λ z. behind (replicate h.pages 1) z) f3 in
    same_parts h e1 cpus cores keys storage

-- ---- the judge

pub judged_save : (s : Save) (j1 j2 j3 j4 : Judge) → j1 ≡ judge_all (record { at = 16; bad = None }) (number_fields s.numbers)
    → j2 ≡ judge_all j1 (cpus_fields s.head [] s.cpus) → j3 ≡ judge_all j2 (cores_fields s.head s.cpus 0 s.cores) → j4 ≡ judge_all j3 (key_fields s.keys)
    → j4.bad ≡ first_bad 16 (fields s)
unfolding fields
judged_save s j1 j2 j3 j4 e1 e2 e3 e4 =
    let n : List Field = number_fields s.numbers in
    let c : List Field = cpus_fields s.head [] s.cpus in
    let k : List Field = cores_fields s.head s.cpus 0 s.cores in
    let y : List Field = key_fields s.keys in
    let start : Judge = record { at = 16; bad = None } in
    let f3 : j4 ≡ judge_all j2 (k ++ y) = e4 ∙ ap (λ z. judge_all z y) e3 ∙ sym (judge_append j2 k y) in
    let f2 : j4 ≡ judge_all j1 (c ++ (k ++ y)) = f3 ∙ ap (λ z. judge_all z (k ++ y)) e2 ∙ sym (judge_append j1 c (k ++ y)) in
    let f1 : j4 ≡ judge_all start (n ++ (c ++ (k ++ y))) = f2 ∙ ap (λ z. judge_all z (c ++ (k ++ y))) e1 ∙ sym (judge_append start n (c ++ (k ++ y))) in
    ap (λ z. z.bad) f1 ∙ judged_first 16 (n ++ (c ++ (k ++ y)))

-- ---- the head

pub no_head : (bs : List ℕ) (h : SaveHead) → h ≡ head_of (numbers head_widths (drop 8 bs)) → all_good (head_fields h) ≡ false → head_good bs ≡ false
unfolding head_good
no_head bs h e bad = last_false _ _ _ (ap (λ z. all_good (head_fields z)) (sym e) ∙ bad)
