-- A save that is written is read as what was written.
use Rattle.std.proofs.Common.{◌≡◌, ℕ, ◌+◌, ◌<◌, ◌≤◌, List, [], ◌∷◌, ◌++◌, length, take, drop, replicate, refl, sym, ap, ◌∙◌, arith, true, false, Some, None, Ok, Err, length-append, Bool, Option}
use Rattle.std.specs.Prelude.{nat_le, ◌==◌, ◌&&◌, bytes_eq}
use Rattle.std.proofs.lemmas.Bool.{le-leb, lt-ltb, le-ltb, eq-eqb}
use Rattle.save_model.specs.declared.parts.SaveHead.{SaveHead}
use Rattle.save_model.specs.declared.parts.SavedNumbers.{SavedNumbers}
use Rattle.save_model.specs.declared.parts.SavedCpu.{SavedCpu}
use Rattle.save_model.specs.declared.parts.SavedCore.{SavedCore}
use Rattle.save_model.specs.declared.refusal.SaveRefusal.TheVariants.{BadField, PastSchedule, PastConsole}
use Rattle.save_model.specs.Fields.{Field, bytes_of_fields, size, numbers, behind, many, behind_many, all_good, first_bad}
use Rattle.save_model.specs.Parts.{head_fields, number_fields, cpus_fields, cores_fields, key_fields, head_widths, head_of, number_widths, numbers_of, cpu_widths, cpu_of, core_widths, core_of}
use Rattle.save_model.specs.Save.{Save, fields, magic, bytes_of, behind_numbers, behind_cpus, behind_cores, read_by, head_in, read_all, head_good, size_by, judged, read_save, IsShaped, IsSave}
use Rattle.save_model.proofs.FieldsRead.{fields_flat, size_fields, size_append, fit_front, fit_behind, fields_behind, fields_read}
use Rattle.save_model.proofs.PartsRead.{cpus_size, cpus_read, cpus_behind, cores_size, cores_read, cores_behind, key_size, keys_read, keys_behind}

-- ---- the parts, one behind another

pub parts_flat : (s : Save) → bytes_of_fields (fields s) ++ s.storage
    ≡ bytes_of_fields (number_fields s.numbers) ++ (bytes_of_fields (cpus_fields s.head [] s.cpus)
    ++ (bytes_of_fields (cores_fields s.head s.cpus 0 s.cores) ++ (bytes_of_fields (key_fields s.keys) ++ s.storage)))
unfolding fields
parts_flat s =
    let n : List Field = number_fields s.numbers in
    let c : List Field = cpus_fields s.head [] s.cpus in
    let k : List Field = cores_fields s.head s.cpus 0 s.cores in
    let y : List Field = key_fields s.keys in
    fields_flat n (c ++ (k ++ y)) s.storage
    ∙ ap (λ z. bytes_of_fields n ++ z) (fields_flat c (k ++ y) s.storage)
    ∙ ap (λ z. bytes_of_fields n ++ (bytes_of_fields c ++ z)) (fields_flat k y s.storage)

abbrev whole : SaveHead → SavedNumbers → List SavedCpu → List SavedCore → List ℕ → List ℕ → Save
whole h n c k y u = record { head = h; numbers = n; cpus = c; cores = k; keys = y; storage = u }

same_parts : (h : SaveHead) {m n : SavedNumbers} {c d : List SavedCpu} {k l : List SavedCore} {y z u v : List ℕ}
    → m ≡ n → c ≡ d → k ≡ l → y ≡ z → u ≡ v → whole h m c k y u ≡ whole h n d l z v
same_parts h e1 e2 e3 e4 e5 = rw (e1, e2, e3, e4, e5) refl

body_read : (s : Save) → IsShaped s → read_by s.head (bytes_of_fields (fields s) ++ s.storage) ≡ s
unfolding fields read_by
body_read s h =
    let n : List Field = number_fields s.numbers in
    let c : List Field = cpus_fields s.head [] s.cpus in
    let k : List Field = cores_fields s.head s.cpus 0 s.cores in
    let y : List Field = key_fields s.keys in
    let r3 : List ℕ = bytes_of_fields y ++ s.storage in
    let r2 : List ℕ = bytes_of_fields k ++ r3 in
    let r1 : List ℕ = bytes_of_fields c ++ r2 in
    let all : List ℕ = bytes_of_fields n ++ r1 in
    let fit_n = fit_front n (c ++ (k ++ y)) h.fits in
    let fit_1 = fit_behind n (c ++ (k ++ y)) h.fits in
    let fit_c = fit_front c (k ++ y) fit_1 in
    let fit_2 = fit_behind c (k ++ y) fit_1 in
    let fit_k = fit_front k y fit_2 in
    let fit_y = fit_behind k y fit_2 in
    let to_1 : behind_numbers all ≡ r1 = fields_behind n r1 in
    let after_1 : behind_many cpu_widths s.head.cpus r1 ≡ r2 =
    ap (λ i. behind_many cpu_widths i r1) (sym h.cpus) ∙ cpus_behind s.head [] s.cpus r2 h.words in
    let to_2 : behind_cpus s.head all ≡ r2 = ap (λ z. behind_many cpu_widths s.head.cpus z) to_1 ∙ after_1 in
    let after_2 : behind_many core_widths 16 r2 ≡ r3 =
    ap (λ i. behind_many core_widths i r2) (sym h.cores) ∙ cores_behind s.head s.cpus 0 s.cores r3 h.stored in
    let to_3 : behind_cores s.head all ≡ r3 = ap (λ z. behind_many core_widths 16 z) to_2 ∙ after_2 in
    let read_n : numbers_of (numbers number_widths all) ≡ s.numbers = ap numbers_of (fields_read n r1 fit_n) in
    let read_c : many cpu_of cpu_widths s.head.cpus r1 ≡ s.cpus =
    ap (λ i. many cpu_of cpu_widths i r1) (sym h.cpus) ∙ cpus_read s.head [] s.cpus r2 h.words fit_c in
    let read_k : many core_of core_widths 16 r2 ≡ s.cores =
    ap (λ i. many core_of core_widths i r2) (sym h.cores) ∙ cores_read s.head s.cpus 0 s.cores r3 h.stored fit_k in
    ap (λ z. read_by s.head z) (parts_flat s)
    ∙ same_parts s.head read_n
    (ap (λ z. many cpu_of cpu_widths s.head.cpus z) to_1 ∙ read_c)
    (ap (λ z. many core_of core_widths 16 z) to_2 ∙ read_k)
    (ap (λ z. numbers (replicate s.head.pages 1) z) to_3 ∙ keys_read s.keys s.head.pages s.storage h.keys fit_y)
    (ap (λ z. behind (replicate s.head.pages 1) z) to_3 ∙ keys_behind s.keys s.head.pages s.storage h.keys)

-- ---- the head and the length

abbrev body : Save → List ℕ
body s = bytes_of_fields (fields s) ++ s.storage

head_read : (s : Save) → IsShaped s → head_in (bytes_of s) ≡ s.head
unfolding bytes_of
head_read s h = ap head_of (fields_read (head_fields s.head) (body s) h.head_fits)

body_left : (s : Save) → behind head_widths (drop 8 (bytes_of s)) ≡ body s
unfolding bytes_of
body_left s = fields_behind (head_fields s.head) (body s)

pub written_size : (s : Save) → IsShaped s → length (bytes_of s) ≡ size_by s.head
unfolding fields bytes_of
written_size s h =
    let c : List Field = cpus_fields s.head [] s.cpus in
    let k : List Field = cores_fields s.head s.cpus 0 s.cores in
    let y : List Field = key_fields s.keys in
    let front : List ℕ = bytes_of_fields (head_fields s.head) in
    let all : length (bytes_of s) ≡ 8 + length (front ++ body s) = length-append magic (front ++ body s) in
    let a1 = length-append front (body s) in
    let a2 : length front ≡ 8 = size_fields (head_fields s.head) in
    let a3 = length-append (bytes_of_fields (fields s)) s.storage in
    let a4 = size_fields (fields s) in
    let four : size (fields s) ≡ 72 + (size c + (size k + size y)) =
    size_append (number_fields s.numbers) (c ++ (k ++ y))
    ∙ ap (λ i. 72 + i) (size_append c (k ++ y) ∙ ap (λ i. size c + i) (size_append k y)) in
    let sc = cpus_size s.head [] s.cpus h.words in
    let sk = cores_size s.head s.cpus 0 s.cores h.stored in
    let sy = key_size s.keys in
    let lc = h.cpus in
    let lk = h.cores in
    let ly = h.keys in
    let ls = h.storage in
    omega (arith, all, a1, a2, a3, a4, four, sc, sk, sy, lc, lk, ly, ls)

written_head : (s : Save) → IsShaped s → all_good (head_fields s.head) ≡ true → head_good (bytes_of s) ≡ true
unfolding head_good bytes_of
written_head s h good =
    let long = written_size s h in
    let room : nat_le 16 (length (bytes_of s)) ≡ true = le-leb 16 (length (bytes_of s)) (omega (arith, long)) in
    ap (λ b. b && (bytes_eq (take 8 (bytes_of s)) magic && all_good (head_fields (head_in (bytes_of s))))) room
    ∙ ap (λ z. all_good (head_fields z)) (head_read s h)
    ∙ good

-- ---- the answer

-- of bytes with a good head and its length
pub read_as : (turns console : ℕ) (bs : List ℕ) (s : Save) (bad : Option ℕ) → head_good bs ≡ true → length bs ≡ size_by (head_in bs) → read_all bs ≡ s → first_bad 16 (fields s) ≡ bad
    → read_save turns console bs ≡ judged turns console s bad
unfolding read_save
read_as turns console bs s bad good long read first =
    let fits : (length bs == size_by (head_in bs)) ≡ true = eq-eqb (length bs) (size_by (head_in bs)) long in
    rw (good, fits, read, first) refl

-- a save that is written is read and judged
pub read_written : (s : Save) (turns console : ℕ) (bad : Option ℕ) → IsShaped s → all_good (head_fields s.head) ≡ true → first_bad 16 (fields s) ≡ bad
    → read_save turns console (bytes_of s) ≡ judged turns console s bad
read_written s turns console bad h good first =
    let head = head_read s h in
    let read : read_all (bytes_of s) ≡ s =
    ap (λ z. read_by z (behind head_widths (drop 8 (bytes_of s)))) head ∙ ap (λ z. read_by s.head z) (body_left s) ∙ body_read s h in
    read_as turns console (bytes_of s) s bad (written_head s h good) (written_size s h ∙ ap size_by (sym head)) read first

pub read_again : (s : Save) (turns console : ℕ) → IsSave s → s.numbers.turns ≤ turns → s.numbers.console_read ≤ console → read_save turns console (bytes_of s) ≡ Ok s
read_again s turns console h in_schedule in_console =
    read_written s turns console None h.shaped h.head h.good ∙ rw (le-ltb turns s.numbers.turns in_schedule, le-ltb console s.numbers.console_read in_console) refl

pub read_past_schedule : (s : Save) (turns console : ℕ) → IsSave s → turns < s.numbers.turns → read_save turns console (bytes_of s) ≡ Err PastSchedule
read_past_schedule s turns console h past_it =
    read_written s turns console None h.shaped h.head h.good ∙ rw (lt-ltb turns s.numbers.turns past_it) refl

pub read_past_console : (s : Save) (turns console : ℕ) → IsSave s → s.numbers.turns ≤ turns → console < s.numbers.console_read → read_save turns console (bytes_of s) ≡ Err PastConsole
read_past_console s turns console h in_schedule past_it =
    read_written s turns console None h.shaped h.head h.good ∙ rw (le-ltb turns s.numbers.turns in_schedule, lt-ltb console s.numbers.console_read past_it) refl

-- ---- fields outside their values

pub left_true : (a b : Bool) → (a && b) ≡ true → a ≡ true
left_true true b e = refl
left_true false b e = e

pub right_true : (a b : Bool) → (a && b) ≡ true → b ≡ true
right_true true b e = e
right_true false b e = absurd (let no : false ≡ true = e in cc)

bad_at : (at : ℕ) (fs gs : List Field) (f : Field) → all_good fs ≡ true → f.good ≡ false → first_bad at (fs ++ f ∷ gs) ≡ Some (at + size fs)
bad_at at [] gs f good bad = rw bad (ap (λ n. Some n) (omega arith))
bad_at at (g ∷ fs) gs f good bad =
    let first : g.good ≡ true = left_true g.good (all_good fs) good in
    let more = bad_at (at + g.width) fs gs f (right_true g.good (all_good fs) good) bad in
    let sums : at + g.width + size fs ≡ at + (g.width + size fs) = omega arith in
    rw first (more ∙ ap (λ n. Some n) sums)

pub read_bad_field : (s : Save) (turns console : ℕ) (fs gs : List Field) (f : Field) → IsShaped s → all_good (head_fields s.head) ≡ true
    → fields s ≡ fs ++ f ∷ gs → all_good fs ≡ true → f.good ≡ false → read_save turns console (bytes_of s) ≡ Err (BadField (16 + size fs))
read_bad_field s turns console fs gs f h head split good bad =
    read_written s turns console (Some (16 + size fs)) h head (ap (λ z. first_bad 16 z) split ∙ bad_at 16 fs gs f good bad)
