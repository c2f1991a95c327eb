-- What is read of bytes is a save, and written again it is these bytes.
use Rattle.std.proofs.Common.{◌≡◌, ℕ, ◌+◌, ◌*◌, ◌≤◌, List, [], ◌++◌, length, take, drop, replicate, refl, sym, ap, ◌∙◌, arith, true, false, Some, None, Ok, Err, Bool, Option, Result, not, if◌then◌else◌, length-drop, subst}
use Rattle.std.specs.Prelude.{nat_le, nat_lt, ◌==◌, ◌&&◌, bytes_eq}
use Rattle.std.proofs.lemmas.Bool.{eqb-true, ltb-false}
use Rattle.std.proofs.lemmas.List.{take-append-drop}
use Rattle.std.proofs.lemmas.Slice.Eq.{bytes_eq-Decides}
use Rattle.save_model.specs.declared.parts.SaveHead.{SaveHead}
use Rattle.save_model.specs.declared.refusal.SaveRefusal.{SaveRefusal}
use Rattle.save_model.specs.declared.refusal.SaveRefusal.TheVariants.{BadHead, BadLength, BadField, PastSchedule, PastConsole}
use Rattle.save_model.specs.Fields.{Field, AreBytes, bytes_of_fields, numbers, behind, all_good, first_bad}
use Rattle.save_model.specs.Parts.{head_fields, number_fields, cpus_fields, cores_fields, key_fields, head_widths, number_widths, numbers_of, cpu_widths, cpu_of, core_widths, core_of}
use Rattle.save_model.specs.Save.{Save, fields, magic, bytes_of, behind_numbers, behind_cpus, behind_cores, read_by, head_in, read_all, head_good, size_by, past, judged, read_save, IsShaped, IsSave}
use Rattle.save_model.proofs.FieldsAgain.{Stood, stood, stood_both, behind_long, drop_bytes, behind_bytes}
use Rattle.save_model.proofs.PartsAgain.{cpus_stood, cpus_long, cpus_shaped, cores_stood, cores_long, cores_shaped, many_long, behind_many_bytes, keys_long, keys_total, keys_stood}
use Rattle.save_model.proofs.SaveRead.{left_true, right_true}

-- ---- the body

numbers_stood : (bs : List ℕ) → 72 ≤ length bs → AreBytes bs → Stood (number_fields (numbers_of (numbers number_widths bs))) bs (behind_numbers bs)
numbers_stood bs room b = stood (number_fields (numbers_of (numbers number_widths bs))) number_widths bs refl refl room b

-- the bytes behind a head, where they are as many as it tells
pub record Body (h : SaveHead) (bs : List ℕ) : Type 0 where
  pub bytes : AreBytes bs
  pub long : length bs ≡ 72 + (336 * h.cpus + (10496 + (h.pages + 4096 * h.pages)))

after_numbers : (h : SaveHead) (bs : List ℕ) → Body h bs → length (behind_numbers bs) + 72 ≡ length bs
after_numbers h bs b = let long = b.long in behind_long number_widths bs (omega (arith, long))

after_cpus : (h : SaveHead) (bs : List ℕ) → Body h bs → length (behind_cpus h bs) + 336 * h.cpus ≡ length (behind_numbers bs)
after_cpus h bs b =
    let long = b.long in
    let e = after_numbers h bs b in
    cpus_long h.cpus (behind_numbers bs) (omega (arith, long, e))

after_cores : (h : SaveHead) (bs : List ℕ) → Body h bs → length (behind_cores h bs) ≡ h.pages + 4096 * h.pages
after_cores h bs b =
    let long = b.long in
    let e = after_numbers h bs b in
    let f = after_cpus h bs b in
    let g = cores_long 16 (behind_cpus h bs) (omega (arith, long, e, f)) in
    omega (arith, long, e, f, g)

body_stood : (h : SaveHead) (bs : List ℕ) → Body h bs → Stood (fields (read_by h bs)) bs (read_by h bs).storage
unfolding fields read_by
body_stood h bs b =
    let long = b.long in
    let r1 : List ℕ = behind_numbers bs in
    let r2 : List ℕ = behind_cpus h bs in
    let r3 : List ℕ = behind_cores h bs in
    let s : Save = read_by h bs in
    let e1 = after_numbers h bs b in
    let e2 = after_cpus h bs b in
    let e3 = after_cores h bs b in
    let b1 = behind_bytes number_widths bs b.bytes in
    let b2 = behind_many_bytes cpu_widths h.cpus r1 b1 in
    let b3 = behind_many_bytes core_widths 16 r2 b2 in
    let y : List Field = key_fields s.keys in
    let k : List Field = cores_fields h s.cpus 0 s.cores in
    let c : List Field = cpus_fields h [] s.cpus in
    let keys : Stood y r3 s.storage = keys_stood h.pages r3 (omega (arith, e3)) b3 in
    let cores : Stood k r2 r3 = cores_stood h s.cpus 0 16 r2 (omega (arith, long, e1, e2)) b2 in
    let cpus : Stood c r1 r2 = cpus_stood h [] h.cpus r1 (omega (arith, long, e1)) b1 in
    let first : Stood (number_fields s.numbers) bs r1 = numbers_stood bs (omega (arith, long)) b.bytes in
    stood_both (number_fields s.numbers) (c ++ (k ++ y)) bs r1 s.storage first
    (stood_both c (k ++ y) r1 r2 s.storage cpus (stood_both k y r2 r3 s.storage cores keys))

-- ---- the whole

head_stood : (bs : List ℕ) → 16 ≤ length bs → AreBytes bs → Stood (head_fields (head_in bs)) (drop 8 bs) (behind head_widths (drop 8 bs))
head_stood bs room b =
    let left = length-drop 8 bs in
    stood (head_fields (head_in bs)) head_widths (drop 8 bs) refl refl (omega (arith, left, room)) (drop_bytes 8 bs b)

-- bytes with a head and its length
pub record Whole (bs : List ℕ) : Type 0 where
  pub bytes : AreBytes bs
  pub head : head_good bs ≡ true
  pub long : length bs ≡ size_by (head_in bs)

body_of : (bs : List ℕ) → Whole bs → Body (head_in bs) (behind head_widths (drop 8 bs))
body_of bs w =
    let long = w.long in
    let left = length-drop 8 bs in
    let e = behind_long head_widths (drop 8 bs) (omega (arith, long, left)) in
    record {
      bytes = behind_bytes head_widths (drop 8 bs) (drop_bytes 8 bs w.bytes);
      long = omega (arith, long, left, e);
    }

begins : (bs : List ℕ) → head_good bs ≡ true → magic ++ drop 8 bs ≡ bs
unfolding head_good
begins bs good =
    let more = right_true (nat_le 16 (length bs)) (bytes_eq (take 8 bs) magic && all_good (head_fields (head_in bs))) good in
    let same : take 8 bs ≡ magic = (bytes_eq-Decides (take 8 bs) magic).0 (left_true (bytes_eq (take 8 bs) magic) (all_good (head_fields (head_in bs))) more) in
    ap (λ z. z ++ drop 8 bs) (sym same) ∙ take-append-drop 8 bs

good_head : (bs : List ℕ) → head_good bs ≡ true → all_good (head_fields (head_in bs)) ≡ true
unfolding head_good
good_head bs good =
    right_true (bytes_eq (take 8 bs) magic) (all_good (head_fields (head_in bs)))
    (right_true (nat_le 16 (length bs)) (bytes_eq (take 8 bs) magic && all_good (head_fields (head_in bs))) good)

pub written_again : (bs : List ℕ) → Whole bs → bytes_of (read_all bs) ≡ bs
unfolding bytes_of read_by
written_again bs w =
    let long = w.long in
    let front = head_stood bs (omega (arith, long)) w.bytes in
    let rest = body_stood (head_in bs) (behind head_widths (drop 8 bs)) (body_of bs w) in
    ap (λ z. magic ++ (bytes_of_fields (head_fields (head_in bs)) ++ z)) rest.again
    ∙ ap (λ z. magic ++ z) front.again
    ∙ begins bs w.head

read_shaped : (bs : List ℕ) → Whole bs → IsShaped (read_all bs)
unfolding read_by
read_shaped bs w =
    let long = w.long in
    let h : SaveHead = head_in bs in
    let left : List ℕ = behind head_widths (drop 8 bs) in
    let b = body_of bs w in
    let e3 = after_cores h left b in
    let total = keys_total h.pages in
    let e4 = behind_long (replicate h.pages 1) (behind_cores h left) (omega (arith, total, e3)) in
    record {
      head_fits = (head_stood bs (omega (arith, long)) w.bytes).fit;
      fits = (body_stood h left b).fit;
      cpus = many_long cpu_of cpu_widths h.cpus (behind_numbers left);
      words = cpus_shaped h.cpus (behind_numbers left);
      cores = many_long core_of core_widths 16 (behind_cpus h left);
      stored = cores_shaped 16 (behind_cpus h left);
      keys = keys_long h.pages (behind_cores h left);
      storage = omega (arith, e3, e4, total);
    }

-- ---- what is accepted

abbrev saved_or : Save → Result Save SaveRefusal → Save
saved_or s (Ok t) = t
saved_or s (Err e) = s

past_accepted : (a b : Bool) (s t : Save) → (if a then Err PastSchedule else (if b then Err PastConsole else Ok s)) ≡ Ok t
    → (a ≡ false) × ((b ≡ false) × (s ≡ t))
past_accepted false false s t e = (refl, (refl, ap (saved_or s) e))
past_accepted false true s t e = absurd (let both : Err PastConsole ≡ Ok t = e in cc)
past_accepted true b s t e = absurd (let both : Err PastSchedule ≡ Ok t = e in cc)

judged_accepted : (turns console : ℕ) (s t : Save) (bad : Option ℕ) → judged turns console s bad ≡ Ok t → (bad ≡ None) × (past turns console s ≡ Ok t)
judged_accepted turns console s t None e = (refl, e)
judged_accepted turns console s t (Some at) e = absurd (let both : Err (BadField at) ≡ Ok t = e in cc)

tested : (g l : Bool) (r : Result Save SaveRefusal) (t : Save) → (if not g then Err BadHead else (if not l then Err BadLength else r)) ≡ Ok t
    → (g ≡ true) × ((l ≡ true) × (r ≡ Ok t))
tested true true r t e = (refl, (refl, e))
tested true false r t e = absurd (let both : Err BadLength ≡ Ok t = e in cc)
tested false l r t e = absurd (let both : Err BadHead ≡ Ok t = e in cc)

pub record Accepted (turns console : ℕ) (bs : List ℕ) (t : Save) : Type 0 where
  pub head : head_good bs ≡ true
  pub long : length bs ≡ size_by (head_in bs)
  pub good : first_bad 16 (fields (read_all bs)) ≡ None
  pub in_schedule : (read_all bs).numbers.turns ≤ turns
  pub in_console : (read_all bs).numbers.console_read ≤ console
  pub same : read_all bs ≡ t

pub accepted : (turns console : ℕ) (bs : List ℕ) (t : Save) → read_save turns console bs ≡ Ok t → Accepted turns console bs t
unfolding read_save
accepted turns console bs t e =
    let s : Save = read_all bs in
    let bad : Option ℕ = first_bad 16 (fields s) in
    let front = tested (head_good bs) (length bs == size_by (head_in bs)) (judged turns console s bad) t e in
    let rest = judged_accepted turns console s t bad front.1.1 in
    let last = past_accepted (nat_lt turns s.numbers.turns) (nat_lt console s.numbers.console_read) s t rest.1 in
    record {
      head = front.0;
      long = eqb-true (length bs) (size_by (head_in bs)) front.1.0;
      good = rest.0;
      in_schedule = ltb-false turns s.numbers.turns last.0;
      in_console = ltb-false console s.numbers.console_read last.1.0;
      same = last.1.1;
    }

whole_of : (turns console : ℕ) (bs : List ℕ) (t : Save) → AreBytes bs → Accepted turns console bs t → Whole bs
whole_of turns console bs t b a = record { bytes = b; head = a.head; long = a.long }

pub accepted_again : (turns console : ℕ) (bs : List ℕ) (t : Save) → AreBytes bs → read_save turns console bs ≡ Ok t → bytes_of t ≡ bs
accepted_again turns console bs t b e =
    let a = accepted turns console bs t e in
    ap bytes_of (sym a.same) ∙ written_again bs (whole_of turns console bs t b a)

all_is_save : (turns console : ℕ) (bs : List ℕ) (t : Save) → AreBytes bs → Accepted turns console bs t → IsSave (read_all bs)
unfolding read_by
all_is_save turns console bs t b a = record {
  shaped = read_shaped bs (whole_of turns console bs t b a);
  head = good_head bs a.head;
  good = a.good;
}

pub accepted_is_save : (turns console : ℕ) (bs : List ℕ) (t : Save) → AreBytes bs → read_save turns console bs ≡ Ok t → IsSave t
accepted_is_save turns console bs t b e =
    let a = accepted turns console bs t e in
    subst IsSave a.same (all_is_save turns console bs t b a)

pub accepted_in_schedule : (turns console : ℕ) (bs : List ℕ) (t : Save) → read_save turns console bs ≡ Ok t → t.numbers.turns ≤ turns
accepted_in_schedule turns console bs t e =
    let a = accepted turns console bs t e in
    subst (λ s. s.numbers.turns ≤ turns) a.same a.in_schedule

pub accepted_in_console : (turns console : ℕ) (bs : List ℕ) (t : Save) → read_save turns console bs ≡ Ok t → t.numbers.console_read ≤ console
accepted_in_console turns console bs t e =
    let a = accepted turns console bs t e in
    subst (λ s. s.numbers.console_read ≤ console) a.same a.in_console
