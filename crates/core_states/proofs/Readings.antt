-- One word more of a reading.
use Rattle.std.proofs.Common.{◌≡◌, ℕ, suc, ◌+◌, ◌-◌, ◌<◌, ◌≤◌, ◌≢◌, Bool, List, [], ◌∷◌, Some, None, refl, sym, ap, ◌∙◌, arith, set, length, length-append, below_more, get_or-set_other, get_or-set_same}
use Rattle.std.proofs.lemmas.Bool.Decides.{nat_tests}
use Rattle.std.proofs.lemmas.List.{ext_get_or}
use Rattle.std.proofs.lemmas.List.FromFn.{length-map-range_with_len, get_or-map-range_with_len}
use Rattle.run_model.specs.declared.faults.Note.{Note}
use Rattle.run_model.specs.declared.readings.Mark.{Mark}
use Rattle.run_model.specs.declared.readings.Mark.TheVariants.{Plain, Fixed, Bad}
use Rattle.run_model.specs.Reading.{mark_of, value, Reading, reading, on_mark}
use Rattle.silicon.specs.Chip.{Chip}
use Rattle.core_states.specs.Words.{marks, values, read_core, Rewrites}
use Rattle.core_states.specs.Word.{noted, Fixes}
use Rattle.core_states.specs.Read.{values_read}
use Rattle.core_states.proofs.SoFar.{ReadSoFar}

on_mark_rest : (m : Mark) (notes : List Note) (w : ℕ) (rest : List Note → Reading) → m ≢ Bad
    → on_mark m notes w rest ≡ rest (noted notes w m)
on_mark_rest Plain notes w rest ne = refl
on_mark_rest (Fixed b) notes w rest ne = refl
on_mark_rest Bad notes w rest ne = absurd (ne refl)

reading_suc : (f : ℕ → Mark) (notes : List Note) (w n : ℕ) (m : Mark) → f w ≡ m → m ≢ Bad
    → reading f notes w (suc n) ≡ reading f (noted notes w m) (w + 1) n
unfolding reading
reading_suc f notes w n m e ne =
    rw e (on_mark_rest m notes w (λ more. reading f more (w + 1) n) ne)

reading_more : (f : ℕ → Mark) (notes : List Note) (w : ℕ) (m : Mark) → w < 40 → f w ≡ m → m ≢ Bad
    → reading f (noted notes w m) (w + 1) (40 - (w + 1)) ≡ reading f notes w (40 - w)
reading_more f notes w m h e ne =
    let s : 40 - w ≡ suc (40 - (w + 1)) = omega arith in
    rw s (sym (reading_suc f notes w (40 - (w + 1)) m e ne))

reading_suc_lost : (f : ℕ → Mark) (notes : List Note) (w n : ℕ) → f w ≡ Bad
    → reading f notes w (suc n) ≡ record { notes = notes; lost = Some w }
unfolding reading
reading_suc_lost f notes w n e = rw e refl

reading_lost : (f : ℕ → Mark) (notes : List Note) (w : ℕ) → w < 40 → f w ≡ Bad
    → reading f notes w (40 - w) ≡ record { notes = notes; lost = Some w }
reading_lost f notes w h e =
    let s : 40 - w ≡ suc (40 - (w + 1)) = omega arith in
    rw s (reading_suc_lost f notes w (40 - (w + 1)) e)

reading_none : (f : ℕ → Mark) (notes : List Note) (w : ℕ)
    → reading f notes w 0 ≡ record { notes = notes; lost = None }
unfolding reading
reading_none f notes w = refl

reading_end : (f : ℕ → Mark) (notes : List Note) (w : ℕ) → 40 ≤ w
    → reading f notes w (40 - w) ≡ record { notes = notes; lost = None }
reading_end f notes w h = let z : 40 - w ≡ 0 = omega arith in rw z (reading_none f notes w)

untouched : (back : Bool) (core w : ℕ) (a b : Chip) → Rewrites back core (Some w) a b → w < 40
    → b.word core w ≡ a.word core w
untouched back core w a b r h = let e = r.word core w h in grind (arith, nat_tests)

rewrites_more : (back : Bool) (core w : ℕ) (a b d : Chip) → Rewrites back core (Some w) a b
    → Fixes back core w b d → Rewrites back core (Some (w + 1)) a d
rewrites_more back core w a b d r f = record {
  lines = f.lines ∙ r.lines;
  begun = λ c. f.begun c ∙ r.begun c;
  word = λ c k h. let e = r.word c k h in let g = f.word c k h in grind (arith, nat_tests);
}

marks_are : (z : Chip) (c w : ℕ) → marks z c w ≡ mark_of w (z.word c w)
unfolding marks
marks_are z c w = refl

values_are : (z : Chip) (c w : ℕ) → values z c w ≡ value w (z.word c w)
unfolding values
values_are z c w = refl

noted_length : (notes : List Note) (w : ℕ) (m : Mark)
    → length (noted notes w m) ≤ length notes + 1
noted_length notes w Plain = omega arith
noted_length notes w (Fixed b) =
    let e = length-append notes (record { word = w; bit = b } ∷ []) in omega (arith, e)
noted_length notes w Bad = omega arith

pub so_far_more : (back : Bool) (core w : ℕ) (notes more : List Note) (words : List ℕ) (v : ℕ) (m : Mark) (a b d : Chip)
    → ReadSoFar back core w notes words a b → w < 40 → length words ≡ 40 → m ≢ Bad
    → m ≡ mark_of w (b.word core w) → v ≡ value w (b.word core w)
    → more ≡ noted notes w (mark_of w (b.word core w)) → Fixes back core w b d
    → ReadSoFar back core (w + 1) more (set words w v) a d
so_far_more back core w notes more words v m a b d r lt len ne is_m is_v is_n f =
    let same = untouched back core w a b r.rewrites lt in
    let here : marks a core w ≡ m = marks_are a core w ∙ ap (mark_of w) (sym same) ∙ sym is_m in
    let n : more ≡ noted notes w m = is_n ∙ ap (noted notes w) (sym is_m) in
    record {
      read = rw n (reading_more (marks a core) notes w m lt here ne ∙ r.read);
      rewrites = rewrites_more back core w a b d r.rewrites f;
      words_are = below_more _ _
          (λ k h. let o : k ≢ w = omega arith in get_or-set_other words w k v 0 o ∙ r.words_are k h)
          (let inside : w < length words = omega arith in get_or-set_same words w v 0 inside ∙ is_v ∙ ap (value w) same ∙ sym (values_are a core w));
      room = let l = noted_length notes w m in let q = r.room in rw n (omega arith);
    }

pub so_far_lost : (back : Bool) (core w : ℕ) (notes more : List Note) (words : List ℕ) (m : Mark) (a b : Chip)
    → ReadSoFar back core w notes words a b → w < 40 → m ≡ Bad
    → m ≡ mark_of w (b.word core w) → more ≡ noted notes w (mark_of w (b.word core w))
    → read_core a core ≡ record { notes = more; lost = Some w }
so_far_lost back core w notes more words m a b r lt bad is_m is_n =
    let same = untouched back core w a b r.rewrites lt in
    let here : marks a core w ≡ Bad = marks_are a core w ∙ ap (mark_of w) (sym same) ∙ sym is_m ∙ bad in
    let n : more ≡ notes = is_n ∙ ap (noted notes w) (sym is_m ∙ bad) in
    rw n (sym r.read ∙ reading_lost (marks a core) notes w lt here)

pub so_far_end : (back : Bool) (core w : ℕ) (notes : List Note) (words : List ℕ) (a b : Chip)
    → ReadSoFar back core w notes words a b → 40 ≤ w
    → read_core a core ≡ record { notes = notes; lost = None }
so_far_end back core w notes words a b r h = sym r.read ∙ reading_end (marks a core) notes w h

pub words_all : (back : Bool) (core w : ℕ) (notes : List Note) (words : List ℕ) (a b : Chip)
    → ReadSoFar back core w notes words a b → 40 ≤ w → length words ≡ 40
    → words ≡ values_read a core
words_all back core w notes words a b r h len =
    let n : length (values_read a core) ≡ 40 = length-map-range_with_len (values a core) 0 40 in
    ext_get_or 0 words (values_read a core) (omega (arith, n, len))
    (λ i l. let lt : i < 40 = omega (arith, l, len) in
    r.words_are i (omega (arith, lt, h)) ∙ sym (get_or-map-range_with_len (values a core) 0 40 i i 0 lt (omega arith)))
