-- The words of a core as they read, by the positions that are wrong.
use Rattle.std.proofs.Common.{◌≡◌, ◌≢◌, ℕ, zero, suc, ◌+◌, ◌^◌, ◌<◌, ◌≤◌, Bool, true, false, List, [], ◌∷◌, ◌++◌, None, map, refl, sym, ap, ◌∙◌, arith, inl, inr, if◌then◌else◌}
use Rattle.std.specs.Prelude.{◌&&◌}
use Rattle.std.specs.List.{range_with_len}
use Rattle.std.proofs.lemmas.Bool.{cases_eq, true≢false}
use Rattle.std.proofs.lemmas.List.FromFn.{get_or-map-range_with_len, length-map-range_with_len}
use Rattle.esa_model.specs.declared.machine.Registers.{Registers}
use Rattle.run_model.specs.declared.faults.Note.{Note}
use Rattle.run_model.specs.declared.readings.Mark.{Mark}
use Rattle.run_model.specs.declared.readings.Mark.TheVariants.{Plain, Fixed, Bad}
use Rattle.run_model.specs.Checkpoint.{word_of, width}
use Rattle.run_model.specs.Code.{ones}
use Rattle.run_model.specs.Reading.{Reading, mark, on_mark, reading, read_words, is_fixed, mended}
use Rattle.runit_ecc.specs.Bounds.{AreRegisters}
use Rattle.runit_ecc.proofs.Distance.{zero_from_none}
use Rattle.runit_ecc.proofs.Restored.{restored_from}
use Rattle.silicon.specs.Chip.{Chip}
use Rattle.core_states.specs.Words.{marks, values, read_core}
use Rattle.core_states.specs.Read.{registers_read}
use Rattle.checkpoint_laws.specs.Stored.{StoredAs, FewWrong, ClocksFit}
use Rattle.checkpoint_laws.proofs.Fitting.{word_fits}
use Rattle.checkpoint_laws.proofs.Codes.{ReadsAs, word_reads, held_is, mark_one, mark_two}

-- ---- two readings of the same marks

same_step : (f g : ℕ → Mark) (m : Mark) (notes : List Note) (w n : ℕ)
    → ((more : List Note) → reading f more (w + 1) n ≡ reading g more (w + 1) n)
    → on_mark m notes w (λ more. reading f more (w + 1) n)
    ≡ on_mark m notes w (λ more. reading g more (w + 1) n)
same_step f g Plain notes w n h = h notes
same_step f g (Fixed p) notes w n h = h (notes ++ record { word = w; bit = p } ∷ [])
same_step f g Bad notes w n h = refl

same_reading : (f g : ℕ → Mark) (n w : ℕ) (notes : List Note)
    → ((k : ℕ) → k < w + n → f k ≡ g k) → reading f notes w n ≡ reading g notes w n
unfolding reading
same_reading f g zero w notes h = refl
same_reading f g (suc n) w notes h =
    let e = h w (omega arith) in
    let rest = λ (more : List Note).
    same_reading f g n (w + 1) more (λ k l. h k (omega (arith, l))) in
    rw e (same_step f g (g w) notes w n rest)

-- ---- a reading that loses no word

good_first : (m : Mark) (notes : List Note) (w : ℕ) (rest : List Note → Reading)
    → (on_mark m notes w rest).lost ≡ None → m ≢ Bad
good_first Plain notes w rest e = λ q. cc
good_first (Fixed p) notes w rest e = λ q. cc
good_first Bad notes w rest e = absurd (cc e)

good_rest : (m : Mark) (notes : List Note) (w : ℕ) (rest : List Note → Reading) (P : Type 0)
    → ((more : List Note) → (rest more).lost ≡ None → P) → (on_mark m notes w rest).lost ≡ None
    → P
good_rest Plain notes w rest P h e = h notes e
good_rest (Fixed p) notes w rest P h e = h (notes ++ record { word = w; bit = p } ∷ []) e
good_rest Bad notes w rest P h e = absurd (cc e)

good_all : (f : ℕ → Mark) (notes : List Note) (w n : ℕ) → (reading f notes w n).lost ≡ None
    → (k : ℕ) → w ≤ k → k < w + n → f k ≢ Bad
unfolding reading
good_all f notes w zero e k low high = absurd (omega (arith, low, high))
good_all f notes w (suc n) e k low high = elim (cases_eq k w) [
  | inl is ↦ rw is (good_first (f w) notes w (λ more. reading f more (w + 1) n) e)
  | inr ne ↦
      good_rest (f w) notes w (λ more. reading f more (w + 1) n) (f k ≢ Bad)
      (λ more h.
      good_all f more (w + 1) n h k (omega (arith, low, ne)) (omega (arith, high))) e
]

-- no word is lost where the reading loses none
pub not_bad : (e : ℕ → ℕ) → (read_words e).lost ≡ None → (w : ℕ) → w < 40 → mark w (e w) ≢ Bad
not_bad e none w lt =
    good_all (λ k. mark k (e k)) [] 0 40 none w (omega arith) (omega (arith, lt))

-- ---- what a core stores

pub reads : (z : Chip) (c : ℕ) (r : Registers) (e : ℕ → ℕ) → StoredAs z c r e → FewWrong e
    → (w : ℕ) → w < 40 → ReadsAs w (word_of r w) (e w) (z.word c w)
reads z c r e h few w lt =
    word_reads w (word_of r w) (e w) (z.word c w) (h.word w lt) (h.places w lt) (few w lt)

-- its words read by the positions that are wrong, whatever they hold
pub read_as : (z : Chip) (c : ℕ) (r : Registers) (e : ℕ → ℕ) → StoredAs z c r e → FewWrong e
    → read_core z c ≡ read_words e
unfolding marks
read_as z c r e h few =
    same_reading (marks z c) (λ w. mark w (e w)) 40 0 []
    (λ k lt. (reads z c r e h few k (omega (arith, lt))).mark_is)

values_are : (z : Chip) (c : ℕ) (r : Registers) (e : ℕ → ℕ) → StoredAs z c r e → FewWrong e
    → AreRegisters r → ClocksFit r → (read_words e).lost ≡ None → (w : ℕ) → w < 40
    → values z c w ≡ word_of r w
unfolding values
values_are z c r e h few are clocks none w lt =
    (reads z c r e h few w lt).value_is (not_bad e none w lt)
    ∙ held_is w (word_of r w) (word_fits r are clocks w lt)

-- where no word is lost it says its registers
pub registers_are : (z : Chip) (c : ℕ) (r : Registers) (e : ℕ → ℕ) → StoredAs z c r e
    → FewWrong e → AreRegisters r → ClocksFit r → (read_words e).lost ≡ None
    → registers_read z c ≡ r
registers_are z c r e h few are clocks none =
    restored_from (map (values z c) (range_with_len 0 40)) r are
    (length-map-range_with_len (values z c) 0 40)
    (λ w lt. get_or-map-range_with_len (values z c) 0 40 w w 0 lt (omega arith)
    ∙ values_are z c r e h few are clocks none w lt)

-- ---- what no lost word leaves

right_word : (w e : ℕ) → e < 2 ^ width w → ones (width w) e ≤ 2 → mark w e ≢ Bad
    → is_fixed (mark w e) ≡ false → e ≡ 0
right_word w e small few ne plain = elim (cases_eq (ones (width w) e) 0) [
  | inl a ↦ zero_from_none (width w) e small a
  | inr a ↦ elim (cases_eq (ones (width w) e) 1) [
    | inl b ↦ let m = ap is_fixed (mark_one w e b) in absurd (true≢false (sym m ∙ plain))
    | inr b ↦ absurd (ne (mark_two w e (omega (arith, a, b, few))))
  ]
]

mended_right : (w e : ℕ) (t : Bool) → is_fixed (mark w e) ≡ t → e < 2 ^ width w
    → ones (width w) e ≤ 2 → mark w e ≢ Bad
    → (if is_fixed (mark w e) && true then 0 else e) ≡ 0
mended_right w e true is small few ne = rw is refl
mended_right w e false is small few ne = rw is (right_word w e small few ne is)

-- a reading that loses no word leaves no wrong position
pub none_left : (e : ℕ → ℕ) → FewWrong e → ((w : ℕ) → w < 40 → e w < 2 ^ width w)
    → (read_words e).lost ≡ None → (w : ℕ) → w < 40 → mended e None w ≡ 0
none_left e few places none w lt =
    mended_right w (e w) (is_fixed (mark w (e w))) refl (places w lt) (few w lt)
    (not_bad e none w lt)
