-- What a core stores, through a reading, strikes and writing.
use Rattle.std.proofs.Common.{◌≡◌, ◌≢◌, ℕ, ◌^◌, ◌<◌, Bool, true, false, Option, None, refl, sym, ap, ◌∙◌, subst, bit_xor, pow_pos, eqb-true, if◌then◌else◌}
use Rattle.std.specs.Prelude.{◌==◌, ◌&&◌, not}
use Rattle.std.specs.Int.Bits.{xor_lt, xor_zero_r, xor_assoc}
use Rattle.std.proofs.lemmas.Bool.{true≢false}
use Rattle.esa_model.specs.declared.machine.Registers.{Registers}
use Rattle.run_model.specs.declared.readings.Mark.{Mark}
use Rattle.run_model.specs.declared.readings.Mark.TheVariants.{Plain, Fixed, Bad}
use Rattle.run_model.specs.Checkpoint.{word_of, width}
use Rattle.run_model.specs.Reading.{mark, mark_of, value, code, is_fixed, is_before, mended}
use Rattle.run_model.specs.Script.{InForm}
use Rattle.run_model.specs.Strikes.{flips}
use Rattle.run_laws.proofs.Struck.{flips_small}
use Rattle.silicon.specs.Chip.{Chip}
use Rattle.core_states.specs.Words.{Rewrites, Fills, Changes, Scrubs, Attempts, is_due, rewritten}
use Rattle.checkpoint_laws.specs.Stored.{StoredAs, FewWrong, KeepsOthers, after_strikes}
use Rattle.checkpoint_laws.proofs.Chips.{rewrites_own, scrubs_own, attempts_own, fills_own, changes_own}
use Rattle.checkpoint_laws.proofs.Codes.{ReadsAs, held_again}
use Rattle.checkpoint_laws.proofs.ReadAs.{reads}

-- ---- words that stay

pub stays : (z z2 : Chip) (c : ℕ) (r : Registers) (e e2 : ℕ → ℕ) → StoredAs z c r e
    → ((w : ℕ) → w < 40 → z2.word c w ≡ z.word c w) → ((w : ℕ) → w < 40 → e2 w ≡ e w)
    → StoredAs z2 c r e2
stays z z2 c r e e2 h same wrong = record {
  word = λ w lt.
      same w lt ∙ h.word w lt ∙ ap (bit_xor (code w (word_of r w))) (sym (wrong w lt));
  places = λ w lt. subst (λ x. x < 2 ^ width w) (sym (wrong w lt)) (h.places w lt);
}

-- of the same silicon
pub same_wrong : (z : Chip) (c : ℕ) (r : Registers) (e e2 : ℕ → ℕ) → StoredAs z c r e
    → ((w : ℕ) → w < 40 → e2 w ≡ e w) → StoredAs z c r e2
same_wrong z c r e e2 h wrong = stays z z c r e e2 h (λ w lt. refl) wrong

pub others_stay : (z z2 : Chip) (c k : ℕ) (r : Registers) (e : ℕ → ℕ) → KeepsOthers c z z2
    → k ≢ c → StoredAs z k r e → StoredAs z2 k r e
others_stay z z2 c k r e keeps ne h =
    stays z z2 k r e e h (λ w lt. keeps k w ne lt) (λ w lt. refl)

-- ---- a reading

not_lost : (m : Mark) → is_fixed m ≡ true → m ≢ Bad
not_lost Plain e q = cc
not_lost (Fixed p) e q = cc
not_lost Bad e q = absurd (true≢false (sym e))

-- one word, by whether it is before the lost one and whether it is corrected
mended_word : (w v e stored : ℕ) (t f : Bool) → is_fixed (mark w e) ≡ f → ReadsAs w v e stored
    → stored ≡ bit_xor (code w v) e
    → (if t then rewritten true w stored else stored)
    ≡ bit_xor (code w v) (if is_fixed (mark w e) && t then 0 else e)
mended_word w v e stored true true is a h =
    let m : is_fixed (mark_of w stored) ≡ true = ap is_fixed a.mark_is ∙ is in
    rw (m, is)
    (ap (code w) (a.value_is (not_lost (mark w e) is))
    ∙ held_again w v
    ∙ sym (xor_zero_r (code w v)))
mended_word w v e stored true false is a h =
    let m : is_fixed (mark_of w stored) ≡ false = ap is_fixed a.mark_is ∙ is in
    rw (m, is) h
mended_word w v e stored false true is a h = rw is h
mended_word w v e stored false false is a h = rw is h

smaller : (n e : ℕ) (b : Bool) → e < 2 ^ n → (if b then 0 else e) < 2 ^ n
smaller n e true h = pow_pos n
smaller n e false h = h

mended_by : (z z2 : Chip) (c : ℕ) (r : Registers) (e : ℕ → ℕ) (lost : Option ℕ)
    → StoredAs z c r e → FewWrong e
    → ((w : ℕ) → w < 40 → z2.word c w
    ≡ (if is_before w lost then rewritten true w (z.word c w) else z.word c w))
    → StoredAs z2 c r (mended e lost)
mended_by z z2 c r e lost h few is = record {
  word = λ w lt.
      is w lt
      ∙ mended_word w (word_of r w) (e w) (z.word c w) (is_before w lost)
      (is_fixed (mark w (e w))) refl (reads z c r e h few w lt) (h.word w lt);
  places = λ w lt.
      smaller (width w) (e w) (is_fixed (mark w (e w)) && is_before w lost) (h.places w lt);
}

-- the words up to the lost one were read, and what was corrected was written back
pub mended_stored : (z z2 : Chip) (c : ℕ) (r : Registers) (e : ℕ → ℕ) (lost : Option ℕ)
    → StoredAs z c r e → FewWrong e → Rewrites true c lost z z2 → StoredAs z2 c r (mended e lost)
mended_stored z z2 c r e lost h few does =
    mended_by z z2 c r e lost h few (rewrites_own c z z2 true lost does)

-- they were read alone
unwritten : (w stored : ℕ) (a b : Bool)
    → (if b then (if a && false then code w (value w stored) else stored) else stored) ≡ stored
unwritten w stored true true = refl
unwritten w stored false true = refl
unwritten w stored a false = refl

pub read_alone : (z z2 : Chip) (c : ℕ) (r : Registers) (e : ℕ → ℕ) (lost : Option ℕ)
    → StoredAs z c r e → Rewrites false c lost z z2 → StoredAs z2 c r e
read_alone z z2 c r e lost h does =
    stays z z2 c r e e h
    (λ w lt.
    rewrites_own c z z2 false lost does w lt
    ∙ unwritten w (z.word c w) (is_fixed (mark_of w (z.word c w))) (is_before w lost))
    (λ w lt. refl)

pub scrubbed_stored : (z z2 : Chip) (c : ℕ) (r : Registers) (e : ℕ → ℕ) (lost : Option ℕ)
    → StoredAs z c r e → FewWrong e → is_due z c ≡ true → Scrubs c lost z z2
    → StoredAs z2 c r (mended e lost)
scrubbed_stored z z2 c r e lost h few due does =
    mended_by z z2 c r e lost h few
    (λ w lt. let x = scrubs_own c z z2 lost does w lt in rw due at x)

-- ---- strikes

pub struck_stored : (z z2 : Chip) (c n : ℕ) (r : Registers) (e : ℕ → ℕ) → StoredAs z c r e
    → InForm z.lines
    → ((w : ℕ) → w < 40 → z2.word c w ≡ bit_xor (z.word c w) (flips z.lines c n w))
    → StoredAs z2 c r (λ w. bit_xor (e w) (flips z.lines c n w))
struck_stored z z2 c n r e h form is = record {
  word = λ w lt.
      is w lt
      ∙ ap (λ x. bit_xor x (flips z.lines c n w)) (h.word w lt)
      ∙ xor_assoc (code w (word_of r w)) (e w) (flips z.lines c n w);
  places = λ w lt.
      xor_lt (width w) (e w) (flips z.lines c n w) (h.places w lt)
      (flips_small z.lines c n w form.ranges);
}

-- a silicon whose words were read where that was due
scrubbed_by : (z : Chip) (c : ℕ) (r : Registers) (e : ℕ → ℕ) (t : Bool) → StoredAs z c r e
    → FewWrong e
    → StoredAs
    (record z { word = λ k w. if t then rewritten true w (z.word k w) else z.word k w }) c r
    (λ w. if t then mended e None w else e w)
scrubbed_by z c r e true h few =
    mended_by z (record z { word = λ k w. rewritten true w (z.word k w) }) c r e None h few
    (λ w lt. refl)
scrubbed_by z c r e false h few = record { word = h.word; places = h.places }

pub attempted_stored : (z z2 : Chip) (c : ℕ) (r : Registers) (e : ℕ → ℕ) → StoredAs z c r e
    → FewWrong e → InForm z.lines → Attempts c z z2 → StoredAs z2 c r (after_strikes z c e)
attempted_stored z z2 c r e h few form does =
    struck_stored
    (record z { word = λ k w. if is_due z c then rewritten true w (z.word k w) else z.word k w })
    z2 c (z.begun c) r (λ w. if is_due z c then mended e None w else e w)
    (scrubbed_by z c r e (is_due z c) h few) form (attempts_own c z z2 does)

-- ---- writing

written_word : (w v v2 e stored : ℕ) (t : Bool) → (v2 == v) ≡ t → stored ≡ bit_xor (code w v) e
    → (if not (v2 == v) then code w v2 else stored)
    ≡ bit_xor (code w v2) (if not (v2 == v) then 0 else e)
written_word w v v2 e stored true is h =
    rw is (h ∙ ap (λ x. bit_xor (code w x) e) (sym (eqb-true v2 v is)))
written_word w v v2 e stored false is h = rw is (sym (xor_zero_r (code w v2)))

-- the words whose value changed are those of other registers
pub written_stored : (z z2 : Chip) (c : ℕ) (r r2 : Registers) (e : ℕ → ℕ) → StoredAs z c r e
    → Changes c r r2 z z2
    → StoredAs z2 c r2 (λ w. if not (word_of r2 w == word_of r w) then 0 else e w)
written_stored z z2 c r r2 e h does = record {
  word = λ w lt.
      changes_own c z z2 r r2 does w lt
      ∙ written_word w (word_of r w) (word_of r2 w) (e w) (z.word c w)
      (word_of r2 w == word_of r w) refl (h.word w lt);
  places = λ w lt.
      smaller (width w) (e w) (not (word_of r2 w == word_of r w)) (h.places w lt);
}

-- all words are those of registers
pub filled_stored : (z z2 : Chip) (k : ℕ) (r : Registers) → Fills k r z z2
    → StoredAs z2 k r (λ w. 0)
filled_stored z z2 k r does = record {
  word = λ w lt. fills_own k z z2 r does w lt ∙ sym (xor_zero_r (code w (word_of r w)));
  places = λ w lt. pow_pos (width w);
}
