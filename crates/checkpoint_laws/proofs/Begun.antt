-- A core as an attempt begins and commits, beside the fate.
use Rattle.std.proofs.Common.{◌≡◌, ◌≢◌, ℕ, ◌+◌, ◌%◌, ◌<◌, Bool, true, false, List, Option, None, refl, sym, ap, ◌∙◌, eq-eqb, eqb-true, if◌then◌else◌}
use Rattle.std.specs.Prelude.{◌==◌, not}
use Rattle.std.proofs.lemmas.Bool.{ne_eqb}
use Rattle.esa_model.specs.Machine.{at}
use Rattle.esa_model.specs.declared.machine.Registers.{Registers}
use Rattle.run_model.specs.declared.faults.Strike.{Strike}
use Rattle.run_model.specs.Checkpoint.{word_of}
use Rattle.run_model.specs.Fate.{Bits, Fate, Sight, bits, mend, read, run_bits, strike, written}
use Rattle.run_model.specs.Strikes.{cause}
use Rattle.silicon.specs.Chip.{Chip}
use Rattle.core_states.specs.Words.{Attempts, Changes, is_due, read_core, scrub_reading}
use Rattle.checkpoint_laws.specs.Stored.{after_strikes}
use Rattle.checkpoint_laws.specs.Turn.{BeforeTurn, AfterTurn}
use Rattle.checkpoint_laws.proofs.Chips.{attempts_others, changes_others}
use Rattle.checkpoint_laws.proofs.Kept.{same_wrong, attempted_stored, written_stored}
use Rattle.checkpoint_laws.proofs.ReadAs.{read_as}

-- ---- what is read

pub fate_reads : (z : Chip) (s : Fate) (c : ℕ) (r : Registers) → BeforeTurn z s c r
    → read_core z c ≡ read s c
fate_reads z s c r h = read_as z c r (s.wrong c) h.stored h.few

pub fate_due : (z : Chip) (s : Fate) (c : ℕ) (r : Registers) → BeforeTurn z s c r
    → is_due z c ≡ (s.begun c % 16 == 0)
fate_due z s c r h = ap (λ n. n % 16 == 0) h.begun

due_reads : (z : Chip) (c : ℕ) → is_due z c ≡ true → scrub_reading z c ≡ read_core z c
unfolding scrub_reading
due_reads z c due = rw due refl

-- where the words are to be read, the fate reads what is read
pub scrub_reads : (z : Chip) (s : Fate) (c : ℕ) (r : Registers) (lost : Option ℕ)
    → BeforeTurn z s c r → (scrub_reading z c).lost ≡ lost → (s.begun c % 16 == 0) ≡ true
    → (read s c).lost ≡ lost
scrub_reads z s c r lost h is due =
    let there = due_reads z c (fate_due z s c r h ∙ due) in
    sym (ap (λ x. x.lost) (there ∙ fate_reads z s c r h)) ∙ is

-- ---- an attempt begins, after a reading or without

abbrev pub begun_bits : List Strike → Fate → ℕ → Bool → Bits
begun_bits ls s c true = strike ls c (s.begun c) (mend s c None)
begun_bits ls s c false = strike ls c (s.begun c) (bits s)

-- the fate of a running core is that, and what is written then
pub run_begun : (ls : List Strike) (g : Sight) (s : Fate) (c : ℕ) (t : Bool) → g.waits ≡ false
    → (s.begun c % 16 == 0) ≡ t → ((s.begun c % 16 == 0) ≡ true → (read s c).lost ≡ None)
    → run_bits ls g s c ≡ written g c (cause ls c (s.begun c)) (begun_bits ls s c t)
run_begun ls g s c true works due none = let e = none due in rw (works, due, e) refl
run_begun ls g s c false works due none = rw (works, due) refl

one_more : (begun begun2 start : ℕ → ℕ) (c k : ℕ) (t : Bool) → (k == c) ≡ t
    → begun2 k ≡ (if k == c then begun k + 1 else begun k) → begun k ≡ start k
    → begun2 k ≡ at start c (start c + 1) k
one_more begun begun2 start c k true is h same =
    let e : k ≡ c = eqb-true k c is in
    let x = rw is at h in
    rw is (x ∙ ap (λ n. n + 1) (same ∙ ap start e))
one_more begun begun2 start c k false is h same = let x = rw is at h in rw is (x ∙ same)

struck_wrong : (z : Chip) (s : Fate) (c : ℕ) (t : Bool) → z.begun c ≡ s.begun c
    → (s.begun c % 16 == 0) ≡ t → (w : ℕ)
    → (begun_bits z.lines s c t).wrong c w ≡ after_strikes z c (s.wrong c) w
struck_wrong z s c true count due w = rw (eq-eqb c c refl, count, due) refl
struck_wrong z s c false count due w = rw (eq-eqb c c refl, count, due) refl

begun_counts : (ls : List Strike) (s : Fate) (c : ℕ) (t : Bool)
    → (begun_bits ls s c t).begun ≡ at s.begun c (s.begun c + 1)
begun_counts ls s c true = refl
begun_counts ls s c false = refl

begun_others : (ls : List Strike) (s : Fate) (c : ℕ) (t : Bool) (k : ℕ) → k ≢ c
    → (begun_bits ls s c t).wrong k ≡ s.wrong k
begun_others ls s c true k ne = rw (ne_eqb k c ne) refl
begun_others ls s c false k ne = rw (ne_eqb k c ne) refl

pub begun_after : (z z2 : Chip) (s : Fate) (c : ℕ) (r : Registers) (t : Bool)
    → (s.begun c % 16 == 0) ≡ t → BeforeTurn z s c r → Attempts c z z2
    → AfterTurn z z2 s (begun_bits z.lines s c t) c r
begun_after z z2 s c r t due h does = record {
  lines = does.lines;
  begun = λ k same.
      one_more z.begun z2.begun s.begun c k (k == c) refl (does.begun k) same
      ∙ sym (ap (λ f. f k) (begun_counts z.lines s c t));
  stored =
      same_wrong z2 c r (after_strikes z c (s.wrong c)) ((begun_bits z.lines s c t).wrong c)
      (attempted_stored z z2 c r (s.wrong c) h.stored h.few h.form does)
      (λ w lt. struck_wrong z s c t h.begun due w);
  words = attempts_others c z z2 does;
  wrong = begun_others z.lines s c t;
}

-- ---- it commits

written_wrong : (g : Sight) (b : Bits) (c : ℕ) (w : ℕ) (t : Bool) → g.changes w ≡ t
    → (written g c None b).wrong c w ≡ (if t then 0 else b.wrong c w)
written_wrong g b c w t is = rw (eq-eqb c c refl, is) refl

written_others : (g : Sight) (b : Bits) (c k : ℕ) → k ≢ c
    → (written g c None b).wrong k ≡ b.wrong k
written_others g b c k ne = rw (ne_eqb k c ne) refl

pub written_after : (z z1 z2 : Chip) (s : Fate) (g : Sight) (b : Bits) (c : ℕ)
    (r r2 : Registers) → AfterTurn z z1 s b c r → Changes c r r2 z1 z2
    → ((w : ℕ) → w < 40 → g.changes w ≡ not (word_of r2 w == word_of r w))
    → AfterTurn z z2 s (written g c None b) c r2
written_after z z1 z2 s g b c r r2 h does changes = record {
  lines = does.lines ∙ h.lines;
  begun = λ k same. does.begun k ∙ h.begun k same;
  stored =
      same_wrong z2 c r2 (λ w. if not (word_of r2 w == word_of r w) then 0 else b.wrong c w)
      ((written g c None b).wrong c) (written_stored z1 z2 c r r2 (b.wrong c) h.stored does)
      (λ w lt. written_wrong g b c w (not (word_of r2 w == word_of r w)) (changes w lt));
  words = λ k w ne lt. changes_others c z1 z2 r r2 does k w ne lt ∙ h.words k w ne lt;
  wrong = λ k ne. written_others g b c k ne ∙ h.wrong k ne;
}
