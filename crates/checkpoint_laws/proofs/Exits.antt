-- What the cores store after each turn, beside its fate.
use Rattle.std.proofs.Common.{◌≡◌, ◌≢◌, ℕ, ◌%◌, ◌<◌, Bool, true, false, List, Option, Some, None, refl, sym, ap, ◌∙◌, subst, eq-eqb}
use Rattle.std.specs.Prelude.{◌==◌, not, nat_lt}
use Rattle.std.proofs.lemmas.Bool.{ne_eqb}
use Rattle.esa_model.specs.Machine.{Machine, idle, next}
use Rattle.esa_model.specs.declared.machine.Registers.{Registers}
use Rattle.run_model.specs.declared.faults.Cause.{Cause}
use Rattle.run_model.specs.declared.faults.Strike.{Strike}
use Rattle.run_model.specs.declared.logs.Config.{Config}
use Rattle.run_model.specs.Script.{InForm}
use Rattle.run_model.specs.Checkpoint.{word_of}
use Rattle.run_model.specs.Cores.{lowest}
use Rattle.run_model.specs.Fate.{Bits, Fate, Sight, bits, first_fate, mend, read, recover_bits, run_bits, sight, spare_bits, written}
use Rattle.run_model.specs.Reading.{mended}
use Rattle.run_model.specs.Strikes.{cause}
use Rattle.runit_ecc.specs.Bounds.{AreRegisters}
use Rattle.silicon.specs.Chip.{Chip, Stays}
use Rattle.core_states.specs.Words.{Attempts, Changes, Fills, Rewrites, Scrubs, is_due, read_core, scrub_reading}
use Rattle.core_states.specs.Read.{registers_read}
use Rattle.checkpoint_laws.specs.Stored.{StoredAs, ClocksFit}
use Rattle.checkpoint_laws.specs.Turn.{BeforeTurn, AfterTurn}
use Rattle.checkpoint_laws.proofs.Begun.{begun_bits, begun_after, fate_due, fate_reads, run_begun, scrub_reads, written_after}
use Rattle.checkpoint_laws.proofs.Chips.{fills_others, rewrites_others, scrubs_others}
use Rattle.checkpoint_laws.proofs.Few.{few_none}
use Rattle.checkpoint_laws.proofs.Kept.{filled_stored, mended_stored, scrubbed_stored, stays}
use Rattle.checkpoint_laws.proofs.ReadAs.{registers_are}

-- the same after a turn whose fate is that of other bits
as_bits : (z z2 : Chip) (s : Fate) (b b2 : Bits) (c : ℕ) (r : Registers) → b2 ≡ b
    → AfterTurn z z2 s b c r → AfterTurn z z2 s b2 c r
as_bits z z2 s b b2 c r is h = subst (λ x. AfterTurn z z2 s x c r) (sym is) h

-- as the first registers are stored
pub first_before : (z : Chip) (config : Config) (c : ℕ) (r : Registers) → InForm z.lines
    → z.begun c ≡ 0 → StoredAs z c r (λ w. 0) → BeforeTurn z (first_fate config) c r
first_before z config c r form none stored =
    record { form = form; begun = none; stored = stored; few = few_none }

-- the other cores store what they did
pub others_after : (z z2 : Chip) (s : Fate) (b : Bits) (c k : ℕ) (r q : Registers)
    → AfterTurn z z2 s b c r → k ≢ c → StoredAs z k q (s.wrong k) → StoredAs z2 k q (b.wrong k)
others_after z z2 s b c k r q h ne there =
    stays z z2 k q (s.wrong k) (b.wrong k) there (λ w lt. h.words k w ne lt)
    (λ w lt. ap (λ f. f w) (h.wrong k ne))

-- where no word is lost the registers are read
pub fate_registers : (z : Chip) (s : Fate) (c : ℕ) (r : Registers) → BeforeTurn z s c r
    → AreRegisters r → ClocksFit r → (read_core z c).lost ≡ None → registers_read z c ≡ r
fate_registers z s c r h are clocks none =
    registers_are z c r (s.wrong c) h.stored h.few are clocks
    (sym (ap (λ x. x.lost) (fate_reads z s c r h)) ∙ none)

-- ---- nothing is done

pub quiet : (z z2 : Chip) (s : Fate) (c : ℕ) (r : Registers) → BeforeTurn z s c r → Stays z z2
    → AfterTurn z z2 s (bits s) c r
quiet z z2 s c r h same = record {
  lines = same.lines;
  begun = λ k was. same.begun k ∙ was;
  stored =
      stays z z2 c r (s.wrong c) (s.wrong c) h.stored (λ w lt. same.word c w lt) (λ w lt. refl);
  words = λ k w ne lt. same.word k w lt;
  wrong = λ k ne. refl;
}

run_waits : (ls : List Strike) (g : Sight) (s : Fate) (c : ℕ) → g.waits ≡ true
    → run_bits ls g s c ≡ bits s
run_waits ls g s c idle = rw idle refl

pub waiting_after : (z z2 : Chip) (s : Fate) (g : Sight) (c : ℕ) (r : Registers)
    → BeforeTurn z s c r → g.waits ≡ true → Stays z z2
    → AfterTurn z z2 s (run_bits z.lines g s c) c r
waiting_after z z2 s g c r h idle same =
    as_bits z z2 s (bits s) (run_bits z.lines g s c) c r (run_waits z.lines g s c idle)
    (quiet z z2 s c r h same)

-- ---- the words of a core are read, up to the lost one

mend_own : (s : Fate) (c : ℕ) (lost : Option ℕ)
    → (mend s c lost).wrong c ≡ mended (s.wrong c) lost
mend_own s c lost = rw (eq-eqb c c refl) refl

mend_other : (s : Fate) (c : ℕ) (lost : Option ℕ) (k : ℕ) → k ≢ c
    → (mend s c lost).wrong k ≡ s.wrong k
mend_other s c lost k ne = rw (ne_eqb k c ne) refl

run_lost : (ls : List Strike) (g : Sight) (s : Fate) (c w : ℕ) → g.waits ≡ false
    → (s.begun c % 16 == 0) ≡ true → (read s c).lost ≡ Some w
    → run_bits ls g s c ≡ mend s c (Some w)
run_lost ls g s c w works due lost = rw (works, due, lost) refl

-- what loses a word is a reading that is due
lost_due : (z : Chip) (c w : ℕ) (t : Bool) → is_due z c ≡ t → (scrub_reading z c).lost ≡ Some w
    → is_due z c ≡ true
unfolding scrub_reading
lost_due z c w true is lost = is
lost_due z c w false is lost = let x = rw is at lost in absurd (cc x)

pub lost_after : (z z2 : Chip) (s : Fate) (g : Sight) (c w : ℕ) (r : Registers)
    → BeforeTurn z s c r → g.waits ≡ false → (scrub_reading z c).lost ≡ Some w
    → Scrubs c (Some w) z z2 → AfterTurn z z2 s (run_bits z.lines g s c) c r
lost_after z z2 s g c w r h works lost does =
    let due = lost_due z c w (is_due z c) refl lost in
    let due2 = sym (fate_due z s c r h) ∙ due in
    let there = scrub_reads z s c r (Some w) h lost due2 in
    as_bits z z2 s (mend s c (Some w)) (run_bits z.lines g s c) c r
    (run_lost z.lines g s c w works due2 there)
    (record {
      lines = does.lines;
      begun = λ k was. does.begun k ∙ was;
      stored =
          subst (λ e. StoredAs z2 c r e) (sym (mend_own s c (Some w)))
          (scrubbed_stored z z2 c r (s.wrong c) (Some w) h.stored h.few due does);
      words = scrubs_others c z z2 (Some w) does;
      wrong = mend_other s c (Some w);
    })

-- ---- an attempt

run_failed : (ls : List Strike) (g : Sight) (s : Fate) (c : ℕ) (why : Cause) (b : Bits)
    → cause ls c (s.begun c) ≡ Some why → written g c (cause ls c (s.begun c)) b ≡ b
run_failed ls g s c why b e = ap (λ o. written g c o b) e

pub failed_after : (z z2 : Chip) (s : Fate) (g : Sight) (c : ℕ) (r : Registers) (why : Cause)
    → BeforeTurn z s c r → g.waits ≡ false → (scrub_reading z c).lost ≡ None
    → Attempts c z z2 → cause z.lines c (z.begun c) ≡ Some why
    → AfterTurn z z2 s (run_bits z.lines g s c) c r
failed_after z z2 s g c r why h works none does fails =
    let there = subst (λ n. cause z.lines c n ≡ Some why) h.begun fails in
    let t = s.begun c % 16 == 0 in
    as_bits z z2 s (begun_bits z.lines s c t) (run_bits z.lines g s c) c r
    (run_begun z.lines g s c t works refl (scrub_reads z s c r None h none)
    ∙ run_failed z.lines g s c why (begun_bits z.lines s c t) there)
    (begun_after z z2 s c r t refl h does)

run_committed : (ls : List Strike) (g : Sight) (s : Fate) (c : ℕ) (b : Bits)
    → cause ls c (s.begun c) ≡ None
    → written g c (cause ls c (s.begun c)) b ≡ written g c None b
run_committed ls g s c b e = ap (λ o. written g c o b) e

pub committed_after : (z z1 z2 : Chip) (s : Fate) (g : Sight) (c : ℕ) (r r2 : Registers)
    → BeforeTurn z s c r → g.waits ≡ false → (scrub_reading z c).lost ≡ None
    → Attempts c z z1 → cause z.lines c (z.begun c) ≡ None → Changes c r r2 z1 z2
    → ((w : ℕ) → w < 40 → g.changes w ≡ not (word_of r2 w == word_of r w))
    → AfterTurn z z2 s (run_bits z.lines g s c) c r2
committed_after z z1 z2 s g c r r2 h works none does holds writes changes =
    let there = subst (λ n. cause z.lines c n ≡ None) h.begun holds in
    let t = s.begun c % 16 == 0 in
    let b = begun_bits z.lines s c t in
    as_bits z z2 s (written g c None b) (run_bits z.lines g s c) c r2
    (run_begun z.lines g s c t works refl (scrub_reads z s c r None h none)
    ∙ run_committed z.lines g s c b there)
    (written_after z z1 z2 s g b c r r2 (begun_after z z1 s c r t refl h does) writes changes)

-- the step of CPU i of a machine
pub stepped_after : (z z1 z2 : Chip) (s : Fate) (m : Machine) (i c : ℕ) (r r2 : Registers)
    → BeforeTurn z s c r → idle m i ≡ false → (scrub_reading z c).lost ≡ None
    → Attempts c z z1 → cause z.lines c (z.begun c) ≡ None → Changes c r r2 z1 z2
    → r ≡ m.registers i → r2 ≡ (next m i).registers i
    → AfterTurn z z2 s (run_bits z.lines (sight m i) s c) c r2
stepped_after z z1 z2 s m i c r r2 h works none does holds writes is is2 =
    committed_after z z1 z2 s (sight m i) c r r2 h works none does holds writes
    (λ w lt. sym (ap (λ x. not (word_of x w == word_of r w)) is2
    ∙ ap (λ x. not (word_of ((next m i).registers i) w == word_of x w)) is))

-- ---- a recovering core

recover_mends : (threshold : ℕ) (s : Fate) (i c : ℕ) (lost : Option ℕ)
    → nat_lt (s.cores.retries i) threshold ≡ true → (read s c).lost ≡ lost
    → recover_bits threshold s i c ≡ mend s c lost
recover_mends threshold s i c lost few is = rw (few, is) refl

pub recovered_after : (z z2 : Chip) (threshold : ℕ) (s : Fate) (i c : ℕ) (r : Registers)
    (lost : Option ℕ) → BeforeTurn z s c r → nat_lt (s.cores.retries i) threshold ≡ true
    → (read_core z c).lost ≡ lost → Rewrites true c lost z z2
    → AfterTurn z z2 s (recover_bits threshold s i c) c r
recovered_after z z2 threshold s i c r lost h few is does =
    let there = sym (ap (λ x. x.lost) (fate_reads z s c r h)) ∙ is in
    as_bits z z2 s (mend s c lost) (recover_bits threshold s i c) c r
    (recover_mends threshold s i c lost few there)
    (record {
      lines = does.lines;
      begun = λ k was. does.begun k ∙ was;
      stored =
          subst (λ e. StoredAs z2 c r e) (sym (mend_own s c lost))
          (mended_stored z z2 c r (s.wrong c) lost h.stored h.few does);
      words = rewrites_others c z z2 true lost does;
      wrong = mend_other s c lost;
    })

recover_hands : (threshold : ℕ) (s : Fate) (i c k : ℕ)
    → nat_lt (s.cores.retries i) threshold ≡ false → lowest s.cores.spare 0 16 ≡ Some k
    → (read s c).lost ≡ None → recover_bits threshold s i c ≡ spare_bits s k None
recover_hands threshold s i c k many spare none = rw (many, spare, none) refl

spare_own : (s : Fate) (k : ℕ) → (spare_bits s k None).wrong k ≡ (λ w. 0)
spare_own s k = rw (eq-eqb k k refl) refl

spare_other : (s : Fate) (k j : ℕ) → j ≢ k → (spare_bits s k None).wrong j ≡ s.wrong j
spare_other s k j ne = rw (ne_eqb j k ne) refl

pub handed_after : (z z2 : Chip) (threshold : ℕ) (s : Fate) (i c k : ℕ) (r : Registers)
    → BeforeTurn z s c r → nat_lt (s.cores.retries i) threshold ≡ false
    → lowest s.cores.spare 0 16 ≡ Some k → (read_core z c).lost ≡ None → Fills k r z z2
    → AfterTurn z z2 s (recover_bits threshold s i c) k r
handed_after z z2 threshold s i c k r h many spare none does =
    let there = sym (ap (λ x. x.lost) (fate_reads z s c r h)) ∙ none in
    as_bits z z2 s (spare_bits s k None) (recover_bits threshold s i c) k r
    (recover_hands threshold s i c k many spare there)
    (record {
      lines = does.lines;
      begun = λ j was. does.begun j ∙ was;
      stored =
          subst (λ e. StoredAs z2 k r e) (sym (spare_own s k)) (filled_stored z z2 k r does);
      words = fills_others k z z2 r does;
      wrong = spare_other s k;
    })

-- ---- a recovering core whose words are lost, or that has no spare

recover_loses : (threshold : ℕ) (s : Fate) (i c k w : ℕ)
    → nat_lt (s.cores.retries i) threshold ≡ false → lowest s.cores.spare 0 16 ≡ Some k
    → (read s c).lost ≡ Some w → recover_bits threshold s i c ≡ bits s
recover_loses threshold s i c k w many spare lost = rw (many, spare, lost) refl

pub unhanded_after : (z z2 : Chip) (threshold : ℕ) (s : Fate) (i c k w : ℕ) (r : Registers)
    → BeforeTurn z s c r → nat_lt (s.cores.retries i) threshold ≡ false
    → lowest s.cores.spare 0 16 ≡ Some k → (read_core z c).lost ≡ Some w → Stays z z2
    → AfterTurn z z2 s (recover_bits threshold s i c) c r
unhanded_after z z2 threshold s i c k w r h many spare lost same =
    let there = sym (ap (λ x. x.lost) (fate_reads z s c r h)) ∙ lost in
    as_bits z z2 s (bits s) (recover_bits threshold s i c) c r
    (recover_loses threshold s i c k w many spare there) (quiet z z2 s c r h same)

recover_stops : (threshold : ℕ) (s : Fate) (i c : ℕ)
    → nat_lt (s.cores.retries i) threshold ≡ false → lowest s.cores.spare 0 16 ≡ None
    → recover_bits threshold s i c ≡ bits s
recover_stops threshold s i c many spare = rw (many, spare) refl

pub unspared_after : (z z2 : Chip) (threshold : ℕ) (s : Fate) (i c : ℕ) (r : Registers)
    → BeforeTurn z s c r → nat_lt (s.cores.retries i) threshold ≡ false
    → lowest s.cores.spare 0 16 ≡ None → Stays z z2
    → AfterTurn z z2 s (recover_bits threshold s i c) c r
unspared_after z z2 threshold s i c r h many spare same =
    as_bits z z2 s (bits s) (recover_bits threshold s i c) c r
    (recover_stops threshold s i c many spare) (quiet z z2 s c r h same)
