-- What is held for a CPU, where a save says it alike, stands for the same.
use Rattle.std.proofs.Common.{◌≡◌, ℕ, ◌<◌, false, map, sym, ap, ◌∙◌, subst, arith}
use Rattle.std.specs.List.{range_with_len}
use Rattle.std.proofs.lemmas.List.FromFn.{length-map-range_with_len, get_or-map-range_with_len}
use Rattle.esa_model.specs.declared.machine.Registers.{Registers}
use Rattle.run_model.specs.Checkpoint.{registers_of, word_of, words_of}
use Rattle.run_model.specs.Cores.{is_lost}
use Rattle.run_model.specs.Runs.{Model}
use Rattle.runit_ecc.specs.Bounds.{AreRegisters}
use Rattle.runit_ecc.proofs.Restored.{restored_from}
use Rattle.silicon.specs.Chip.{Chip}
use Rattle.core_turns.specs.Held.{HoldsRegisters, core_of}
use Rattle.core_turns.specs.Standing.{StandsAt, StoresCpu}
use Rattle.core_turns.specs.declared.held.Held.{Held}
use Rattle.core_turns.specs.declared.held.Held.TheVariants.{Running, Recovering, Lost, Taken}
use Rattle.saved_machine.specs.Numbers.{mode_number, retries_of, words_held}

back : (r : Registers) → AreRegisters r → registers_of (words_of r) ≡ r
unfolding words_of
back r a =
    restored_from (map (word_of r) (range_with_len 0 40)) r a (length-map-range_with_len (word_of r) 0 40)
    (λ w h. get_or-map-range_with_len (word_of r) 0 40 w w 0 h (omega arith))

same_words : (r s : Registers) → AreRegisters r → AreRegisters s → words_of r ≡ words_of s → r ≡ s
same_words r s a b e = sym (back r a) ∙ ap registers_of e ∙ back s b

-- mode, core, retries and words are the same
pub record SameHeld (h k : Held) : Type 0 where
  pub mode : mode_number h ≡ mode_number k
  pub core : core_of h ≡ core_of k
  pub retries : retries_of h ≡ retries_of k
  pub words : words_held h ≡ words_held k

abbrev pub SameWords : Chip → Chip → Type 0
SameWords z z2 = (c w : ℕ) → c < 16 → w < 40 → z.word c w ≡ z2.word c w

stores_same : (z z2 : Chip) (x : Model) (i : ℕ) → SameWords z z2 → x.fate.cores.core i < 16
    → StoresCpu z x i → StoresCpu z2 x i
stores_same z z2 x i same small s = record {
  registers = s.registers;
  clocks = s.clocks;
  words = record {
    word = λ w h. sym (same (x.fate.cores.core i) w small h) ∙ s.words.word w h;
    places = s.words.places;
  };
}

pub stands_same : (h k : Held) (z z2 : Chip) (x : Model) (i : ℕ) → SameHeld h k → HoldsRegisters k
    → SameWords z z2 → StandsAt h z x i → StandsAt k z2 x i
stands_same (Running a) (Running b) z z2 x i e r same s =
    let small : x.fate.cores.core i < 16 = subst (λ q. q < 16) (sym s.held.1) a.small in
    let alive : is_lost (x.fate.cores.mode i) ≡ false = ap is_lost s.held.0 in
    let fit : AreRegisters a.registers = subst (λ q. AreRegisters q) s.registers (s.stores alive).registers in
    record {
      held = (s.held.0, s.held.1 ∙ e.core, s.held.2 ∙ e.retries);
      registers = s.registers ∙ same_words a.registers b.registers fit r.registers e.words;
      stores = λ q. stores_same z z2 x i same small (s.stores q);
    }
stands_same (Running a) (Recovering b) z z2 x i e r same s = let q = e.mode in absurd (omega (arith, q))
stands_same (Running a) (Lost c n) z z2 x i e r same s = let q = e.mode in absurd (omega (arith, q))
stands_same (Running a) Taken z z2 x i e r same s = let q = e.mode in absurd (omega (arith, q))
stands_same (Recovering a) (Running b) z z2 x i e r same s = let q = e.mode in absurd (omega (arith, q))
stands_same (Recovering a) (Recovering b) z z2 x i e r same s =
    let small : x.fate.cores.core i < 16 = subst (λ q. q < 16) (sym s.held.1) a.small in
    record {
      held = (s.held.0, s.held.1 ∙ e.core, s.held.2 ∙ e.retries);
      registers = tt;
      stores = λ q. stores_same z z2 x i same small (s.stores q);
    }
stands_same (Recovering a) (Lost c n) z z2 x i e r same s = let q = e.mode in absurd (omega (arith, q))
stands_same (Recovering a) Taken z z2 x i e r same s = let q = e.mode in absurd (omega (arith, q))
stands_same (Lost c n) (Running b) z z2 x i e r same s = let q = e.mode in absurd (omega (arith, q))
stands_same (Lost c n) (Recovering b) z z2 x i e r same s = let q = e.mode in absurd (omega (arith, q))
stands_same (Lost c n) (Lost d o) z z2 x i e r same s = record {
  held = (s.held.0, s.held.1 ∙ e.core, s.held.2 ∙ e.retries);
  registers = tt;
  stores = λ q. let lost = ap is_lost s.held.0 in absurd (cc (sym lost ∙ q));
}
stands_same (Lost c n) Taken z z2 x i e r same s = let q = e.mode in absurd (omega (arith, q))
stands_same Taken k z z2 x i e r same s = absurd s.held
