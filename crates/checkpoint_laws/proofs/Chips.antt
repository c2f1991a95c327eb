-- What the calls of a core do to its own words, and to those of another core.
use Rattle.std.proofs.Common.{◌≡◌, ℕ, ◌<◌, Bool, true, Option, refl, bit_xor, eq-eqb, if◌then◌else◌}
use Rattle.std.specs.Prelude.{◌==◌, ◌&&◌, not}
use Rattle.std.proofs.lemmas.Bool.{ne_eqb}
use Rattle.esa_model.specs.declared.machine.Registers.{Registers}
use Rattle.run_model.specs.Checkpoint.{word_of}
use Rattle.run_model.specs.Reading.{code, is_before}
use Rattle.run_model.specs.Strikes.{flips}
use Rattle.silicon.specs.Chip.{Chip}
use Rattle.core_states.specs.Words.{Rewrites, Fills, Changes, Scrubs, Attempts, is_due, rewritten}
use Rattle.checkpoint_laws.specs.Stored.{KeepsOthers}

-- ---- its own words

module _ (c : ℕ) (z z2 : Chip) where
  pub rewrites_own : (back : Bool) (lost : Option ℕ) → Rewrites back c lost z z2 → (w : ℕ) → w < 40
      → z2.word c w
      ≡ (if is_before w lost then rewritten back w (z.word c w) else z.word c w)
  rewrites_own back lost h w lt = let e = eq-eqb c c refl in let x = h.word c w lt in rw e at x

  pub scrubs_own : (lost : Option ℕ) → Scrubs c lost z z2 → (w : ℕ) → w < 40
      → z2.word c w
      ≡ (if is_due z c && is_before w lost then rewritten true w (z.word c w) else z.word c w)
  scrubs_own lost h w lt = let e = eq-eqb c c refl in let x = h.word c w lt in rw e at x

  pub attempts_own : Attempts c z z2 → (w : ℕ) → w < 40
      → z2.word c w
      ≡ bit_xor (if is_due z c then rewritten true w (z.word c w) else z.word c w)
      (flips z.lines c (z.begun c) w)
  attempts_own h w lt = let e = eq-eqb c c refl in let x = h.word c w lt in rw e at x

  pub fills_own : (r : Registers) → Fills c r z z2 → (w : ℕ) → w < 40
      → z2.word c w ≡ code w (word_of r w)
  fills_own r h w lt = let e = eq-eqb c c refl in let x = h.word c w lt in rw e at x

  pub changes_own : (r r2 : Registers) → Changes c r r2 z z2 → (w : ℕ) → w < 40
      → z2.word c w
      ≡ (if not (word_of r2 w == word_of r w) then code w (word_of r2 w) else z.word c w)
  changes_own r r2 h w lt = let e = eq-eqb c c refl in let x = h.word c w lt in rw e at x

  -- ---- those of another core

  pub rewrites_others : (back : Bool) (lost : Option ℕ) → Rewrites back c lost z z2
      → KeepsOthers c z z2
  rewrites_others back lost h k w ne lt =
      let e = ne_eqb k c ne in let x = h.word k w lt in rw e at x

  pub scrubs_others : (lost : Option ℕ) → Scrubs c lost z z2 → KeepsOthers c z z2
  scrubs_others lost h k w ne lt = let e = ne_eqb k c ne in let x = h.word k w lt in rw e at x

  pub attempts_others : Attempts c z z2 → KeepsOthers c z z2
  attempts_others h k w ne lt = let e = ne_eqb k c ne in let x = h.word k w lt in rw e at x

  pub fills_others : (r : Registers) → Fills c r z z2 → KeepsOthers c z z2
  fills_others r h k w ne lt = let e = ne_eqb k c ne in let x = h.word k w lt in rw e at x

  pub changes_others : (r r2 : Registers) → Changes c r r2 z z2 → KeepsOthers c z z2
  changes_others r r2 h k w ne lt = let e = ne_eqb k c ne in let x = h.word k w lt in rw e at x
