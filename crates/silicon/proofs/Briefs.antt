-- Brief lines, one after another.
use Rattle.std.proofs.Common.{◌≡◌, ℕ, zero, suc, ◌+◌, ◌<◌, ◌≤◌, Bool, true, false, cond, List, [], ◌∷◌, length, get_or, drop, refl, sym, ◌∙◌, arith, bit_xor}
use Rattle.run_model.specs.declared.faults.Strike.{Strike}
use Rattle.run_model.specs.declared.faults.Unit.{Unit}
use Rattle.silicon.specs.Chip.{masked}
use Rattle.run_model.specs.Strikes.{in_byte}
use Rattle.silicon.proofs.Masked.{masked_none, masked_by_same}
use Rattle.fault_script.specs.Index.{is_brief}
use Rattle.fault_script.specs.Totals.{total, brief_byte, brief_mask}
use Rattle.silicon.proofs.Masks.{masked_twice}

chosen_true : (t : Bool) (x : ℕ) → t ≡ true → x ≡ cond t x 0
chosen_true true x e = refl
chosen_true false x e = absurd cc

chosen_false : (t : Bool) (x : ℕ) → t ≡ false → cond t x 0 ≡ 0
chosen_false true x e = absurd cc
chosen_false false x e = refl

pub brief_one : (s : Strike) (c : ℕ) (u : Unit) (n : ℕ) (bs : List ℕ) → is_brief s ≡ true → masked (in_byte s c u n) 0 bs ≡ masked (λ k. brief_byte s c u n k) 0 bs
brief_one s c u n bs e = masked_by_same _ _ 0 bs (λ j l. chosen_true (is_brief s) (in_byte s c u n (0 + j)) e)

pub lasting_one : (s : Strike) (c : ℕ) (u : Unit) (n : ℕ) (bs : List ℕ) → is_brief s ≡ false → bs ≡ masked (λ k. brief_byte s c u n k) 0 bs
lasting_one s c u n bs e = sym (masked_none _ 0 bs (λ j l. chosen_false (is_brief s) (in_byte s c u n (0 + j)) e))

mask_is : (s : Strike) (ss : List Strike) (c : ℕ) (u : Unit) (n k : ℕ) → bit_xor (brief_byte s c u n k) (brief_mask ss c u n k) ≡ brief_mask (s ∷ ss) c u n k
unfolding total
mask_is s ss c u n k = refl

line_more : (s : Strike) (ss : List Strike) (c : ℕ) (u : Unit) (n : ℕ) (bs : List ℕ) → masked (brief_mask ss c u n) 0 (masked (λ k. brief_byte s c u n k) 0 bs) ≡ masked (brief_mask (s ∷ ss) c u n) 0 bs
line_more s ss c u n bs = masked_twice (λ k. brief_byte s c u n k) (brief_mask ss c u n) 0 bs ∙ masked_by_same _ _ 0 bs (λ j l. mask_is s ss c u n (0 + j))

mask_end : (c : ℕ) (u : Unit) (n : ℕ) (bs : List ℕ) → masked (brief_mask [] c u n) 0 bs ≡ bs
unfolding total
mask_end c u n bs = masked_none _ 0 bs (λ j l. refl)

pub briefs_step : (ls : List Strike) (i : ℕ) (d : Strike) (c : ℕ) (u : Unit) (n : ℕ) (bs : List ℕ) → i < length ls
    → masked (brief_mask (drop (suc i) ls) c u n) 0 (masked (λ k. brief_byte (get_or ls i d) c u n k) 0 bs) ≡ masked (brief_mask (drop i ls) c u n) 0 bs
briefs_step [] i d c u n bs h = absurd (omega arith)
briefs_step (s ∷ ss) zero d c u n bs h = line_more s ss c u n bs
briefs_step (s ∷ ss) (suc i) d c u n bs h = briefs_step ss i d c u n bs (omega arith)

pub briefs_end : (ls : List Strike) (i : ℕ) (c : ℕ) (u : Unit) (n : ℕ) (bs : List ℕ) → length ls ≤ i → masked (brief_mask (drop i ls) c u n) 0 bs ≡ bs
briefs_end [] zero c u n bs h = mask_end c u n bs
briefs_end [] (suc i) c u n bs h = mask_end c u n bs
briefs_end (s ∷ ss) zero c u n bs h = absurd (omega arith)
briefs_end (s ∷ ss) (suc i) c u n bs h = briefs_end ss i c u n bs (omega arith)
