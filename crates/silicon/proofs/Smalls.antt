-- What an attempt flips: small bits, two masks in turn, words.
use Rattle.std.proofs.Common.{◌≡◌, ℕ, zero, suc, ◌+◌, ◌≤◌, ◌*◌, get_or, Bool, true, false, cond, eqb, List, [], ◌∷◌, flat_map, Option, Some, None, replicate, refl, sym, ap, ◌∙◌, bit_xor}
use Rattle.std.specs.Int.Bits.{xor_zero_r}
use Rattle.run_model.specs.declared.faults.Strike.{Strike}
use Rattle.run_model.specs.declared.faults.Strike.TheVariants.{Packet, Fetch, Store, Word}
use Rattle.run_model.specs.declared.faults.Unit.{Unit}
use Rattle.silicon.specs.Chip.{masked}
use Rattle.run_model.specs.Script.{InRange, AllInRange}
use Rattle.run_model.specs.Strikes.{mask_byte, flips, fetch_bit, store_bit, fetch_in, store_in, first_some}
use Rattle.silicon.proofs.Masked.{masked_by_same, masked_none}
use Rattle.silicon.specs.Landing.{UpTo, LandsAll}
use Rattle.fault_script.specs.Index.{if_lasting}
use Rattle.fault_script.specs.Totals.{brief_mask, IsPart, IsLastingPart}
use Rattle.silicon.proofs.Masks.{masked_twice}

small_first : (most : ℕ) (o p : Option ℕ) → UpTo most o → UpTo most p → UpTo most (first_some o p)
small_first most None p h g = g
small_first most (Some b) p h g = h

small_choice : (most : ℕ) (t : Bool) (b : ℕ) → b ≤ most → UpTo most (cond t (Some b) None)
small_choice most true b h = h
small_choice most false b h = tt

small_fetch_in : (s : Strike) (c n : ℕ) → InRange s → UpTo 64 (fetch_in s c n)
small_fetch_in (Packet core first unit bit count) c n h = tt
small_fetch_in (Fetch core first bit) c n h = small_choice 64 _ bit h.2
small_fetch_in (Store core first bit) c n h = tt
small_fetch_in (Word core first word bit) c n h = tt

small_store_in : (s : Strike) (c n : ℕ) → InRange s → UpTo 4096 (store_in s c n)
small_store_in (Packet core first unit bit count) c n h = tt
small_store_in (Fetch core first bit) c n h = tt
small_store_in (Store core first bit) c n h = small_choice 4096 _ bit h.2
small_store_in (Word core first word bit) c n h = tt

pub small_fetch : (ls : List Strike) (c n : ℕ) → AllInRange ls → UpTo 64 (fetch_bit ls c n)
unfolding fetch_bit
small_fetch [] c n ranges = tt
small_fetch (s ∷ ss) c n ranges =
    small_first 64 (fetch_in s c n) (fetch_bit ss c n) (small_fetch_in s c n ranges.0) (small_fetch ss c n ranges.1)

pub small_store : (ls : List Strike) (c n : ℕ) → AllInRange ls → UpTo 4096 (store_bit ls c n)
unfolding store_bit
small_store [] c n ranges = tt
small_store (s ∷ ss) c n ranges =
    small_first 4096 (store_in s c n) (store_bit ss c n) (small_store_in s c n ranges.0) (small_store ss c n ranges.1)

pub both_masks : (ls b t : List Strike) (c n : ℕ) (u : Unit) (bs : List ℕ) → IsPart ls b c n → IsLastingPart ls t c n
    → masked (mask_byte t c u n) 0 (masked (brief_mask b c u n) 0 bs) ≡ masked (mask_byte ls c u n) 0 bs
both_masks ls b t c n u bs h g =
    masked_twice (brief_mask b c u n) (mask_byte t c u n) 0 bs
    ∙ masked_by_same _ _ 0 bs (λ j l. ap (bit_xor (brief_mask b c u n (0 + j))) (g.masks u (0 + j)) ∙ h.masks u (0 + j))

pub no_lines : (c n : ℕ) (u : Unit) (bs : List ℕ) → bs ≡ masked (mask_byte [] c u n) 0 bs
unfolding mask_byte
no_lines c n u bs = sym (masked_none _ 0 bs (λ j l. refl))

pub lands_as : (ls b : List Strike) (core n : ℕ) (old new : List ℕ) → LandsAll b core n old new → IsPart ls b core n → LandsAll ls core n old new
lands_as ls b core n old new h same c w l = let at = get_or old (c * 40 + w) 0 in h c w l ∙ ap (λ x. cond (eqb c core) (bit_xor at x) at) (same.words w)

same_by : (t : Bool) (x : ℕ) → x ≡ cond t (bit_xor x 0) x
same_by true x = sym (xor_zero_r x)
same_by false x = refl

pub lands_none : (core n : ℕ) (old : List ℕ) → LandsAll [] core n old old
unfolding flips
lands_none core n old c w l = same_by (eqb c core) _

pub zero_in : (n k : ℕ) → ◌≡◌ {A = ℕ} (get_or (replicate n 0) k 0) 0
zero_in zero k = refl
zero_in (suc n) zero = refl
zero_in (suc n) (suc k) = zero_in n k
