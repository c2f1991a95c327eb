-- A sealed latch is good where it was not struck, and not good where it was.
use Rattle.std.proofs.Common.{◌≡◌, ℕ, ◌<◌, ◌≤◌, Bool, true, false, List, length, Option, Some, None, refl, sym, ◌∙◌, arith, cond, eqb}
use Rattle.std.specs.Prelude.{not}
use Rattle.std.specs.Option.{is_some}
use Rattle.std.proofs.lemmas.Bool.Decides.{nat_tests}
use Rattle.esa_model.specs.Latch.{parity_bit, is_good}
use Rattle.result_packet.specs.Bits.{flipped}
use Rattle.result_packet.specs.declared.latches.FetchLatch.{FetchLatch}
use Rattle.result_packet.specs.declared.latches.StoreLatch.{StoreLatch}
use Rattle.result_packet.proofs.Ones.{sealed_good, changed_bad, parity_bad}
use Rattle.run_model.specs.Script.{InForm}
use Rattle.run_model.specs.Strikes.{fetch_bit, store_bit}
use Rattle.run_model.specs.declared.faults.Strike.{Strike}
use Rattle.silicon.specs.Chip.{hit_fetch}
use Rattle.silicon.specs.Landing.{UpTo}
use Rattle.silicon.proofs.Smalls.{small_fetch, small_store}
use Rattle.core_states.specs.Trial.{passes_fetch, passes_store}

-- the parity bit of a good latch is that of its bytes
pub odd_by_good : (bs : List ℕ) (odd : Bool) → is_good bs odd ≡ true → odd ≡ parity_bit bs
unfolding is_good parity_bit
odd_by_good bs true h = grind (arith, nat_tests)
odd_by_good bs false h = grind (arith, nat_tests)

pub good_sealed : (bs : List ℕ) → is_good bs (parity_bit bs) ≡ true
good_sealed bs = sealed_good bs

bad_either : {X : Type 0} (good : X → Bool) (t : Bool) (x y : X)
    → (t ≡ true → good x ≡ false) → (t ≡ false → good y ≡ false) → good (cond t x y) ≡ false
bad_either good true x y h k = h refl
bad_either good false x y h k = k refl

-- a bit that is not the last is one of the bytes
below_last : (most bit : ℕ) → bit ≤ most → eqb bit most ≡ false → bit < most
below_last most bit h e = grind (arith, nat_tests)

good_after_fetch : (l : FetchLatch) (o : Option ℕ) → UpTo 64 o → length l.bytes ≡ 8
    → is_good l.bytes l.odd ≡ true → passes_fetch l o ≡ not (is_some o)
unfolding passes_fetch
good_after_fetch l None up eight h = h
good_after_fetch l (Some bit) up eight h =
    bad_either (λ x. is_good x.bytes x.odd) (eqb bit 64) (record l { odd = not l.odd })
    (record l { bytes = flipped bit l.bytes })
    (λ e. parity_bad l.bytes l.odd h)
    (λ e. let b = below_last 64 bit up e in changed_bad bit l.bytes l.odd (omega (arith, b, eight)) h)

-- by the script of a silicon
pub passes_as_unstruck : (ls : List Strike) (c n : ℕ) (l : FetchLatch) → InForm ls
    → length l.bytes ≡ 8 → is_good l.bytes l.odd ≡ true
    → passes_fetch l (fetch_bit ls c n) ≡ not (is_some (fetch_bit ls c n))
passes_as_unstruck ls c n l form eight h =
    good_after_fetch l (fetch_bit ls c n) (small_fetch ls c n form.ranges) eight h

same_unstruck : (l : FetchLatch) (o : Option ℕ) → not (is_some o) ≡ true
    → (hit_fetch l o).bytes ≡ l.bytes
same_unstruck l None e = refl
same_unstruck l (Some bit) e = absurd cc

-- a latch that is good after it was passed was not struck
pub same_where_good : (ls : List Strike) (c n : ℕ) (l : FetchLatch) → InForm ls
    → length l.bytes ≡ 8 → is_good l.bytes l.odd ≡ true
    → passes_fetch l (fetch_bit ls c n) ≡ true → (hit_fetch l (fetch_bit ls c n)).bytes ≡ l.bytes
same_where_good ls c n l form eight h good =
    same_unstruck l (fetch_bit ls c n) (sym (passes_as_unstruck ls c n l form eight h) ∙ good)

good_after_store : (l : StoreLatch) (o : Option ℕ) → UpTo 4096 o → length l.packet ≡ 512
    → is_good l.packet l.odd ≡ true → passes_store l o ≡ not (is_some o)
unfolding passes_store
good_after_store l None up long h = h
good_after_store l (Some bit) up long h =
    bad_either (λ x. is_good x.packet x.odd) (eqb bit 4096) (record l { odd = not l.odd })
    (record l { packet = flipped bit l.packet })
    (λ e. parity_bad l.packet l.odd h)
    (λ e. let b = below_last 4096 bit up e in changed_bad bit l.packet l.odd (omega (arith, b, long)) h)

pub leaves_as_unstruck : (ls : List Strike) (c n : ℕ) (l : StoreLatch) → InForm ls
    → length l.packet ≡ 512 → is_good l.packet l.odd ≡ true
    → passes_store l (store_bit ls c n) ≡ not (is_some (store_bit ls c n))
leaves_as_unstruck ls c n l form long h =
    good_after_store l (store_bit ls c n) (small_store ls c n form.ranges) long h
