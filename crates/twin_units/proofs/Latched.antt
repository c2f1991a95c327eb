-- What the latch of the event that is due tells.
use Rattle.std.proofs.Common.{◌≡◌, ℕ, ◌+◌, List, [], ◌∷◌, ◌++◌, Bool, true, false, refl, sym, ap, subst, ◌∙◌, arith, Option, Some, None}
use Rattle.std.specs.Prelude.{zero, suc, ◌<◌, ◌==◌, if◌then◌else◌, replicate, slice_index, drop}
use Rattle.esa_model.specs.declared.codes.TheConstants.{SPECIFICATION}
use Rattle.esa_model.specs.declared.events.Interruption.TheVariants.{Program, Restart as Restarting}
use Rattle.esa_model.specs.declared.events.Taken.TheVariants as taking
use Rattle.esa_model.specs.declared.machine.Registers.{Registers}
use Rattle.esa_model.specs.declared.machine.Signals.{Signals}
use Rattle.esa_model.specs.declared.machine.CpuState.{CpuState}
use Rattle.esa_model.specs.declared.machine.CpuState.TheVariants.{Operating, Stopped, CheckStop}
use Rattle.esa_model.specs.declared.machine.Request.{Request}
use Rattle.esa_model.specs.declared.machine.Due.{Due}
use Rattle.esa_model.specs.declared.machine.Due.TheVariants.{Idle, Early, External, Restart, UnitOfOperation}
use Rattle.esa_model.specs.Psw.{address, is_early, is_waiting}
use Rattle.esa_model.specs.Access.{Memory, byte, bytes}
use Rattle.esa_model.specs.Bus.{signals_of}
use Rattle.esa_model.specs.Event.{due, due_in, enabled, taken_or}
use Rattle.esa_model.specs.Latch.{first_halfword, latch, latch_of, unit_latch}
use Rattle.esa_model.specs.Line.{Side}
use Rattle.esa_model.specs.Machine.{done, done_of, is_idle}
use Rattle.esa_model.specs.Table.{length_of}
use Rattle.esa_model.specs.Unit.{interrupted, suppressed, start_code, fetch_code, fetch_len, fetched, unit, Done}
use Rattle.operand_access.specs.Fetch.{front, fetched_count}
use Rattle.operand_access.specs.Seen.{memory}
use Rattle.twin_units.specs.Events.{interrupted_by, requested}
use Rattle.twin_units.specs.Units.{due_beside, enabled_beside}

-- ---- a fetch that is refused

halfword : (r : Registers) (s : List ℕ) (at : ℕ) (start : Bool)
    → front r s at (if start then 2 else 0) ≡ (if start then bytes r s at 2 ++ replicate 4 0 else replicate 6 0)
unfolding front bytes
halfword r s at true = refl
halfword r s at false = refl

-- what is fetched of it is the first halfword
pub halfword_known : (r : Registers) (m : Memory) (at : ℕ) → (fetch_code r m at == 0) ≡ false
    → front r m.storage at (fetched_count r m at) ≡ first_halfword r m at
unfolding fetched_count
halfword_known r m at h = rw h (halfword r m.storage at (start_code r m at == 0))

not_zero : (n : ℕ) → (n ≡ 0 → ⊥) → (n == 0) ≡ false
not_zero zero h = absurd (h refl)
not_zero (suc k) h = grind arith

-- the eight bytes for a unit that is refused
pub refused_known : (r : Registers) (m : Memory) (code : ℕ) (bs : List ℕ) → code ≡ fetch_code r m (address r.psw)
    → bs ≡ front r m.storage (address r.psw) (fetched_count r m (address r.psw)) → (code ≡ 0 → ⊥) → 4 ∷ code ∷ bs ≡ unit_latch r m
refused_known r m code bs known here h =
    let refused : (fetch_code r m (address r.psw) == 0) ≡ false = subst (λ (n : ℕ). (n == 0) ≡ false) known (not_zero code h) in
    let half : bs ≡ first_halfword r m (address r.psw) = here ∙ halfword_known r m (address r.psw) refused in
    rw (refused, known, half) refl

first_byte : (r : Registers) (s : List ℕ) (at : ℕ) (start : Bool)
    → length_of (slice_index (if start then bytes r s at 2 ++ replicate 4 0 else replicate 6 0) 0) ≡ (if start then length_of (byte r s at) else 2)
unfolding bytes
first_byte r s at true = let e : at + 0 ≡ at = omega arith in ap (λ (n : ℕ). length_of (byte r s n)) e
first_byte r s at false = refl

-- its first byte tells the length
length_told : (r : Registers) (m : Memory) (at : ℕ) → length_of (slice_index (first_halfword r m at) 0) ≡ fetch_len r m at
unfolding fetch_len
length_told r m at = first_byte r m.storage at (start_code r m at == 0)

-- ---- the number of the event

zero_told : (fine : Bool) (xs ys : List ℕ) → slice_index (if fine then 0 ∷ xs else 4 ∷ ys) 0 ≡ 0 → fine ≡ true
zero_told true xs ys h = refl
zero_told false xs ys h = absurd (omega (arith, h))

-- a unit's number is that of no interruption
other_told : (n : ℕ) (fine : Bool) (xs ys : List ℕ) → slice_index (if fine then 0 ∷ xs else 4 ∷ ys) 0 ≡ n → 0 < n → n < 4 → ⊥
other_told n true xs ys h low high = omega (arith, h, low)
other_told n false xs ys h low high = omega (arith, h, high)

-- ---- the request of an external interruption

asked : (restart waiting : Bool) (q : Request) → (if restart then Restart else if waiting then Idle else UnitOfOperation) ≡ External q → ⊥
asked true waiting q h = absurd cc
asked false true q h = absurd cc
asked false false q h = absurd cc

operating : (early : Bool) (e : Option Request) (restart waiting : Bool) (q : Request)
    → (if early then Early else taken_or e (if restart then Restart else if waiting then Idle else UnitOfOperation)) ≡ External q → e ≡ Some q
operating true e restart waiting q h = absurd cc
operating false None restart waiting q h = absurd (asked restart waiting q h)
operating false (Some p) restart waiting q h = cc

stopped : (restart : Bool) (q : Request) → (if restart then Restart else Idle) ≡ External q → ⊥
stopped true q h = absurd cc
stopped false q h = absurd cc

in_state : (state : CpuState) (r : Registers) (clock : ℕ) (s : Signals) (q : Request) → due_in state r clock s ≡ External q → enabled r clock s ≡ Some q
in_state CheckStop r clock s q h = absurd cc
in_state Stopped r clock s q h = absurd (stopped s.restart q h)
in_state Operating r clock s q h = operating (is_early r.psw) (enabled r clock s) s.restart (is_waiting r.psw) q h

external_due : (r : Registers) (clock : ℕ) (s : Signals) (q : Request) → due r clock s ≡ External q → enabled r clock s ≡ Some q
unfolding due
external_due r clock s q h = in_state s.state r clock s q h

-- ---- what each number tells

abbrev seen : List ℕ → Side → Memory
seen s side = memory s side.keys

-- a unit whose instruction is fetched
pub record IsUnit (r : Registers) (i : ℕ) (s : List ℕ) (side : Side) (bs : List ℕ) (d : Done) : Type 0 where
  pub code : fetch_code r (seen s side) (address r.psw) ≡ 0
  pub bytes : drop 2 bs ≡ fetched r (seen s side) (address r.psw)
  pub done : d ≡ unit r i s side

fetched_unit : (fine : Bool) (len : ℕ) (bs ys : List ℕ) → fine ≡ true → drop 2 (if fine then 0 ∷ len ∷ bs else 4 ∷ ys) ≡ bs
fetched_unit true len bs ys h = refl
fetched_unit false len bs ys h = absurd (grind (arith, h))

code_zero : (code : ℕ) → (code == 0) ≡ true → code ≡ 0
code_zero code h = grind (arith, h)

unit_of_due : (r : Registers) (i : ℕ) (s : List ℕ) (side : Side) (q : Due) → is_idle q ≡ false
    → slice_index (latch_of r (seen s side) q) 0 ≡ 0 → IsUnit r i s side (latch_of r (seen s side) q) (done_of r i s side q)
unit_of_due r i s side Idle b h = absurd (grind (arith, b))
unit_of_due r i s side Early b h = absurd (omega (arith, h))
unit_of_due r i s side (External q) b h = absurd (omega (arith, h))
unit_of_due r i s side Restart b h = absurd (omega (arith, h))
unit_of_due r i s side UnitOfOperation b h =
    let m = seen s side in
    let at = address r.psw in
    let xs = fetch_len r m at ∷ fetched r m at in
    let ys = fetch_code r m at ∷ first_halfword r m at in
    let fine = zero_told (fetch_code r m at == 0) xs ys h in
    record {
      code = code_zero (fetch_code r m at) fine;
      bytes = fetched_unit (fetch_code r m at == 0) (fetch_len r m at) (fetched r m at) ys fine;
      done = refl;
    }

pub unit_told : (r : Registers) (i : ℕ) (s : List ℕ) (side : Side) → is_idle (due_beside r i side) ≡ false
    → slice_index (latch r i s side) 0 ≡ 0 → IsUnit r i s side (latch r i s side) (done r i s side)
unfolding latch done
unit_told r i s side b h = unit_of_due r i s side (due_beside r i side) b h

external_of_due : (r : Registers) (i : ℕ) (s : List ℕ) (side : Side) (q : Due) → due_beside r i side ≡ q
    → slice_index (latch_of r (seen s side) q) 0 ≡ 1 → done_of r i s side q ≡ requested r (enabled_beside r i side)
external_of_due r i s side Idle e h = absurd (omega (arith, h))
external_of_due r i s side Early e h = absurd (omega (arith, h))
external_of_due r i s side (External q) e h = rw (external_due r side.clock (signals_of side.bus i) q e) refl
external_of_due r i s side Restart e h = absurd (omega (arith, h))
external_of_due r i s side UnitOfOperation e h = absurd (other_told 1 _ _ _ h (omega arith) (omega arith))

pub external_told : (r : Registers) (i : ℕ) (s : List ℕ) (side : Side) → slice_index (latch r i s side) 0 ≡ 1
    → done r i s side ≡ requested r (enabled_beside r i side)
unfolding latch done
external_told r i s side h = external_of_due r i s side (due_beside r i side) refl h

restart_of_due : (r : Registers) (i : ℕ) (s : List ℕ) (side : Side) (q : Due) → slice_index (latch_of r (seen s side) q) 0 ≡ 2 → done_of r i s side q ≡ interrupted_by r Restarting 0 taking.Restart
restart_of_due r i s side Idle h = absurd (omega (arith, h))
restart_of_due r i s side Early h = absurd (omega (arith, h))
restart_of_due r i s side (External q) h = absurd (omega (arith, h))
restart_of_due r i s side Restart h = refl
restart_of_due r i s side UnitOfOperation h = absurd (other_told 2 _ _ _ h (omega arith) (omega arith))

pub restart_told : (r : Registers) (i : ℕ) (s : List ℕ) (side : Side) → slice_index (latch r i s side) 0 ≡ 2 → done r i s side ≡ interrupted_by r Restarting 0 taking.Restart
unfolding latch done
restart_told r i s side h = restart_of_due r i s side (due_beside r i side) h

early_of_due : (r : Registers) (i : ℕ) (s : List ℕ) (side : Side) (q : Due) → slice_index (latch_of r (seen s side) q) 0 ≡ 3 → done_of r i s side q ≡ interrupted r (Some Program) SPECIFICATION []
early_of_due r i s side Idle h = absurd (omega (arith, h))
early_of_due r i s side Early h = refl
early_of_due r i s side (External q) h = absurd (omega (arith, h))
early_of_due r i s side Restart h = absurd (omega (arith, h))
early_of_due r i s side UnitOfOperation h = absurd (other_told 3 _ _ _ h (omega arith) (omega arith))

pub early_told : (r : Registers) (i : ℕ) (s : List ℕ) (side : Side) → slice_index (latch r i s side) 0 ≡ 3 → done r i s side ≡ interrupted r (Some Program) SPECIFICATION []
unfolding latch done
early_told r i s side h = early_of_due r i s side (due_beside r i side) h

-- a unit whose fetch is refused: the length is by the first byte, the code is told
abbrev pub refused_by : Registers → List ℕ → Done
refused_by r bs = suppressed r (length_of (slice_index bs 2)) (slice_index bs 1) []

refused_unit : (r : Registers) (fine : Bool) (code len : ℕ) (xs half : List ℕ) (d : Done) → 3 < slice_index (if fine then 0 ∷ xs else 4 ∷ code ∷ half) 0
    → length_of (slice_index half 0) ≡ len
    → (if fine then d else suppressed r len code []) ≡ refused_by r (if fine then 0 ∷ xs else 4 ∷ code ∷ half)
refused_unit r true code len xs half d h e = absurd (omega (arith, h))
refused_unit r false code len xs half d h e = ap (λ (n : ℕ). suppressed r n code []) (sym e)

refused_of_due : (r : Registers) (i : ℕ) (s : List ℕ) (side : Side) (q : Due) → 3 < slice_index (latch_of r (seen s side) q) 0
    → done_of r i s side q ≡ refused_by r (latch_of r (seen s side) q)
unfolding unit
refused_of_due r i s side Idle h = absurd (omega (arith, h))
refused_of_due r i s side Early h = absurd (omega (arith, h))
refused_of_due r i s side (External q) h = absurd (omega (arith, h))
refused_of_due r i s side Restart h = absurd (omega (arith, h))
refused_of_due r i s side UnitOfOperation h =
    let m = seen s side in
    let at = address r.psw in
    refused_unit r (fetch_code r m at == 0) (fetch_code r m at) (fetch_len r m at) (fetch_len r m at ∷ fetched r m at) (first_halfword r m at) _ h (length_told r m at)

pub refused_told : (r : Registers) (i : ℕ) (s : List ℕ) (side : Side) → 3 < slice_index (latch r i s side) 0
    → done r i s side ≡ suppressed r (length_of (slice_index (latch r i s side) 2)) (slice_index (latch r i s side) 1) []
unfolding latch done
refused_told r i s side h = refused_of_due r i s side (due_beside r i side) h
