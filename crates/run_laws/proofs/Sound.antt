-- Attempts begun are never taken back, so a run that is sound was so before.
use Rattle.std.proofs.Common.{◌≡◌, ℕ, ◌+◌, ◌≤◌, Bool, true, false, List, Option, Some, None, refl, ap, arith, if◌then◌else◌}
use Rattle.std.specs.Prelude.{◌==◌, ◌%◌, nat_lt}
use Rattle.run_model.specs.declared.faults.Strike.{Strike}
use Rattle.run_model.specs.declared.faults.Mode.{Mode}
use Rattle.run_model.specs.declared.faults.Mode.TheVariants.{Running, Recovering, Lost}
use Rattle.run_model.specs.declared.schedules.RunKind.{RunKind}
use Rattle.run_model.specs.declared.schedules.RunKind.TheVariants.{Turns, Key, Return}
use Rattle.run_model.specs.declared.logs.Config.{Config}
use Rattle.run_model.specs.Strikes.{cause}
use Rattle.run_model.specs.declared.faults.Cause.{Cause}
use Rattle.run_model.specs.Cores.{lowest}
use Rattle.run_model.specs.Fate.{Fate, Sight, Bits, sight, bits, mend, attempted, written, strike, read, scrub_bits, spare_bits, transfer_bits, bits_by, bits_of, Sound}
use Rattle.run_model.specs.Runs.{Model, turned}
use Rattle.run_laws.proofs.At.{at_by}

abbrev pub Grows : Fate → Bits → Type 0
Grows s b = (c : ℕ) → s.begun c ≤ b.begun c

stays : (s : Fate) → Grows s (bits s)
stays s c = omega arith

writes : (g : Sight) (s : Fate) (k : ℕ) (o : Option Cause) (b : Bits) → Grows s b
    → Grows s (written g k o b)
writes g s k None b h = h
writes g s k (Some why) b h = h

begins : (ls : List Strike) (g : Sight) (s : Fate) (k : ℕ) (b : Bits) → b.begun ≡ s.begun
    → Grows s (attempted ls g k (s.begun k) b)
begins ls g s k b e =
    writes g s k (cause ls k (s.begun k)) (strike ls k (s.begun k) b)
    (λ c. at_by (λ n. s.begun c ≤ n) b.begun k (s.begun k + 1) c
    (λ is. omega (arith, ap s.begun is)) (λ ne. omega (arith, ap (λ f. f c) e)))

scrubs : (ls : List Strike) (g : Sight) (s : Fate) (k : ℕ) (o : Option ℕ)
    → Grows s (scrub_bits ls g s k o)
scrubs ls g s k None = begins ls g s k (mend s k None) refl
scrubs ls g s k (Some w) = stays s

runs_by : (ls : List Strike) (g : Sight) (s : Fate) (k : ℕ) (a b : Bool)
    → Grows s
    (if a then bits s
    else (if b then scrub_bits ls g s k (read s k).lost
    else attempted ls g k (s.begun k) (bits s)))
runs_by ls g s k true b = stays s
runs_by ls g s k false true = scrubs ls g s k (read s k).lost
runs_by ls g s k false false = begins ls g s k (bits s) refl

hands : (s : Fate) (k : ℕ) (o : Option ℕ) → Grows s (spare_bits s k o)
hands s k None = stays s
hands s k (Some w) = stays s

transfers : (s : Fate) (c : ℕ) (o : Option ℕ) → Grows s (transfer_bits s c o)
transfers s c None = stays s
transfers s c (Some k) = hands s k (read s c).lost

recovers_by : (s : Fate) (c : ℕ) (b : Bool)
    → Grows s
    (if b then mend s c (read s c).lost else transfer_bits s c (lowest s.cores.spare 0 16))
recovers_by s c true = stays s
recovers_by s c false = transfers s c (lowest s.cores.spare 0 16)

modes : (ls : List Strike) (t : ℕ) (g : Sight) (s : Fate) (i : ℕ) (mode : Mode)
    → Grows s (bits_by ls t g s i mode)
modes ls t g s i Running =
    runs_by ls g s (s.cores.core i) g.waits (s.begun (s.cores.core i) % 16 == 0)
modes ls t g s i Recovering = recovers_by s (s.cores.core i) (nat_lt (s.cores.retries i) t)
modes ls t g s i Lost = stays s

pub kinds : (ls : List Strike) (t : ℕ) (g : ℕ → Sight) (s : Fate) (k : RunKind)
    → Grows s (bits_of ls t g s k)
kinds ls t g s (Turns i) = modes ls t (g i.0) s i.0 (s.cores.mode i.0)
kinds ls t g s (Key i) = stays s
kinds ls t g s (Return k) = stays s

pub sound_before : (ls : List Strike) (c : Config) (x : Model) (k : RunKind)
    → Sound ls (turned ls c x k).fate → Sound ls x.fate
unfolding turned
sound_before ls c x k h a n lt = let g = kinds ls c.threshold (sight x.machine) x.fate k a in
    h a n (omega (arith, lt, g))
