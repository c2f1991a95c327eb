-- Under the premise every run is sound: only cores below 16 begin attempts.
use Rattle.std.proofs.Common.{◌≡◌, ℕ, zero, suc, ◌+◌, ◌%◌, ◌<◌, ◌≤◌, Bool, true, false, List, [], ◌∷◌, Option, Some, None, refl, arith, if◌then◌else◌}
use Rattle.std.specs.Prelude.{◌==◌, nat_lt}
use Rattle.std.proofs.lemmas.Bool.{ltb-true, ltb-false}
use Rattle.esa_model.specs.Machine.{Machine}
use Rattle.run_model.specs.declared.faults.Cause.{Cause}
use Rattle.run_model.specs.declared.faults.Mode.{Mode}
use Rattle.run_model.specs.declared.faults.Mode.TheVariants.{Running, Recovering, Lost}
use Rattle.run_model.specs.declared.faults.Strike.{Strike}
use Rattle.run_model.specs.declared.logs.Config.{Config}
use Rattle.run_model.specs.declared.schedules.RunKind.{RunKind}
use Rattle.run_model.specs.declared.schedules.RunKind.TheVariants as kind
use Rattle.run_model.specs.Cores.{Cores, Met, make, return_by, is_fenced, lowest}
use Rattle.run_model.specs.Fate.{Fate, Sight, sight, Bits, bits, read, mend, strike, written, attempted, scrub_bits, spare_bits, transfer_bits, bits_by, bits_of, met_by, Sound}
use Rattle.run_model.specs.Premise.{Within}
use Rattle.run_model.specs.Runs.{Model, turned, run_after, first_model}
use Rattle.run_model.specs.Strikes.{cause, WithinAt}
use Rattle.run_laws.specs.Runs.{ValidKind, ValidKinds, fate_of_run}
use Rattle.run_laws.proofs.At.{at_by}
use Rattle.run_laws.proofs.Masks.{within_at}
use Rattle.run_laws.proofs.Rows.{Rows, does_by}

-- ---- the cores of CPUs

abbrev pub Low : Config → Cores → Type 0
Low c s = (i : ℕ) → i < c.cpus → s.core i < 16

found_below : (f : ℕ → Bool) (a n k : ℕ) (b : Bool) → f a ≡ b
    → (lowest f (a + 1) n ≡ Some k → k < a + 1 + n)
    → (if b then Some a else lowest f (a + 1) n) ≡ Some k → k < a + suc n
found_below f a n k true e rest h = let same : a ≡ k = cc h in omega (arith, same)
found_below f a n k false e rest h = let r = rest h in omega (arith, r)

lowest_below : (f : ℕ → Bool) (a n k : ℕ) → lowest f a n ≡ Some k → k < a + n
lowest_below f a zero k h = absurd (cc h)
lowest_below f a (suc n) k h = found_below f a n k (f a) refl (lowest_below f (a + 1) n k) h

low_rows : (c : Config) (s : Cores) (i : ℕ) (w : Bool) → Low c s
    → Rows c.threshold s i w (λ d. Low c d.after)
low_rows c s i w a = record {
  gone = λ m. a;
  waits = λ m h. a;
  commits = λ m h notes. a;
  fails = λ m notes why n. a;
  scrub_lost = λ m notes k. a;
  retries = λ m lt notes. a;
  retry_lost = λ m lt notes k. a;
  none_left = λ m le none. a;
  transfers =
      λ m le k is notes j lt.
      at_by (λ x. x < 16) s.core i k j (λ e. let l = lowest_below s.spare 0 16 k is in
      omega (arith, l)) (λ ne. a j lt);
  transfer_lost = λ m le k is notes u. a;
}

returned_low : (c : Config) (s : Cores) (k : ℕ) (b : Bool) → Low c s
    → Low c (return_by s k b).after
returned_low c s k true a = a
returned_low c s k false a = a

make_low : (c : Config) (s : Cores) (k : RunKind) (x : Met) → Low c s → Low c (make c s k x).after
make_low c s (kind.Turns i) x a =
    does_by c.threshold s i.0 x (λ d. Low c d.after) (low_rows c s i.0 x.waits a)
make_low c s (kind.Key i) x a = a
make_low c s (kind.Return k) x a = returned_low c s k.0 (is_fenced c s k.0) a

-- ---- attempts begun

abbrev pub NoneAbove : Bits → Type 0
NoneAbove b = (k : ℕ) → 16 ≤ k → b.begun k ≡ 0

strikes : (ls : List Strike) (k n : ℕ) (b : Bits) → k < 16 → NoneAbove b
    → NoneAbove (strike ls k n b)
strikes ls k n b low h c above =
    at_by (λ x. x ≡ 0) b.begun k (n + 1) c (λ is. absurd (omega (arith, is, low, above)))
    (λ ne. h c above)

writes : (g : Sight) (k : ℕ) (o : Option Cause) (b : Bits) → NoneAbove b
    → NoneAbove (written g k o b)
writes g k None b h = h
writes g k (Some why) b h = h

attempts : (ls : List Strike) (g : Sight) (k n : ℕ) (b : Bits) → k < 16 → NoneAbove b
    → NoneAbove (attempted ls g k n b)
attempts ls g k n b low h = writes g k (cause ls k n) (strike ls k n b) (strikes ls k n b low h)

scrubs : (ls : List Strike) (g : Sight) (s : Fate) (k : ℕ) (o : Option ℕ) → k < 16
    → NoneAbove (bits s) → NoneAbove (scrub_bits ls g s k o)
scrubs ls g s k None low h = attempts ls g k (s.begun k) (mend s k None) low h
scrubs ls g s k (Some w) low h = h

runs_by : (ls : List Strike) (g : Sight) (s : Fate) (k : ℕ) (a b : Bool) → k < 16
    → NoneAbove (bits s)
    → NoneAbove
    (if a then bits s
    else (if b then scrub_bits ls g s k (read s k).lost
    else attempted ls g k (s.begun k) (bits s)))
runs_by ls g s k true b low h = h
runs_by ls g s k false true low h = scrubs ls g s k (read s k).lost low h
runs_by ls g s k false false low h = attempts ls g k (s.begun k) (bits s) low h

hands : (s : Fate) (k : ℕ) (o : Option ℕ) → NoneAbove (bits s) → NoneAbove (spare_bits s k o)
hands s k None h = h
hands s k (Some w) h = h

transfers : (s : Fate) (c : ℕ) (o : Option ℕ) → NoneAbove (bits s)
    → NoneAbove (transfer_bits s c o)
transfers s c None h = h
transfers s c (Some k) h = hands s k (read s c).lost h

recovers_by : (s : Fate) (c : ℕ) (b : Bool) → NoneAbove (bits s)
    → NoneAbove
    (if b then mend s c (read s c).lost else transfer_bits s c (lowest s.cores.spare 0 16))
recovers_by s c true h = h
recovers_by s c false h = transfers s c (lowest s.cores.spare 0 16) h

modes : (ls : List Strike) (t : ℕ) (g : Sight) (s : Fate) (i : ℕ) (mode : Mode)
    → s.cores.core i < 16 → NoneAbove (bits s) → NoneAbove (bits_by ls t g s i mode)
modes ls t g s i Lost low h = h
modes ls t g s i Recovering low h =
    recovers_by s (s.cores.core i) (nat_lt (s.cores.retries i) t) h
modes ls t g s i Running low h =
    runs_by ls g s (s.cores.core i) g.waits (s.begun (s.cores.core i) % 16 == 0) low h

turn_above : (ls : List Strike) (c : Config) (g : ℕ → Sight) (s : Fate) (k : RunKind)
    → ValidKind c k → Low c s.cores → NoneAbove (bits s)
    → NoneAbove (bits_of ls c.threshold g s k)
turn_above ls c g s (kind.Turns i) valid low h =
    modes ls c.threshold (g i.0) s i.0 (s.cores.mode i.0) (low i.0 valid) h
turn_above ls c g s (kind.Key i) valid low h = h
turn_above ls c g s (kind.Return k) valid low h = h

-- ---- whole runs

run_above : (ls : List Strike) (c : Config) (x : Model) (ks : List RunKind) → ValidKinds c ks
    → Low c x.fate.cores → NoneAbove (bits x.fate) → NoneAbove (bits (run_after ls c x ks).fate)
unfolding turned
run_above ls c x [] valid low h = h
run_above ls c x (k ∷ ks) valid low h =
    run_above ls c (turned ls c x k) ks valid.1
    (make_low c x.fate.cores k (met_by ls (sight x.machine) x.fate k) low)
    (turn_above ls c (sight x.machine) x.fate k valid.0 low h)

sound_by : (ls : List Strike) (c n m : ℕ) (b : Bool) → nat_lt c 16 ≡ b → Within ls
    → (16 ≤ c → m ≡ 0) → n < m → WithinAt ls c n
sound_by ls c n m true e within none lt = within_at ls within c n (ltb-true c 16 e)
sound_by ls c n m false e within none lt = let z = none (ltb-false c 16 e) in
    absurd (omega (arith, z, lt))

pub within_sound : (ls : List Strike) (c : Config) (m : Machine) (ks : List RunKind) → Within ls
    → c.cpus ≤ 8 → ValidKinds c ks → Sound ls (fate_of_run ls c m ks)
within_sound ls c m ks within few valid k n lt =
    sound_by ls k n ((fate_of_run ls c m ks).begun k) (nat_lt k 16) refl within
    (run_above ls c (first_model c m) ks valid (λ i l. omega (arith, l, few)) (λ k a. refl) k)
    lt
