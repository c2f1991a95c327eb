-- A turn keeps the bound on wrong positions of each CPU that is not lost.
use Rattle.std.proofs.Common.{◌≡◌, ℕ, ◌<◌, Bool, true, false, List, [], Option, Some, None, refl, sym, ap, ◌∙◌, subst, if◌then◌else◌, inl, inr}
use Rattle.std.specs.Prelude.{◌==◌, ◌%◌, nat_lt}
use Rattle.std.proofs.lemmas.Bool.{cases_eq, true≢false}
use Rattle.esa_model.specs.Machine.{at}
use Rattle.run_model.specs.declared.faults.Cause.{Cause}
use Rattle.run_model.specs.declared.faults.Mode.{Mode}
use Rattle.run_model.specs.declared.faults.Mode.TheVariants.{Running, Recovering, Lost}
use Rattle.run_model.specs.declared.faults.Strike.{Strike}
use Rattle.run_model.specs.declared.logs.Config.{Config}
use Rattle.run_model.specs.declared.logs.What.{What}
use Rattle.run_model.specs.declared.schedules.RunKind.{RunKind}
use Rattle.run_model.specs.declared.schedules.RunKind.TheVariants.{Turns, Key, Return}
use Rattle.run_model.specs.Cores.{Cores, Met, is_lost, lowest, idles, attempt_by, scrub_by, recover_by, spare_by, transfer_by, does, by_mode, return_by, is_fenced}
use Rattle.run_model.specs.Fate.{Fate, Sight, Bits, bits, fate, first_fate, met, met_on, read, mend, spare_bits, transfer_bits, bits_by}
use Rattle.run_model.specs.Reading.{Reading, BoundAt}
use Rattle.run_laws.specs.Bounds.{BoundedCpus, Others}
use Rattle.run_laws.specs.Runs.{ValidKind}
use Rattle.run_laws.proofs.At.{at_same}
use Rattle.run_laws.proofs.Bounded.{BoundedOn, bounded_modes, all_written}
use Rattle.run_laws.proofs.Others.{others_stay}

-- ---- the core of a CPU after its turn

attempted_core : (s : Cores) (i : ℕ) (whats : List What) (n : ℕ) (why : Option Cause)
    → (attempt_by s i whats n why).after.core ≡ s.core
attempted_core s i whats n None = refl
attempted_core s i whats n (Some why) = refl

scrubbed_core : (s : Cores) (i : ℕ) (t : Met) (o : Option ℕ)
    → (scrub_by s i t o).after.core ≡ s.core
scrubbed_core s i t None = attempted_core s i _ t.attempt t.cause
scrubbed_core s i t (Some w) = refl

running_core : (s : Cores) (i : ℕ) (t : Met) (a b : Bool)
    → (if a then idles s i
    else (if b then scrub_by s i t t.reading.lost
    else attempt_by s i [] t.attempt t.cause)).after.core ≡ s.core
running_core s i t true b = refl
running_core s i t false true = scrubbed_core s i t t.reading.lost
running_core s i t false false = attempted_core s i [] t.attempt t.cause

recovered_core : (s : Cores) (i : ℕ) (r : Reading) (o : Option ℕ)
    → (recover_by s i r o).after.core ≡ s.core
recovered_core s i r None = refl
recovered_core s i r (Some w) = refl

-- ---- the bound of the CPU's own core, unless the turn loses it

abbrev Own : List Strike → ℕ → Cores → Bits → Type 0
Own ls i s b =
    is_lost (s.mode i) ≡ false → BoundAt ls (s.core i) (b.begun (s.core i)) (b.wrong (s.core i))

-- the CPU is lost
lost_mode : (f : ℕ → Mode) (i : ℕ) → is_lost (at f i Lost i) ≡ true
lost_mode f i = ap is_lost (at_same f i Lost)

own_lost : (ls : List Strike) (s : Cores) (i : ℕ) (b : Bits)
    → Own ls i (record s { mode = at s.mode i Lost }) b
own_lost ls s i b live = absurd (true≢false (sym (lost_mode s.mode i) ∙ live))

-- it keeps its core, which is within the bound
own_kept : (ls : List Strike) (s after : Cores) (i : ℕ) (b : Bits) → after.core ≡ s.core
    → BoundAt ls (s.core i) (b.begun (s.core i)) (b.wrong (s.core i)) → Own ls i after b
own_kept ls s after i b same h live =
    subst (λ (f : ℕ → ℕ). BoundAt ls (f i) (b.begun (f i)) (b.wrong (f i))) (sym same) h

-- it goes on on a spare, all of whose words were written
own_spare : (ls : List Strike) (s : Fate) (i k : ℕ) (r : Reading) (o : Option ℕ)
    → Own ls i (spare_by s.cores i k r o).after (spare_bits s k o)
own_spare ls s i k r None live =
    subst (λ c. BoundAt ls c (s.begun c) (at s.wrong k (λ w. 0) c))
    (sym (at_same s.cores.core i k))
    (subst (λ e. BoundAt ls k (s.begun k) e) (sym (at_same s.wrong k (λ w. 0)))
    (all_written ls k (s.begun k)))
own_spare ls s i k r (Some w) live = own_lost ls s.cores i (spare_bits s k (Some w)) live

own_transfer : (ls : List Strike) (s : Fate) (i c : ℕ) (o : Option ℕ)
    → Own ls i (transfer_by s.cores i (read s c) o).after (transfer_bits s c o)
own_transfer ls s i c None = own_lost ls s.cores i (bits s)
own_transfer ls s i c (Some k) = own_spare ls s i k (read s c) (read s c).lost

own_recovering : (ls : List Strike) (s : Fate) (i : ℕ) (b : Bool)
    → BoundAt ls (s.cores.core i)
    ((if b then mend s (s.cores.core i) (read s (s.cores.core i)).lost
    else transfer_bits s (s.cores.core i) (lowest s.cores.spare 0 16)).begun (s.cores.core i))
    ((if b then mend s (s.cores.core i) (read s (s.cores.core i)).lost
    else transfer_bits s (s.cores.core i) (lowest s.cores.spare 0 16)).wrong (s.cores.core i))
    → Own ls i
    (if b then recover_by s.cores i (read s (s.cores.core i)) (read s (s.cores.core i)).lost
    else transfer_by s.cores i (read s (s.cores.core i)) (lowest s.cores.spare 0 16)).after
    (if b then mend s (s.cores.core i) (read s (s.cores.core i)).lost
    else transfer_bits s (s.cores.core i) (lowest s.cores.spare 0 16))
own_recovering ls s i true h =
    own_kept ls s.cores
    (recover_by s.cores i (read s (s.cores.core i)) (read s (s.cores.core i)).lost).after i
    (mend s (s.cores.core i) (read s (s.cores.core i)).lost)
    (recovered_core s.cores i (read s (s.cores.core i)) (read s (s.cores.core i)).lost) h
own_recovering ls s i false h =
    own_transfer ls s i (s.cores.core i) (lowest s.cores.spare 0 16)

own_by : (ls : List Strike) (t : ℕ) (g : Sight) (s : Fate) (i : ℕ) (mode : Mode)
    → s.cores.mode i ≡ mode
    → (is_lost mode ≡ false → BoundAt ls (s.cores.core i)
    ((bits_by ls t g s i mode).begun (s.cores.core i))
    ((bits_by ls t g s i mode).wrong (s.cores.core i)))
    → Own ls i (by_mode t s.cores i (met_on ls g.waits s (s.cores.core i)) mode).after
    (bits_by ls t g s i mode)
own_by ls t g s i Lost is h live = absurd (true≢false (sym (ap is_lost is) ∙ live))
own_by ls t g s i Recovering is h live =
    own_recovering ls s i (nat_lt (s.cores.retries i) t) (h refl) live
own_by ls t g s i Running is h live =
    own_kept ls s.cores
    (by_mode t s.cores i (met_on ls g.waits s (s.cores.core i)) Running).after i
    (bits_by ls t g s i Running)
    (running_core s.cores i (met_on ls g.waits s (s.cores.core i)) g.waits
    (s.begun (s.cores.core i) % 16 == 0)) (h refl) live

-- ---- all CPUs

-- a core that a CPU has which is not lost
record Served (c : Config) (s : Fate) (k : ℕ) : Type 0 where
  cpu : ℕ
  known : cpu < c.cpus
  live : is_lost (s.cores.mode cpu) ≡ false
  core : s.cores.core cpu ≡ k

served_bounded : (ls : List Strike) (c : Config) (s : Fate) → BoundedCpus ls c s
    → BoundedOn (Served c s) ls (bits s)
served_bounded ls c s h k v =
    subst (λ n. BoundAt ls n (s.begun n) (s.wrong n)) v.core (h v.cpu v.known v.live)

turn_bounded : (ls : List Strike) (c : Config) (g : Sight) (s : Fate) (i : ℕ) → i < c.cpus
    → BoundedCpus ls c s → (j : ℕ) → j < c.cpus
    → is_lost ((does c.threshold s.cores i (met ls g s i)).after.mode j) ≡ false
    → BoundAt ls ((does c.threshold s.cores i (met ls g s i)).after.core j)
    ((bits_by ls c.threshold g s i (s.cores.mode i)).begun
    ((does c.threshold s.cores i (met ls g s i)).after.core j))
    ((bits_by ls c.threshold g s i (s.cores.mode i)).wrong
    ((does c.threshold s.cores i (met ls g s i)).after.core j))
unfolding does met
turn_bounded ls c g s i known h j inside live =
    let d = by_mode c.threshold s.cores i (met_on ls g.waits s (s.cores.core i)) (s.cores.mode i) in
    let b = bits_by ls c.threshold g s i (s.cores.mode i) in
    let all : BoundedOn (Served c s) ls b =
    bounded_modes (Served c s) ls c.threshold g s i (s.cores.mode i)
    (λ l. record { cpu = i; known = known; live = l; core = refl }) (served_bounded ls c s h) in
    let own : (n : ℕ) → n ≡ i → is_lost (d.after.mode n) ≡ false
    → BoundAt ls (d.after.core n) (b.begun (d.after.core n)) (b.wrong (d.after.core n)) =
    λ n e. subst (λ m. is_lost (d.after.mode m) ≡ false
    → BoundAt ls (d.after.core m) (b.begun (d.after.core m)) (b.wrong (d.after.core m))) (sym e)
    (own_by ls c.threshold g s i (s.cores.mode i) refl
    (λ l. all (s.cores.core i) (record { cpu = i; known = known; live = l; core = refl }))) in
    let o : Others s.cores i d =
    others_stay c.threshold s.cores i (met_on ls g.waits s (s.cores.core i)) in
    elim (cases_eq j i) [
      | inl is ↦ own j is live
      | inr ne ↦
          subst (λ k. BoundAt ls k (b.begun k) (b.wrong k)) (sym (o.core j ne))
          (all (s.cores.core j) (record {
            cpu = j;
            known = inside;
            live = ap is_lost (sym (o.mode j ne)) ∙ live;
            core = refl;
          }))
    ]

return_bounded : (ls : List Strike) (c : Config) (s : Fate) (k : ℕ) (b : Bool)
    → BoundedCpus ls c s → (j : ℕ) → j < c.cpus
    → is_lost ((return_by s.cores k b).after.mode j) ≡ false
    → BoundAt ls ((return_by s.cores k b).after.core j)
    (s.begun ((return_by s.cores k b).after.core j))
    (s.wrong ((return_by s.cores k b).after.core j))
return_bounded ls c s k true h j = h j
return_bounded ls c s k false h j = h j

pub bounded_kept : (ls : List Strike) (c : Config) (g : ℕ → Sight) (s : Fate) (k : RunKind)
    → ValidKind c k → BoundedCpus ls c s → BoundedCpus ls c (fate ls c g s k).after
bounded_kept ls c g s (Turns i) known h j = turn_bounded ls c (g i.0) s i.0 known h j
bounded_kept ls c g s (Key i) known h j = h j
bounded_kept ls c g s (Return k) known h j =
    return_bounded ls c s k.0 (is_fenced c s.cores k.0) h j

-- at the start nothing is wrong
pub bounded_first : (ls : List Strike) (c : Config) → BoundedCpus ls c (first_fate c)
bounded_first ls c i known live = all_written ls i 0
