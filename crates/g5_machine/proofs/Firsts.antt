-- A machine whose cores were woken stands for the start.
use Rattle.std.specs.Prelude.{◌&&◌, ◌||◌, nat_le, nat_lt, slice_get}
use Rattle.std.proofs.Common.{◌≡◌, ℕ, suc, ◌+◌, ◌-◌, ◌/◌, ◌<◌, ◌≤◌, Bool, true, false, List, [], ◌∷◌, Some, length, replicate, refl, sym, ap, ◌∙◌, subst, arith, if◌then◌else◌}
use Rattle.std.proofs.lemmas.Bool.Decides.{nat_tests}
use Rattle.std.proofs.lemmas.List.{length-replicate}
use Rattle.esa_model.specs.Bus.{quiet}
use Rattle.esa_model.specs.Event.{signals_at_start}
use Rattle.esa_model.specs.Line.{Side}
use Rattle.esa_model.specs.Machine.{start}
use Rattle.esa_model.specs.declared.machine.CpuState.TheVariants.{Stopped}
use Rattle.run_model.specs.declared.logs.Config.{Config}
use Rattle.run_model.specs.Cores.{first_cores, is_spare_number}
use Rattle.run_model.specs.Runs.{first_model}
use Rattle.silicon.specs.Chip.{Chip}
use Rattle.sparing.specs.Pools.{holds}
use Rattle.core_turns.specs.Held.{CorePool, HeldBy, SparesAre, fenced_number}
use Rattle.core_turns.specs.Places.{EachInOnePlace}
use Rattle.core_turns.specs.Giving.{HasRegisters}
use Rattle.core_turns.specs.Standing.{StoresCpu}
use Rattle.core_turns.specs.declared.held.Held.{Held}
use Rattle.core_turns.specs.declared.held.Held.TheVariants.{Running, Recovering, Lost, Taken}
use Rattle.g5_machine.specs.Counts.{Counted}
use Rattle.g5_machine.specs.Fits.{IsFitting, all_there, is_there}
use Rattle.g5_machine.specs.Standing.{StandsByMode, StandsFor}
use Rattle.g5_machine.specs.Starting.{RunsFirst, SparesTo, StartsAt, WokenTo}
use Rattle.g5_machine.specs.declared.machine.Machine.{Machine}

-- ---- what holds of every machine

pub fits_first : (c : Config) (hs : List Held) (entry : ℕ) (old new : Chip)
    → IsFitting c c.cpus → WokenTo entry c.cpus old new hs → IsFitting c (length hs)
fits_first c hs entry old new f w = subst (λ (n : ℕ). IsFitting c n) (sym w.all) f

joined : (n s k : ℕ) → n ≤ 8
    → (if nat_lt k n then 1 else 0) + ((if nat_le 8 k && nat_lt k (8 + s) then 1 else 0) + 0)
    ≡ (if nat_lt k n || (nat_le 8 k && nat_lt k (8 + s)) then 1 else 0)
joined n s k h = grind (arith, nat_tests)

pub placed_first : (c : Config) (hs : List Held) (p : CorePool) (entry : ℕ) (old new : Chip)
    → IsFitting c c.cpus → WokenTo entry c.cpus old new hs → SparesTo c.spares p
    → EachInOnePlace c hs p
placed_first c hs p entry old new f w s k =
    let a = w.places k in
    let b = s.spares k in
    let d : holds fenced_number k p.fenced ≡ 0 = ap (holds fenced_number k) s.fenced in
    let j = joined c.cpus c.spares k f.most in
    omega (arith, a, b, d, j)

is_first_there : (entry i : ℕ) (h : Held) → RunsFirst entry i h → is_there h ≡ true
is_first_there entry i (Running k) e = refl
is_first_there entry i (Recovering k) e = absurd e
is_first_there entry i (Lost c retries) e = absurd e
is_first_there entry i Taken e = absurd e

there_by : (hs : List Held) (entry n : ℕ)
    → ((i : ℕ) (h : Held) → slice_get hs i ≡ Some h → RunsFirst entry (n + i) h)
    → all_there hs ≡ true
there_by [] entry n each = refl
there_by (h ∷ hs) entry n each =
    rw (is_first_there entry (n + 0) h (each 0 h refl))
    (there_by hs entry (n + 1) (λ i g got.
    subst (λ (q : ℕ). RunsFirst entry q g) (omega arith) (each (suc i) g got)))

pub there_first : (hs : List Held) (entry n : ℕ) (old new : Chip) → WokenTo entry n old new hs
    → all_there hs ≡ true
there_first hs entry n old new w =
    there_by hs entry 0 (λ i h got.
    subst (λ (q : ℕ). RunsFirst entry q h) (omega arith) (w.each i h got).held)

-- ---- the start

start_len : (cpus : ℕ) → 1 ≤ cpus → length (signals_at_start cpus) ≡ cpus
unfolding signals_at_start
start_len cpus h =
    let rest : length (replicate (cpus - 1) (quiet Stopped)) ≡ cpus - 1 =
    length-replicate (cpus - 1) _ in
    omega (arith, rest, h)

held_first : (c : Config) (entry i : ℕ) (h : Held) → RunsFirst entry i h
    → HeldBy h (first_cores c) i
held_first c entry i (Running k) e = (refl, sym e.0, sym e.2)
held_first c entry i (Recovering k) e = absurd e
held_first c entry i (Lost d retries) e = absurd e
held_first c entry i Taken e = absurd e

stands_by : (b : Bool) → b ≡ nat_lt 0 (if b then 1 else 0)
stands_by true = refl
stands_by false = refl

pub spares_first : (c : Config) (p : CorePool) → SparesTo c.spares p
    → SparesAre p (is_spare_number c)
spares_first c p s k =
    stands_by (nat_le 8 k && nat_lt k (8 + c.spares)) ∙ ap (λ n. nat_lt 0 n) (sym (s.spares k))

registers_first : (entry i : ℕ) (h : Held) (cpus : ℕ) (image console : List ℕ)
    → RunsFirst entry i h → HasRegisters h (start cpus image entry console) i
unfolding start
registers_first entry i (Running k) cpus image console e = sym e.1
registers_first entry i (Recovering k) cpus image console e = tt
registers_first entry i (Lost c retries) cpus image console e = tt
registers_first entry i Taken cpus image console e = tt

stores_first : (c : Config) (entry i : ℕ) (z : Chip) (h : Held) (image console : List ℕ)
    → StartsAt entry i z h
    → StoresCpu z (first_model c (start c.cpus image entry console)) i
unfolding start
stores_first c entry i z h image console s = record {
  registers = s.fits.registers;
  clocks = s.fits.clocks;
  words = s.words;
}

abbrev pub side_first : ℕ → List ℕ → List ℕ → Side
side_first cpus image console = record {
  keys = replicate (length image / 4096) 0;
  bus = signals_at_start cpus;
  console = console;
  clock = 0;
}

abbrev pub none_counted : Counted
none_counted = record { turns = 0; commits = 0; read = 0; written = 0 }

pub stands_first : (m : Machine) (c : Config) (z0 z : Chip) (entry : ℕ) (image console : List ℕ)
    → IsFitting c c.cpus → WokenTo entry c.cpus z0 z m.cpus.items → SparesTo c.spares m.pool
    → m.memory.bytes ≡ image → m.side ≡ side_first c.cpus image console → m.counts ≡ none_counted
    → ((k : ℕ) → k < 16 → z0.begun k ≡ 0)
    → StandsFor m z (first_model c (start c.cpus image entry console))
unfolding start
stands_first m c z0 z entry image console f w s bytes side counts begun = record {
  cpus = w.all ∙ sym (start_len c.cpus f.some);
  each = λ i h got.
      let at = w.each i h got in
      record {
        held = held_first c entry i h at.held;
        registers = registers_first entry i h c.cpus image console at.held;
        stores = λ live. stores_first c entry i z h image console at;
      };
  storage = sym bytes;
  side = sym side;
  begun = λ k lt. w.begun k ∙ begun k lt;
  spares = spares_first c m.pool s;
  counts = record {
    turns = sym (ap (λ (n : Counted). n.turns) counts);
    commits = sym (ap (λ (n : Counted). n.commits) counts);
    read = sym (ap (λ (n : Counted). n.read) counts);
    written = sym (ap (λ (n : Counted). n.written) counts);
  };
}

pub by_mode_first : (m : Machine) (c : Config) (z0 z : Chip) (entry : ℕ)
    → WokenTo entry c.cpus z0 z m.cpus.items → SparesTo c.spares m.pool → m.counts ≡ none_counted
    → StandsByMode m (first_cores c)
by_mode_first m c z0 z entry w s counts = record {
  each = λ i h got. held_first c entry i h (w.each i h got).held;
  spares = spares_first c m.pool s;
  turns = sym (ap (λ (n : Counted). n.turns) counts);
  commits = sym (ap (λ (n : Counted). n.commits) counts);
}
