-- Machines of one save stand for the same.
use Rattle.std.specs.Prelude.{Some, slice_get}
use Rattle.std.specs.Option.{unwrap_or}
use Rattle.std.proofs.Common.{◌≡◌, ℕ, ◌*◌, ◌<◌, List, length, map, get_or, sym, ap, ◌∙◌, subst, arith}
use Rattle.std.specs.List.{range_with_len}
use Rattle.std.proofs.lemmas.List.{ext_get_or}
use Rattle.std.proofs.lemmas.List.FromFn.{length-map-range_with_len, get_or-map-range_with_len}
use Rattle.std.proofs.lemmas.Option.{slice_get-get_or, slice_get_within, unwrap_or-slice_get}
use Rattle.esa_model.specs.Bus.{quiet, signals_of}
use Rattle.esa_model.specs.Line.{Side}
use Rattle.esa_model.specs.declared.machine.CpuState.TheVariants.{CheckStop}
use Rattle.esa_model.specs.declared.machine.Signals.{Signals}
use Rattle.run_model.specs.Runs.{Model}
use Rattle.run_model.specs.declared.logs.Config.{Config}
use Rattle.save_model.specs.Parts.{config_of}
use Rattle.save_model.specs.Save.{Save}
use Rattle.save_model.specs.declared.parts.SavedCore.{SavedCore}
use Rattle.save_model.specs.declared.parts.SavedCpu.{SavedCpu}
use Rattle.save_model.specs.declared.parts.SavedNumbers.{SavedNumbers}
use Rattle.silicon.specs.Chip.{Chip}
use Rattle.sparing.specs.Pools.{stands}
use Rattle.core_turns.specs.Held.{CorePool, spare_number}
use Rattle.core_turns.specs.Places.{EachInOnePlace}
use Rattle.core_turns.specs.Standing.{StandsAt}
use Rattle.core_turns.specs.declared.held.Held.{Held}
use Rattle.core_turns.specs.declared.held.Held.TheVariants.{Taken}
use Rattle.g5_machine.specs.Standing.{StandsFor}
use Rattle.g5_machine.specs.declared.machine.Machine.{Machine}
use Rattle.saved_machine.specs.Again.{HasCallers, IsSized, IsTyped}
use Rattle.saved_machine.specs.Numbers.{saved_cpu}
use Rattle.saved_machine.specs.Saved.{byte_at, core_at, cores_of, cpu_at, cpus_of, first_bytes, held_at, numbers_of, place_of, saved}
use Rattle.saved_machine.specs.declared.counts.Counts.{Counts}
use Rattle.saved_machine.proofs.SameHeld.{SameHeld, SameWords, stands_same}
use Rattle.saved_machine.proofs.SamePlaces.{spares_same}
use Rattle.saved_machine.proofs.Signalled.{signals_same}

-- ---- lists by a number

same_at : {A : Type 0} (f g : ℕ → A) (n i : ℕ) → i < n
    → map f (range_with_len 0 n) ≡ map g (range_with_len 0 n) → f i ≡ g i
same_at f g n i lt e =
    sym (get_or-map-range_with_len f 0 n i i (f i) lt (omega arith))
    ∙ ap (λ xs. get_or xs i (f i)) e
    ∙ get_or-map-range_with_len g 0 n i i (f i) lt (omega arith)

pub whole : (bytes : List ℕ) (n : ℕ) → length bytes ≡ n → first_bytes bytes n ≡ bytes
unfolding first_bytes
whole bytes n long =
    let l = length-map-range_with_len (byte_at bytes) 0 n in
    ext_get_or 0 (map (byte_at bytes) (range_with_len 0 n)) bytes (l ∙ sym long) (λ i h.
    get_or-map-range_with_len (byte_at bytes) 0 n i i 0 (omega (arith, l, h)) (omega arith)
    ∙ unwrap_or-slice_get bytes i 0)

bytes_same : (a b : List ℕ) (n : ℕ) → length a ≡ n → length b ≡ n → first_bytes a n ≡ first_bytes b n
    → a ≡ b
bytes_same a b n p q e = sym (whole a n p) ∙ e ∙ whole b n q

-- ---- what two machines of one save have in common

record Alike (m m2 : Machine) (n n2 : Counts) (z z2 : Chip) : Type 0 where
  config : m.config ≡ m2.config
  numbers : numbers_of m n ≡ numbers_of m2 n2
  cpu : (i : ℕ) → i < m.config.cpus
      → cpu_at m.cpus.items m.side.bus i ≡ cpu_at m2.cpus.items m2.side.bus i
  core : (k : ℕ) → k < 16 → core_at m.config m.cpus.items m.pool z k
      ≡ core_at m2.config m2.cpus.items m2.pool z2 k
  keys : first_bytes m.side.keys m.config.pages ≡ first_bytes m2.side.keys m.config.pages
  storage : first_bytes m.memory.bytes (4096 * m.config.pages)
      ≡ first_bytes m2.memory.bytes (4096 * m.config.pages)

cpus_alike : (hs hs2 : List Held) (bus bus2 : List Signals) (n i : ℕ) → i < n
    → cpus_of hs bus n ≡ cpus_of hs2 bus2 n → cpu_at hs bus i ≡ cpu_at hs2 bus2 i
unfolding cpus_of
cpus_alike hs hs2 bus bus2 n i lt e = same_at (cpu_at hs bus) (cpu_at hs2 bus2) n i lt e

cores_alike : (c c2 : Config) (hs hs2 : List Held) (p p2 : CorePool) (z z2 : Chip) (k : ℕ) → k < 16
    → cores_of c hs p z ≡ cores_of c2 hs2 p2 z2 → core_at c hs p z k ≡ core_at c2 hs2 p2 z2 k
unfolding cores_of
cores_alike c c2 hs hs2 p p2 z z2 k lt e = same_at (core_at c hs p z) (core_at c2 hs2 p2 z2) 16 k lt e

alike : (m m2 : Machine) (n n2 : Counts) (z z2 : Chip) → saved m n z ≡ saved m2 n2 z2
    → Alike m m2 n n2 z z2
unfolding saved
alike m m2 n n2 z z2 e =
    let config : m.config ≡ m2.config = ap (λ (s : Save). config_of s.head) e in
    record {
      config = config;
      numbers = ap (λ (s : Save). s.numbers) e;
      cpu = λ i lt. cpus_alike m.cpus.items m2.cpus.items m.side.bus m2.side.bus m.config.cpus i lt
          (ap (λ (s : Save). s.cpus) e
          ∙ ap (λ (c : Config). cpus_of m2.cpus.items m2.side.bus c.cpus) (sym config));
      core = λ k lt. cores_alike m.config m2.config m.cpus.items m2.cpus.items m.pool m2.pool z z2 k lt
          (ap (λ (s : Save). s.cores) e);
      keys = ap (λ (s : Save). s.keys) e
          ∙ ap (λ (c : Config). first_bytes m2.side.keys c.pages) (sym config);
      storage = ap (λ (s : Save). s.storage) e
          ∙ ap (λ (c : Config). first_bytes m2.memory.bytes (4096 * c.pages)) (sym config);
    }

-- ---- the parts

words_alike : (m m2 : Machine) (n n2 : Counts) (z z2 : Chip) → Alike m m2 n n2 z z2 → SameWords z z2
words_alike m m2 n n2 z z2 a c w h l =
    same_at (z.word c) (z2.word c) 40 w l (ap (λ (k : SavedCore). k.stored) (a.core c h))

held_alike : (h k : Held) (s t : Signals) → saved_cpu h s ≡ saved_cpu k t → SameHeld h k
unfolding saved_cpu
held_alike h k s t e = record {
  mode = ap (λ (c : SavedCpu). c.mode) e;
  core = ap (λ (c : SavedCpu). c.core) e;
  retries = ap (λ (c : SavedCpu). c.retries) e;
  words = ap (λ (c : SavedCpu). c.words) e;
}

held_is : (hs : List Held) (i : ℕ) (h : Held) → slice_get hs i ≡ Some h → held_at hs i ≡ h
held_is hs i h e = ap (λ o. unwrap_or o Taken) e

each_alike : (m m2 : Machine) (n n2 : Counts) (z z2 : Chip) (x : Model) → Alike m m2 n n2 z z2
    → StandsFor m z x → IsTyped m2 → (i : ℕ) (k : Held) → slice_get m2.cpus.items i ≡ Some k
    → StandsAt k z2 x i
each_alike m m2 n n2 z z2 x a s typed i k got =
    let inside = slice_get_within m2.cpus.items i k got in
    let long = m.fits.cpus in
    let long2 = m2.fits.cpus in
    let same = ap (λ (c : Config). c.cpus) a.config in
    let lt : i < length m.cpus.items = omega (arith, inside, long, long2, same) in
    let h : Held = get_or m.cpus.items i Taken in
    let there : slice_get m.cpus.items i ≡ Some h = slice_get-get_or m.cpus.items i Taken lt in
    let cpu = a.cpu i (omega (arith, lt, long)) in
    let e : saved_cpu h (signals_of m.side.bus i) ≡ saved_cpu k (signals_of m2.side.bus i) =
    sym (ap (λ q. saved_cpu q (signals_of m.side.bus i)) (held_is m.cpus.items i h there))
    ∙ cpu
    ∙ ap (λ q. saved_cpu q (signals_of m2.side.bus i)) (held_is m2.cpus.items i k got) in
    stands_same h k z z2 x i (held_alike h k (signals_of m.side.bus i) (signals_of m2.side.bus i) e)
    (typed.registers i k got) (words_alike m m2 n n2 z z2 a) (s.each i h there)

pub signals_at : (bus : List Signals) (i : ℕ) → get_or bus i (quiet CheckStop) ≡ signals_of bus i
unfolding signals_of
signals_at bus i = sym (unwrap_or-slice_get bus i (quiet CheckStop))

bus_alike : (m m2 : Machine) (n n2 : Counts) (z z2 : Chip) → Alike m m2 n n2 z z2 → IsTyped m
    → IsTyped m2 → HasCallers m → HasCallers m2 → IsSized m → IsSized m2 → m.side.bus ≡ m2.side.bus
bus_alike m m2 n n2 z z2 a t t2 c c2 d d2 =
    let same = ap (λ (q : Config). q.cpus) a.config in
    let long = d.bus in
    let long2 = d2.bus in
    ext_get_or (quiet CheckStop) m.side.bus m2.side.bus (omega (arith, same, long, long2)) (λ i h.
    let h2 : i < length m2.side.bus = omega (arith, h, same, long, long2) in
    signals_at m.side.bus i
    ∙ signals_same (signals_of m.side.bus i) (signals_of m2.side.bus i) (held_at m.cpus.items i)
    (held_at m2.cpus.items i) (t.flags i h) (t2.flags i h2) (c.calls i h) (c2.calls i h2)
    (a.cpu i (omega (arith, h, long)))
    ∙ sym (signals_at m2.side.bus i))

abbrev made : List ℕ → List Signals → List ℕ → ℕ → Side
made keys bus console clock = record { keys = keys; bus = bus; console = console; clock = clock }

side_alike : (s t : Side) → s.keys ≡ t.keys → s.bus ≡ t.bus → s.console ≡ t.console
    → s.clock ≡ t.clock → s ≡ t
side_alike s t k b c l =
    ap (λ x. made x s.bus s.console s.clock) k
    ∙ ap (λ x. made t.keys x s.console s.clock) b
    ∙ ap (λ x. made t.keys t.bus x s.clock) c
    ∙ ap (λ x. made t.keys t.bus t.console x) l

sides_alike : (m m2 : Machine) (n n2 : Counts) (z z2 : Chip) → Alike m m2 n n2 z z2
    → m2.side.console ≡ m.side.console → IsTyped m → IsTyped m2 → HasCallers m → HasCallers m2
    → IsSized m → IsSized m2 → m.side ≡ m2.side
sides_alike m m2 n n2 z z2 a console t t2 c c2 d d2 =
    let pages = ap (λ (q : Config). q.pages) a.config in
    side_alike m.side m2.side
    (bytes_same m.side.keys m2.side.keys m.config.pages d.keys (d2.keys ∙ sym pages) a.keys)
    (bus_alike m m2 n n2 z z2 a t t2 c c2 d d2) (sym console)
    (ap (λ (q : SavedNumbers). q.clock) a.numbers)

spares_alike : (m m2 : Machine) (n n2 : Counts) (z z2 : Chip) → Alike m m2 n n2 z z2
    → (k : ℕ) → stands spare_number m.pool.spares k ≡ stands spare_number m2.pool.spares k
spares_alike m m2 n n2 z z2 a k =
    spares_same m.config (length m.cpus.items) m.cpus.items m2.cpus.items m.pool m2.pool m.fits m.placed
    (subst (λ (c : Config). EachInOnePlace c m2.cpus.items m2.pool) (sym a.config) m2.placed)
    (λ j h. ap (λ (q : SavedCore). q.place) (a.core j h)
    ∙ ap (λ (c : Config). place_of c m2.cpus.items m2.pool j) (sym a.config)) k

pub stands_again : (m m2 : Machine) (n n2 : Counts) (z z2 : Chip) (x : Model) → StandsFor m z x
    → saved m n z ≡ saved m2 n2 z2 → m2.side.console ≡ m.side.console → IsTyped m → IsTyped m2
    → HasCallers m → HasCallers m2 → IsSized m → IsSized m2 → StandsFor m2 z2 x
stands_again m m2 n n2 z z2 x s e console t t2 c c2 d d2 =
    let a = alike m m2 n n2 z z2 e in
    let same = ap (λ (q : Config). q.cpus) a.config in
    let pages = ap (λ (q : Config). 4096 * q.pages) a.config in
    let long = m.fits.cpus in
    let long2 = m2.fits.cpus in
    let cpus = s.cpus in
    record {
      cpus = omega (arith, same, long, long2, cpus);
      each = each_alike m m2 n n2 z z2 x a s t2;
      storage = s.storage ∙ bytes_same m.memory.bytes m2.memory.bytes (4096 * m.config.pages) d.storage
          (d2.storage ∙ sym pages) a.storage;
      side = s.side ∙ sides_alike m m2 n n2 z z2 a console t t2 c c2 d d2;
      begun = λ k h. sym (ap (λ (q : SavedCore). q.begun) (a.core k h)) ∙ s.begun k h;
      spares = λ k. s.spares k ∙ spares_alike m m2 n n2 z z2 a k;
      counts = record {
        turns = s.counts.turns ∙ ap (λ (q : SavedNumbers). q.turns) a.numbers;
        commits = s.counts.commits ∙ ap (λ (q : SavedNumbers). q.commits) a.numbers;
        read = s.counts.read ∙ ap (λ (q : SavedNumbers). q.console_read) a.numbers;
        written = s.counts.written ∙ ap (λ (q : SavedNumbers). q.console_written) a.numbers;
      };
    }
