-- A machine of the parts that were brought from a save.
use Rattle.std.specs.Prelude.{◌==◌, ◌&&◌, nat_le, not, if◌then◌else◌, slice_get, Some, None, Ok}
use Rattle.std.proofs.Common.{◌≡◌, ℕ, suc, ◌*◌, ◌%◌, ◌<◌, ◌≤◌, true, List, [], ◌∷◌, ◌++◌, length, get_or, refl, sym, ap, subst, ◌∙◌, arith}
use Rattle.std.proofs.lemmas.Bool.Decides.{nat_tests}
use Rattle.std.proofs.lemmas.Option.{slice_get-get_or, slice_get_within}
use Rattle.esa_model.specs.Bus.{quiet, signals_of}
use Rattle.esa_model.specs.declared.machine.CpuState.TheVariants.{CheckStop}
use Rattle.run_model.specs.Cores.{belongs}
use Rattle.run_model.specs.declared.logs.Config.{Config}
use Rattle.save_model.specs.Fields.{Field, all_good, first_bad}
use Rattle.save_model.specs.Parts.{config_of, core_good, is_with_cpu, mode_good, cores_fields, cpus_fields, head_fields, key_fields, number_fields}
use Rattle.save_model.specs.Save.{IsSave, Save, fields, read_save}
use Rattle.save_model.specs.declared.parts.SaveHead.{SaveHead}
use Rattle.save_model.specs.declared.parts.SavedCore.{SavedCore}
use Rattle.save_model.specs.declared.parts.SavedCpu.{SavedCpu}
use Rattle.save_model.specs.declared.parts.SavedNumbers.{SavedNumbers}
use Rattle.save_model.proofs.SaveRead.{left_true, right_true}
use Rattle.esa_model.specs.Line.{Side}
use Rattle.seen_memory.specs.Seen.{Shown}
use Rattle.silicon.specs.Chip.{Chip}
use Rattle.core_turns.specs.Held.{CorePool, HoldsRegisters}
use Rattle.core_turns.specs.Places.{EachInOnePlace}
use Rattle.core_turns.specs.declared.held.Held.{Held}
use Rattle.core_turns.specs.declared.held.Held.TheVariants.{Running, Recovering, Lost, Taken}
use Rattle.g5_machine.specs.Counts.{IsCounted}
use Rattle.g5_machine.specs.Fits.{IsFitting, all_there, is_there}
use Rattle.g5_machine.specs.declared.machine.Machine.{Machine}
use Rattle.saved_machine.specs.Again.{HasCallers, IsSized, IsTyped, SaysHeld, SaysSignals}
use Rattle.machine_save.specs.Bringing.{AllCanBe, Brought, PoolTo, StoresTo}
use Rattle.saved_machine.specs.declared.counts.Counts.{Counts}
use Rattle.saved_machine.specs.Saved.{cores_of, counts_of, cpus_of, first_bytes, head_of, numbers_of, saved}
use Rattle.machine_save.proofs.Goods.{are_good, both_good, each_good, good_all}
use Rattle.machine_save.proofs.PartsAgain.{no_cpu, cores_again, cpus_again, placed_again, with_is}
use Rattle.saved_machine.proofs.StandingAgain.{signals_at, whole}

-- ---- what a save's fields say

pub record HeadGood (h : SaveHead) : Type 0 where
  pub some : 1 ≤ h.cpus
  pub most : h.cpus ≤ 8
  pub spares : h.spares ≤ 8
  pub threshold : h.threshold ≤ 15
  pub none : h.zero ≡ 0
  pub pages : h.pages ≤ 4096

is_at_most : (a b : ℕ) → nat_le a b ≡ true → a ≤ b
is_at_most a b e = grind (arith, nat_tests)

is_zero : (a : ℕ) → (a == 0) ≡ true → a ≡ 0
is_zero a e = grind (arith, nat_tests)

pub head_is_good : (h : SaveHead) → all_good (head_fields h) ≡ true → HeadGood h
head_is_good h e =
    let a = are_good (head_fields h) e in
    let size = a.1.1.1.1.0 in
    let low = left_true (nat_le 32 h.pages && nat_le h.pages 4096) (h.pages % 16 == 0) size in
    record {
      some = is_at_most 1 h.cpus (left_true (nat_le 1 h.cpus) (nat_le h.cpus 8) a.0);
      most = is_at_most h.cpus 8 (right_true (nat_le 1 h.cpus) (nat_le h.cpus 8) a.0);
      spares = is_at_most h.spares 8 a.1.0;
      threshold = is_at_most h.threshold 15 a.1.1.0;
      none = is_zero h.zero a.1.1.1.0;
      pages = is_at_most h.pages 4096 (right_true (nat_le 32 h.pages) (nat_le h.pages 4096) low);
    }

pub record FieldsGood (s : Save) : Type 0 where
  pub numbers : all_good (number_fields s.numbers) ≡ true
  pub cpus : all_good (cpus_fields s.head [] s.cpus) ≡ true
  pub cores : all_good (cores_fields s.head s.cpus 0 s.cores) ≡ true

pub fields_good : (s : Save) → first_bad 16 (fields s) ≡ None → FieldsGood s
unfolding fields
fields_good s e =
    let all = good_all 16 (fields s) e in
    let cpus : List Field = cpus_fields s.head [] s.cpus in
    let cores : List Field = cores_fields s.head s.cpus 0 s.cores in
    let keys : List Field = key_fields s.keys in
    let a = both_good (number_fields s.numbers) (cpus ++ (cores ++ keys)) all in
    let b = both_good cpus (cores ++ keys) a.1 in
    let c = both_good cores keys b.1 in
    record { numbers = a.0; cpus = b.0; cores = c.0 }

pub counted : (n : SavedNumbers) (turns commits read written : ℕ) → turns ≡ n.turns → commits ≡ n.commits
    → read ≡ n.console_read → written ≡ n.console_written → all_good (number_fields n) ≡ true
    → IsCounted (record { turns = turns; commits = commits; read = read; written = written })
counted n turns commits read written a b c d e =
    let g = are_good (number_fields n) e in
    let p : n.commits ≤ n.turns = is_at_most n.commits n.turns g.1.0 in
    let q : n.console_read ≤ 256 * n.commits = is_at_most n.console_read (256 * n.commits) g.1.1.1.0 in
    let r : n.console_written ≤ 256 * n.commits = is_at_most n.console_written (256 * n.commits) g.1.1.1.1.0 in
    record {
      commits = omega (arith, a, b, p);
      read = omega (arith, b, c, q);
      written = omega (arith, b, d, r);
    }

-- ---- nothing is in the midst of a turn

there_by : (c : SavedCpu) (h : Held) → c.mode ≤ 2 → SaysHeld c h → is_there h ≡ true
there_by c (Running k) le s = refl
there_by c (Recovering k) le s = refl
there_by c (Lost d n) le s = refl
there_by c Taken le s = let m = s.mode in absurd (omega (arith, m, le))

pub all_are_there : (cs : List SavedCpu) (hs : List Held) → length hs ≡ length cs
    → ((j : ℕ) (c : SavedCpu) → slice_get cs j ≡ Some c → c.mode ≤ 2)
    → ((j : ℕ) (c : SavedCpu) (h : Held) → slice_get cs j ≡ Some c → slice_get hs j ≡ Some h → SaysHeld c h)
    → all_there hs ≡ true
all_are_there [] [] e m f = refl
all_are_there [] (h ∷ hs) e m f = absurd (omega (arith, e))
all_are_there (c ∷ cs) [] e m f = absurd (omega (arith, e))
all_are_there (c ∷ cs) (h ∷ hs) e m f =
    let first = there_by c h (m 0 c refl) (f 0 c h refl refl) in
    let rest = all_are_there cs hs (omega (arith, e)) (λ j d got. m (suc j) d got)
    (λ j d g got there. f (suc j) d g got there) in
    rw (first, rest) refl

mode_low : (m s : ℕ) → mode_good m s ≡ true → nat_le m 2 ≡ true
mode_low m s e = left_true (nat_le m 2) (if m == 2 then s == 2 else not (s == 2)) e

core_low : (h : SaveHead) (b : List SavedCpu) (m k : ℕ) → core_good h b m k ≡ true
    → belongs (config_of h) k ≡ true
core_low h b m k e = left_true (belongs (config_of h) k) (not (nat_le m 1 && is_with_cpu b k)) e

pub modes : (hd : SaveHead) (cs : List SavedCpu) → all_good (cpus_fields hd [] cs) ≡ true
    → (j : ℕ) (c : SavedCpu) → slice_get cs j ≡ Some c → c.mode ≤ 2
modes hd cs e j c got =
    let g = each_good hd [] cs e j c got in
    is_at_most c.mode 2 (mode_low c.mode c.state g.1.mode)

-- ---- the save of the machine

abbrev made_save : SaveHead → SavedNumbers → List SavedCpu → List SavedCore → List ℕ → List ℕ → Save
made_save h n cs ks keys storage = record {
  head = h;
  numbers = n;
  cpus = cs;
  cores = ks;
  keys = keys;
  storage = storage;
}

head_back : (c : Config) (h : SaveHead) → c ≡ config_of h → h.zero ≡ 0 → head_of c ≡ h
head_back c h e z = ap head_of e ∙ ap (λ q. record h { zero = q }) (sym z)

abbrev made_numbers : ℕ → ℕ → ℕ → ℕ → ℕ → SavedNumbers → SavedNumbers
made_numbers turns commits clock read written n = record n {
  turns = turns;
  commits = commits;
  clock = clock;
  console_read = read;
  console_written = written;
}

numbers_back : (m : Machine) (n : SavedNumbers) → m.counts.turns ≡ n.turns → m.counts.commits ≡ n.commits
    → m.counts.read ≡ n.console_read → m.counts.written ≡ n.console_written → m.side.clock ≡ n.clock
    → numbers_of m (counts_of n) ≡ n
numbers_back m n t c r w l =
    ap (λ x. made_numbers x m.counts.commits m.side.clock m.counts.read m.counts.written n) t
    ∙ ap (λ x. made_numbers n.turns x m.side.clock m.counts.read m.counts.written n) c
    ∙ ap (λ x. made_numbers n.turns n.commits x m.counts.read m.counts.written n) l
    ∙ ap (λ x. made_numbers n.turns n.commits n.clock x m.counts.written n) r
    ∙ ap (λ x. made_numbers n.turns n.commits n.clock n.console_read x n) w

-- the parts of a machine are those of a save
pub record OfSave (s : Save) (m : Machine) : Type 0 where
  pub config : m.config ≡ config_of s.head
  pub held : Brought SaysHeld s.cpus (length s.cpus) m.cpus.items
  pub bus : Brought SaysSignals s.cpus (length s.cpus) m.side.bus
  pub pool : PoolTo 16 s.cores m.pool
  pub storage : m.memory.bytes ≡ s.storage
  pub keys : m.side.keys ≡ s.keys
  pub clock : m.side.clock ≡ s.numbers.clock
  pub turns : m.counts.turns ≡ s.numbers.turns
  pub commits : m.counts.commits ≡ s.numbers.commits
  pub read : m.counts.read ≡ s.numbers.console_read
  pub written : m.counts.written ≡ s.numbers.console_written

pub stood_saved : (s : Save) (m : Machine) (z z2 : Chip) → IsSave s → OfSave s m
    → StoresTo 16 s.cores z z2 → saved m (counts_of s.numbers) z2 ≡ s
unfolding saved
stood_saved s m z z2 is o stored =
    let h = head_is_good s.head is.head in
    let f = fields_good s is.good in
    let shaped = is.shaped in
    let with = λ (k : ℕ). with_is k (length s.cpus) s.cpus m.cpus.items refl o.held in
    let cpus : cpus_of m.cpus.items m.side.bus m.config.cpus ≡ s.cpus =
    ap (λ (c : Config). cpus_of m.cpus.items m.side.bus c.cpus) o.config
    ∙ ap (λ n. cpus_of m.cpus.items m.side.bus n) (sym shaped.cpus)
    ∙ cpus_again s.head s.cpus m.cpus.items m.side.bus (length s.cpus) refl shaped.words f.cpus o.held o.bus in
    let cores : cores_of m.config m.cpus.items m.pool z2 ≡ s.cores =
    ap (λ (c : Config). cores_of c m.cpus.items m.pool z2) o.config
    ∙ cores_again s.head s.cpus s.cores m.cpus.items m.pool z z2 shaped.cores shaped.stored with f.cores o.pool stored in
    let keys : first_bytes m.side.keys m.config.pages ≡ s.keys =
    ap (λ (c : Config). first_bytes m.side.keys c.pages) o.config
    ∙ ap (λ x. first_bytes x s.head.pages) o.keys ∙ whole s.keys s.head.pages shaped.keys in
    let storage : first_bytes m.memory.bytes (4096 * m.config.pages) ≡ s.storage =
    ap (λ (c : Config). first_bytes m.memory.bytes (4096 * c.pages)) o.config
    ∙ ap (λ x. first_bytes x (4096 * s.head.pages)) o.storage
    ∙ whole s.storage (4096 * s.head.pages) shaped.storage in
    let numbers = numbers_back m s.numbers o.turns o.commits o.read o.written o.clock in
    ap (λ x. made_save x (numbers_of m (counts_of s.numbers)) (cpus_of m.cpus.items m.side.bus m.config.cpus) (cores_of m.config m.cpus.items m.pool z2) (first_bytes m.side.keys m.config.pages) (first_bytes m.memory.bytes (4096 * m.config.pages))) (head_back m.config s.head o.config h.none)
    ∙ ap (λ x. made_save s.head x (cpus_of m.cpus.items m.side.bus m.config.cpus) (cores_of m.config m.cpus.items m.pool z2) (first_bytes m.side.keys m.config.pages) (first_bytes m.memory.bytes (4096 * m.config.pages))) numbers
    ∙ ap (λ x. made_save s.head s.numbers x (cores_of m.config m.cpus.items m.pool z2) (first_bytes m.side.keys m.config.pages) (first_bytes m.memory.bytes (4096 * m.config.pages))) cpus
    ∙ ap (λ x. made_save s.head s.numbers s.cpus x (first_bytes m.side.keys m.config.pages) (first_bytes m.memory.bytes (4096 * m.config.pages))) cores
    ∙ ap (λ x. made_save s.head s.numbers s.cpus s.cores x (first_bytes m.memory.bytes (4096 * m.config.pages))) keys
    ∙ ap (λ x. made_save s.head s.numbers s.cpus s.cores s.keys x) storage

-- the bytes are read as the save of the machine that is stood up
pub read_again : (turns l n : ℕ) (bytes : List ℕ) (s : Save) (m : Machine) (k k2 : Counts) (z : Chip)
    → l ≡ n → read_save turns n bytes ≡ Ok s → saved m k2 z ≡ s → k ≡ k2
    → read_save turns l bytes ≡ Ok (saved m k z)
read_again turns l n bytes s m k k2 z long read again same =
    ap (λ (q : ℕ). read_save turns q bytes) long ∙ read
    ∙ ap Ok (sym again ∙ ap (λ (q : Counts). saved m q z) (sym same))

-- ---- what the machine asks of its parts

fit_by : (h : SaveHead) (n : ℕ) → HeadGood h → h.cpus ≡ n → IsFitting (config_of h) n
fit_by h n g e = record {
  cpus = e;
  some = g.some;
  most = g.most;
  spares = g.spares;
  threshold = g.threshold;
}

pub fits_save : (s : Save) (c : Config) (hs : List Held) → IsSave s → c ≡ config_of s.head
    → Brought SaysHeld s.cpus (length s.cpus) hs → IsFitting c (length hs)
fits_save s c hs is e p =
    subst (λ q. IsFitting q (length hs)) (sym e)
    (fit_by s.head (length hs) (head_is_good s.head is.head) (sym is.shaped.cpus ∙ sym p.long))

pub there_save : (s : Save) (hs : List Held) → IsSave s → Brought SaysHeld s.cpus (length s.cpus) hs
    → all_there hs ≡ true
there_save s hs is p =
    all_are_there s.cpus hs p.long (modes s.head s.cpus (fields_good s is.good).cpus) p.each

pub placed_save : (s : Save) (c : Config) (hs : List Held) (pool : CorePool) → IsSave s
    → c ≡ config_of s.head → Brought SaysHeld s.cpus (length s.cpus) hs → PoolTo 16 s.cores pool
    → EachInOnePlace c hs pool
placed_save s c hs pool is e p q =
    let h = head_is_good s.head is.head in
    let f = fields_good s is.good in
    subst (λ x. EachInOnePlace x hs pool) (sym e)
    (placed_again s.head s.cpus s.cores hs pool h.most h.spares is.shaped.cores
    (λ k. with_is k (length s.cpus) s.cpus hs refl p) f.cpus f.cores q)

pub counted_save : (s : Save) (turns commits read written : ℕ) → IsSave s → turns ≡ s.numbers.turns
    → commits ≡ s.numbers.commits → read ≡ s.numbers.console_read → written ≡ s.numbers.console_written
    → IsCounted (record { turns = turns; commits = commits; read = read; written = written })
counted_save s turns commits read written is a b c d =
    counted s.numbers turns commits read written a b c d (fields_good s is.good).numbers

-- ---- what is known of the machine beside

signals_said : (s : Save) (m : Machine) → OfSave s m → (i : ℕ) → i < length m.side.bus
    → (c : SavedCpu) × SaysSignals c (signals_of m.side.bus i)
signals_said s m o i lt =
    let long = o.bus.long in
    let inside : i < length s.cpus = omega (arith, lt, long) in
    let c : SavedCpu = get_or s.cpus i no_cpu in
    let got : slice_get s.cpus i ≡ Some c = slice_get-get_or s.cpus i no_cpu inside in
    let said : slice_get m.side.bus i ≡ Some (signals_of m.side.bus i) =
    slice_get-get_or m.side.bus i (quiet CheckStop) lt ∙ ap Some (signals_at m.side.bus i) in
    (c, o.bus.each i c (signals_of m.side.bus i) got said)

registers_said : (s : Save) (m : Machine) → OfSave s m → (i : ℕ) (h : Held)
    → slice_get m.cpus.items i ≡ Some h → HoldsRegisters h
registers_said s m o i h there =
    let long = o.held.long in
    let within = slice_get_within m.cpus.items i h there in
    let inside : i < length s.cpus = omega (arith, within, long) in
    let c : SavedCpu = get_or s.cpus i no_cpu in
    let got : slice_get s.cpus i ≡ Some c = slice_get-get_or s.cpus i no_cpu inside in
    (o.held.each i c h got there).registers

pub typed_save : (s : Save) (m : Machine) → OfSave s m → IsTyped m
typed_save s m o = record {
  flags = λ i lt. (signals_said s m o i lt).1.flags;
  registers = registers_said s m o;
}

pub callers_save : (s : Save) (m : Machine) → OfSave s m → HasCallers m
callers_save s m o = record { calls = λ i lt. (signals_said s m o i lt).1.caller }

pub sized_save : (s : Save) (m : Machine) → IsSave s → OfSave s m → IsSized m
sized_save s m is o = record {
  bus = o.bus.long ∙ is.shaped.cpus ∙ sym (ap (λ (c : Config). c.cpus) o.config);
  keys = ap length o.keys ∙ is.shaped.keys ∙ sym (ap (λ (c : Config). c.pages) o.config);
  storage = ap length o.storage ∙ is.shaped.storage ∙ sym (ap (λ (c : Config). 4096 * c.pages) o.config);
}

few_cores : (h : SaveHead) (k : ℕ) → h.cpus ≤ 8 → h.spares ≤ 8 → belongs (config_of h) k ≡ true
    → k < 16
few_cores h k a b e = grind (arith, nat_tests)

pub all_can_be : (s : Save) → IsSave s → AllCanBe s.cpus
all_can_be s is j c got =
    let h = head_is_good s.head is.head in
    let f = fields_good s is.good in
    let g = each_good s.head [] s.cpus f.cpus j c got in
    record {
      mode = is_at_most c.mode 2 (mode_low c.mode c.state g.1.mode);
      core = few_cores s.head c.core h.most h.spares (core_low s.head g.0 c.mode c.core g.1.core);
      state = is_at_most c.state 2 g.1.state;
      restart = is_at_most c.restart 1 g.1.restart;
      key = is_at_most c.key 1 g.1.key;
    }

pub of_save : (s : Save) (m : Machine) (c : Config) (hs : List Held) (pool : CorePool) (memory : Shown)
    (side : Side) → m.config ≡ c → m.cpus.items ≡ hs → m.pool ≡ pool → m.memory ≡ memory → m.side ≡ side
    → m.counts.turns ≡ s.numbers.turns → m.counts.commits ≡ s.numbers.commits
    → m.counts.read ≡ s.numbers.console_read → m.counts.written ≡ s.numbers.console_written
    → c ≡ config_of s.head → Brought SaysHeld s.cpus (length s.cpus) hs
    → Brought SaysSignals s.cpus (length s.cpus) side.bus → PoolTo 16 s.cores pool
    → memory.bytes ≡ s.storage → side.keys ≡ s.keys → side.clock ≡ s.numbers.clock → OfSave s m
of_save s m c hs pool memory side e1 e2 e3 e4 e5 t1 t2 t3 t4 config held bus p storage keys clock = record {
  config = e1 ∙ config;
  held = subst (λ xs. Brought SaysHeld s.cpus (length s.cpus) xs) (sym e2) held;
  bus = subst (λ (q : Side). Brought SaysSignals s.cpus (length s.cpus) q.bus) (sym e5) bus;
  pool = subst (λ q. PoolTo 16 s.cores q) (sym e3) p;
  storage = ap (λ (q : Shown). q.bytes) e4 ∙ storage;
  keys = ap (λ (q : Side). q.keys) e5 ∙ keys;
  clock = ap (λ (q : Side). q.clock) e5 ∙ clock;
  turns = t1;
  commits = t2;
  read = t3;
  written = t4;
}
