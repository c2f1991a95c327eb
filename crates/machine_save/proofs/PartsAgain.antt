-- The parts that were brought from a save, saved again.
use Rattle.std.specs.Prelude.{◌==◌, ◌&&◌, ◌||◌, nat_lt, not, if◌then◌else◌, slice_get, Some}
use Rattle.std.proofs.Common.{◌≡◌, ℕ, zero, suc, ◌+◌, ◌<◌, ◌≤◌, Bool, true, false, cond, List, [], ◌∷◌, length, map, get_or, replicate, refl, sym, ap, subst, ◌∙◌, arith}
use Rattle.std.specs.List.{range_with_len}
use Rattle.std.proofs.lemmas.Bool.{eqb-true}
use Rattle.std.proofs.lemmas.Bool.Decides.{nat_tests}
use Rattle.std.proofs.lemmas.List.{ext_get_or}
use Rattle.std.proofs.lemmas.List.FromFn.{length-map-range_with_len, get_or-map-range_with_len}
use Rattle.std.proofs.lemmas.Option.{slice_get-get_or, unwrap_or-slice_get}
use Rattle.esa_model.specs.Bus.{quiet, signals_of}
use Rattle.esa_model.specs.declared.machine.CpuState.TheVariants.{CheckStop}
use Rattle.esa_model.specs.declared.machine.Signals.{Signals}
use Rattle.run_model.specs.Checkpoint.{registers_of, words_of}
use Rattle.run_model.specs.Cores.{belongs}
use Rattle.save_model.specs.Fields.{all_good}
use Rattle.save_model.specs.Parts.{config_of, cores_fields, cpus_fields, is_with_cpu, place_good, word_fields}
use Rattle.save_model.specs.Save.{CoresShaped, CpusShaped}
use Rattle.save_model.specs.declared.parts.SaveHead.{SaveHead}
use Rattle.save_model.specs.declared.parts.SavedCore.{SavedCore}
use Rattle.save_model.specs.declared.parts.SavedCpu.{SavedCpu}
use Rattle.silicon.specs.Chip.{Chip}
use Rattle.sparing.specs.Pools.{holds}
use Rattle.core_turns.specs.Held.{CorePool, core_of, fenced_number, spare_number}
use Rattle.core_turns.specs.Places.{EachInOnePlace, with_cpu, with_cpus}
use Rattle.core_turns.specs.declared.held.Held.{Held}
use Rattle.core_turns.specs.declared.held.Held.TheVariants.{Running, Recovering, Lost, Taken}
use Rattle.saved_machine.specs.Again.{SaysHeld, SaysSignals}
use Rattle.machine_save.specs.Bringing.{Brought, PoolTo, StoresTo, place_in, place_said}
use Rattle.saved_machine.specs.Numbers.{bit, call_number, mask_of, retries_of, saved_cpu, state_number, words_held}
use Rattle.saved_machine.specs.Saved.{core_at, cores_of, cpu_at, cpus_of, held_at, place_of}
use Rattle.machine_save.proofs.Goods.{CoreGood, CpuGood, any_served, belongs_served, each_core_good, each_good, once_served, served, serves}
use Rattle.saved_machine.proofs.StandingAgain.{signals_at}
use Rattle.machine_save.proofs.WordsAgain.{no_words, words_back}

-- ---- a CPU

words_by : (p m : ℕ) (ws : List ℕ) (t : Bool) → (m == 0) ≡ t → length ws ≡ 40
    → all_good (word_fields p m 0 ws) ≡ true
    → (if t then words_of (registers_of ws) else replicate 40 0) ≡ ws
words_by p m ws true e long g = words_back p m ws (eqb-true m 0 e) long g
words_by p m ws false e long g = no_words p m ws e long g

abbrev pub made_cpu : ℕ → ℕ → ℕ → ℕ → ℕ → ℕ → ℕ → ℕ → ℕ → ℕ → List ℕ → SavedCpu
made_cpu m c r s t k f e x z w = record {
  mode = m;
  core = c;
  retries = r;
  state = s;
  restart = t;
  key = k;
  malfunction = f;
  emergency = e;
  external_call = x;
  zeros = z;
  words = w;
}

pub cpu_again : (hd : SaveHead) (b : List SavedCpu) (c : SavedCpu) (h : Held) (s : Signals)
    → length c.words ≡ 40 → CpuGood hd b c → SaysHeld c h → SaysSignals c s → saved_cpu h s ≡ c
unfolding saved_cpu
cpu_again hd b c h s long g p q =
    let words = p.words ∙ words_by hd.pages c.mode c.words (c.mode == 0) refl long g.words in
    ap (λ x. made_cpu x (core_of h) (retries_of h) (state_number s.state) (bit s.restart) (bit s.key) (mask_of s.malfunction) (mask_of s.emergency) (call_number s.external_call) 0 (words_held h)) p.mode
    ∙ ap (λ x. made_cpu c.mode x (retries_of h) (state_number s.state) (bit s.restart) (bit s.key) (mask_of s.malfunction) (mask_of s.emergency) (call_number s.external_call) 0 (words_held h)) p.core
    ∙ ap (λ x. made_cpu c.mode c.core x (state_number s.state) (bit s.restart) (bit s.key) (mask_of s.malfunction) (mask_of s.emergency) (call_number s.external_call) 0 (words_held h)) p.retries
    ∙ ap (λ x. made_cpu c.mode c.core c.retries x (bit s.restart) (bit s.key) (mask_of s.malfunction) (mask_of s.emergency) (call_number s.external_call) 0 (words_held h)) q.state
    ∙ ap (λ x. made_cpu c.mode c.core c.retries c.state x (bit s.key) (mask_of s.malfunction) (mask_of s.emergency) (call_number s.external_call) 0 (words_held h)) q.restart
    ∙ ap (λ x. made_cpu c.mode c.core c.retries c.state c.restart x (mask_of s.malfunction) (mask_of s.emergency) (call_number s.external_call) 0 (words_held h)) q.key
    ∙ ap (λ x. made_cpu c.mode c.core c.retries c.state c.restart c.key x (mask_of s.emergency) (call_number s.external_call) 0 (words_held h)) q.malfunction
    ∙ ap (λ x. made_cpu c.mode c.core c.retries c.state c.restart c.key c.malfunction x (call_number s.external_call) 0 (words_held h)) q.emergency
    ∙ ap (λ x. made_cpu c.mode c.core c.retries c.state c.restart c.key c.malfunction c.emergency x 0 (words_held h)) q.external_call
    ∙ ap (λ x. made_cpu c.mode c.core c.retries c.state c.restart c.key c.malfunction c.emergency c.external_call x (words_held h)) (sym (eqb-true c.zeros 0 g.zeros))
    ∙ ap (λ x. made_cpu c.mode c.core c.retries c.state c.restart c.key c.malfunction c.emergency c.external_call c.zeros x) words

words_long : (cs : List SavedCpu) → CpusShaped cs → (j : ℕ) (c : SavedCpu) → slice_get cs j ≡ Some c
    → length c.words ≡ 40
words_long [] s j c got = absurd (cc got)
words_long (d ∷ cs) s zero c got = let same : d ≡ c = cc got in subst (λ (q : SavedCpu). length q.words ≡ 40) same s.0
words_long (d ∷ cs) s (suc j) c got = words_long cs s.1 j c got

abbrev pub no_cpu : SavedCpu
no_cpu = made_cpu 0 0 0 0 0 0 0 0 0 0 []

pub cpus_again : (hd : SaveHead) (cs : List SavedCpu) (hs : List Held) (ss : List Signals) (n : ℕ)
    → length cs ≡ n → CpusShaped cs → all_good (cpus_fields hd [] cs) ≡ true
    → Brought SaysHeld cs n hs → Brought SaysSignals cs n ss → cpus_of hs ss n ≡ cs
unfolding cpus_of
cpus_again hd cs hs ss n long shaped good p q =
    let l = length-map-range_with_len (cpu_at hs ss) 0 n in
    ext_get_or no_cpu (map (cpu_at hs ss) (range_with_len 0 n)) cs (l ∙ sym long) (λ i h.
    let lt : i < n = omega (arith, h, l) in
    let c : SavedCpu = get_or cs i no_cpu in
    let got : slice_get cs i ≡ Some c = slice_get-get_or cs i no_cpu (omega (arith, lt, long)) in
    let pl = p.long in
    let ql = q.long in
    let there : slice_get hs i ≡ Some (held_at hs i) =
    slice_get-get_or hs i Taken (omega (arith, lt, pl)) ∙ ap Some (sym (unwrap_or-slice_get hs i Taken)) in
    let said : slice_get ss i ≡ Some (signals_of ss i) =
    slice_get-get_or ss i (quiet CheckStop) (omega (arith, lt, ql)) ∙ ap Some (signals_at ss i) in
    let g = each_good hd [] cs good i c got in
    get_or-map-range_with_len (cpu_at hs ss) 0 n i i no_cpu lt (omega arith)
    ∙ cpu_again hd g.0 c (held_at hs i) (signals_of ss i) (words_long cs shaped i c got) g.1
    (p.each i c (held_at hs i) got there) (q.each i c (signals_of ss i) got said))

-- ---- which cores are with CPUs

with_one : (k : ℕ) (c : SavedCpu) (h : Held) → SaysHeld c h
    → with_cpu k h ≡ (if serves c k then 1 else 0)
with_one k c (Running r) s = rw (sym s.mode, sym s.core) refl
with_one k c (Recovering r) s = rw (sym s.mode, sym s.core) refl
with_one k c (Lost d n) s = rw (sym s.mode) refl
with_one k c Taken s = rw (sym s.mode) refl

with_served : (k : ℕ) (cs : List SavedCpu) (hs : List Held) → length hs ≡ length cs
    → ((j : ℕ) (c : SavedCpu) (h : Held) → slice_get cs j ≡ Some c → slice_get hs j ≡ Some h → SaysHeld c h)
    → with_cpus k hs ≡ served cs k
with_served k [] [] e f = refl
with_served k [] (h ∷ hs) e f = absurd (omega (arith, e))
with_served k (c ∷ cs) [] e f = absurd (omega (arith, e))
with_served k (c ∷ cs) (h ∷ hs) e f =
    ap (λ n. n + with_cpus k hs) (with_one k c h (f 0 c h refl refl))
    ∙ ap (λ n. (if serves c k then 1 else 0) + n)
    (with_served k cs hs (omega (arith, e)) (λ j d g got there. f (suc j) d g got there))

pub with_is : (k n : ℕ) (cs : List SavedCpu) (hs : List Held) → length cs ≡ n → Brought SaysHeld cs n hs
    → with_cpus k hs ≡ served cs k
with_is k n cs hs long p = with_served k cs hs (p.long ∙ sym long) p.each

-- ---- the places of cores

place_by : (b t : Bool) (w f q : ℕ) → nat_lt 0 w ≡ t → f ≡ (if q == 3 then 1 else 0)
    → (if not b then q == 0 else (if t then q == 1 else (q == 2) || (q == 3))) ≡ true
    → (if not b then 0 else (if nat_lt 0 w then 1 else (if nat_lt 0 f then 3 else 2))) ≡ q
place_by false t w f q e g h = sym (eqb-true q 0 h)
place_by true true w f q e g h = rw e (sym (eqb-true q 1 h))
place_by true false w f q e g h = grind (arith, nat_tests)

once_here : (k p q : ℕ) → k < 16
    → cond {A = ℕ} (nat_lt k 16 && (p == q)) 1 0 ≡ cond (p == q) 1 0
once_here k p q h = grind (arith, nat_tests)

place_again : (hd : SaveHead) (cs : List SavedCpu) (cores : List SavedCore) (hs : List Held)
    (pool : CorePool) (k : ℕ) (c : SavedCore) → k < 16 → with_cpus k hs ≡ served cs k
    → PoolTo 16 cores pool → slice_get cores k ≡ Some c → CoreGood hd cs k c
    → place_of (config_of hd) hs pool k ≡ c.place
unfolding place_of
place_again hd cs cores hs pool k c lt with p got g =
    let place : place_in cores k ≡ c.place = ap place_said got in
    let tests = any_served cs k ∙ ap (nat_lt 0) (sym with) in
    place_by (belongs (config_of hd) k) (is_with_cpu cs k) (with_cpus k hs)
    (holds fenced_number k pool.fenced) c.place (sym tests)
    (p.fenced k ∙ once_here k (place_in cores k) 3 lt ∙ ap (λ x. if x == 3 then 1 else 0) place) g.place

cores_long_by : (xs : List SavedCore) → CoresShaped xs → (j : ℕ) (c : SavedCore) → slice_get xs j ≡ Some c
    → length c.stored ≡ 40
cores_long_by [] s j c got = absurd (cc got)
cores_long_by (d ∷ xs) s zero c got = let same : d ≡ c = cc got in subst (λ (q : SavedCore). length q.stored ≡ 40) same s.0
cores_long_by (d ∷ xs) s (suc j) c got = cores_long_by xs s.1 j c got

abbrev made_core : ℕ → ℕ → ℕ → List ℕ → SavedCore
made_core p z b w = record { place = p; zeros = z; begun = b; stored = w }

abbrev no_core : SavedCore
no_core = made_core 0 0 0 []

core_again : (hd : SaveHead) (cs : List SavedCpu) (cores : List SavedCore) (hs : List Held)
    (pool : CorePool) (old z : Chip) (k : ℕ) (c : SavedCore) → k < 16 → with_cpus k hs ≡ served cs k
    → PoolTo 16 cores pool → slice_get cores k ≡ Some c → CoreGood hd cs k c → length c.stored ≡ 40
    → StoresTo 16 cores old z → core_at (config_of hd) hs pool z k ≡ c
core_again hd cs cores hs pool old z k c lt with p got g long s =
    let l = length-map-range_with_len (z.word k) 0 40 in
    let words : map (z.word k) (range_with_len 0 40) ≡ c.stored =
    ext_get_or 0 (map (z.word k) (range_with_len 0 40)) c.stored (l ∙ sym long) (λ i h.
    get_or-map-range_with_len (z.word k) 0 40 i i 0 (omega (arith, h, l)) (omega arith)
    ∙ s.word k i c lt (omega (arith, h, l)) got) in
    ap (λ x. made_core x 0 (z.begun k) (map (z.word k) (range_with_len 0 40)))
    (place_again hd cs cores hs pool k c lt with p got g)
    ∙ ap (λ x. made_core c.place x (z.begun k) (map (z.word k) (range_with_len 0 40))) (sym (eqb-true c.zeros 0 g.zeros))
    ∙ ap (λ x. made_core c.place c.zeros x (map (z.word k) (range_with_len 0 40))) (s.begun k c lt got)
    ∙ ap (λ x. made_core c.place c.zeros c.begun x) words

pub cores_again : (hd : SaveHead) (cs : List SavedCpu) (cores : List SavedCore) (hs : List Held)
    (pool : CorePool) (old z : Chip) → length cores ≡ 16 → CoresShaped cores
    → ((k : ℕ) → with_cpus k hs ≡ served cs k) → all_good (cores_fields hd cs 0 cores) ≡ true
    → PoolTo 16 cores pool → StoresTo 16 cores old z → cores_of (config_of hd) hs pool z ≡ cores
unfolding cores_of
cores_again hd cs cores hs pool old z long shaped with good p s =
    let f : ℕ → SavedCore = core_at (config_of hd) hs pool z in
    let l = length-map-range_with_len f 0 16 in
    ext_get_or no_core (map f (range_with_len 0 16)) cores (l ∙ sym long) (λ i h.
    let lt : i < 16 = omega (arith, h, l) in
    let c : SavedCore = get_or cores i no_core in
    let got : slice_get cores i ≡ Some c = slice_get-get_or cores i no_core (omega (arith, lt, long)) in
    let at : 0 + i ≡ i = omega arith in
    let g : CoreGood hd cs i c = subst (λ q. CoreGood hd cs q c) at (each_core_good hd cs 0 cores good i c got) in
    get_or-map-range_with_len f 0 16 i i no_core lt (omega arith)
    ∙ core_again hd cs cores hs pool old z i c lt (with i) p got g (cores_long_by cores shaped i c got) s)

-- ---- each core stands in one place

placed_by : (b t u : Bool) (w sp fe q : ℕ) → nat_lt 0 w ≡ t → w ≤ 1
    → sp ≡ (if u && (q == 2) then 1 else 0) → fe ≡ (if u && (q == 3) then 1 else 0)
    → (u ≡ true → (if not b then q == 0 else (if t then q == 1 else (q == 2) || (q == 3))) ≡ true)
    → (u ≡ false → b ≡ false) → (t ≡ true → b ≡ true)
    → w + (sp + fe) ≡ (if b then 1 else 0)
placed_by true t false w sp fe q e le s f g o k = absurd (cc (o refl))
placed_by true true true w sp fe q e le s f g o k =
    let place = eqb-true q 1 (g refl) in grind (arith, nat_tests)
placed_by true false true w sp fe q e le s f g o k = let place = g refl in grind (arith, nat_tests)
placed_by false true u w sp fe q e le s f g o k = absurd (cc (k refl))
placed_by false false true w sp fe q e le s f g o k =
    let place = eqb-true q 0 (g refl) in grind (arith, nat_tests)
placed_by false false false w sp fe q e le s f g o k = grind (arith, nat_tests)

outside : (hd : SaveHead) (k : ℕ) → hd.cpus ≤ 8 → hd.spares ≤ 8 → nat_lt k 16 ≡ false
    → belongs (config_of hd) k ≡ false
outside hd k a b h = grind (arith, nat_tests)

least : (b : Bool) (n : ℕ) → (if b then 1 else 0) + n ≤ 1 → n ≤ 1
least true n h = omega (arith, h)
least false n h = omega (arith, h)

pub placed_again : (hd : SaveHead) (cs : List SavedCpu) (cores : List SavedCore) (hs : List Held)
    (pool : CorePool) → hd.cpus ≤ 8 → hd.spares ≤ 8 → length cores ≡ 16
    → ((k : ℕ) → with_cpus k hs ≡ served cs k) → all_good (cpus_fields hd [] cs) ≡ true
    → all_good (cores_fields hd cs 0 cores) ≡ true → PoolTo 16 cores pool
    → EachInOnePlace (config_of hd) hs pool
placed_again hd cs cores hs pool a b long with good cgood p k =
    let c : SavedCore = get_or cores k no_core in
    let tests = any_served cs k ∙ ap (nat_lt 0) (sym (with k)) in
    let at : 0 + k ≡ k = omega arith in
    let few : served cs k ≤ 1 = least (is_with_cpu [] k) (served cs k) (once_served hd [] cs good k) in
    let w = with k in
    placed_by (belongs (config_of hd) k) (is_with_cpu cs k) (nat_lt k 16) (with_cpus k hs)
    (holds spare_number k pool.spares) (holds fenced_number k pool.fenced) (place_in cores k)
    (sym tests) (omega (arith, few, w)) (p.spares k) (p.fenced k)
    (λ inside.
    let lt : k < 16 = grind (arith, nat_tests) in
    let got : slice_get cores k ≡ Some c = slice_get-get_or cores k no_core (omega (arith, lt, long)) in
    let g : CoreGood hd cs k c = subst (λ q. CoreGood hd cs q c) at (each_core_good hd cs 0 cores cgood k c got) in
    subst (λ q. place_good hd cs k q ≡ true) (sym (ap place_said got)) g.place)
    (outside hd k a b) (λ t. belongs_served hd [] cs good k (sym (any_served cs k) ∙ t))
