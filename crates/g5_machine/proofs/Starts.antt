-- Cores are woken and spares are added, one after another.
use Rattle.std.specs.Prelude.{◌&&◌, nat_le, nat_lt, slice_get}
use Rattle.std.proofs.Common.{◌≡◌, ◌≢◌, ℕ, zero, suc, ◌+◌, ◌<◌, ◌≤◌, List, [], ◌∷◌, ◌++◌, Some, length, length-append, cond, refl, sym, ap, ◌∙◌, subst, arith, inl, inr, ◌⊎◌, if◌then◌else◌}
use Rattle.std.proofs.lemmas.Bool.Decides.{nat_tests}
use Rattle.esa_model.specs.Machine.{start_registers}
use Rattle.esa_model.specs.declared.machine.Registers.{Registers}
use Rattle.run_model.specs.declared.faults.CoreNo.{CoreNo}
use Rattle.silicon.specs.Chip.{Chip}
use Rattle.checkpoint_laws.specs.Stored.{KeepsOthers}
use Rattle.checkpoint_laws.proofs.Chips.{fills_others}
use Rattle.checkpoint_laws.proofs.Kept.{filled_stored, others_stay}
use Rattle.core_states.specs.Words.{Fills}
use Rattle.core_states.specs.declared.cores.RunningCore.{RunningCore}
use Rattle.core_states.specs.declared.cores.SpareCore.{SpareCore}
use Rattle.sparing.specs.Pools.{Absent, holds, put}
use Rattle.sparing.proofs.Puts.{holds_put}
use Rattle.core_turns.specs.Held.{AreStorable, CorePool, fenced_number, spare_number}
use Rattle.core_turns.specs.Places.{on, with_cpu, with_cpus}
use Rattle.core_turns.specs.declared.held.Held.{Held}
use Rattle.core_turns.specs.declared.held.Held.TheVariants.{Running, Recovering, Lost, Taken}
use Rattle.g5_machine.specs.Starting.{RunsFirst, SparesTo, StartsAt, Wakes, WokenTo}

-- ---- lists

with_more : (k : ℕ) (hs : List Held) (h : Held)
    → with_cpus k (hs ++ h ∷ []) ≡ with_cpus k hs + with_cpu k h
with_more k [] h = omega arith
with_more k (x ∷ xs) h = let r = with_more k xs h in omega (arith, r)

-- an element of a list with one more at its end is one of before, below its length, or the last
last_or : (hs : List Held) (g h : Held) (i : ℕ) → slice_get (hs ++ g ∷ []) i ≡ Some h
    → ((i < length hs) × (slice_get hs i ≡ Some h)) ⊎ ((i ≡ length hs) × (g ≡ h))
last_or [] g h zero e = inr (refl, cc e)
last_or [] g h (suc i) e = absurd (cc e)
last_or (x ∷ xs) g h zero e = inl (omega arith, e)
last_or (x ∷ xs) g h (suc i) e = elim (last_or xs g h i e) [
  | inl p ↦ let l = p.0 in inl (omega (arith, l), p.1)
  | inr p ↦ inr (ap suc p.0, p.1)
]

-- ---- cores

runs_on : (entry i k : ℕ) (h : Held) → RunsFirst entry i h → with_cpu k h ≡ on i k
runs_on entry i k (Running r) e = ap (λ c. on c k) e.0
runs_on entry i k (Recovering r) e = absurd e
runs_on entry i k (Lost c retries) e = absurd e
runs_on entry i k Taken e = absurd e

pub woken_core : (entry i : ℕ) (s : SpareCore) (k : RunningCore) (r : Registers) (old new : Chip)
    → s.core.0 ≡ i → k.core ≡ s.core → k.registers ≡ r → k.retries ≡ 0
    → r ≡ start_registers entry i → AreStorable r → Fills s.core.0 r old new
    → Wakes entry i old new (Running k)
woken_core entry i s k r old new number core registers retries are fits words = record {
  held = (ap (λ (c : CoreNo). c.0) core ∙ number, registers ∙ are, retries);
  fits = subst (λ (q : Registers). AreStorable q) are fits;
  words = subst (λ (q : Registers). Fills i q old new) are
      (subst (λ (q : ℕ). Fills q r old new) number words);
}

none_below : (k : ℕ) → cond {A = ℕ} (nat_lt k 0) 1 0 ≡ 0
none_below k = grind (arith, nat_tests)

one_below : (n k : ℕ)
    → (if nat_lt k (n + 1) then 1 else 0) ≡ (if nat_lt k n then 1 else 0) + on n k
one_below n k = grind (arith, nat_tests)

pub none_woken : (entry : ℕ) (z : Chip) (hs : List Held) → hs ≡ [] → WokenTo entry 0 z z hs
none_woken entry z hs e = record {
  all = ap length e;
  each = λ i h got. absurd (cc (ap (λ (q : List Held). slice_get q i) (sym e) ∙ got));
  places = λ k. ap (with_cpus k) e ∙ sym (none_below k);
  lines = refl;
  begun = λ k. refl;
  words = λ k w low lt. refl;
}

starts_still : (entry n i : ℕ) (mid new : Chip) (h : Held) → i < n → KeepsOthers n mid new
    → StartsAt entry i mid h → StartsAt entry i new h
starts_still entry n i mid new h lt keeps s = record {
  held = s.held;
  fits = s.fits;
  words = others_stay mid new n i (start_registers entry i) (λ w. 0) keeps
      (λ e. omega (arith, lt, e)) s.words;
}

starts_now : (entry n : ℕ) (mid new : Chip) (h : Held) → Wakes entry n mid new h
    → StartsAt entry n new h
starts_now entry n mid new h w = record {
  held = w.held;
  fits = w.fits;
  words = filled_stored mid new n (start_registers entry n) w.words;
}

pub one_woken : (entry n : ℕ) (old mid new : Chip) (hs hs2 : List Held) (h : Held)
    → WokenTo entry n old mid hs → Wakes entry n mid new h → hs2 ≡ hs ++ h ∷ []
    → WokenTo entry (n + 1) old new hs2
one_woken entry n old mid new hs hs2 h before w e =
    let keeps : KeepsOthers n mid new = fills_others n mid new (start_registers entry n) w.words in
    record {
      all = let l = length-append hs (h ∷ []) in let a = before.all in
          ap length e ∙ omega (arith, l, a);
      each = λ i g got.
          elim (last_or hs h g i (ap (λ (q : List Held). slice_get q i) (sym e) ∙ got)) [
            | inl p ↦ starts_still entry n i mid new g
                (subst (λ (q : ℕ). i < q) before.all p.0) keeps (before.each i g p.1)
            | inr p ↦ subst (λ (q : ℕ). StartsAt entry q new g) (sym (p.0 ∙ before.all))
                (subst (λ (q : Held). StartsAt entry n new q) p.1 (starts_now entry n mid new h w))
          ];
      places = λ k.
          let a = before.places k in
          let m = with_more k hs h in
          let r = runs_on entry n k h w.held in
          let b = one_below n k in
          ap (with_cpus k) e ∙ omega (arith, a, m, r, b);
      lines = w.words.lines ∙ before.lines;
      begun = λ k. w.words.begun k ∙ before.begun k;
      words = λ k v low lt.
          let ne : k ≢ n = λ q. omega (arith, low, q) in
          let early : n ≤ k = omega (arith, low) in
          keeps k v ne lt ∙ before.words k v early lt;
    }

-- ---- spares

none_from : (k : ℕ) → cond {A = ℕ} (nat_le 8 k && nat_lt k (8 + 0)) 1 0 ≡ 0
none_from k = grind (arith, nat_tests)

one_from : (j k : ℕ) → (if nat_le 8 k && nat_lt k (8 + (j + 1)) then 1 else 0)
    ≡ on (8 + j) k + (if nat_le 8 k && nat_lt k (8 + j) then 1 else 0)
one_from j k = grind (arith, nat_tests)

not_yet : (j : ℕ) → cond {A = ℕ} (nat_le 8 (8 + j) && nat_lt (8 + j) (8 + j)) 1 0 ≡ 0
not_yet j = grind (arith, nat_tests)

pub no_spares : (p : CorePool) → p ≡ record { spares = []; fenced = [] } → SparesTo 0 p
no_spares p e = record {
  spares = λ k. ap (λ (q : CorePool). holds spare_number k q.spares) e ∙ sym (none_from k);
  fenced = ap (λ (q : CorePool). q.fenced) e;
}

pub spare_absent : (j c : ℕ) (p : CorePool) → c ≡ 8 + j → SparesTo j p
    → Absent spare_number fenced_number c p
spare_absent j c p e s = (
  subst (λ (q : ℕ). holds spare_number q p.spares ≡ 0) (sym e) (s.spares (8 + j) ∙ not_yet j),
  ap (holds fenced_number c) s.fenced,
)

pub one_spare : (j : ℕ) (x : SpareCore) (p q : CorePool) → x.core.0 ≡ 8 + j → SparesTo j p
    → q ≡ record p { spares = put spare_number x p.spares } → SparesTo (j + 1) q
one_spare j x p q c s e = record {
  spares = λ k.
      let a = s.spares k in
      let h = holds_put spare_number k x p.spares in
      let o = one_from j k in
      let t = ap (λ n. on n k) c in
      ap (λ (r : CorePool). holds spare_number k r.spares) e ∙ omega (arith, a, h, o, t);
  fenced = ap (λ (r : CorePool). r.fenced) e ∙ s.fenced;
}
