-- Signals that a save says alike are the same.
use Rattle.std.specs.Prelude.{Option, Some, None, IfSome}
use Rattle.std.proofs.Common.{◌≡◌, ℕ, zero, suc, ◌+◌, ◌*◌, ◌<◌, Bool, true, false, List, length, refl, sym, ap, ◌∙◌, arith}
use Rattle.std.proofs.lemmas.List.{ext_get_or}
use Rattle.esa_model.specs.Bus.{cpu_no}
use Rattle.esa_model.specs.declared.machine.CpuNo.{CpuNo}
use Rattle.esa_model.specs.declared.machine.CpuState.{CpuState}
use Rattle.esa_model.specs.declared.machine.CpuState.TheVariants.{Operating, Stopped, CheckStop}
use Rattle.esa_model.specs.declared.machine.Signals.{Signals}
use Rattle.save_model.specs.declared.parts.SavedCpu.{SavedCpu}
use Rattle.core_turns.specs.declared.held.Held.{Held}
use Rattle.saved_machine.specs.Again.{HasFlags, HasCaller}
use Rattle.saved_machine.specs.Numbers.{bit, call_number, flag, mask_of, saved_cpu, state_number}

bit_same : (a b : Bool) → bit a ≡ bit b → a ≡ b
bit_same true true e = refl
bit_same false false e = refl
bit_same true false e = absurd (omega (arith, e))
bit_same false true e = absurd (omega (arith, e))

state_same : (a b : CpuState) → state_number a ≡ state_number b → a ≡ b
state_same Operating Operating e = refl
state_same Operating Stopped e = absurd (omega (arith, e))
state_same Operating CheckStop e = absurd (omega (arith, e))
state_same Stopped Operating e = absurd (omega (arith, e))
state_same Stopped Stopped e = refl
state_same Stopped CheckStop e = absurd (omega (arith, e))
state_same CheckStop Operating e = absurd (omega (arith, e))
state_same CheckStop Stopped e = absurd (omega (arith, e))
state_same CheckStop CheckStop e = refl

call_same : (a b : Option CpuNo) → IfSome a (λ c. c.0 < 255) → IfSome b (λ c. c.0 < 255)
    → call_number a ≡ call_number b → a ≡ b
call_same None None h k e = refl
call_same None (Some d) h k e = absurd (omega (arith, e, k))
call_same (Some c) None h k e = absurd (omega (arith, e, h))
call_same (Some c) (Some d) h k e = ap (λ n. Some (cpu_no n)) e

low_same : (a b : Bool) (m n : ℕ) → bit a + 2 * m ≡ bit b + 2 * n → (a ≡ b) × (m ≡ n)
low_same true true m n e = (refl, omega (arith, e))
low_same false false m n e = (refl, omega (arith, e))
low_same true false m n e = absurd (omega (arith, e))
low_same false true m n e = absurd (omega (arith, e))

below_eight : (P : ℕ → Type 0) → P 0 → P 1 → P 2 → P 3 → P 4 → P 5 → P 6 → P 7
    → (i : ℕ) → i < 8 → P i
below_eight P a b c d e f g h zero l = a
below_eight P a b c d e f g h (suc zero) l = b
below_eight P a b c d e f g h (suc (suc zero)) l = c
below_eight P a b c d e f g h (suc (suc (suc zero))) l = d
below_eight P a b c d e f g h (suc (suc (suc (suc zero)))) l = e
below_eight P a b c d e f g h (suc (suc (suc (suc (suc zero))))) l = f
below_eight P a b c d e f g h (suc (suc (suc (suc (suc (suc zero)))))) l = g
below_eight P a b c d e f g h (suc (suc (suc (suc (suc (suc (suc zero))))))) l = h
below_eight P a b c d e f g h (suc (suc (suc (suc (suc (suc (suc (suc i)))))))) l =
    absurd (omega (arith, l))

mask_same : (fs gs : List Bool) → length fs ≡ 8 → length gs ≡ 8 → mask_of fs ≡ mask_of gs
    → fs ≡ gs
mask_same fs gs n m e =
    let p0 = low_same (flag fs 0) (flag gs 0) _ _ e in
    let p1 = low_same (flag fs 1) (flag gs 1) _ _ p0.1 in
    let p2 = low_same (flag fs 2) (flag gs 2) _ _ p1.1 in
    let p3 = low_same (flag fs 3) (flag gs 3) _ _ p2.1 in
    let p4 = low_same (flag fs 4) (flag gs 4) _ _ p3.1 in
    let p5 = low_same (flag fs 5) (flag gs 5) _ _ p4.1 in
    let p6 = low_same (flag fs 6) (flag gs 6) _ _ p5.1 in
    let p7 = bit_same (flag fs 7) (flag gs 7) p6.1 in
    ext_get_or false fs gs (n ∙ sym m) (λ i h.
    below_eight (λ j. flag fs j ≡ flag gs j) p0.0 p1.0 p2.0 p3.0 p4.0 p5.0 p6.0 p7 i
    (omega (arith, h, n)))

abbrev made : CpuState → Bool → Bool → List Bool → List Bool → Option CpuNo → Signals
made state restart key malfunction emergency call = record {
  state = state;
  restart = restart;
  key = key;
  malfunction = malfunction;
  emergency = emergency;
  external_call = call;
}

pub signals_same : (s t : Signals) (h k : Held) → HasFlags s → HasFlags t → HasCaller s → HasCaller t
    → saved_cpu h s ≡ saved_cpu k t → s ≡ t
unfolding saved_cpu
signals_same s t h k f g p q e =
    let a = state_same s.state t.state (ap (λ (c : SavedCpu). c.state) e) in
    let b = bit_same s.restart t.restart (ap (λ (c : SavedCpu). c.restart) e) in
    let d = bit_same s.key t.key (ap (λ (c : SavedCpu). c.key) e) in
    let m = mask_same s.malfunction t.malfunction f.malfunction g.malfunction
    (ap (λ (c : SavedCpu). c.malfunction) e) in
    let n = mask_same s.emergency t.emergency f.emergency g.emergency
    (ap (λ (c : SavedCpu). c.emergency) e) in
    let l = call_same s.external_call t.external_call p.caller q.caller
    (ap (λ (c : SavedCpu). c.external_call) e) in
    ap (λ x. made x s.restart s.key s.malfunction s.emergency s.external_call) a
    ∙ ap (λ x. made t.state x s.key s.malfunction s.emergency s.external_call) b
    ∙ ap (λ x. made t.state t.restart x s.malfunction s.emergency s.external_call) d
    ∙ ap (λ x. made t.state t.restart t.key x s.emergency s.external_call) m
    ∙ ap (λ x. made t.state t.restart t.key t.malfunction x s.external_call) n
    ∙ ap (λ x. made t.state t.restart t.key t.malfunction t.emergency x) l
