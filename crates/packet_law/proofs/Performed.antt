-- A row is sound whose operands and effect are as the frame wants them, completed or suppressed.
use Rattle.std.proofs.Common.{◌≡◌, ℕ, zero, suc, ◌+◌, ◌<◌, ◌≤◌, List, [], ◌∷◌, length, get_or, refl, ap, ◌∙◌, arith, subst, inl, false}
use Rattle.std.specs.Prelude.{◌==◌, ◌&&◌, if◌then◌else◌, Bool, map}
use Rattle.std.specs.List.{range_with_len}
use Rattle.std.proofs.lemmas.List.FromFn.{get_or-range_with_len}
use Rattle.esa_model.specs.declared.machine.Registers.{Registers}
use Rattle.esa_model.specs.declared.instructions.Row.{Row}
use Rattle.esa_model.specs.declared.instructions.Decoded.{Decoded}
use Rattle.esa_model.specs.declared.codes.TheConstants.{PRIVILEGED, SPECIFICATION}
use Rattle.esa_model.specs.Word.{first_code}
use Rattle.esa_model.specs.Psw.{is_problem}
use Rattle.esa_model.specs.Access.{Memory, Operands, permit, codes, refused, place}
use Rattle.esa_model.specs.Line.{Effect, FullLine, Situation, memory_of}
use Rattle.esa_model.specs.Unit.{Done, suppressed, carried, exception, performed}
use Rattle.esa_model.specs.Machine.{Machine}
use Rattle.packet_law.specs.Sound.{IsSound}
use Rattle.packet_law.specs.Rows.{Tells, TellsCompleted, inputs_at}

-- ---- a first operand that is not refused lies inside

each_zero : (f : ℕ → ℕ) (xs : List ℕ) (k : ℕ) → first_code (map f xs) ≡ 0 → k < length xs → f (get_or xs k 0) ≡ 0
each_zero f [] k h lt = absurd (omega arith)
each_zero f (x ∷ xs) zero h lt = grind (arith, h)
each_zero f (x ∷ xs) (suc k) h lt = each_zero f xs k (grind (arith, h)) (omega arith)

permitted : (r : Registers) (m : Memory) (s : Bool) (n : ℕ) → permit r m s n ≡ 0 → place r n < length m.storage
unfolding permit
permitted r m s n h = grind (arith, h)

first_passes : (r : Registers) (m : Memory) (os : Operands) → refused r m os ≡ 0 → os.paired ≡ false → first_code (codes r m os.first) ≡ 0
unfolding refused
first_passes r m os h e = grind (arith, h, e)

covered : (r : Registers) (m : Memory) (os : Operands) (n k : ℕ) → refused r m os ≡ 0 → os.paired ≡ false → os.first.offsets ≡ range_with_len 0 (length os.first.offsets)
    → n ≤ length os.first.offsets → k < n → place r (os.first.at + k) < length m.storage
unfolding codes
covered r m os n k h e front long lt =
    let zero_at = each_zero (λ (j : ℕ). permit r m os.first.store (os.first.at + j)) os.first.offsets k (first_passes r m os h e) (omega (arith, long, lt)) in
    let none : 0 + k ≡ k = omega arith in
    let is : get_or os.first.offsets k 0 ≡ k =
    ap (λ (xs : List ℕ). get_or xs k 0) front ∙ (get_or-range_with_len 0 (length os.first.offsets) k 0 (omega (arith, long, lt)) ∙ none) in
    permitted r m os.first.store (os.first.at + k) (subst (λ (j : ℕ). permit r m os.first.store (os.first.at + j) ≡ 0) is zero_at)

-- ---- completed and suppressed

completed : (m : Machine) (i len : ℕ) (os : Operands) (e : Effect) (blocks : List ℕ)
    → refused (m.registers i) (record { storage = m.storage; keys = m.keys }) os ≡ 0 → Tells m i os e blocks
    → IsSound m i (carried (m.registers i) len os e blocks)
completed m i len os e blocks h t = record {
  stored = t.stored;
  inside = λ k lt. covered (m.registers i) (record { storage = m.storage; keys = m.keys }) os (length e.stored) k h
      (t.covers.store (omega (arith, lt))) t.fits.first t.covers.short lt;
  written = t.written;
  one = t.covers.one;
  read = t.read;
  blocks = t.few;
  key = t.key;
  order = t.order;
}

stopped : (m : Machine) (i len code : ℕ) (blocks : List ℕ) → length blocks ≤ 8 → IsSound m i (suppressed (m.registers i) len code blocks)
unfolding suppressed
stopped m i len code blocks h = record {
  stored = omega arith;
  inside = λ k lt. absurd (omega (arith, lt));
  written = omega arith;
  one = inl refl;
  read = tt;
  blocks = h;
  key = tt;
  order = tt;
}

chosen : (m : Machine) (i code fault : ℕ) (x y z : Done) → (code ≡ 0 → fault ≡ 0 → IsSound m i x) → IsSound m i y → IsSound m i z
    → IsSound m i (if code == 0 then (if fault == 0 then x else y) else z)
chosen m i zero zero x y z h1 h2 h3 = h1 refl refl
chosen m i zero (suc f) x y z h1 h2 h3 = let e : (suc f == 0) ≡ false = grind arith in rw e h2
chosen m i (suc k) f x y z h1 h2 h3 = let e : (suc k == 0) ≡ false = grind arith in rw e h3

last_zero : (a b c : ℕ) → first_code (a ∷ b ∷ c ∷ []) ≡ 0 → c ≡ 0
last_zero a b c h = grind (arith, h)

not_refused : (row : Row) (l : FullLine) (s : Situation) → exception row l s ≡ 0 → refused s.inputs.registers (memory_of s) (l.operands s) ≡ 0
unfolding exception
not_refused row l s h =
    last_zero (if row.privileged && is_problem s.inputs.registers.psw then PRIVILEGED else 0) (if l.in_order s then 0 else SPECIFICATION)
    (refused s.inputs.registers (memory_of s) (l.operands s)) h

pub sound_row : (m : Machine) (i own len : ℕ) (d : Decoded) (row : Row) (l : FullLine) (blocks : List ℕ) → length blocks ≤ 8
    → TellsCompleted m i row l (inputs_at m i d own len) blocks
    → IsSound m i (performed row l (inputs_at m i d own len) blocks)
unfolding performed
sound_row m i own len d row l blocks few t =
    let x : Situation = inputs_at m i d own len in
    chosen m i (exception row l x) (l.effect x).fault
    (carried (m.registers i) len (l.operands x) (l.effect x) blocks)
    (suppressed (m.registers i) len (l.effect x).fault blocks)
    (suppressed (m.registers i) len (exception row l x) blocks)
    (λ h k. completed m i len (l.operands x) (l.effect x) blocks (not_refused row l x h) (t h k))
    (stopped m i len (l.effect x).fault blocks few)
    (stopped m i len (exception row l x) blocks few)
