-- Units are sound: completed rows by the law of rows, suppressed ones by themselves.
use Rattle.std.proofs.Common.{◌≡◌, ℕ, zero, suc, ◌<◌, ◌≤◌, List, [], ◌∷◌, length, refl, sym, ap, arith, subst, inl}
use Rattle.std.specs.Prelude.{Option, Some, None, true, slice_get, slice_set}
use Rattle.std.specs.Option.{unwrap_or}
use Rattle.esa_model.specs.declared.machine.Registers.{Registers}
use Rattle.esa_model.specs.declared.machine.Signals.{Signals}
use Rattle.esa_model.specs.declared.events.SentOrder.{SentOrder}
use Rattle.esa_model.specs.declared.instructions.Row.{Row}
use Rattle.esa_model.specs.declared.instructions.Decoded.{Decoded}
use Rattle.esa_model.specs.Access.{Operands, refused, referenced}
use Rattle.esa_model.specs.Bus.{signals_of, taken}
use Rattle.esa_model.specs.Table.{row_numbered, fields}
use Rattle.esa_model.specs.Line.{Effect, FullLine, Side}
use Rattle.esa_model.specs.Unit.{Done, carried, exception, performed, suppressed}
use Rattle.esa_model.specs.Machine.{Machine}
use Rattle.operand_access.specs.Seen.{memory}
use Rattle.row_frame.specs.Made.{Fits, Covers, ReadsConsole, SetsKey}
use Rattle.packet_law.specs.Sound.{IsSound, IsSent, IsTaken}
use Rattle.packet_law.specs.Rows.{Tells, inputs_at}
use Rattle.control_rows.specs.Orders.{Sends}
use Rattle.twin_units.specs.Units.{IsAt}

-- ---- suppressed

pub suppressed_sound : (m : Machine) (i : ℕ) (r : Registers) (len code : ℕ) (blocks : List ℕ) → length blocks ≤ 8 → IsSound m i (suppressed r len code blocks)
unfolding suppressed
suppressed_sound m i r len code blocks h = record {
  stored = omega arith;
  inside = λ k lt. absurd (omega (arith, lt));
  written = omega arith;
  one = inl refl;
  read = tt;
  blocks = h;
  key = tt;
  order = tt;
}

-- ---- an order is sent over the bus as it was

put_back : (bus : List Signals) (i : ℕ) (q : Signals) → slice_set bus i (unwrap_or (slice_get bus i) q) ≡ bus
put_back [] i q = refl
put_back (s ∷ ss) zero q = refl
put_back (s ∷ ss) (suc i) q = ap (λ (xs : List Signals). s ∷ xs) (put_back ss i q)

not_taken : (i : ℕ) (bus : List Signals) → taken None i bus ≡ bus
unfolding taken signals_of
not_taken i bus = put_back bus i _

order_taken : (bus : List Signals) (i : ℕ) (sent : Option SentOrder) → i < length bus → Sends bus sent → IsSent sent i (taken None i bus)
order_taken bus i None there h = tt
order_taken bus i (Some o) there h =
    subst (λ (b : List Signals). IsTaken o.order i o.to b) (sym (not_taken i bus)) (record { sender = there; accepted = h })

-- ---- completed

-- the law of rows
abbrev pub SoundRows : Type 0
SoundRows = (m : Machine) (i own len : ℕ) (d : Decoded) (row : Row) (l : FullLine) (blocks : List ℕ) → length blocks ≤ 8
    → (exception row l (inputs_at m i d own len) ≡ 0 → (l.effect (inputs_at m i d own len)).fault ≡ 0
    → Tells m i (l.operands (inputs_at m i d own len)) (l.effect (inputs_at m i d own len)) blocks)
    → IsSound m i (performed row l (inputs_at m i d own len) blocks)

-- a line of these operands and this effect
abbrev settled : Operands → Effect → FullLine
settled os e = record { in_order = λ s. true; operands = λ s. os; effect = λ s. e }

-- a row that is not privileged
abbrev any_row : Row
any_row = row_numbered 134

abbrev any_fields : Decoded
any_fields = fields 0 0 0 0 0 0 0 0 0

carried_is : (m : Machine) (i len : ℕ) (os : Operands) (e : Effect) (blocks : List ℕ)
    → refused (m.registers i) (memory m.storage m.keys) os ≡ 0 → e.fault ≡ 0
    → performed any_row (settled os e) (inputs_at m i any_fields 0 len) blocks ≡ carried (m.registers i) len os e blocks
unfolding performed exception row_numbered
carried_is m i len os e blocks h f = rw (h, f) refl

completed : SoundRows → (m : Machine) (i len : ℕ) (os : Operands) (e : Effect) (blocks : List ℕ) → length blocks ≤ 8
    → refused (m.registers i) (memory m.storage m.keys) os ≡ 0 → e.fault ≡ 0 → Tells m i os e blocks
    → IsSound m i (carried (m.registers i) len os e blocks)
completed law m i len os e blocks few h f t =
    subst (λ (d : Done). IsSound m i d) (carried_is m i len os e blocks h f)
    (law m i 0 len any_fields any_row (settled os e) blocks few (λ x y. t))

-- what a typed effect of a row is known to be
pub record IsTyped (r : Registers) (os : Operands) (e : Effect) (blocks : List ℕ) : Type 0 where
  pub before : length blocks ≤ 8
  pub fits : Fits os
  pub covers : Covers os e
  pub stored : length e.stored ≤ 256
  pub written : length e.console_out ≤ 256
  pub few : length (referenced r os blocks) ≤ 8
  pub fault : e.fault ≡ 0

pub carried_sound : SoundRows → (m : Machine) (i : ℕ) (r : Registers) (storage : List ℕ) (side : Side) (len : ℕ) (os : Operands) (e : Effect) (blocks : List ℕ)
    → IsAt m i r storage side → IsTyped r os e blocks
    → refused r (memory storage side.keys) os ≡ 0
    → ReadsConsole e.console_in (length side.console) e.console_out → Sends side.bus e.sent → SetsKey e.set_key
    → IsSound m i (carried r len os e blocks)
carried_sound law m i r storage side len os e blocks at t h reads sends sets =
    let by = sym at.registers in
    let of = sym at.side in
    let reads_there : ReadsConsole e.console_in (length m.console) e.console_out =
    subst (λ (s : Side). ReadsConsole e.console_in (length s.console) e.console_out) of reads in
    let sends_there : Sends m.bus e.sent = subst (λ (s : Side). Sends s.bus e.sent) of sends in
    let refused_there : refused (m.registers i) (memory m.storage m.keys) os ≡ 0 =
    subst (λ (q : Registers). refused q (memory m.storage m.keys) os ≡ 0) by
    (subst (λ (s : List ℕ). refused r (memory s m.keys) os ≡ 0) (sym at.storage)
    (subst (λ (s : Side). refused r (memory storage s.keys) os ≡ 0) of h)) in
    let told : Tells m i os e blocks = record {
      fits = t.fits;
      covers = t.covers;
      stored = t.stored;
      written = t.written;
      read = reads_there;
      key = sets;
      order = order_taken m.bus i e.sent at.there sends_there;
      few = subst (λ (q : Registers). length (referenced q os blocks) ≤ 8) by t.few;
    } in
    subst (λ (q : Registers). IsSound m i (carried q len os e blocks)) at.registers
    (completed law m i len os e blocks t.before refused_there t.fault told)
