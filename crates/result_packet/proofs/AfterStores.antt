-- The storage after the three stores of an event, at one place.
use Rattle.std.proofs.Common.{◌≡◌, ℕ, ◌<◌, List, length, get_or, refl, sym, ◌∙◌, arith}
use Rattle.std.specs.Prelude.{slice_get, Some, None}
use Rattle.std.specs.Option.{unwrap_or}
use Rattle.std.proofs.lemmas.Option.{unwrap_or-slice_get, slice_get_past, slice_get_within, get_or_from_slice_get}
use Rattle.esa_model.specs.declared.machine.Registers.{Registers}
use Rattle.esa_model.specs.Access.{written}
use Rattle.operand_access.proofs.Over.{past, length-written}
use Rattle.result_packet.specs.Fetched.{Stores, stored_by}

length-after : (r : Registers) (t : Stores) (s : List ℕ) → length (stored_by r t s) ≡ length s
length-after r t s =
    length-written r t.own_at t.own (written r t.old_at t.old (written r t.to t.operand s))
    ∙ (length-written r t.old_at t.old (written r t.to t.operand s) ∙ length-written r t.to t.operand s)

pub outside_after : (r : Registers) (t : Stores) (a : ℕ) (s : List ℕ)
    → slice_get s a ≡ None → unwrap_or (slice_get (stored_by r t s) a) 0 ≡ 0
outside_after r t a s h =
    let long = length-after r t s in
    let out = past s a h in
    let none : slice_get (stored_by r t s) a ≡ None = slice_get_past (stored_by r t s) a (omega (arith, long, out)) in
    rw none refl

pub inside_after : (r : Registers) (t : Stores) (a b v : ℕ) (s : List ℕ) → slice_get s a ≡ Some b
    → ((storage : List ℕ) → a < length storage → get_or storage a 0 ≡ b → v ≡ get_or (stored_by r t storage) a 0)
    → unwrap_or (slice_get (stored_by r t s) a) 0 ≡ v
inside_after r t a b v s h told =
    unwrap_or-slice_get (stored_by r t s) a 0
    ∙ sym (told s (slice_get_within s a b h) (get_or_from_slice_get s a b 0 h))
