-- Carrying out the fields of an event is the event.
use Rattle.std.proofs.Common.{◌≡◌, ℕ, ◌+◌, ◌-◌, ◌%◌, ◌<◌, ◌≤◌, List, [], ◌∷◌, ◌++◌, length, take, drop, refl, sym, ap, ◌∙◌, arith, subst}
use Rattle.std.specs.Prelude.{◌==◌, if◌then◌else◌, nat_le, true, false, min, Option, Some, None}
use Rattle.std.proofs.lemmas.Grind.{common_steps}
use Rattle.esa_model.specs.declared.events.Interruption.{Interruption}
use Rattle.esa_model.specs.declared.events.Interruption.TheVariants.{Program, SupervisorCall, External, Restart}
use Rattle.esa_model.specs.declared.machine.Registers.{Registers}
use Rattle.esa_model.specs.declared.machine.Psw.{Psw}
use Rattle.esa_model.specs.Access.{place, written}
use Rattle.esa_model.specs.Unit.{Done}
use Rattle.esa_model.specs.Machine.{Machine, changed, reference_all, swap_stored, swap_changed, storage_after, keys_after}
use Rattle.esa_model.specs.Packet.{fields, filled, first_piece, piece_at, old_psw}
use Rattle.esa_model.specs.PacketCodes.{interruption_of, interruption_number}
use Rattle.esa_model.specs.Apply.{piece, piece_keys, applied_storage, applied_keys}
use Rattle.operand_access.proofs.Over.{length-written, written-append}
use Rattle.packet_law.proofs.Spell.{place_more, written_piece, changed_piece}
use Rattle.packet_law.specs.Sound.{IsSound}

-- ---- one piece

ends : (r : Registers) (at n size : ℕ) → at % 4096 + n ≤ 4096 → 0 < n → place r (at + (n - 1)) < size → place r at + n ≤ size
ends r at n size h some inside = let e = place_more r at (n - 1) (omega (arith, h, some)) in omega (arith, e, inside, some)

part : (r : Registers) (at : ℕ) (xs s : List ℕ) → at % 4096 + length xs ≤ 4096 → (0 < length xs → place r at + length xs ≤ length s)
    → piece (piece_at r at (length xs)) xs s ≡ written r at xs s
part r at [] s h inside = grind arith
part r at (x ∷ xs) s h inside =
    let fit : nat_le (place r at + length (x ∷ xs)) (length s) ≡ true = let i = inside (omega arith) in grind (arith, i) in
    let some : (length (x ∷ xs) == 0) ≡ false = grind arith in
    rw (some, fit) (sym (written_piece r at (x ∷ xs) s h))

part_keys : (r : Registers) (size at : ℕ) (xs keys : List ℕ) → at % 4096 + length xs ≤ 4096 → (0 < length xs → place r at + length xs ≤ size)
    → piece_keys size (piece_at r at (length xs)) xs keys ≡ changed r size at xs keys
part_keys r size at [] keys h inside = grind arith
part_keys r size at (x ∷ xs) keys h inside =
    let i = inside (omega arith) in
    let fit : nat_le (place r at + length (x ∷ xs)) size ≡ true = grind (arith, i) in
    let some : (length (x ∷ xs) == 0) ≡ false = grind arith in
    rw (some, fit) (sym (changed_piece r size at (x ∷ xs) keys h i))

changed-append : (r : Registers) (size at : ℕ) (xs ys keys : List ℕ) → changed r size at (xs ++ ys) keys ≡ changed r size (at + length xs) ys (changed r size at xs keys)
changed-append r size at [] ys keys = let e : at + 0 ≡ at = omega arith in rw e refl
changed-append r size at (x ∷ xs) ys keys =
    let e : at + 1 + length xs ≡ at + length (x ∷ xs) = omega arith in
    changed-append r size (at + 1) xs ys _
    ∙ ap (λ (k : ℕ). changed r size k ys (changed r size at (x ∷ xs) keys)) e

-- ---- the tail

front : (n : ℕ) (stored other : List ℕ) → n ≤ length stored → take n (filled 256 (if length stored == 0 then other else stored)) ≡ take n stored
front n [] other h = let e : n ≡ 0 = omega (arith, h) in rw e refl
front n (x ∷ xs) other h = grind (arith, common_steps, h)

back : (n m : ℕ) (stored other : List ℕ) → n + m ≡ length stored → take m (drop n (filled 256 (if length stored == 0 then other else stored))) ≡ drop n stored
back n m [] other h = let e : n ≡ 0 = omega (arith, h) in let f : m ≡ 0 = omega (arith, h) in rw (e, f) refl
back n m (x ∷ xs) other h = grind (arith, common_steps, h)

joined : (n : ℕ) (xs : List ℕ) → take n xs ++ drop n xs ≡ xs
joined n xs = grind (arith, common_steps)

long_front : (n : ℕ) (xs : List ℕ) → n ≤ length xs → length (take n xs) ≡ n
long_front n xs h = grind (arith, common_steps, h)

long_back : (n : ℕ) (xs : List ℕ) → length (drop n xs) ≡ length xs - n
long_back n xs = grind (arith, common_steps)

-- ---- both pieces

record Pieces (r : Registers) (to n size : ℕ) (stored : List ℕ) : Type 0 where
  short : n ≤ length stored
  first : to % 4096 + n ≤ 4096
  first_in : 0 < n → place r to + n ≤ size
  second : (to + n) % 4096 + (length stored - n) ≤ 4096
  second_in : 0 < length stored - n → place r (to + n) + (length stored - n) ≤ size

cut : (m : Machine) (i : ℕ) (d : Done) → IsSound m i d → Pieces (m.registers i) d.to (first_piece d) (length m.storage) d.stored
cut m i d e =
    let r : Registers = m.registers i in
    let size : ℕ = length m.storage in
    let n : ℕ = min (length d.stored) (4096 - d.to % 4096) in
    let long = e.stored in
    let second : (d.to + n) % 4096 + (length d.stored - n) ≤ 4096 = grind (arith, long) in
    record {
      short = grind arith;
      first = grind arith;
      first_in = λ some. ends r d.to n size (grind arith) some (e.inside (n - 1) (grind (arith, some)));
      second = second;
      second_in = λ some. ends r (d.to + n) (length d.stored - n) size second some
          (subst (λ (k : ℕ). place r k < size) (omega (arith, some)) (e.inside (length d.stored - 1) (omega (arith, some))));
    }

spelled : (r : Registers) (to n : ℕ) (stored s : List ℕ) → Pieces r to n (length s) stored
    → piece (piece_at r (to + n) (length stored - n)) (drop n stored) (piece (piece_at r to n) (take n stored) s) ≡ written r to stored s
spelled r to n stored s p =
    let a : length (take n stored) ≡ n = long_front n stored p.short in
    let b : length (drop n stored) ≡ length stored - n = long_back n stored in
    let one : piece (piece_at r to n) (take n stored) s ≡ written r to (take n stored) s =
    subst (λ (k : ℕ). piece (piece_at r to k) (take n stored) s ≡ written r to (take n stored) s) a
    (part r to (take n stored) s (omega (arith, a, p.first)) (λ some. let i = p.first_in (omega (arith, a, some)) in omega (arith, a, i))) in
    let same : length (written r to (take n stored) s) ≡ length s = length-written r to (take n stored) s in
    let two : piece (piece_at r (to + n) (length stored - n)) (drop n stored) (written r to (take n stored) s) ≡ written r (to + n) (drop n stored) (written r to (take n stored) s) =
    subst (λ (k : ℕ). piece (piece_at r (to + n) k) (drop n stored) (written r to (take n stored) s) ≡ written r (to + n) (drop n stored) (written r to (take n stored) s)) b
    (part r (to + n) (drop n stored) (written r to (take n stored) s) (omega (arith, b, p.second)) (λ some. let i = p.second_in (omega (arith, b, some)) in omega (arith, b, i, same))) in
    ap (piece (piece_at r (to + n) (length stored - n)) (drop n stored)) one
    ∙ (two
    ∙ (ap (λ (k : ℕ). written r (to + k) (drop n stored) (written r to (take n stored) s)) (sym a)
    ∙ (sym (written-append r to (take n stored) (drop n stored) s)
    ∙ ap (λ (xs : List ℕ). written r to xs s) (joined n stored))))

spelled_keys : (r : Registers) (size to n : ℕ) (stored keys : List ℕ) → Pieces r to n size stored
    → piece_keys size (piece_at r (to + n) (length stored - n)) (drop n stored) (piece_keys size (piece_at r to n) (take n stored) keys) ≡ changed r size to stored keys
spelled_keys r size to n stored keys p =
    let a : length (take n stored) ≡ n = long_front n stored p.short in
    let b : length (drop n stored) ≡ length stored - n = long_back n stored in
    let one : piece_keys size (piece_at r to n) (take n stored) keys ≡ changed r size to (take n stored) keys =
    subst (λ (k : ℕ). piece_keys size (piece_at r to k) (take n stored) keys ≡ changed r size to (take n stored) keys) a
    (part_keys r size to (take n stored) keys (omega (arith, a, p.first)) (λ some. let i = p.first_in (omega (arith, a, some)) in omega (arith, a, i))) in
    let k1 : List ℕ = changed r size to (take n stored) keys in
    let two : piece_keys size (piece_at r (to + n) (length stored - n)) (drop n stored) k1 ≡ changed r size (to + n) (drop n stored) k1 =
    subst (λ (k : ℕ). piece_keys size (piece_at r (to + n) k) (drop n stored) k1 ≡ changed r size (to + n) (drop n stored) k1) b
    (part_keys r size (to + n) (drop n stored) k1 (omega (arith, b, p.second)) (λ some. let i = p.second_in (omega (arith, b, some)) in omega (arith, b, i))) in
    ap (piece_keys size (piece_at r (to + n) (length stored - n)) (drop n stored)) one
    ∙ (two
    ∙ (ap (λ (k : ℕ). changed r size (to + k) (drop n stored) k1) (sym a)
    ∙ (sym (changed-append r size to (take n stored) (drop n stored) keys)
    ∙ ap (λ (xs : List ℕ). changed r size to xs keys) (joined n stored))))

-- ---- the other fields

blocks_known : (bs : List ℕ) → length bs ≤ 8 → (if nat_le (length bs) 8 then take (length bs) (filled 8 bs) else []) ≡ bs
blocks_known bs h = grind (arith, common_steps, h)

-- what an interruption stores
stored_known : (r : Registers) (k : Option Interruption) (p : Psw) (n : ℕ) (s : List ℕ)
    → swap_stored r (interruption_of (interruption_number k)) (old_psw k p) n s ≡ swap_stored r k p n s
stored_known r None p n s = refl
stored_known r (Some Program) p n s = refl
stored_known r (Some SupervisorCall) p n s = refl
stored_known r (Some External) p n s = refl
stored_known r (Some Restart) p n s = refl

changed_known : (r : Registers) (k : Option Interruption) (p : Psw) (n size : ℕ) (keys : List ℕ)
    → swap_changed r (interruption_of (interruption_number k)) (old_psw k p) n size keys ≡ swap_changed r k p n size keys
changed_known r None p n size keys = refl
changed_known r (Some Program) p n size keys = refl
changed_known r (Some SupervisorCall) p n size keys = refl
changed_known r (Some External) p n size keys = refl
changed_known r (Some Restart) p n size keys = refl

-- ---- the storage and the keys

pub storage_known : (m : Machine) (i : ℕ) (d : Done) → IsSound m i d
    → applied_storage (m.registers i) (fields (m.registers i) d m.storage) m.storage ≡ storage_after (m.registers i) d m.storage
unfolding applied_storage storage_after fields
storage_known m i d e =
    let r : Registers = m.registers i in
    let p = cut m i d e in
    let first = front (first_piece d) d.stored d.console_out p.short in
    let second = back (first_piece d) (length d.stored - first_piece d) d.stored d.console_out (let h = p.short in omega (arith, h)) in
    stored_known r d.interruption d.registers.psw d.identification _
    ∙ rw (first, second, spelled r d.to (first_piece d) d.stored m.storage p) refl

pub keys_known : (m : Machine) (i : ℕ) (d : Done) → IsSound m i d
    → applied_keys (m.registers i) (fields (m.registers i) d m.storage) (length m.storage) m.keys ≡ keys_after (m.registers i) d (length m.storage) m.keys
unfolding applied_keys keys_after fields
keys_known m i d e =
    let r : Registers = m.registers i in
    let p = cut m i d e in
    let first = front (first_piece d) d.stored d.console_out p.short in
    let second = back (first_piece d) (length d.stored - first_piece d) d.stored d.console_out (let h = p.short in omega (arith, h)) in
    changed_known r d.interruption d.registers.psw d.identification (length m.storage) _
    ∙ rw (
      first,
      second,
      blocks_known d.blocks e.blocks,
      spelled_keys r (length m.storage) d.to (first_piece d) d.stored (reference_all d.blocks m.keys) p,
    ) refl
