-- The fields of an event of typed values fit the packet.
use Rattle.std.proofs.Common.{◌≡◌, ℕ, zero, suc, ◌+◌, ◌*◌, ◌-◌, ◌/◌, ◌%◌, ◌^◌, ◌<◌, ◌≤◌, List, [], ◌∷◌, length, get_or, replicate, map, sym, arith, subst}
use Rattle.std.specs.Prelude.{◌==◌, if◌then◌else◌, Bool, true, false, All, Option, Some, None, slice_set}
use Rattle.std.specs.Int.{w32, to_be_bytes, bytes_high_first, byte_at}
use Rattle.std.specs.List.{range_with_len}
use Rattle.std.proofs.lemmas.Grind.{common_steps}
use Rattle.std.proofs.lemmas.List.Elements.{All-nil, All-cons, All-head, All-tail, All-append, All-set, All-replicate}
use Rattle.std.proofs.lemmas.Option.{unwrap_or-slice_get}
use Rattle.byteorder.specs.Numbers.{big_from-lt}
use Rattle.esa_model.specs.declared.events.Interruption.{Interruption}
use Rattle.esa_model.specs.declared.events.Interruption.TheVariants.{Program, SupervisorCall, External, Restart}
use Rattle.esa_model.specs.declared.events.Taken.{Taken}
use Rattle.esa_model.specs.declared.events.Taken.TheVariants as taking
use Rattle.esa_model.specs.declared.machine.Registers.{Registers}
use Rattle.esa_model.specs.declared.machine.Request.{Request}
use Rattle.esa_model.specs.declared.machine.Request.TheVariants as requested
use Rattle.esa_model.specs.declared.machine.Psw.{Psw}
use Rattle.esa_model.specs.Access.{place, prefix_page, real, byte, bytes, written}
use Rattle.esa_model.specs.Line.{word_at}
use Rattle.esa_model.specs.Places.{old_at, new_at, identification_at}
use Rattle.esa_model.specs.Unit.{Done}
use Rattle.esa_model.specs.Machine.{Machine, psw_bytes, identification_bytes, swap_stored, storage_after, psw_by, psw_after, registers_after}
use Rattle.esa_model.specs.Packet.{fields, filled, first_piece, piece_at, console_kind, console_count, old_psw}
use Rattle.esa_model.specs.PacketCodes.{interruption_number, request_number, taken_number}
use Rattle.row_frame.specs.Made.{ReadsConsole}
use Rattle.packet_law.specs.Fine.{IsFine}
use Rattle.packet_law.specs.Sound.{IsSound}
use Rattle.packet_law.specs.Widths.{HasWidths}

-- ---- bytes

abbrev AreBytes : List ℕ → Type 0
AreBytes xs = All (λ b. b < 256) xs

below : (xs : List ℕ) → AreBytes xs → (k : ℕ) → get_or xs k 0 < 256
below [] h k = omega arith
below (x ∷ xs) h zero = All-head (λ b. b < 256) x xs h
below (x ∷ xs) h (suc k) = below xs (All-tail (λ b. b < 256) x xs h) k

one_byte : (n x : ℕ) → byte_at n x < 256
one_byte zero x = omega arith
one_byte (suc n) x = omega arith

number_bytes : (n x : ℕ) → AreBytes (bytes_high_first n x)
number_bytes zero x = All-nil (λ b. b < 256)
number_bytes (suc n) x = All-cons (λ b. b < 256) (byte_at n x) (bytes_high_first n x) (one_byte n x) (number_bytes n x)

written_bytes : (r : Registers) (at : ℕ) (xs s : List ℕ) → AreBytes xs → AreBytes s → AreBytes (written r at xs s)
written_bytes r at [] s h bs = bs
written_bytes r at (x ∷ xs) s h bs =
    written_bytes r (at + 1) xs (slice_set s (place r at) x) (All-tail (λ b. b < 256) x xs h)
    (All-set (λ b. b < 256) s (place r at) x (All-head (λ b. b < 256) x xs h) bs)

psw_are_bytes : (p : Psw) → AreBytes (psw_bytes p)
psw_are_bytes p =
    All-append (λ b. b < 256) (to_be_bytes w32 p.w0) (to_be_bytes w32 p.w1) (number_bytes 4 p.w0) (number_bytes 4 p.w1)

own_bytes : (k : Interruption) (n : ℕ) → AreBytes (identification_bytes k n)
own_bytes Program n = number_bytes 4 n
own_bytes SupervisorCall n = number_bytes 4 n
own_bytes External n = number_bytes 4 n
own_bytes Restart n = All-nil (λ b. b < 256)

swap_bytes : (r : Registers) (k : Option Interruption) (p : Psw) (n : ℕ) (s : List ℕ) → AreBytes s → AreBytes (swap_stored r k p n s)
swap_bytes r None p n s bs = bs
swap_bytes r (Some k) p n s bs =
    written_bytes r (identification_at k) (identification_bytes k n) _ (own_bytes k n)
    (written_bytes r (old_at k) (psw_bytes p) s (psw_are_bytes p) bs)

after_bytes : (r : Registers) (d : Done) (s : List ℕ) → AreBytes d.stored → AreBytes s → AreBytes (storage_after r d s)
unfolding storage_after
after_bytes r d s h bs = swap_bytes r d.interruption d.registers.psw d.identification _ (written_bytes r d.to d.stored s h bs)

-- ---- words of the storage

byte_below : (r : Registers) (s : List ℕ) (n : ℕ) → AreBytes s → byte r s n < 256
unfolding byte
byte_below r s n h = subst (λ (b : ℕ). b < 256) (sym (unwrap_or-slice_get s (place r n) 0)) (below s h (place r n))

mapped_bytes : (f : ℕ → ℕ) (ks : List ℕ) → ((k : ℕ) → f k < 256) → AreBytes (map f ks)
mapped_bytes f [] h = All-nil (λ b. b < 256)
mapped_bytes f (k ∷ ks) h = All-cons (λ b. b < 256) (f k) (map f ks) (h k) (mapped_bytes f ks h)

word_below : (r : Registers) (s : List ℕ) (at : ℕ) → AreBytes s → word_at r s at < 2 ^ 32
unfolding word_at bytes
word_below r s at h =
    big_from-lt 0 4 (map (λ k. byte r s (at + k)) (range_with_len 0 4))
    (below (map (λ k. byte r s (at + k)) (range_with_len 0 4))
    (mapped_bytes (λ k. byte r s (at + k)) (range_with_len 0 4) (λ k. byte_below r s (at + k) h)))

-- ---- PSWs

record IsPair (p : Psw) : Type 0 where
  w0 : p.w0 < 2 ^ 32
  w1 : p.w1 < 2 ^ 32

fetched_pair : (r : Registers) (k : Option Interruption) (p : Psw) (s : List ℕ) → IsPair p → AreBytes s → IsPair (psw_by r k p s)
fetched_pair r None p s h bs = h
fetched_pair r (Some k) p s h bs = record { w0 = word_below r s (new_at k) bs; w1 = word_below r s (new_at k + 4) bs }

psw_pair : (r : Registers) (d : Done) (s : List ℕ) → HasWidths d s → IsPair (psw_after r d s)
unfolding psw_after
psw_pair r d s h =
    fetched_pair r d.interruption d.registers.psw (storage_after r d s) (record { w0 = h.w0; w1 = h.w1 }) (after_bytes r d s h.stored h.bytes)

old_pair : (k : Option Interruption) (p : Psw) → IsPair p → IsPair (old_psw k p)
old_pair None p h = record { w0 = omega arith; w1 = omega arith }
old_pair (Some k) p h = h

-- ---- numbers of interruptions and of what is taken

interruption_below : (k : Option Interruption) → interruption_number k < 256
interruption_below None = omega arith
interruption_below (Some Program) = omega arith
interruption_below (Some SupervisorCall) = omega arith
interruption_below (Some External) = omega arith
interruption_below (Some Restart) = omega arith

request_below : (q : Request) → request_number q < 256
request_below requested.Key = omega arith
request_below (requested.Malfunction c) = omega arith
request_below (requested.Emergency c) = omega arith
request_below (requested.ExternalCall c) = omega arith
request_below requested.Comparator = omega arith
request_below requested.Timer = omega arith

taken_below : (t : Option Taken) → taken_number t < 256
taken_below None = omega arith
taken_below (Some (taking.Request q)) = request_below q
taken_below (Some taking.Restart) = omega arith

-- ---- pieces

real_below : (b : Bool) (n : ℕ) → (if b then n % 2 ^ 31 else n % 2 ^ 24) < 2 ^ 31
real_below true n = omega arith
real_below false n = omega arith

exchanged : (a b : Bool) (page n : ℕ) → page < 2 ^ 19 → n < 2 ^ 31 → (if a then page * 4096 + n % 4096 else if b then n % 4096 else n) < 2 ^ 31
exchanged true b page n h k = omega (arith, h)
exchanged false true page n h k = omega arith
exchanged false false page n h k = k

place_below : (r : Registers) (n : ℕ) → place r n < 2 ^ 31
unfolding place
place_below r n =
    exchanged (real r n / 4096 == 0) (real r n / 4096 == prefix_page r.prefix) (prefix_page r.prefix) (real r n) (omega arith) (real_below _ n)

none_or_place : (b : Bool) (a : ℕ) → a < 2 ^ 31 → (if b then 0 else a) < 2 ^ 32
none_or_place true a h = omega arith
none_or_place false a h = omega (arith, h)

piece_below : (r : Registers) (at n : ℕ) → piece_at r at n < 2 ^ 32
piece_below r at n = none_or_place (n == 0) (place r at) (place_below r at)

-- ---- the console and the filled lists

kind_below : (o : Option ℕ) (out : List ℕ) → console_kind o out < 256
kind_below None [] = omega arith
kind_below None (x ∷ out) = grind arith
kind_below (Some n) out = omega arith

count_below : (o : Option ℕ) (left : ℕ) (out : List ℕ) → length out ≤ 256 → ReadsConsole o left out → console_count o out < 65536
count_below None left out h reads = omega (arith, h)
count_below (Some n) left out h reads = let most = reads.most in omega (arith, most)

length-filled : (n : ℕ) (xs : List ℕ) → length xs ≤ n → length (filled n xs) ≡ n
length-filled n xs h = grind (arith, common_steps, h)

one_of : (b : Bool) (xs ys : List ℕ) → length xs ≤ 256 → length ys ≤ 256 → length (if b then xs else ys) ≤ 256
one_of true xs ys h k = h
one_of false xs ys h k = k

-- ---- the whole

pub fits : (m : Machine) (i : ℕ) (d : Done) → IsSound m i d → HasWidths d m.storage → IsFine (fields (m.registers i) d m.storage)
unfolding fields registers_after
fits m i d e h =
    let r : Registers = m.registers i in
    let psw = psw_pair r d m.storage h in
    let old = old_pair d.interruption d.registers.psw (record { w0 = h.w0; w1 = h.w1 }) in
    let stored = e.stored in
    let eight = e.blocks in
    record {
      general = h.general;
      generals = h.generals;
      control = h.control;
      controls = h.controls;
      clocks = h.clocks;
      four = h.four;
      w0 = psw.w0;
      w1 = psw.w1;
      prefix = h.prefix;
      kind = interruption_below d.interruption;
      old0 = old.w0;
      old1 = old.w1;
      identification = h.identification;
      request = taken_below d.taken;
      sender = h.sender;
      order_to = h.order_to;
      order = h.order;
      block = h.block;
      key = h.key;
      console = kind_below d.console_in d.console_out;
      count = count_below d.console_in (length m.console) d.console_out e.written e.read;
      first_len = grind (arith, stored);
      first_at = piece_below r d.to (first_piece d);
      second_len = omega (arith, stored);
      second_at = piece_below r (d.to + first_piece d) (length d.stored - first_piece d);
      block_count = omega (arith, eight);
      blocks = All-append (λ b. b < 65536) d.blocks (replicate (8 - length d.blocks) 0) h.blocks (All-replicate (λ b. b < 65536) (8 - length d.blocks) 0 (omega arith));
      eight = length-filled 8 d.blocks e.blocks;
      tail = length-filled 256 (if length d.stored == 0 then d.console_out else d.stored) (one_of (length d.stored == 0) d.console_out d.stored e.written e.stored);
    }
