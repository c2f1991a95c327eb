-- A packet reads as the fields that it was made of.
use Rattle.std.proofs.Common.{◌≡◌, ℕ, zero, suc, ◌+◌, ◌*◌, ◌^◌, ◌<◌, ◌≤◌, List, [], ◌∷◌, length, take, drop, replicate, refl, ap, ◌∙◌, arith, subst}
use Rattle.std.specs.Prelude.{All}
use Rattle.std.proofs.lemmas.List.Elements.{recursion_from_All}
use Rattle.result_packet.proofs.Put.{length-put, length-numbers}
use Rattle.esa_model.specs.Packet.{put, Fields, number_at, numbers, numbers_at, built, psw_of, parts, packet_of, read}
use Rattle.packet_law.specs.Fine.{IsFine}
use Rattle.packet_law.proofs.Reading.{Above, part-built, number-known, numbers-known, psw-known}

-- the parts stand in ascending order from m, and inside
abbrev pub Ascending : ℕ → List (ℕ × List ℕ) → Type 0
Ascending m [] = m ≤ 512
Ascending m (f ∷ fs) = (m ≤ f.0) × Ascending (f.0 + length f.1) fs

ends : (m : ℕ) (fs : List (ℕ × List ℕ)) → Ascending m fs → m ≤ 512
ends m [] h = h
ends m (f ∷ fs) h = let e = ends (f.0 + length f.1) fs h.1 in omega (arith, h.0)

lower : (m e : ℕ) (fs : List (ℕ × List ℕ)) → e ≤ m → Ascending m fs → Ascending e fs
lower m e [] h asc = omega arith
lower m e (f ∷ fs) h asc = (omega arith, asc.1)

Above-ascending : (m : ℕ) (fs : List (ℕ × List ℕ)) → Ascending m fs → Above m fs
Above-ascending m [] h = tt
Above-ascending m (f ∷ fs) h = (
  h.0,
  ends (f.0 + length f.1) fs h.1,
  Above-ascending m fs (lower (f.0 + length f.1) m fs (omega (arith, h.0)) h.1),
)

-- part k of some
abbrev pub part : ℕ → List (ℕ × List ℕ) → ℕ × List ℕ
part k [] = (0, [])
part zero (f ∷ fs) = f
part (suc k) (f ∷ fs) = part k fs

-- each part is read back
pub field : (k m : ℕ) (fs : List (ℕ × List ℕ)) (p : List ℕ) → length p ≡ 512 → Ascending m fs
    → take (length (part k fs).1) (drop (part k fs).0 (built fs p)) ≡ (part k fs).1
field k m [] p l asc = refl
field zero m (f ∷ fs) p l asc =
    part-built (f.0 + length f.1) f.0 f.1 fs p l (omega arith) (ends (f.0 + length f.1) fs asc.1)
    (Above-ascending (f.0 + length f.1) fs asc.1)
field (suc k) m (f ∷ fs) p l asc =
    field k (f.0 + length f.1) fs (put f.0 f.1 p)
    (length-put f.0 f.1 p (let e = ends (f.0 + length f.1) fs asc.1 in omega arith) ∙ l) asc.1

ascending : (f : Fields) → IsFine f → Ascending 0 (parts f)
ascending f fine =
    let g : length (numbers 4 f.registers.general) ≡ 64 = length-numbers 4 f.registers.general ∙ ap (λ (k : ℕ). 4 * k) fine.generals in
    let c : length (numbers 4 f.registers.control) ≡ 64 = length-numbers 4 f.registers.control ∙ ap (λ (k : ℕ). 4 * k) fine.controls in
    let b : length (numbers 2 f.blocks) ≡ 16 = length-numbers 2 f.blocks ∙ ap (λ (k : ℕ). 2 * k) fine.eight in
    let d : length (numbers 8 f.registers.clocks) ≡ 32 = length-numbers 8 f.registers.clocks ∙ ap (λ (k : ℕ). 8 * k) fine.four in
    let t = fine.tail in
    search (arith, g, c, b, d, t) depth 60

-- a list of numbers of n bytes each is read back, where it is part k
numbers-field : (n k at len : ℕ) (ws : List ℕ) (f : Fields) → IsFine f → length ws ≡ len → All (λ w. w < 256 ^ n) ws
    → part k (parts f) ≡ (at, numbers n ws) → numbers_at n len at (built (parts f) (replicate 512 0)) ≡ ws
numbers-field n k at len ws f fine long fit is =
    let p : List ℕ = built (parts f) (replicate 512 0) in
    let there : take (length (numbers n ws)) (drop at p) ≡ numbers n ws =
    subst (λ (q : ℕ × List ℕ). take (length q.1) (drop q.0 p) ≡ q.1) is (field k 0 (parts f) (replicate 512 0) refl (ascending f fine)) in
    subst (λ (j : ℕ). numbers_at n j at p ≡ ws) long
    (numbers-known n at ws p (recursion_from_All _ ws fit)
    (subst (λ (j : ℕ). take j (drop at p) ≡ numbers n ws) (length-numbers n ws) there))

pub reads_back : (f : Fields) → IsFine f → read (packet_of f) ≡ f
unfolding packet_of read
reads_back f fine =
    let asc = ascending f fine in
    let zeros : List ℕ = replicate 512 0 in
    let p : List ℕ = built (parts f) zeros in
    let general : numbers_at 4 16 8 p ≡ f.registers.general = numbers-field 4 1 8 16 f.registers.general f fine fine.generals fine.general refl in
    let control : numbers_at 4 16 72 p ≡ f.registers.control = numbers-field 4 2 72 16 f.registers.control f fine fine.controls fine.control refl in
    let psw : psw_of 0 p ≡ f.registers.psw = psw-known 0 f.registers.psw.w0 f.registers.psw.w1 p fine.w0 fine.w1 (field 0 0 (parts f) zeros refl asc) in
    let prefix : number_at 4 136 p ≡ f.registers.prefix = number-known 4 136 f.registers.prefix p fine.prefix (field 3 0 (parts f) zeros refl asc) in
    let clocks : numbers_at 8 4 196 p ≡ f.registers.clocks = numbers-field 8 21 196 4 f.registers.clocks f fine fine.four fine.clocks refl in
    let old : psw_of 142 p ≡ f.old = psw-known 142 f.old.w0 f.old.w1 p fine.old0 fine.old1 (field 5 0 (parts f) zeros refl asc) in
    let kind : number_at 1 140 p ≡ f.kind = number-known 1 140 f.kind p fine.kind (field 4 0 (parts f) zeros refl asc) in
    let identification : number_at 4 150 p ≡ f.identification = number-known 4 150 f.identification p fine.identification (field 6 0 (parts f) zeros refl asc) in
    let request : number_at 1 154 p ≡ f.request = number-known 1 154 f.request p fine.request (field 7 0 (parts f) zeros refl asc) in
    let sender : number_at 1 155 p ≡ f.sender = number-known 1 155 f.sender p fine.sender (field 8 0 (parts f) zeros refl asc) in
    let order_to : number_at 1 156 p ≡ f.order_to = number-known 1 156 f.order_to p fine.order_to (field 9 0 (parts f) zeros refl asc) in
    let order : number_at 1 157 p ≡ f.order = number-known 1 157 f.order p fine.order (field 10 0 (parts f) zeros refl asc) in
    let block : number_at 2 158 p ≡ f.block = number-known 2 158 f.block p fine.block (field 11 0 (parts f) zeros refl asc) in
    let key : number_at 1 160 p ≡ f.key = number-known 1 160 f.key p fine.key (field 12 0 (parts f) zeros refl asc) in
    let console : number_at 1 161 p ≡ f.console = number-known 1 161 f.console p fine.console (field 13 0 (parts f) zeros refl asc) in
    let count : number_at 2 162 p ≡ f.count = number-known 2 162 f.count p fine.count (field 14 0 (parts f) zeros refl asc) in
    let first_len : number_at 2 164 p ≡ f.first_len = number-known 2 164 f.first_len p fine.first_len (field 15 0 (parts f) zeros refl asc) in
    let first_at : number_at 4 166 p ≡ f.first_at = number-known 4 166 f.first_at p fine.first_at (field 16 0 (parts f) zeros refl asc) in
    let second_len : number_at 2 170 p ≡ f.second_len = number-known 2 170 f.second_len p fine.second_len (field 17 0 (parts f) zeros refl asc) in
    let second_at : number_at 4 172 p ≡ f.second_at = number-known 4 172 f.second_at p fine.second_at (field 18 0 (parts f) zeros refl asc) in
    let block_count : number_at 1 176 p ≡ f.block_count = number-known 1 176 f.block_count p fine.block_count (field 19 0 (parts f) zeros refl asc) in
    let blocks : numbers_at 2 8 178 p ≡ f.blocks = numbers-field 2 20 178 8 f.blocks f fine fine.eight fine.blocks refl in
    let tail : take 256 (drop 256 p) ≡ f.tail =
    subst (λ (j : ℕ). take j (drop 256 p) ≡ f.tail) fine.tail (field 22 0 (parts f) zeros refl asc) in
    λ i. record {
      registers = record { general = general i; control = control i; psw = psw i; prefix = prefix i; clocks = clocks i };
      kind = kind i;
      old = old i;
      identification = identification i;
      request = request i;
      sender = sender i;
      order_to = order_to i;
      order = order i;
      block = block i;
      key = key i;
      console = console i;
      count = count i;
      first_len = first_len i;
      first_at = first_at i;
      second_len = second_len i;
      second_at = second_at i;
      block_count = block_count i;
      blocks = blocks i;
      tail = tail i;
    }
