-- The pieces stored in their order are what a packet makes of the storage.
use Rattle.std.proofs.Common.{◌≡◌, ℕ, zero, suc, ◌+◌, ◌*◌, ◌/◌, ◌%◌, ◌<◌, ◌≤◌, Bool, true, false, List, [], ◌∷◌, ◌++◌, length, refl, sym, ap, ◌∙◌, inl, inr, arith}
use Rattle.std.specs.Prelude.{nat_le, ◌==◌, if◌then◌else◌, slice_set, Option, Some, None}
use Rattle.std.proofs.lemmas.Bool.{cases_lt, cases_Bool}
use Rattle.esa_model.specs.declared.events.Interruption.{Interruption}
use Rattle.esa_model.specs.declared.events.Interruption.TheVariants.{Program, SupervisorCall, External, Restart}
use Rattle.esa_model.specs.declared.machine.Registers.{Registers}
use Rattle.esa_model.specs.declared.machine.Psw.{Psw}
use Rattle.esa_model.specs.Psw.{wrapped}
use Rattle.esa_model.specs.Access.{place, absolute, prefix_page, written}
use Rattle.esa_model.specs.Machine.{psw_bytes, identification_bytes, swap_stored}
use Rattle.esa_model.specs.Places.{old_at, identification_at}
use Rattle.esa_model.specs.Packet.{Fields}
use Rattle.esa_model.specs.PacketCodes.{interruption_of}
use Rattle.esa_model.specs.Apply.{Piece, put_all, stored_all, fits, piece, first_bytes, second_bytes, applied_storage}
use Rattle.result_packet.specs.Pieces.{added, with_swap, stores_of, Holdable}
use Rattle.result_packet.proofs.Log.{set_outside}
use Rattle.result_packet.proofs.RunsStored.{psw_short, identification_short}

-- ---- pieces one after the other

stored_more : (ps : List Piece) (p : Piece) (s : List ℕ) → stored_all (ps ++ (p ∷ [])) s ≡ put_all p.at p.bytes (stored_all ps s)
stored_more [] p s = refl
stored_more (q ∷ ps) p s = stored_more ps p (put_all q.at q.bytes s)

set_length : (s : List ℕ) (i x : ℕ) → length (slice_set s i x) ≡ length s
set_length [] i x = refl
set_length (y ∷ s) zero x = refl
set_length (y ∷ s) (suc i) x = ap (λ (k : ℕ). suc k) (set_length s i x)

put_length : (a : ℕ) (xs s : List ℕ) → length (put_all a xs s) ≡ length s
put_length a [] s = refl
put_length a (x ∷ xs) s = put_length (a + 1) xs (slice_set s a x) ∙ set_length s a x

piece_if : (b : Bool) (a : ℕ) (xs s : List ℕ) → length (if b then put_all a xs s else s) ≡ length s
piece_if true a xs s = put_length a xs s
piece_if false a xs s = refl

piece_length : (a : ℕ) (xs s : List ℕ) → length (piece a xs s) ≡ length s
piece_length a xs s = piece_if (fits (length s) a xs) a xs s

stored_added : (size a : ℕ) (xs : List ℕ) (ps : List Piece) (s : List ℕ) → length (stored_all ps s) ≡ size
    → stored_all (added size a xs ps) s ≡ piece a xs (stored_all ps s)
stored_added size a [] ps s h =
    elim (cases_Bool (nat_le (a + 0) size)) [
      | inl f ↦ rw (h, f) refl
      | inr f ↦ rw (h, f) refl
    ]
stored_added size a (x ∷ xs) ps s h =
    elim (cases_Bool (nat_le (a + length (x ∷ xs)) size)) [
      | inl f ↦ let z : (length (x ∷ xs) == 0) ≡ false = grind arith in rw (h, f, z) (stored_more ps (record { at = a; bytes = x ∷ xs }) s)
      | inr f ↦ rw (h, f) refl
    ]

-- ---- the places of an interruption lie in one page

place_small : (r : Registers) (n : ℕ) → n < 4096 → place r n ≡ prefix_page r.prefix * 4096 + n
unfolding place
place_small r n h =
    let w : wrapped r.psw n ≡ n = grind (arith, h) in
    let d : n / 4096 ≡ 0 = omega (arith, h) in
    let m : n % 4096 ≡ n = omega (arith, h) in
    rw (w, d, m) refl

absolute_small : (prefix n : ℕ) → n < 4096 → absolute prefix n ≡ prefix_page prefix * 4096 + n
absolute_small prefix n h =
    let d : n / 4096 ≡ 0 = omega (arith, h) in
    let m : n % 4096 ≡ n = omega (arith, h) in
    rw (d, m) refl

written_put : (r : Registers) (base at : ℕ) (xs s : List ℕ) → base ≡ prefix_page r.prefix * 4096 → at + length xs ≤ 4096
    → written r at xs s ≡ put_all (base + at) xs s
written_put r base at [] s e h = refl
written_put r base at (x ∷ xs) s e h =
    let p : place r at ≡ base + at = place_small r at (omega (arith, h)) ∙ ap (λ (k : ℕ). k + at) (sym e) in
    let j : base + at + 1 ≡ base + (at + 1) = omega arith in
    rw (p, j) (written_put r base (at + 1) xs (slice_set s (base + at) x) e (omega (arith, h)))

put_outside : (a : ℕ) (xs s : List ℕ) → length s ≤ a → put_all a xs s ≡ s
put_outside a [] s h = refl
put_outside a (x ∷ xs) s h =
    let same = set_outside s a x h in
    rw (← same) (put_outside (a + 1) xs s (omega (arith, h)))

in_page : (size page at len : ℕ) → size % 4096 ≡ 0 → at + len ≤ 4096 → size < page * 4096 + at + len → size ≤ page * 4096
in_page size page at len h g f = omega (arith, h, g, f)

piece_written : (r : Registers) (prefix at : ℕ) (xs s : List ℕ) → r.prefix ≡ prefix → at < 4096 → at + length xs ≤ 4096 → length s % 4096 ≡ 0
    → piece (absolute prefix at) xs s ≡ written r at xs s
piece_written r prefix at xs s same low h pages =
    let base : ℕ = prefix_page prefix * 4096 in
    let a : absolute prefix at ≡ base + at = absolute_small prefix at low in
    let w : written r at xs s ≡ put_all (base + at) xs s =
    written_put r base at xs s (ap (λ (q : ℕ). prefix_page q * 4096) (sym same)) h in
    elim (cases_lt (length s) (base + at + length xs)) [
      | inl out ↦
          let f : fits (length s) (base + at) xs ≡ false = grind (arith, out) in
          let far = in_page (length s) (prefix_page prefix) at (length xs) pages h out in
          let o = put_outside (base + at) xs s (omega (arith, far)) in
          rw (a, f, w, o) refl
      | inr inside ↦
          let f : fits (length s) (base + at) xs ≡ true = grind (arith, inside) in
          rw (a, f, w) refl
    ]

pub old_low : (k : Interruption) → old_at k ≤ 40
old_low Program = omega arith
old_low SupervisorCall = omega arith
old_low External = omega arith
old_low Restart = omega arith

pub identification_low : (k : Interruption) → identification_at k ≤ 140
identification_low Program = omega arith
identification_low SupervisorCall = omega arith
identification_low External = omega arith
identification_low Restart = omega arith

-- ---- all of them

-- one piece more at a real address in page 0
stored_low : (r : Registers) (prefix size at : ℕ) (xs : List ℕ) (ps : List Piece) (s : List ℕ) → r.prefix ≡ prefix → size % 4096 ≡ 0
    → length (stored_all ps s) ≡ size → at < 4096 → at + length xs ≤ 4096
    → stored_all (added size (absolute prefix at) xs ps) s ≡ written r at xs (stored_all ps s)
stored_low r prefix size at xs ps s same pages is_size low h =
    stored_added size (absolute prefix at) xs ps s is_size
    ∙ piece_written r prefix at xs (stored_all ps s) same low h (ap (λ (n : ℕ). n % 4096) is_size ∙ pages)

length_added : (size a : ℕ) (xs : List ℕ) (ps : List Piece) (s : List ℕ) → length (stored_all ps s) ≡ size
    → length (stored_all (added size a xs ps) s) ≡ size
length_added size a xs ps s h =
    ap (λ (t : List ℕ). length t) (stored_added size a xs ps s h) ∙ (piece_length a xs (stored_all ps s) ∙ h)

swap_stored_all : (r : Registers) (prefix size : ℕ) (k : Option Interruption) (old : Psw) (identification : ℕ) (ps : List Piece) (s : List ℕ)
    → r.prefix ≡ prefix → size % 4096 ≡ 0 → length (stored_all ps s) ≡ size
    → stored_all (with_swap prefix size k old identification ps) s ≡ swap_stored r k old identification (stored_all ps s)
swap_stored_all r prefix size None old identification ps s same pages h = refl
swap_stored_all r prefix size (Some k) old identification ps s same pages h =
    let one : List Piece = added size (absolute prefix (old_at k)) (psw_bytes old) ps in
    let low = old_low k in
    let short = psw_short old in
    let own_low = identification_low k in
    let own_short = identification_short k identification in
    let e = stored_low r prefix size (old_at k) (psw_bytes old) ps s same pages h (omega (arith, low)) (omega (arith, low, short)) in
    let l = length_added size (absolute prefix (old_at k)) (psw_bytes old) ps s h in
    stored_low r prefix size (identification_at k) (identification_bytes k identification) one s same pages l
    (omega (arith, own_low)) (omega (arith, own_low, own_short))
    ∙ ap (λ (t : List ℕ). written r (identification_at k) (identification_bytes k identification) t) e

pub stores_applied : (r : Registers) (prefix size : ℕ) (f : Fields) (s : List ℕ) → r.prefix ≡ prefix → length s ≡ size → size % 4096 ≡ 0
    → stored_all (stores_of prefix size f) s ≡ applied_storage r f s
unfolding stores_of applied_storage
stores_applied r prefix size f s same is_size pages =
    let one : List Piece = added size f.first_at (first_bytes f) [] in
    let two : List Piece = added size f.second_at (second_bytes f) one in
    let e1 : stored_all one s ≡ piece f.first_at (first_bytes f) s = stored_added size f.first_at (first_bytes f) [] s is_size in
    let l1 : length (stored_all one s) ≡ size = length_added size f.first_at (first_bytes f) [] s is_size in
    let e2 : stored_all two s ≡ piece f.second_at (second_bytes f) (stored_all one s) =
    stored_added size f.second_at (second_bytes f) one s l1 in
    let l2 : length (stored_all two s) ≡ size = length_added size f.second_at (second_bytes f) one s l1 in
    swap_stored_all r prefix size (interruption_of f.kind) f.old f.identification two s same pages l2
    ∙ ap (λ (t : List ℕ). swap_stored r (interruption_of f.kind) f.old f.identification t)
    (e2 ∙ ap (λ (t : List ℕ). piece f.second_at (second_bytes f) t) e1)

-- ---- each piece can be held

pub holdable_more : (n : ℕ) (ps : List Piece) (p : Piece) → Holdable n ps → 1 ≤ length p.bytes → length p.bytes ≤ 256 → p.at + length p.bytes ≤ n
    → Holdable n (ps ++ (p ∷ []))
holdable_more n [] p h some most inside = (some, most, inside, tt)
holdable_more n (q ∷ ps) p h some most inside = (h.0, h.1, h.2, holdable_more n ps p h.3 some most inside)

pub holdable_added : (n a : ℕ) (xs : List ℕ) (ps : List Piece) → length xs ≤ 256 → Holdable n ps → Holdable n (added n a xs ps)
holdable_added n a [] ps most h =
    elim (cases_Bool (nat_le (a + 0) n)) [ inl f ↦ rw f h | inr f ↦ rw f h ]
holdable_added n a (x ∷ xs) ps most h =
    elim (cases_Bool (nat_le (a + length (x ∷ xs)) n)) [
      | inl f ↦ let z : (length (x ∷ xs) == 0) ≡ false = grind arith in rw (f, z) (holdable_more n ps (record { at = a; bytes = x ∷ xs }) h (omega arith) most (grind (arith, f)))
      | inr f ↦ rw f h
    ]
