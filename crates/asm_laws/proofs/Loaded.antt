-- Each statement is loaded: its bytes stand at the load address of its section and its offset.
use Rattle.std.proofs.Common.{◌≡◌, ℕ, zero, suc, ◌+◌, ◌-◌, ◌*◌, ◌%◌, ◌<◌, ◌≤◌, Bool, true, false, cond, eqb, not, List, [], ◌∷◌, ◌++◌, length, get_or, replicate, Option, Some, None, refl, sym, ◌∙◌, ap, subst, arith, append_assoc, append-nil, length-append, inl, inr, ◌⊎◌}
use Rattle.std.proofs.lemmas.Bool.Decides.{nat_tests}
use Rattle.std.proofs.lemmas.List.{get_or_append_left, get_or-append_right}
use Rattle.byteorder.specs.Endian.{big_number, big_bytes}
use Rattle.byteorder.specs.Numbers.{length-bytes_high_first}
use Rattle.deck_model.specs.Image.{aligned, bytes_from}
use Rattle.asm_model.specs.Section.{SectionBytes}
use Rattle.asm_deck.specs.LoadedSections.{load_at, section_bytes}
use Rattle.asm_deck.specs.AssembledImage.{HoldsSections, word_at, BeginsWith}
use Rattle.asm_deck.proofs.Relocated.{number_of_word}

-- ---- a section holds its bytes at its load address

over_zero : (n : ℕ) → n + 0 ≡ n
over_zero n = omega arith

pub held_at : (byte : ℕ → ℕ) (from : ℕ) (ss : List SectionBytes) (k a : ℕ) → k < length ss → HoldsSections byte from ss → a < length (section_bytes ss k) → byte (load_at from ss k + a) ≡ get_or (section_bytes ss k) a 0
held_at byte from [] k a h g l = absurd (omega arith)
held_at byte from (s ∷ ss) zero a h g l = g.0 a l
held_at byte from (s ∷ ss) (suc k) a h g l = held_at byte (aligned from + length s.bytes) ss k a (omega arith) g.1 l

-- ---- bytes that begin at a place

get_seam : (front : List ℕ) (x : ℕ) (rest : List ℕ) → get_or (front ++ x ∷ rest) (length front) 0 ≡ x
get_seam [] x rest = refl
get_seam (y ∷ ys) x rest = get_seam ys x rest

-- a part of bytes that stand from a place on
pub begins_part : (byte : ℕ → ℕ) (at : ℕ) (bs front xs back : List ℕ) → bs ≡ front ++ (xs ++ back) → ((a : ℕ) → a < length bs → byte (at + a) ≡ get_or bs a 0) → BeginsWith byte (at + length front) xs
begins_part byte at bs front [] back e h = tt
begins_part byte at bs front (x ∷ xs) back e h =
    let a = length-append front (x ∷ (xs ++ back)) in
    let l = ap length e in
    let m = length-append front (x ∷ []) in
    let k : length front < length bs = omega (arith, a, l) in
    let n : at + length (front ++ x ∷ []) ≡ at + length front + 1 = omega (arith, m) in
    let f : bs ≡ (front ++ x ∷ []) ++ (xs ++ back) = e ∙ sym (append_assoc front (x ∷ []) (xs ++ back)) in
    (h (length front) k ∙ (ap (λ ys. get_or ys (length front) 0) e ∙ get_seam front x (xs ++ back)), subst (λ p. BeginsWith byte p xs) n (begins_part byte at bs (front ++ x ∷ []) xs back f h))

pub begins_same : (f g : ℕ → ℕ) (at : ℕ) (xs : List ℕ) → ((a : ℕ) → at ≤ a → a < at + length xs → g a ≡ f a) → BeginsWith f at xs → BeginsWith g at xs
begins_same f g at [] h k = tt
begins_same f g at (x ∷ xs) h k = (h at (omega arith) (omega arith) ∙ k.0, begins_same f g (at + 1) xs (λ a l u. h a (omega arith) (omega arith)) k.1)

begins_whole : (f : ℕ → ℕ) (at : ℕ) (xs : List ℕ) → BeginsWith f at xs → bytes_from f at (length xs) ≡ xs
begins_whole f at [] h = refl
begins_whole f at (x ∷ xs) h = ap (λ y. y ∷ bytes_from f (at + 1) (length xs)) h.0 ∙ ap (λ ys. x ∷ ys) (begins_whole f (at + 1) xs h.1)

-- a word in four bytes
pub word_begins : (f : ℕ → ℕ) (at n : ℕ) → BeginsWith f at (big_bytes 4 n) → word_at f at ≡ n % 4294967296
word_begins f at n h =
    let l : length (big_bytes 4 n) ≡ 4 = length-bytes_high_first 4 n in
    ap (λ k. big_number 4 (bytes_from f at k)) (sym l) ∙ (ap (big_number 4) (begins_whole f at (big_bytes 4 n) h) ∙ number_of_word n)

pub zeros_begin : (f : ℕ → ℕ) (at : ℕ) → BeginsWith f at (replicate 4 0) → word_at f at ≡ 0
zeros_begin f at h = ap (big_number 4) (begins_whole f at (replicate 4 0) h)
