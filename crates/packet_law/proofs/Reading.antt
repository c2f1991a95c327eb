-- What is read from the parts of a packet.
use Rattle.std.proofs.Common.{◌≡◌, ℕ, ◌+◌, ◌*◌, ◌^◌, ◌<◌, ◌≤◌, List, [], ◌∷◌, ◌++◌, length, take, drop, refl, sym, ap, ◌∙◌, arith}
use Rattle.std.proofs.lemmas.Grind.{common_steps}
use Rattle.std.specs.List.{AllByRecursion}
use Rattle.std.proofs.Common.{subst, append-nil}
use Rattle.std.proofs.lemmas.List.{drop-take, drop-drop, take_at, drop_at}
use Rattle.std.proofs.Math.Nat.{mod-eq_of_lt, mul-suc, add_comm}
use Rattle.byteorder.specs.Endian.{big_number, big_bytes}
use Rattle.byteorder.specs.Numbers.{big_from-bytes, big_from-take, length-bytes_high_first}
use Rattle.result_packet.proofs.Put.{length-put, drop-put_same, take-put_below}
use Rattle.esa_model.specs.Packet.{put}
use Rattle.esa_model.specs.Packet.{number_at, numbers, numbers_at, built, two_words, psw_of}

-- each part stands at m or above, and inside
abbrev pub Above : ℕ → List (ℕ × List ℕ) → Type 0
Above m [] = Unit {0}
Above m (f ∷ fs) = (m ≤ f.0) × (f.0 + length f.1 ≤ 512) × Above m fs

pub length-built : (m : ℕ) (fs : List (ℕ × List ℕ)) (p : List ℕ) → length p ≡ 512 → Above m fs → length (built fs p) ≡ 512
length-built m [] p l h = l
length-built m (f ∷ fs) p l h = length-built m fs (put f.0 f.1 p) (length-put f.0 f.1 p (omega arith) ∙ l) h.2

-- what stands below the parts stays
pub take-built : (m : ℕ) (fs : List (ℕ × List ℕ)) (p : List ℕ) → length p ≡ 512 → Above m fs → take m (built fs p) ≡ take m p
take-built m [] p l h = refl
take-built m (f ∷ fs) p l h =
    take-built m fs (put f.0 f.1 p) (length-put f.0 f.1 p (omega arith) ∙ l) h.2
    ∙ take-put_below m f.0 f.1 p (omega arith) h.0

Above-below : (m e : ℕ) (fs : List (ℕ × List ℕ)) → e ≤ m → Above m fs → Above e fs
Above-below m e [] h above = tt
Above-below m e (f ∷ fs) h above = (omega arith, above.1, Above-below m e fs h above.2)

-- the bytes of the first part are read back
pub part-built : (m at : ℕ) (ys : List ℕ) (fs : List (ℕ × List ℕ)) (p : List ℕ)
    → length p ≡ 512 → at + length ys ≤ m → m ≤ 512 → Above m fs → take (length ys) (drop at (built fs (put at ys p))) ≡ ys
part-built m at ys fs p l h k above =
    let q : List ℕ = put at ys p in
    let e : ℕ = at + length ys in
    let long : length q ≡ 512 = length-put at ys p (omega arith) ∙ l in
    let stays : take e (built fs q) ≡ take e q = take-built e fs q long (Above-below m e fs h above) in
    sym (drop-take at (length ys) (built fs q))
    ∙ (ap (drop at) stays
    ∙ (drop-take at (length ys) q
    ∙ (ap (take (length ys)) (drop-put_same at ys p (omega arith))
    ∙ take_at ys (drop (at + length ys) p) (length ys) refl)))

-- the number in bytes that are known
pub number-known : (n at v : ℕ) (xs : List ℕ) → v < 256 ^ n → take n (drop at xs) ≡ big_bytes n v → number_at n at xs ≡ v
number-known n at v xs fits same =
    sym (big_from-take 0 n n (drop at xs) (omega arith))
    ∙ (ap (big_number n) (same ∙ sym (append-nil (big_bytes n v)))
    ∙ (big_from-bytes n v [] ∙ mod-eq_of_lt fits))

-- the number of the first part is read back
pub number-built : (m n at v : ℕ) (fs : List (ℕ × List ℕ)) (p : List ℕ)
    → length p ≡ 512 → at + n ≤ m → m ≤ 512 → v < 256 ^ n → Above m fs → number_at n at (built fs (put at (big_bytes n v) p)) ≡ v
number-built m n at v fs p l h k fits above =
    let long : length (big_bytes n v) ≡ n = length-bytes_high_first n v in
    number-known n at v (built fs (put at (big_bytes n v) p)) fits
    (subst (λ (j : ℕ). take j (drop at (built fs (put at (big_bytes n v) p))) ≡ big_bytes n v) long
    (part-built m at (big_bytes n v) fs p l (omega arith) k above))

-- a front of known parts
front : (n m : ℕ) (zs ys rest : List ℕ) → n ≡ length ys → take (n + m) zs ≡ ys ++ rest → (take n zs ≡ ys) × (take m (drop n zs) ≡ rest)
front n m zs ys rest e h = (
  (let one : take n (take (n + m) zs) ≡ take n zs = grind (arith, common_steps) in
      sym one ∙ (ap (take n) h ∙ take_at ys rest n (sym e))),
  sym (drop-take n m zs) ∙ (ap (drop n) h ∙ drop_at ys rest n (sym e)),
)

-- numbers of n bytes in bytes that are known
pub numbers-known : (n at : ℕ) (ws xs : List ℕ) → AllByRecursion (λ w. w < 256 ^ n) ws → take (n * length ws) (drop at xs) ≡ numbers n ws
    → numbers_at n (length ws) at xs ≡ ws
unfolding numbers_at
numbers-known n at [] xs fits same = refl
numbers-known n at (w ∷ ws) xs fits same =
    let count : n * length (w ∷ ws) ≡ n + n * length ws = mul-suc n (length ws) ∙ add_comm (n * length ws) n in
    let known : take (n + n * length ws) (drop at xs) ≡ big_bytes n w ++ numbers n ws =
    subst (λ (j : ℕ). take j (drop at xs) ≡ big_bytes n w ++ numbers n ws) count same in
    let parts = front n (n * length ws) (drop at xs) (big_bytes n w) (numbers n ws) (sym (length-bytes_high_first n w)) known in
    let head : number_at n at xs ≡ w = number-known n at w xs fits.0 parts.0 in
    let tail : numbers_at n (length ws) (at + n) xs ≡ ws =
    numbers-known n (at + n) ws xs fits.1 (ap (take (n * length ws)) (sym (drop-drop n at xs)) ∙ parts.1) in
    cc

pub psw-known : (at w0 w1 : ℕ) (xs : List ℕ) → w0 < 2 ^ 32 → w1 < 2 ^ 32 → take 8 (drop at xs) ≡ two_words (record { w0 = w0; w1 = w1 }) → psw_of at xs ≡ record { w0 = w0; w1 = w1 }
psw-known at w0 w1 xs h k same =
    let parts = front 4 4 (drop at xs) (big_bytes 4 w0) (big_bytes 4 w1) refl same in
    let first : number_at 4 at xs ≡ w0 = number-known 4 at w0 xs h parts.0 in
    let second : number_at 4 (at + 4) xs ≡ w1 = number-known 4 (at + 4) w1 xs k (ap (take 4) (sym (drop-drop 4 at xs)) ∙ parts.1) in
    cc
