-- The bytes of an operand lie in at most two blocks.
use Rattle.std.proofs.Common.{◌≡◌, ℕ, suc, ◌+◌, ◌/◌, ◌%◌, ◌<◌, ◌≤◌, Bool, true, false, List, [], ◌∷◌, ◌++◌, length, get_or, drop, refl, ap, ◌∙◌, sym, arith, inl, inr, ◌⊎◌}
use Rattle.std.specs.Prelude.{◌==◌, if◌then◌else◌}
use Rattle.std.proofs.lemmas.Bool.{cases_lt}
use Rattle.std.proofs.lemmas.Grind.{common_steps}
use Rattle.std.proofs.lemmas.List.{drop_more}
use Rattle.esa_model.specs.declared.machine.Psw.{Psw}
use Rattle.esa_model.specs.declared.machine.Registers.{Registers}
use Rattle.esa_model.specs.Psw.{wrapped}
use Rattle.esa_model.specs.Access.{absolute, prefix_page, place, has, noted, noted_all}

pub length_noted : (blocks : List ℕ) (b : ℕ) → has b blocks ≡ false → length (noted blocks b) ≡ length blocks + 1
unfolding noted
length_noted blocks b h = rw h (grind (arith, common_steps))

-- ---- a block is a function of the page

absolute_block : (prefix w : ℕ) → absolute prefix w / 4096 ≡ (if w / 4096 == 0 then prefix_page prefix else if w / 4096 == prefix_page prefix then 0 else w / 4096)
absolute_block prefix w = grind arith

absolute_same : (prefix w v : ℕ) → w / 4096 ≡ v / 4096 → absolute prefix w / 4096 ≡ absolute prefix v / 4096
absolute_same prefix w v e = absolute_block prefix w ∙ (rw e refl ∙ sym (absolute_block prefix v))

wrapped_same : (p : Psw) (n m : ℕ) → n / 4096 ≡ m / 4096 → wrapped p n / 4096 ≡ wrapped p m / 4096
wrapped_same p n m h = grind (arith, h)

place_same : (r : Registers) (n m : ℕ) → n / 4096 ≡ m / 4096 → place r n / 4096 ≡ place r m / 4096
unfolding place
place_same r n m h = absolute_same r.prefix (wrapped r.psw n) (wrapped r.psw m) (wrapped_same r.psw n m h)

two_blocks : (r : Registers) (at k : ℕ) → k < 256 → (place r (at + k) / 4096 ≡ place r at / 4096) ⊎ (place r (at + k) / 4096 ≡ place r (at + 4096) / 4096)
two_blocks r at k h =
    elim (cases_lt (at % 4096 + k) 4096) [
      | inl f ↦ inl (place_same r (at + k) at (omega (arith, f)))
      | inr f ↦ inr (place_same r (at + k) (at + 4096) (omega (arith, f, h)))
    ]

-- ---- so at most two more are noted

missing : ℕ → List ℕ → ℕ
missing b blocks = if has b blocks then 0 else 1

has_more : (c b : ℕ) (blocks : List ℕ) → has c (blocks ++ (b ∷ [])) ≡ (if has c blocks then true else if b == c then true else false)
has_more c b [] = refl
has_more c b (x ∷ xs) = grind (arith, has_more c b xs)

missing_fewer : (c b : ℕ) (blocks : List ℕ) → missing c (blocks ++ (b ∷ [])) ≤ missing c blocks
unfolding missing
missing_fewer c b blocks = rw (has_more c b blocks) (grind arith)

missing_none : (b : ℕ) (blocks : List ℕ) → missing b (blocks ++ (b ∷ [])) ≡ 0
unfolding missing
missing_none b blocks = rw (has_more b b blocks) (grind arith)

missing_one : (b : ℕ) (blocks : List ℕ) → has b blocks ≡ false → missing b blocks ≡ 1
unfolding missing
missing_one b blocks h = rw h refl

missing_most : (b : ℕ) (blocks : List ℕ) → missing b blocks ≤ 1
unfolding missing
missing_most b blocks = grind arith

stepped : (a c b : ℕ) (blocks : List ℕ) → (b ≡ a) ⊎ (b ≡ c) → (t : Bool) → has b blocks ≡ t
    → length (noted blocks b) + (missing a (noted blocks b) + missing c (noted blocks b)) ≤ length blocks + (missing a blocks + missing c blocks)
unfolding noted
stepped a c b blocks one true h = rw h (omega arith)
stepped a c b blocks (inl e) false h =
    let fewer = missing_fewer c b blocks in
    let none : missing a (blocks ++ (b ∷ [])) ≡ 0 = rw (← e) (missing_none b blocks) in
    let before : missing a blocks ≡ 1 = rw (← e) (missing_one b blocks h) in
    let long : length (blocks ++ (b ∷ [])) ≡ length blocks + 1 = grind (arith, common_steps) in
    rw h (omega (arith, fewer, none, before, long))
stepped a c b blocks (inr e) false h =
    let fewer = missing_fewer a b blocks in
    let none : missing c (blocks ++ (b ∷ [])) ≡ 0 = rw (← e) (missing_none b blocks) in
    let before : missing c blocks ≡ 1 = rw (← e) (missing_one b blocks h) in
    let long : length (blocks ++ (b ∷ [])) ≡ length blocks + 1 = grind (arith, common_steps) in
    rw h (omega (arith, fewer, none, before, long))

step : (a c b : ℕ) (blocks : List ℕ) → (b ≡ a) ⊎ (b ≡ c)
    → length (noted blocks b) + (missing a (noted blocks b) + missing c (noted blocks b)) ≤ length blocks + (missing a blocks + missing c blocks)
step a c b blocks one = stepped a c b blocks one (has b blocks) refl

bounded : (r : Registers) (at : ℕ) (ks blocks : List ℕ) → ((i : ℕ) → get_or ks i 0 < 256)
    → length (noted_all r at ks blocks) ≤ length blocks + (missing (place r at / 4096) blocks + missing (place r (at + 4096) / 4096) blocks)
bounded r at [] blocks h = omega arith
bounded r at (k ∷ ks) blocks h =
    let b : ℕ = place r (at + k) / 4096 in
    let more = step (place r at / 4096) (place r (at + 4096) / 4096) b blocks (two_blocks r at k (h 0)) in
    let rest = bounded r at ks (noted blocks b) (λ j. h (suc j)) in
    omega (arith, more, rest)

pub two_more : (r : Registers) (at : ℕ) (ks blocks : List ℕ) → ((i : ℕ) → get_or ks i 0 < 256) → length (noted_all r at ks blocks) ≤ length blocks + 2
two_more r at ks blocks h =
    let most = bounded r at ks blocks h in
    let a = missing_most (place r at / 4096) blocks in
    let c = missing_most (place r (at + 4096) / 4096) blocks in
    omega (arith, most, a, c)

-- ---- and none is lost on the way

grows : (blocks : List ℕ) (b : ℕ) → length blocks ≤ length (noted blocks b)
unfolding noted
grows blocks b = grind (arith, common_steps)

all_grow : (r : Registers) (at : ℕ) (ks blocks : List ℕ) → length blocks ≤ length (noted_all r at ks blocks)
all_grow r at [] blocks = omega arith
all_grow r at (k ∷ ks) blocks =
    let one = grows blocks (place r (at + k) / 4096) in
    let rest = all_grow r at ks (noted blocks (place r (at + k) / 4096)) in
    omega (arith, one, rest)

pub noted_more : (r : Registers) (at : ℕ) (ks blocks : List ℕ) (k : ℕ) → k < length ks
    → noted_all r at (drop k ks) blocks ≡ noted_all r at (drop (k + 1) ks) (noted blocks (place r (at + get_or ks k 0) / 4096))
noted_more r at ks blocks k h = rw (drop_more ks k 0 h) refl

pub room_for_next : (r : Registers) (at : ℕ) (ks blocks : List ℕ) (k : ℕ) → k < length ks
    → length (noted_all r at (drop k ks) blocks) ≤ 8 → length (noted blocks (place r (at + get_or ks k 0) / 4096)) ≤ 8
room_for_next r at ks blocks k h room =
    let more = ap (λ (xs : List ℕ). length xs) (noted_more r at ks blocks k h) in
    let rest = all_grow r at (drop (k + 1) ks) (noted blocks (place r (at + get_or ks k 0) / 4096)) in
    omega (arith, more, rest, room)
