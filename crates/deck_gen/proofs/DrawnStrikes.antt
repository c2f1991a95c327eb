-- The drawn strikes are in form, and within the premise.
use Rattle.std.proofs.Common.{◌≡◌, ℕ, zero, suc, ◌+◌, ◌*◌, ◌/◌, ◌%◌, ◌<◌, ◌≤◌, ◌⊎◌, inl, inr, Bool, true, false, cond, List, ◌∷◌, length, Some, refl, ◌∙◌, ap, arith, zero-add}
use Rattle.std.specs.Prelude.{◌==◌, ◌&&◌, count_by}
use Rattle.std.specs.List.{list_any}
use Rattle.std.proofs.lemmas.Bool.Decides.{nat_tests}
use Rattle.std.proofs.lemmas.List.Sums.{sum_by-cons}
use Rattle.run_model.specs.Checkpoint.{width}
use Rattle.run_model.specs.Script.{same_latch, CountInRange, InRange, AllInRange, OnceEach, InForm}
use Rattle.run_model.specs.Premise.{covers, hits_packet, is_odd, strikes_word, Within}
use Rattle.run_model.specs.declared.faults.Strike.{Strike}
use Rattle.run_model.specs.declared.faults.Strike.TheVariants.{Packet, Fetch, Store, Word}
use Rattle.run_model.specs.declared.faults.Unit.TheVariants.{B}
use Rattle.program_model.specs.Draws.{draw, after}
use Rattle.program_model.specs.Generator.{strikes}
use Rattle.deck_gen.specs.Parts.{next_strike, next_draws}

-- a fact of a strike of each sort
by_sort :
    (P : Strike → Type 0) (a b c : Bool) (s t u v : Strike) → P s → P t → P u → P v
    → P (cond a s (cond b t (cond c u v)))
by_sort P true b c s t u v p q r w = p
by_sort P false true c s t u v p q r w = q
by_sort P false false true s t u v p q r w = r
by_sort P false false false s t u v p q r w = w

-- ---- where the strike of line j stands

abbrev core_of : Strike → ℕ
core_of (Packet c n u b k) = c.0
core_of (Fetch c n b) = c.0
core_of (Store c n b) = c.0
core_of (Word c n w b) = c.0

abbrev attempt_of : Strike → ℕ
attempt_of (Packet c n u b k) = n
attempt_of (Fetch c n b) = n
attempt_of (Store c n b) = n
attempt_of (Word c n w b) = n

record At (j : ℕ) (s : Strike) : Type 0 where
  core : core_of s ≡ j % 8
  low : 50 * (j / 8) ≤ attempt_of s
  high : attempt_of s ≤ 50 * (j / 8) + 31

at_next : (j x : ℕ) → At j (next_strike j x)
at_next j x =
    let n = 50 * (j / 8) + draw 1 x % 32 in
    let low : 50 * (j / 8) ≤ n = omega arith in
    let high : n ≤ 50 * (j / 8) + 31 = omega arith in
    let sort = draw 2 x % 4 in
    by_sort (At j) (sort == 0) (sort == 1) (sort == 2) _ _ _ _
    (record { core = refl; low = low; high = high })
    (record { core = refl; low = low; high = high })
    (record { core = refl; low = low; high = high })
    (record { core = refl; low = low; high = high })

-- ---- ranges

narrow : (w : ℕ) → w < 36 → width w ≡ 39
unfolding width
narrow w h = grind (arith, nat_tests)

range_next : (j x : ℕ) → j < 10000 → InRange (next_strike j x)
range_next j x h =
    let n = 50 * (j / 8) + draw 1 x % 32 in
    let core : j % 8 < 16 = omega arith in
    let attempt : n ≤ 999999 = omega arith in
    let w = draw 3 x % 36 in
    let few : w < 36 = omega arith in
    let e = narrow w few in
    let one : CountInRange (Some 1) = (omega arith, omega arith) in
    let packet : draw 3 x % 4096 < 4096 = omega arith in
    let fetch : draw 3 x % 65 ≤ 64 = omega arith in
    let store : draw 3 x % 4097 ≤ 4096 = omega arith in
    let word : w < 40 = omega arith in
    let bit : draw 4 x % 39 < width w = omega (arith, e) in
    let sort = draw 2 x % 4 in
    by_sort InRange (sort == 0) (sort == 1) (sort == 2) _ _ _ _
    (core, attempt, packet, one) (core, attempt, fetch) (core, attempt, store)
    (core, attempt, word, bit)

ranges : (n j x : ℕ) → j + n ≤ 10000 → AllInRange (strikes n j x)
ranges zero j x h = tt
ranges (suc n) j x h =
    (range_next j x (omega arith), ranges n (j + 1) (after (next_draws x) x) (omega arith))

-- ---- latches

-- the same core at an attempt of another line
other_attempt :
    (i j c d n m : ℕ) → i < j → c ≡ i % 8 → 50 * (i / 8) ≤ n → n ≤ 50 * (i / 8) + 31
    → d ≡ j % 8 → 50 * (j / 8) ≤ m → m ≤ 50 * (j / 8) + 31 → ((d == c) && (m == n)) ≡ false
other_attempt i j c d n m lt p a b q e f =
    let no : d ≡ c → m ≡ n → ⊥ = λ same alike. omega arith in
    grind (arith, nat_tests)

apart : (i j : ℕ) (s t : Strike) → i < j → At i s → At j t → same_latch s t ≡ false
apart i j (Packet c n u b k) t lt p q = refl
apart i j (Fetch c n b) (Packet d m v x l) lt p q = refl
apart i j (Fetch c n b) (Fetch d m x) lt p q =
    other_attempt i j c.0 d.0 n m lt p.core p.low p.high q.core q.low q.high
apart i j (Fetch c n b) (Store d m x) lt p q = refl
apart i j (Fetch c n b) (Word d m w x) lt p q = refl
apart i j (Store c n b) (Packet d m v x l) lt p q = refl
apart i j (Store c n b) (Fetch d m x) lt p q = refl
apart i j (Store c n b) (Store d m x) lt p q =
    other_attempt i j c.0 d.0 n m lt p.core p.low p.high q.core q.low q.high
apart i j (Store c n b) (Word d m w x) lt p q = refl
apart i j (Word c n w b) t lt p q = refl

later_apart :
    (i : ℕ) (s : Strike) → At i s → (n j x : ℕ) → i < j
    → list_any (same_latch s) (strikes n j x) ≡ false
later_apart i s p zero j x lt = refl
later_apart i s p (suc n) j x lt =
    let here : same_latch s (next_strike j x) ≡ false
    = apart i j s (next_strike j x) lt p (at_next j x) in
    let more = later_apart i s p n (j + 1) (after (next_draws x) x) (omega arith) in
    rw (here, more) refl

once_each : (n j x : ℕ) → OnceEach (strikes n j x)
once_each zero j x = tt
once_each (suc n) j x =
    let y = after (next_draws x) x in (
      later_apart j (next_strike j x) (at_next j x) n (j + 1) y (omega arith),
      once_each n (j + 1) y,
    )

pub in_form : (n x : ℕ) → n ≤ 10000 → InForm (strikes n 0 x)
in_form n x h = record { ranges = ranges n 0 x (omega arith); latches = once_each n 0 x }

pub length-strikes : (n j x : ℕ) → length (strikes n j x) ≡ n
length-strikes zero j x = refl
length-strikes (suc n) j x =
    let r = length-strikes n (j + 1) (after (next_draws x) x) in omega (arith, r)

-- ---- counting

count_next :
    (p : Strike → Bool) (s : Strike) (ss : List Strike)
    → count_by p (s ∷ ss) ≡ cond (p s) 1 0 + count_by p ss
count_next p s ss = sum_by-cons (λ (t : Strike). cond (p t) 1 0) s ss

count_yes :
    (p : Strike → Bool) (s : Strike) (ss : List Strike) → p s ≡ true
    → count_by p (s ∷ ss) ≡ 1 + count_by p ss
count_yes p s ss h = count_next p s ss ∙ ap (λ b. cond b 1 0 + count_by p ss) h

count_no :
    (p : Strike → Bool) (s : Strike) (ss : List Strike) → p s ≡ false
    → count_by p (s ∷ ss) ≡ count_by p ss
count_no p s ss h =
    count_next p s ss ∙ ap (λ b. cond b 1 0 + count_by p ss) h ∙ zero-add (count_by p ss)

-- ---- the premise: unit B is never struck

never : (p q r : Bool) → (((p && false) && q) && r) ≡ false
never true q r = refl
never false q r = refl

spares_b : (c n b j x : ℕ) → hits_packet c B n b (next_strike j x) ≡ false
spares_b c n b j x =
    let sort = draw 2 x % 4 in
    let attempt = 50 * (j / 8) + draw 1 x % 32 in
    by_sort (λ s. hits_packet c B n b s ≡ false) (sort == 0) (sort == 1) (sort == 2) _ _ _ _
    (never (j % 8 == c) (draw 3 x % 4096 == b) (covers attempt (Some 1) n)) refl refl refl

none_on_b : (c n b k j x : ℕ) → count_by (hits_packet c B n b) (strikes k j x) ≡ 0
none_on_b c n b zero j x = refl
none_on_b c n b (suc k) j x =
    let here = spares_b c n b j x in
    let y = after (next_draws x) x in
    count_no (hits_packet c B n b) (next_strike j x) (strikes k (j + 1) y) here
    ∙ none_on_b c n b k (j + 1) y

-- ---- the premise: one strike at most on a word in 16 attempts

record HitsBlock (c k j : ℕ) : Type 0 where
  core : j % 8 ≡ c
  low : 16 * k ≤ 50 * (j / 8) + 31
  high : 50 * (j / 8) ≤ 16 * k + 15

block_of :
    (c w k j : ℕ) (s : Strike) → At j s → strikes_word c w k s ≡ true → HitsBlock c k j
block_of c w k j (Packet d n u b m) p h = absurd (cc)
block_of c w k j (Fetch d n b) p h = absurd (cc)
block_of c w k j (Store d n b) p h = absurd (cc)
block_of c w k j (Word d n v b) p h =
    let core : d.0 ≡ c = grind (arith, nat_tests) in
    let block : n / 16 ≡ k = grind (arith, nat_tests) in
    let at = p.core in
    let low = p.low in
    let high = p.high in
    record { core = omega arith; low = omega arith; high = omega arith }

cases_bool : (b : Bool) → (b ≡ true) ⊎ (b ≡ false)
cases_bool true = inl refl
cases_bool false = inr refl

-- after a line that hits the block
none_after :
    (c w k i : ℕ) → HitsBlock c k i → (n j x : ℕ) → i < j
    → count_by (strikes_word c w k) (strikes n j x) ≡ 0
none_after c w k i p zero j x lt = refl
none_after c w k i p (suc n) j x lt =
    let y = after (next_draws x) x in
    let s = next_strike j x in
    let more = none_after c w k i p n (j + 1) y (omega arith) in
    elim (cases_bool (strikes_word c w k (next_strike j x))) [
      | inl hit ↦
          let q = block_of c w k j s (at_next j x) hit in
          let a = p.core in
          let b = p.low in
          let d = q.core in
          let e = q.high in
          absurd (omega arith)
      | inr other ↦ count_no (strikes_word c w k) s (strikes n (j + 1) y) other ∙ more
    ]

one_at_most : (c w k n j x : ℕ) → count_by (strikes_word c w k) (strikes n j x) ≤ 1
one_at_most c w k zero j x = omega arith
one_at_most c w k (suc n) j x =
    let y = after (next_draws x) x in
    let s = next_strike j x in
    elim (cases_bool (strikes_word c w k (next_strike j x))) [
      | inl hit ↦
          let q = block_of c w k j (next_strike j x) (at_next j x) hit in
          let rest = none_after c w k j q n (j + 1) y (omega arith) in
          let e = count_yes (strikes_word c w k) s (strikes n (j + 1) y) hit in
          omega (arith, rest, e)
      | inr other ↦
          let e = count_no (strikes_word c w k) s (strikes n (j + 1) y) other in
          let r = one_at_most c w k n (j + 1) y in
          omega (arith, e, r)
    ]

pub within : (n x : ℕ) → Within (strikes n 0 x)
within n x = record {
  masks = λ c m lt h b few. h b few ∙ ap is_odd (none_on_b c m b n 0 x);
  words = λ c w k few low. omega (arith, one_at_most c w k n 0 x);
}
