-- The bound on wrong positions, in every run: those of a word are at most as many as the lines that
-- struck it in the block of its core's last begun attempt.
use Rattle.std.proofs.Common.{◌≡◌, ◌≢◌, ◌⊎◌, ℕ, zero, suc, ◌+◌, ◌-◌, ◌%◌, ◌<◌, ◌≤◌, Bool, true, false, List, [], ◌∷◌, ◌++◌, Option, Some, None, refl, sym, ap, ◌∙◌, subst, arith, if◌then◌else◌, inl, inr, eqb-true, bit_xor}
use Rattle.std.specs.Prelude.{⊤, ◌==◌, ◌&&◌, nat_lt}
use Rattle.std.proofs.lemmas.Bool.{cases_eq, eqb-false, true≢false}
use Rattle.esa_model.specs.Machine.{Machine, at}
use Rattle.run_model.specs.declared.faults.Cause.{Cause}
use Rattle.run_model.specs.declared.faults.Mode.{Mode}
use Rattle.run_model.specs.declared.faults.Mode.TheVariants.{Running, Recovering, Lost}
use Rattle.run_model.specs.declared.faults.Note.{Note}
use Rattle.run_model.specs.declared.faults.Strike.{Strike}
use Rattle.run_model.specs.declared.logs.Config.{Config}
use Rattle.run_model.specs.declared.readings.Mark.{Mark}
use Rattle.run_model.specs.declared.readings.Mark.TheVariants.{Plain, Fixed, Bad}
use Rattle.run_model.specs.declared.schedules.RunKind.{RunKind}
use Rattle.run_model.specs.declared.schedules.RunKind.TheVariants.{Turns, Key, Return}
use Rattle.run_model.specs.Checkpoint.{width}
use Rattle.run_model.specs.Code.{ones, highest}
use Rattle.run_model.specs.Cores.{lowest, is_lost}
use Rattle.run_model.specs.Fate.{Fate, Sight, sight, Bits, bits, read, mend, strike, written, attempted, scrub_bits, spare_bits, transfer_bits, bits_by, bits_of, Sound}
use Rattle.run_model.specs.Reading.{Reading, mark, on_mark, reading, read_words, is_fixed, is_before, mended, BoundAt}
use Rattle.run_model.specs.Runs.{Model, turned, run_after, first_model}
use Rattle.run_model.specs.Strikes.{cause, flips, struck}
use Rattle.run_laws.proofs.At.{at_by, at_same, at_other}
use Rattle.run_laws.proofs.Ones.{ones-zero, ones-xor-le}
use Rattle.run_laws.proofs.Struck.{struck_first, struck_step}

-- the cores that are asked for are within the bound
abbrev pub BoundedOn : (ℕ → Type 0) → List Strike → Bits → Type 0
BoundedOn P ls b = (c : ℕ) → P c → BoundAt ls c (b.begun c) (b.wrong c)

abbrev every : ℕ → Type 0
every c = ⊤

abbrev pub Bounded : List Strike → Bits → Type 0
Bounded ls b = BoundedOn every ls b

-- ---- a reading that loses no word

abbrev pub is_bad : Mark → Bool
is_bad Plain = false
is_bad (Fixed p) = false
is_bad Bad = true

good_first : (m : Mark) (notes : List Note) (w : ℕ) (rest : List Note → Reading)
    → (on_mark m notes w rest).lost ≡ None → is_bad m ≡ false
good_first Plain notes w rest e = refl
good_first (Fixed p) notes w rest e = refl
good_first Bad notes w rest e = absurd (cc e)

good_rest : (m : Mark) (notes : List Note) (w : ℕ) (rest : List Note → Reading) (P : Type 0)
    → ((more : List Note) → (rest more).lost ≡ None → P) → (on_mark m notes w rest).lost ≡ None
    → P
good_rest Plain notes w rest P h e = h notes e
good_rest (Fixed p) notes w rest P h e = h (notes ++ record { word = w; bit = p } ∷ []) e
good_rest Bad notes w rest P h e = absurd (cc e)

good_all : (f : ℕ → Mark) (notes : List Note) (w n : ℕ) → (reading f notes w n).lost ≡ None
    → (k : ℕ) → w ≤ k → k < w + n → is_bad (f k) ≡ false
unfolding reading
good_all f notes w zero e k low high = absurd (omega (arith, low, high))
good_all f notes w (suc n) e k low high = elim (cases_eq k w) [
  | inl is ↦
      subst (λ z. is_bad (f z) ≡ false) (sym is)
      (good_first (f w) notes w (λ more. reading f more (w + 1) n) e)
  | inr ne ↦
      good_rest (f w) notes w (λ more. reading f more (w + 1) n) (is_bad (f k) ≡ false)
      (λ more h.
      good_all f more (w + 1) n h k (omega (arith, low, ne)) (omega (arith, high))) e
]

-- so all words that it mends are right
mark_by_ones : (w e : ℕ) (a b : Bool) → (ones (width w) e == 0) ≡ a
    → is_bad (if a then Plain else (if b then Fixed (highest (width w) e) else Bad)) ≡ false
    → ones (width w)
    (if is_fixed (if a then Plain else (if b then Fixed (highest (width w) e) else Bad))
    && true then 0 else e) ≡ 0
mark_by_ones w e true b is good = eqb-true (ones (width w) e) 0 is
mark_by_ones w e false true is good = ones-zero (width w)
mark_by_ones w e false false is good = absurd (true≢false good)

mended_right : (wrong : ℕ → ℕ) (w : ℕ) → is_bad (mark w (wrong w)) ≡ false
    → ones (width w) (mended wrong None w) ≡ 0
unfolding mark
mended_right wrong w good =
    mark_by_ones w (wrong w) (ones (width w) (wrong w) == 0)
    (ones (width w) (wrong w) == 1) refl good

all_right : (wrong : ℕ → ℕ) → (read_words wrong).lost ≡ None → (w : ℕ) → w < 40
    → ones (width w) (mended wrong None w) ≡ 0
all_right wrong e w lt =
    mended_right wrong w
    (good_all (λ k. mark k (wrong k)) [] 0 40 e w (omega arith) (omega (arith, lt)))

-- ---- each step keeps the bound

fewer : (P : ℕ → Type 0) (b : Bool) (e : ℕ) → P 0 → P e → P (if b then 0 else e)
fewer P true e zero_holds holds = zero_holds
fewer P false e zero_holds holds = holds

-- some words are written
some_right : (ls : List Strike) (c n : ℕ) (wrong : ℕ → ℕ) (b : ℕ → Bool) → BoundAt ls c n wrong
    → BoundAt ls c n (λ w. if b w then 0 else wrong w)
some_right ls c n wrong b h = record {
  fresh = λ z w lt. fewer (λ e. e ≡ 0) (b w) (wrong w) refl (h.fresh z w lt);
  few = λ some w lt.
      fewer (λ e. ones (width w) e ≤ struck ls c (n - 1) w) (b w) (wrong w) (let z =
      ones-zero (width w) in omega (arith, z)) (h.few some w lt);
}

pub all_written : (ls : List Strike) (c n : ℕ) → BoundAt ls c n (λ w. 0)
all_written ls c n = record {
  fresh = λ z w lt. refl;
  few = λ some w lt. let z = ones-zero (width w) in omega (arith, z);
}

-- the words of one core are changed
one_core : (P : ℕ → Type 0) (ls : List Strike) (begun : ℕ → ℕ) (wrong : ℕ → ℕ → ℕ) (k : ℕ)
    (e : ℕ → ℕ) → ((c : ℕ) → P c → BoundAt ls c (begun c) (wrong c)) → BoundAt ls k (begun k) e
    → (c : ℕ) → P c → BoundAt ls c (begun c) (at wrong k e c)
one_core P ls begun wrong k e h new c asked =
    at_by (λ x. BoundAt ls c (begun c) x) wrong k e c
    (λ is. subst (λ z. BoundAt ls z (begun z) e) (sym is) new) (λ ne. h c asked)

mends : (P : ℕ → Type 0) (ls : List Strike) (s : Fate) (k : ℕ) (o : Option ℕ) → P k
    → BoundedOn P ls (bits s) → BoundedOn P ls (mend s k o)
mends P ls s k o own h =
    one_core P ls s.begun s.wrong k (mended (s.wrong k) o) h
    (some_right ls k (s.begun k) (s.wrong k)
    (λ w. is_fixed (mark w (s.wrong k w)) && is_before w o) (h k own))

-- an attempt begins: in the first of a block all words were right before
struck_more : (ls : List Strike) (k n w e : ℕ) → (n % 16 ≡ 0) ⊎ (n % 16 ≢ 0)
    → (n % 16 ≡ 0 → ones (width w) e ≡ 0) → (0 < n → ones (width w) e ≤ struck ls k (n - 1) w)
    → ones (width w) (bit_xor e (flips ls k n w)) ≤ struck ls k n w
struck_more ls k n w e (inl first) right few =
    let x = ones-xor-le (width w) e (flips ls k n w) in
    let f = struck_first ls k n w in
    omega (arith, x, f, right first)
struck_more ls k n w e (inr later) right few =
    let some : 0 < n = positive n later in
    let x = ones-xor-le (width w) e (flips ls k n w) in
    let f = struck_step ls k n w some later in
    omega (arith, x, f, few some)
  where
    positive : (n : ℕ) → n % 16 ≢ 0 → 0 < n
    positive zero ne = absurd (ne refl)
    positive (suc n) ne = omega arith

begins : (ls : List Strike) (k n : ℕ) (e : ℕ → ℕ)
    → (n % 16 ≡ 0 → (w : ℕ) → w < 40 → ones (width w) (e w) ≡ 0) → BoundAt ls k n e
    → BoundAt ls k (n + 1) (λ w. bit_xor (e w) (flips ls k n w))
begins ls k n e right h = record {
  fresh = λ z w lt. absurd (omega (arith, z));
  few = λ some w lt.
      let same : n ≡ n + 1 - 1 = omega arith in
      subst (λ m. ones (width w) (bit_xor (e w) (flips ls k n w)) ≤ struck ls k m w) same
      (struck_more ls k n w (e w) (cases_eq (n % 16) 0) (λ z. right z w lt) (λ p. h.few p w lt));
}

strikes : (P : ℕ → Type 0) (ls : List Strike) (k n : ℕ) (b : Bits) → P k → b.begun k ≡ n
    → (n % 16 ≡ 0 → (w : ℕ) → w < 40 → ones (width w) (b.wrong k w) ≡ 0) → BoundedOn P ls b
    → BoundedOn P ls (strike ls k n b)
strikes P ls k n b own is right h c asked = elim (cases_eq c k) [
  | inl e ↦
      let begun : n + 1 ≡ at b.begun k (n + 1) c =
      sym (ap (at b.begun k (n + 1)) e ∙ at_same b.begun k (n + 1)) in
      let words : (λ w. bit_xor (b.wrong k w) (flips ls k n w))
      ≡ at b.wrong k (λ w. bit_xor (b.wrong k w) (flips ls k n w)) c =
      sym (ap (at b.wrong k (λ w. bit_xor (b.wrong k w) (flips ls k n w))) e
      ∙ at_same b.wrong k (λ w. bit_xor (b.wrong k w) (flips ls k n w))) in
      let new : BoundAt ls k (n + 1) (λ w. bit_xor (b.wrong k w) (flips ls k n w)) =
      begins ls k n (b.wrong k) right (subst (λ m. BoundAt ls k m (b.wrong k)) is (h k own)) in
      subst (λ z.
      BoundAt ls z (at b.begun k (n + 1) c)
      (at b.wrong k (λ w. bit_xor (b.wrong k w) (flips ls k n w)) c)) (sym e)
      (subst (λ m. BoundAt ls k m (at b.wrong k (λ w. bit_xor (b.wrong k w) (flips ls k n w)) c))
      begun (subst (λ x. BoundAt ls k (n + 1) x) words new))
  | inr ne ↦
      let begun : b.begun c ≡ at b.begun k (n + 1) c = sym (at_other b.begun k (n + 1) c ne) in
      let words : b.wrong c ≡ at b.wrong k (λ w. bit_xor (b.wrong k w) (flips ls k n w)) c =
      sym (at_other b.wrong k (λ w. bit_xor (b.wrong k w) (flips ls k n w)) c ne) in
      subst (λ m. BoundAt ls c m (at b.wrong k (λ w. bit_xor (b.wrong k w) (flips ls k n w)) c))
      begun (subst (λ x. BoundAt ls c (b.begun c) x) words (h c asked))
]

writes : (P : ℕ → Type 0) (ls : List Strike) (g : Sight) (k : ℕ) (o : Option Cause) (b : Bits)
    → P k → BoundedOn P ls b → BoundedOn P ls (written g k o b)
writes P ls g k None b own h =
    one_core P ls b.begun b.wrong k (λ w. if g.changes w then 0 else b.wrong k w) h
    (some_right ls k (b.begun k) (b.wrong k) g.changes (h k own))
writes P ls g k (Some why) b own h = h

attempts : (P : ℕ → Type 0) (ls : List Strike) (g : Sight) (k n : ℕ) (b : Bits) → P k
    → b.begun k ≡ n → (n % 16 ≡ 0 → (w : ℕ) → w < 40 → ones (width w) (b.wrong k w) ≡ 0)
    → BoundedOn P ls b → BoundedOn P ls (attempted ls g k n b)
attempts P ls g k n b own is right h =
    writes P ls g k (cause ls k n) (strike ls k n b) own (strikes P ls k n b own is right h)

scrubs : (P : ℕ → Type 0) (ls : List Strike) (g : Sight) (s : Fate) (k : ℕ) (o : Option ℕ)
    → P k → (read s k).lost ≡ o → BoundedOn P ls (bits s)
    → BoundedOn P ls (scrub_bits ls g s k o)
scrubs P ls g s k None own none h =
    let right : (w : ℕ) → w < 40
    → ones (width w) (at s.wrong k (mended (s.wrong k) None) k w) ≡ 0 =
    λ w lt. subst (λ x. ones (width w) (x w) ≡ 0)
    (sym (at_same s.wrong k (mended (s.wrong k) None)))
    (all_right (s.wrong k) none w lt) in
    attempts P ls g k (s.begun k) (mend s k None) own refl (λ z. right) (mends P ls s k None own h)
scrubs P ls g s k (Some w) own lost h = mends P ls s k (Some w) own h

runs_by : (P : ℕ → Type 0) (ls : List Strike) (g : Sight) (s : Fate) (k : ℕ) (a b : Bool) → P k
    → (s.begun k % 16 == 0) ≡ b → BoundedOn P ls (bits s)
    → BoundedOn P ls
    (if a then bits s
    else (if b then scrub_bits ls g s k (read s k).lost
    else attempted ls g k (s.begun k) (bits s)))
runs_by P ls g s k true b own is h = h
runs_by P ls g s k false true own is h = scrubs P ls g s k (read s k).lost own refl h
runs_by P ls g s k false false own is h =
    attempts P ls g k (s.begun k) (bits s) own refl
    (λ z. absurd (eqb-false (s.begun k % 16) 0 is z)) h

hands : (P : ℕ → Type 0) (ls : List Strike) (s : Fate) (k : ℕ) (o : Option ℕ)
    → BoundedOn P ls (bits s) → BoundedOn P ls (spare_bits s k o)
hands P ls s k None h = one_core P ls s.begun s.wrong k (λ w. 0) h (all_written ls k (s.begun k))
hands P ls s k (Some w) h = h

transfers : (P : ℕ → Type 0) (ls : List Strike) (s : Fate) (c : ℕ) (o : Option ℕ)
    → BoundedOn P ls (bits s) → BoundedOn P ls (transfer_bits s c o)
transfers P ls s c None h = h
transfers P ls s c (Some k) h = hands P ls s k (read s c).lost h

recovers_by : (P : ℕ → Type 0) (ls : List Strike) (s : Fate) (c : ℕ) (b : Bool) → P c
    → BoundedOn P ls (bits s)
    → BoundedOn P ls
    (if b then mend s c (read s c).lost else transfer_bits s c (lowest s.cores.spare 0 16))
recovers_by P ls s c true own h = mends P ls s c (read s c).lost own h
recovers_by P ls s c false own h = transfers P ls s c (lowest s.cores.spare 0 16) h

-- a turn of a CPU, whose core is asked for unless it is lost
pub bounded_modes : (P : ℕ → Type 0) (ls : List Strike) (t : ℕ) (g : Sight) (s : Fate) (i : ℕ)
    (mode : Mode) → (is_lost mode ≡ false → P (s.cores.core i)) → BoundedOn P ls (bits s)
    → BoundedOn P ls (bits_by ls t g s i mode)
bounded_modes P ls t g s i Lost own h = h
bounded_modes P ls t g s i Recovering own h =
    recovers_by P ls s (s.cores.core i) (nat_lt (s.cores.retries i) t) (own refl) h
bounded_modes P ls t g s i Running own h =
    runs_by P ls g s (s.cores.core i) g.waits (s.begun (s.cores.core i) % 16 == 0) (own refl) refl h

-- a turn of any kind
bounded_turn : (ls : List Strike) (t : ℕ) (g : ℕ → Sight) (s : Fate) (k : RunKind)
    → Bounded ls (bits s) → Bounded ls (bits_of ls t g s k)
bounded_turn ls t g s (Turns i) h =
    bounded_modes every ls t (g i.0) s i.0 (s.cores.mode i.0) (λ l. tt) h
bounded_turn ls t g s (Key i) h = h
bounded_turn ls t g s (Return k) h = h

-- ---- whole runs

pub bounded_run : (ls : List Strike) (c : Config) (x : Model) (ks : List RunKind)
    → Bounded ls (bits x.fate) → Bounded ls (bits (run_after ls c x ks).fate)
unfolding turned
bounded_run ls c x [] h = h
bounded_run ls c x (k ∷ ks) h =
    bounded_run ls c (turned ls c x k) ks
    (bounded_turn ls c.threshold (sight x.machine) x.fate k h)

pub wrong_bounded : (ls : List Strike) (c : Config) (m : Machine) (ks : List RunKind) (k : ℕ)
    → BoundAt ls k ((run_after ls c (first_model c m) ks).fate.begun k)
    ((run_after ls c (first_model c m) ks).fate.wrong k)
wrong_bounded ls c m ks k =
    bounded_run ls c (first_model c m) ks (λ n asked. all_written ls n 0) k tt

pub at_most_two_by : (ls : List Strike) (k n : ℕ) (wrong : ℕ → ℕ) → BoundAt ls k n wrong
    → ((j : ℕ) → j < n → (w : ℕ) → w < 40 → struck ls k j w ≤ 2) → (w : ℕ) → w < 40
    → ones (width w) (wrong w) ≤ 2
at_most_two_by ls k zero wrong b sound w lt = let z = ap (ones (width w)) (b.fresh refl w lt) in
    let o = ones-zero (width w) in omega (arith, z, o)
at_most_two_by ls k (suc n) wrong b sound w lt =
    let same : suc n - 1 ≡ n = omega arith in
    let few =
    subst (λ m. ones (width w) (wrong w) ≤ struck ls k m w) same (b.few (omega arith) w lt) in
    omega (arith, few, sound n (omega arith) w lt)

-- a sound run has at most two in each word
pub at_most_two : (ls : List Strike) (c : Config) (m : Machine) (ks : List RunKind)
    → Sound ls (run_after ls c (first_model c m) ks).fate → (k w : ℕ) → w < 40
    → ones (width w) ((run_after ls c (first_model c m) ks).fate.wrong k w) ≤ 2
at_most_two ls c m ks sound k =
    at_most_two_by ls k ((run_after ls c (first_model c m) ks).fate.begun k)
    ((run_after ls c (first_model c m) ks).fate.wrong k) (wrong_bounded ls c m ks k)
    (λ j lt. (sound k j lt).words)
