-- A script of strikes in form reads as these strikes.
use Rattle.std.proofs.Common.{◌≡◌, ℕ, ◌+◌, ◌-◌, ◌^◌, ◌<◌, ◌≤◌, Bool, true, false, List, [], ◌∷◌, ◌++◌, length, map, Option, Some, None, Ok, refl, sym, ◌∙◌, ap, subst, arith, append_assoc, append-nil, lit<}
use Rattle.std.specs.Prelude.{codes, ◌==◌, ◌||◌, nat_lt}
use Rattle.std.specs.Fmt.{decimal}
use Rattle.std.specs.List.{slice_split, list_any}
use Rattle.std.proofs.lemmas.List.Folds.{list_any-append}
use Rattle.std.proofs.lemmas.Bool.Decides.{nat_tests}
use Rattle.esa_words.proofs.Digits.{is_decimal_text, of_text, parts_of, digit_at}
use Rattle.run_model.specs.Checkpoint.{width}
use Rattle.run_model.specs.Script.{is_line_feed, is_blank, is_letter, core_no, lines, without_last_empty, fields, spot, word_spot, unit, attempts, four_fields, five_fields, six_fields, by_fields, strike_of, same_latch, strikes_from, CountInRange, InRange, AllInRange, OnceEach, InForm}
use Rattle.run_model.specs.Script.{script as read_script}
use Rattle.run_model.specs.declared.faults.Strike.{Strike}
use Rattle.run_model.specs.declared.faults.Strike.TheVariants.{Packet, Fetch, Store, Word}
use Rattle.run_model.specs.declared.faults.Unit.{Unit as UnitOf}
use Rattle.run_model.specs.declared.faults.Unit.TheVariants.{A, B}
use Rattle.program_model.specs.Generator.{strike_text, unit_text, attempts_text, script}
use Rattle.deck_gen.proofs.Lines.{first_line, no_line}
use Rattle.deck_gen.proofs.Splits.{Avoids, SparesDigits, split_none, split_at, avoids_both, avoids_decimal}

-- ---- fields

-- fields with a blank between them
abbrev joined : List (List ℕ) → List ℕ
joined [] = []
joined (f ∷ []) = f
joined (f ∷ g ∷ more) = f ++ 32 ∷ joined (g ∷ more)

abbrev AllAvoid : (ℕ → Bool) → List (List ℕ) → Type 0
AllAvoid p [] = Unit {0}
AllAvoid p (f ∷ fs) = Avoids p f × AllAvoid p fs

fields_back :
    (f : List ℕ) (fs : List (List ℕ)) → AllAvoid is_blank (f ∷ fs)
    → slice_split is_blank (joined (f ∷ fs)) ≡ f ∷ fs
fields_back f [] h = split_none is_blank f h.0
fields_back f (g ∷ more) h =
    split_at is_blank f 32 (joined (g ∷ more)) h.0 refl
    ∙ ap (λ fs. f ∷ fs) (fields_back g more h.1)

no_feed :
    (f : List ℕ) (fs : List (List ℕ)) → AllAvoid is_line_feed (f ∷ fs)
    → Avoids is_line_feed (joined (f ∷ fs))
no_feed f [] h = h.0
no_feed f (g ∷ more) h =
    avoids_both is_line_feed f (32 ∷ joined (g ∷ more)) h.0 (refl, no_feed g more h.1)

spare_blank : SparesDigits is_blank
spare_blank b low high = grind (arith, nat_tests)

spare_feed : SparesDigits is_line_feed
spare_feed b low high = grind (arith, nat_tests)

-- ---- the fields of a strike

abbrev attempts_field : Option ℕ → List ℕ
attempts_field count = attempts_text count

abbrev parts : Strike → List (List ℕ)
parts (Packet c n u b k) =
    codes "U" ∷ decimal c.0 ∷ decimal n ∷ unit_text u ∷ decimal b ∷ attempts_text k ∷ []
parts (Fetch c n b) = codes "F" ∷ decimal c.0 ∷ decimal n ∷ decimal b ∷ []
parts (Store c n b) = codes "S" ∷ decimal c.0 ∷ decimal n ∷ decimal b ∷ []
parts (Word c n w b) = codes "W" ∷ decimal c.0 ∷ decimal n ∷ decimal w ∷ decimal b ∷ []

four : (a b c d : List ℕ) → ((a ++ b) ++ c) ++ d ≡ a ++ (b ++ (c ++ d))
four a b c d = simp append_assoc

seven :
    (a b c d e f g : List ℕ)
    → (((((a ++ b) ++ c) ++ d) ++ e) ++ f) ++ g ≡ a ++ (b ++ (c ++ (d ++ (e ++ (f ++ g)))))
seven a b c d e f g = simp append_assoc

text_is : (s : Strike) → strike_text s ≡ joined (parts s)
text_is (Packet c n u b k) =
    ap (λ xs. 85 ∷ 32 ∷ xs)
    (seven (decimal c.0) (32 ∷ decimal n) (32 ∷ []) (unit_text u) (32 ∷ decimal b) (32 ∷ [])
    (attempts_text k))
text_is (Fetch c n b) =
    ap (λ xs. 70 ∷ 32 ∷ xs) (append_assoc (decimal c.0) (32 ∷ decimal n) (32 ∷ decimal b))
text_is (Store c n b) =
    ap (λ xs. 83 ∷ 32 ∷ xs) (append_assoc (decimal c.0) (32 ∷ decimal n) (32 ∷ decimal b))
text_is (Word c n w b) =
    ap (λ xs. 87 ∷ 32 ∷ xs)
    (four (decimal c.0) (32 ∷ decimal n) (32 ∷ decimal w) (32 ∷ decimal b))

-- what is used of a test: it spares digits, letters and the star
pub record SparesFields (p : ℕ → Bool) : Type 0 where
  pub digits : SparesDigits p
  pub others : (b : ℕ) → 65 ≤ b → p b ≡ false
  pub star : p 42 ≡ false

blank_spares : SparesFields is_blank
blank_spares = record {
  digits = spare_blank;
  others = λ b h. grind (arith, nat_tests);
  star = refl;
}

feed_spares : SparesFields is_line_feed
feed_spares = record {
  digits = spare_feed;
  others = λ b h. grind (arith, nat_tests);
  star = refl;
}

unit_avoids : (p : ℕ → Bool) (u : UnitOf) → SparesFields p → Avoids p (unit_text u)
unit_avoids p A s = (s.others 65 (omega arith), tt)
unit_avoids p B s = (s.others 66 (omega arith), tt)

attempts_avoid :
    (p : ℕ → Bool) (k : Option ℕ) → SparesFields p → CountInRange k → Avoids p (attempts_text k)
attempts_avoid p None s h = (s.star, tt)
attempts_avoid p (Some n) s h = avoids_decimal p n s.digits (omega (arith, h.1))

pub few_positions : (w : ℕ) → width w ≤ 72
unfolding width
few_positions w = grind (arith, nat_tests)

avoid :
    (p : ℕ → Bool) (s : Strike) → SparesFields p → InRange s → AllAvoid p (parts s)
avoid p (Packet c n u b k) f h = (
  (f.others 85 (omega arith), tt),
  (
    avoids_decimal p c.0 f.digits (omega (arith, h.0)),
    (
      avoids_decimal p n f.digits (omega (arith, h.1)),
      (
        unit_avoids p u f,
        (
          avoids_decimal p b f.digits (omega (arith, h.2)),
          (attempts_avoid p k f h.3, tt),
        ),
      ),
    ),
  ),
)
avoid p (Fetch c n b) f h = (
  (f.others 70 (omega arith), tt),
  (
    avoids_decimal p c.0 f.digits (omega (arith, h.0)),
    (
      avoids_decimal p n f.digits (omega (arith, h.1)),
      (avoids_decimal p b f.digits (omega (arith, h.2)), tt),
    ),
  ),
)
avoid p (Store c n b) f h = (
  (f.others 83 (omega arith), tt),
  (
    avoids_decimal p c.0 f.digits (omega (arith, h.0)),
    (
      avoids_decimal p n f.digits (omega (arith, h.1)),
      (avoids_decimal p b f.digits (omega (arith, h.2)), tt),
    ),
  ),
)
avoid p (Word c n w b) f h = (
  (f.others 87 (omega arith), tt),
  (
    avoids_decimal p c.0 f.digits (omega (arith, h.0)),
    (
      avoids_decimal p n f.digits (omega (arith, h.1)),
      (
        avoids_decimal p w f.digits (omega (arith, h.2)),
        (avoids_decimal p b f.digits (omega (arith, h.3, few_positions w)), tt),
      ),
    ),
  ),
)

all_avoid : (s : Strike) → InRange s → Avoids is_line_feed (joined (parts s))
all_avoid (Packet c n u b k) h =
    let a = avoid is_line_feed (Packet c n u b k) feed_spares h in
    no_feed (codes "U") (decimal c.0 ∷ decimal n ∷ unit_text u ∷ decimal b ∷ attempts_text k ∷ []) a
all_avoid (Fetch c n b) h =
    no_feed (codes "F") (decimal c.0 ∷ decimal n ∷ decimal b ∷ [])
    (avoid is_line_feed (Fetch c n b) feed_spares h)
all_avoid (Store c n b) h =
    no_feed (codes "S") (decimal c.0 ∷ decimal n ∷ decimal b ∷ [])
    (avoid is_line_feed (Store c n b) feed_spares h)
all_avoid (Word c n w b) h =
    no_feed (codes "W") (decimal c.0 ∷ decimal n ∷ decimal w ∷ decimal b ∷ [])
    (avoid is_line_feed (Word c n w b) feed_spares h)

-- ---- one line

spot_back :
    (line most c n b : ℕ) → c ≤ 15 → n ≤ 999999 → b ≤ most → most < 2 ^ 64
    → spot line most (decimal c) (decimal n) (decimal b)
    ≡ Ok (record { core = core_no c; attempt = n; word = 0; bit = b })
unfolding spot
spot_back line most c n b h k l m =
    rw (
      is_decimal_text c (omega arith),
      is_decimal_text b (omega arith),
      of_text 999999 n k (omega arith),
      of_text 15 c h (omega arith),
      of_text most b l m,
    )
    refl

word_back :
    (line c n w b : ℕ) → c ≤ 15 → n ≤ 999999 → w < 40 → b < width w
    → word_spot line (decimal c) (decimal n) (decimal w) (decimal b)
    ≡ Ok (record { core = core_no c; attempt = n; word = w; bit = b })
unfolding word_spot
word_back line c n w b h k l m =
    let few = few_positions w in
    rw (
      is_decimal_text c (omega arith),
      is_decimal_text w (omega arith),
      is_decimal_text b (omega arith),
      of_text 999999 n k (omega arith),
      of_text 15 c h (omega arith),
      of_text 39 w (omega arith) (omega arith),
      of_text (width w - 1) b (omega arith) (omega arith),
    )
    refl

unit_back : (u : UnitOf) → unit (unit_text u) ≡ Some u
unfolding unit
unit_back A = refl
unit_back B = refl

no_star : (n : ℕ) → n < 2 ^ 64 → is_letter 42 (decimal n) ≡ false
no_star n h =
    let p = parts_of (decimal n) (is_decimal_text n h) in
    let d = digit_at (decimal n) 0 p.some p.digits in
    grind (arith, nat_tests)

attempts_back : (k : Option ℕ) → CountInRange k → attempts (attempts_text k) ≡ Some k
unfolding attempts
attempts_back None h = refl
attempts_back (Some n) h =
    let low : 1 ≤ n = h.0 in
    let high : n ≤ 1000000 = h.1 in
    let z : (n == 0) ≡ false = grind (arith, nat_tests) in
    rw (no_star n (omega arith), of_text 1000000 n high (omega arith)) (rw z refl)

strike_back :
    (line : ℕ) (s : Strike) → InRange s → strike_of line (strike_text s) ≡ Ok s
unfolding strike_of fields four_fields five_fields six_fields
strike_back line (Packet c n u b k) h =
    let a = avoid is_blank (Packet c n u b k) blank_spares h in
    let back = spot_back line 4095 c.0 n b (omega (arith, h.0)) h.1 (omega (arith, h.2)) (lit< tt) in
    ap (λ t. by_fields line (slice_split is_blank t)) (text_is (Packet c n u b k))
    ∙ ap (by_fields line)
    (fields_back (codes "U")
    (decimal c.0 ∷ decimal n ∷ unit_text u ∷ decimal b ∷ attempts_text k ∷ []) a)
    ∙ rw (unit_back u, attempts_back k h.3, back) refl
strike_back line (Fetch c n b) h =
    let a = avoid is_blank (Fetch c n b) blank_spares h in
    let back = spot_back line 64 c.0 n b (omega (arith, h.0)) h.1 h.2 (lit< tt) in
    ap (λ t. by_fields line (slice_split is_blank t)) (text_is (Fetch c n b))
    ∙ ap (by_fields line)
    (fields_back (codes "F") (decimal c.0 ∷ decimal n ∷ decimal b ∷ []) a)
    ∙ rw back refl
strike_back line (Store c n b) h =
    let a = avoid is_blank (Store c n b) blank_spares h in
    let back = spot_back line 4096 c.0 n b (omega (arith, h.0)) h.1 h.2 (lit< tt) in
    ap (λ t. by_fields line (slice_split is_blank t)) (text_is (Store c n b))
    ∙ ap (by_fields line)
    (fields_back (codes "S") (decimal c.0 ∷ decimal n ∷ decimal b ∷ []) a)
    ∙ rw back refl
strike_back line (Word c n w b) h =
    let a = avoid is_blank (Word c n w b) blank_spares h in
    let back = word_back line c.0 n w b (omega (arith, h.0)) h.1 h.2 h.3 in
    ap (λ t. by_fields line (slice_split is_blank t)) (text_is (Word c n w b))
    ∙ ap (by_fields line)
    (fields_back (codes "W") (decimal c.0 ∷ decimal n ∷ decimal w ∷ decimal b ∷ []) a)
    ∙ rw back refl

-- ---- all lines

strike_avoids : (s : Strike) → InRange s → Avoids is_line_feed (strike_text s)
strike_avoids s h =
    subst (Avoids is_line_feed) (sym (text_is s)) (all_avoid s h)

texts : List Strike → List (List ℕ)
texts ss = map strike_text ss

split_back :
    (ss : List Strike) → AllInRange ss
    → slice_split is_line_feed (script ss) ≡ map strike_text ss ++ [] ∷ []
split_back [] h = ap (slice_split is_line_feed) no_line
split_back (s ∷ ss) h =
    ap (slice_split is_line_feed)
    (first_line s ss ∙ append_assoc (strike_text s) (10 ∷ []) (script ss))
    ∙ split_at is_line_feed (strike_text s) 10 (script ss) (strike_avoids s h.0) refl
    ∙ ap (λ ls. strike_text s ∷ ls) (split_back ss h.1)

last_dropped :
    (ls : List (List ℕ)) → without_last_empty (ls ++ [] ∷ []) ≡ ls
last_dropped [] = refl
last_dropped (l ∷ []) = refl
last_dropped (l ∷ m ∷ ls) = ap (λ xs. l ∷ xs) (last_dropped (m ∷ ls))

lines_back : (ss : List Strike) → AllInRange ss → lines (script ss) ≡ map strike_text ss
unfolding lines
lines_back ss h =
    ap without_last_empty (split_back ss h) ∙ last_dropped (map strike_text ss)

is_some : (s : Strike) → (length (strike_text s) == 0) ≡ false
is_some (Packet c n u b k) = grind (arith, nat_tests)
is_some (Fetch c n b) = grind (arith, nat_tests)
is_some (Store c n b) = grind (arith, nat_tests)
is_some (Word c n w b) = grind (arith, nat_tests)

-- ---- no latch twice

eq_sym : (a b : ℕ) → (a == b) ≡ (b == a)
eq_sym a b = grind (arith, nat_tests)

latch_sym : (s t : Strike) → same_latch s t ≡ same_latch t s
latch_sym (Packet c n u b k) (Packet d m v x l) = refl
latch_sym (Packet c n u b k) (Fetch d m x) = refl
latch_sym (Packet c n u b k) (Store d m x) = refl
latch_sym (Packet c n u b k) (Word d m w x) = refl
latch_sym (Fetch c n b) (Packet d m v x l) = refl
latch_sym (Fetch c n b) (Fetch d m x) = rw (eq_sym d.0 c.0, eq_sym m n) refl
latch_sym (Fetch c n b) (Store d m x) = refl
latch_sym (Fetch c n b) (Word d m w x) = refl
latch_sym (Store c n b) (Packet d m v x l) = refl
latch_sym (Store c n b) (Fetch d m x) = refl
latch_sym (Store c n b) (Store d m x) = rw (eq_sym d.0 c.0, eq_sym m n) refl
latch_sym (Store c n b) (Word d m w x) = refl
latch_sym (Word c n w b) (Packet d m v x l) = refl
latch_sym (Word c n w b) (Fetch d m x) = refl
latch_sym (Word c n w b) (Store d m x) = refl
latch_sym (Word c n w b) (Word d m y x) = refl

-- the strikes hit no latch that an earlier one hits
abbrev Apart : List Strike → List Strike → Type 0
Apart earlier [] = Unit {0}
Apart earlier (s ∷ ss) = (list_any (same_latch s) earlier ≡ false) × Apart earlier ss

neither : (a b : Bool) → (a || b) ≡ false → (a ≡ false) × (b ≡ false)
neither true b h = absurd (cc)
neither false b h = (refl, h)

apart_more :
    (earlier : List Strike) (s : Strike) (ss : List Strike) → Apart earlier ss
    → list_any (same_latch s) ss ≡ false → Apart (earlier ++ s ∷ []) ss
apart_more earlier s [] h k = tt
apart_more earlier s (t ∷ ts) h k =
    let both = neither (same_latch s t) (list_any (same_latch s) ts) k in
    let other : same_latch t s ≡ false = latch_sym t s ∙ both.0 in (
      list_any-append (same_latch t) earlier (s ∷ []) ∙ rw (h.0, other) refl,
      apart_more earlier s ts h.1 both.1,
    )

all_apart : (ss : List Strike) → Apart [] ss
all_apart [] = tt
all_apart (s ∷ ss) = (refl, all_apart ss)

strikes_back :
    (line : ℕ) (earlier ss : List Strike) → line + length ss ≤ 10001 → AllInRange ss
    → OnceEach ss → Apart earlier ss
    → strikes_from line earlier (map strike_text ss) ≡ Ok (earlier ++ ss)
strikes_back line earlier [] l h o a = ap (λ x. Ok x) (sym (append-nil earlier))
strikes_back line earlier (s ∷ ss) l h o a =
    let few : nat_lt 10000 line ≡ false = grind (arith, nat_tests) in
    rw (few, is_some s, strike_back line s h.0, a.0)
    (strikes_back (line + 1) (earlier ++ s ∷ []) ss (omega arith) h.1 o.1
    (apart_more earlier s ss a.1 o.0)
    ∙ ap (λ x. Ok x) (append_assoc earlier (s ∷ []) ss))

-- what is written reads back
pub script_back :
    (ss : List Strike) → InForm ss → length ss ≤ 10000 → read_script (script ss) ≡ Ok ss
unfolding read_script
script_back ss f l =
    ap (strikes_from 1 []) (lines_back ss f.ranges)
    ∙ strikes_back 1 [] ss (omega arith) f.ranges f.latches (all_apart ss)
