-- One strike more, which hits another latch than those so far.
use Rattle.std.proofs.Common.{◌≡◌, ℕ, ◌<◌, Bool, true, false, eqb, ◌||◌, List, [], ◌∷◌, ◌++◌, Option, Some, None, refl, sym, ap, ◌∙◌, arith, inl, inr}
use Rattle.std.specs.Prelude.{◌&&◌}
use Rattle.std.specs.List.{list_any}
use Rattle.std.proofs.lemmas.Bool.{cases_eq}
use Rattle.std.proofs.lemmas.Bool.Decides.{nat_tests}
use Rattle.run_model.specs.Script.{InRange, AllInRange, OnceEach, same_latch}
use Rattle.run_model.specs.declared.faults.Strike.{Strike}
use Rattle.run_model.specs.declared.faults.Strike.TheVariants.{Packet, Fetch, Store, Word}
use Rattle.fault_script.specs.Latches.{latch_number, latch_of, is_latch, is_noted, IsGathered}

ranges_more : (ls : List Strike) (t : Strike) → AllInRange ls → InRange t → AllInRange (ls ++ t ∷ [])
ranges_more [] t h r = (r, tt)
ranges_more (s ∷ ss) t h r = (h.0, ranges_more ss t h.1 r)

swapped : (a b c : Bool) → (a || (b || c)) ≡ (b || (a || c))
swapped true true c = refl
swapped true false c = refl
swapped false b c = refl

any_more : (p : Strike → Bool) (ls : List Strike) (t : Strike) → list_any p (ls ++ t ∷ []) ≡ (p t || list_any p ls)
any_more p [] t = refl
any_more p (s ∷ ss) t = ap (λ b. p s || b) (any_more p ss t) ∙ swapped (p s) (p t) (list_any p ss)

same_eq : (a b : ℕ) → eqb a b ≡ eqb b a
same_eq a b = grind (arith, nat_tests)

same_back : (s t : Strike) → same_latch s t ≡ same_latch t s
same_back (Packet c n u b k) (Packet d m v x j) = refl
same_back (Packet c n u b k) (Fetch d m x) = refl
same_back (Packet c n u b k) (Store d m x) = refl
same_back (Packet c n u b k) (Word d m w x) = refl
same_back (Fetch c n b) (Packet d m v x j) = refl
same_back (Fetch c n b) (Fetch d m x) = rw (same_eq d.0 c.0, same_eq m n) refl
same_back (Fetch c n b) (Store d m x) = refl
same_back (Fetch c n b) (Word d m w x) = refl
same_back (Store c n b) (Packet d m v x j) = refl
same_back (Store c n b) (Fetch d m x) = refl
same_back (Store c n b) (Store d m x) = rw (same_eq d.0 c.0, same_eq m n) refl
same_back (Store c n b) (Word d m w x) = refl
same_back (Word c n w b) (Packet d m v x j) = refl
same_back (Word c n w b) (Fetch d m x) = refl
same_back (Word c n w b) (Store d m x) = refl
same_back (Word c n w b) (Word d m v x) = refl

left_false : (a b : Bool) → (a || b) ≡ false → a ≡ false
left_false true b e = e
left_false false b e = refl

right_false : (a b : Bool) → (a || b) ≡ false → b ≡ false
right_false true b e = absurd cc
right_false false b e = e

both_false : (a b : Bool) → a ≡ false → b ≡ false → (a || b) ≡ false
both_false true b e f = e
both_false false b e f = f

once_more : (ls : List Strike) (t : Strike) → OnceEach ls → list_any (same_latch t) ls ≡ false → OnceEach (ls ++ t ∷ [])
once_more [] t h f = (refl, tt)
once_more (s ∷ ss) t h f =
    let here : same_latch s t ≡ false = same_back s t ∙ left_false (same_latch t s) (list_any (same_latch t) ss) f in
    (any_more (same_latch s) ss t ∙ both_false (same_latch s t) (list_any (same_latch s) ss) here h.0, once_more ss t h.1 (right_false (same_latch t s) (list_any (same_latch t) ss) f))

-- the number of a latch tells core, attempt and which it is
number_tells : (c n a d m b : ℕ) → c < 16 → d < 16 → a < 2 → b < 2 → eqb (latch_number d m b) (latch_number c n a) ≡ ((eqb d c && eqb m n) && eqb b a)
number_tells c n a d m b hc hd ha hb = elim (cases_eq d c) [
  | inl e ↦ elim (cases_eq m n) [
    | inl f ↦ grind (arith, nat_tests, e, f)
    | inr f ↦ grind (arith, nat_tests, e, f)
  ]
  | inr e ↦ grind (arith, nat_tests, e)
]

and_true : (b : Bool) → b ≡ (b && true)
and_true true = refl
and_true false = refl

and_false : (b : Bool) → false ≡ (b && false)
and_false true = refl
and_false false = refl

-- strikes in their ranges hit one latch exactly where its number is one
same_number : (s t : Strike) → InRange s → InRange t → same_latch s t ≡ is_noted (is_latch (latch_of t)) (latch_of s)
same_number (Packet c n u b k) t h g = refl
same_number (Word c n w b) t h g = refl
same_number (Fetch c n b) (Packet d m v x j) h g = refl
same_number (Fetch c n b) (Fetch d m x) h g = and_true _ ∙ sym (number_tells c.0 n 0 d.0 m 0 h.0 g.0 (omega arith) (omega arith))
same_number (Fetch c n b) (Store d m x) h g = and_false _ ∙ sym (number_tells c.0 n 0 d.0 m 1 h.0 g.0 (omega arith) (omega arith))
same_number (Fetch c n b) (Word d m w x) h g = refl
same_number (Store c n b) (Packet d m v x j) h g = refl
same_number (Store c n b) (Fetch d m x) h g = and_false _ ∙ sym (number_tells c.0 n 1 d.0 m 0 h.0 g.0 (omega arith) (omega arith))
same_number (Store c n b) (Store d m x) h g = and_true _ ∙ sym (number_tells c.0 n 1 d.0 m 1 h.0 g.0 (omega arith) (omega arith))
same_number (Store c n b) (Word d m w x) h g = refl

noted_or : (has new : ℕ → Bool) (p o : Option ℕ) → ((q : ℕ) → new q ≡ (is_latch p q || has q)) → (is_noted (is_latch p) o || is_noted has o) ≡ is_noted new o
noted_or has new p None h = refl
noted_or has new p (Some q) h = sym (h q)

pub gathered_more : (ls : List Strike) (t : Strike) (has new : ℕ → Bool) → IsGathered ls has → InRange t → list_any (same_latch t) ls ≡ false → ((q : ℕ) → new q ≡ (is_latch (latch_of t) q || has q)) → IsGathered (ls ++ t ∷ []) new
gathered_more ls t has new h r fresh is = record {
  ranges = ranges_more ls t h.ranges r;
  latches = once_more ls t h.latches fresh;
  noted = λ s g.
      any_more (same_latch s) ls t
      ∙ ap (λ b. b || list_any (same_latch s) ls) (same_number s t g r)
      ∙ ap (λ b. is_noted (is_latch (latch_of t)) (latch_of s) || b) (h.noted s g)
      ∙ noted_or has new (latch_of t) (latch_of s) is;
}

none_noted : (has : ℕ → Bool) (o : Option ℕ) → ((q : ℕ) → has q ≡ false) → false ≡ is_noted has o
none_noted has None h = refl
none_noted has (Some q) h = sym (h q)

pub gathered_none : (has : ℕ → Bool) → ((q : ℕ) → has q ≡ false) → IsGathered [] has
gathered_none has h = record {
  ranges = tt;
  latches = tt;
  noted = λ s r. none_noted has (latch_of s) h;
}
