-- Names found in lists, and in lists with one name more.
use Rattle.std.proofs.Common.{◌≡◌, ℕ, suc, ◌+◌, ◌<◌, ◌≤◌, Bool, true, false, cond, eqb, ◌||◌, List, [], ◌∷◌, ◌++◌, length, Option, Some, None, refl, sym, ◌∙◌, ap, arith, is_some}
use Rattle.std.proofs.lemmas.Bool.Decides.{nat_tests}
use Rattle.std.specs.List.{find, list_any}
use Rattle.asm_model.specs.declared.program.Defined.{Defined}
use Rattle.asm_model.specs.Places.{is_in, with_new}
use Rattle.asm_model.specs.Refused.{has_name, nowhere, or_nowhere, place_of}
use Rattle.asm_model.specs.Program.{place_in}
use Rattle.asm_places.specs.Named.{or_else, or_then, AllLow, AreNamed, number_in, AreNumbered}

-- ---- names with their places

any_step : (b c : Bool) (d : Defined) (o : Option Defined) → c ≡ is_some o → (b || c) ≡ is_some (cond b (Some d) o)
any_step true c d o e = refl
any_step false c d o e = e

pub any_found : (q : ℕ) (ds : List Defined) → list_any (has_name q) ds ≡ is_some (find (has_name q) ds)
any_found q [] = refl
any_found q (d ∷ ds) = any_step (has_name q d) (list_any (has_name q) ds) d (find (has_name q) ds) (any_found q ds)

push_step : (b : Bool) (d : Defined) (r s o : Option Defined) → r ≡ or_else s o → cond b (Some d) r ≡ or_else (cond b (Some d) s) o
push_step true d r s o e = refl
push_step false d r s o e = e

pub find_push : (q : ℕ) (ds : List Defined) (d : Defined) → find (has_name q) (ds ++ d ∷ []) ≡ or_else (find (has_name q) ds) (cond (eqb d.name q) (Some d) None)
find_push q [] d = refl
find_push q (x ∷ ds) d = push_step (has_name q x) x (find (has_name q) (ds ++ d ∷ [])) (find (has_name q) ds) (cond (eqb d.name q) (Some d) None) (find_push q ds d)

abbrev value_of : Option ℕ → ℕ
value_of None = 0
value_of (Some n) = n

abbrev offset_of : Option Defined → ℕ
offset_of None = 0
offset_of (Some d) = d.offset

low_step : (b : Bool) (x d : Defined) (o : Option Defined) → x.offset < 4294967296 → (o ≡ Some d → d.offset < 4294967296) → cond b (Some x) o ≡ Some d → d.offset < 4294967296
low_step true x d o l ih h = let e : x.offset ≡ d.offset = ap offset_of h in omega (arith, e, l)
low_step false x d o l ih h = ih h

pub find_low : (q : ℕ) (ds : List Defined) (d : Defined) → AllLow ds → find (has_name q) ds ≡ Some d → d.offset < 4294967296
find_low q [] d a h = let z : false ≡ true = ap is_some h in absurd (grind (arith, nat_tests))
find_low q (x ∷ ds) d a h = low_step (has_name q x) x d (find (has_name q) ds) a.0 (find_low q ds d a.1) h

low_push : (ds : List Defined) (d : Defined) → AllLow ds → d.offset < 4294967296 → AllLow (ds ++ d ∷ [])
low_push [] d a l = (l, tt)
low_push (x ∷ ds) d a l = (a.0, low_push ds d a.1 l)

pub place_found : (q : ℕ) (ds : List Defined) (d : Defined) → find (has_name q) ds ≡ Some d → d ≡ place_of ds q
unfolding place_of
place_found q ds d h = ap or_nowhere (sym h)

pub place_none : (q : ℕ) (ds : List Defined) → find (has_name q) ds ≡ None → nowhere ≡ place_of ds q
unfolding place_of
place_none q ds h = ap or_nowhere (sym h)

-- one name more, which the map had or not
pub named_more : (ds : List Defined) (d : Defined) (old new : ℕ → Option Defined) → AreNamed ds old → d.offset < 4294967296 → ((q : ℕ) → new q ≡ or_else (old q) (cond (eqb d.name q) (Some d) None)) → AreNamed (ds ++ d ∷ []) new
named_more ds d old new n l u = record {
  found = λ q. u q ∙ (ap (λ o. or_else o (cond (eqb d.name q) (Some d) None)) (n.found q) ∙ sym (find_push q ds d));
  low = low_push ds d n.low l;
}

-- ---- external names with their numbers

abbrev up : Option ℕ → Option ℕ
up None = None
up (Some n) = Some (suc n)

abbrev counted : ℕ → List ℕ → Option ℕ
counted q [] = None
counted q (x ∷ ms) = cond (eqb x q) (Some 0) (up (counted q ms))

abbrev numbered : Bool → ℕ → Option ℕ
numbered b n = cond b (Some n) None

cons_step : (b c : Bool) (p : ℕ) (r : Option ℕ) → numbered c p ≡ r → numbered (b || c) (cond b 0 (p + 1)) ≡ cond b (Some 0) (up r)
cons_step true c p r e = refl
cons_step false true p r e = let s : p + 1 ≡ suc p = omega arith in ap Some s ∙ ap up e
cons_step false false p r e = ap up e

number_is : (q : ℕ) (ms : List ℕ) → number_in q ms ≡ counted q ms
number_is q [] = refl
number_is q (x ∷ ms) = cons_step (eqb x q) (is_in q ms) (place_in q ms) (counted q ms) (number_is q ms)

more_step : (b c : Bool) (r : Option ℕ) (n : ℕ) → cond b (Some 0) (up (or_then r (numbered c n))) ≡ or_then (cond b (Some 0) (up r)) (numbered c (suc n))
more_step true c r n = refl
more_step false c (Some r) n = refl
more_step false true None n = refl
more_step false false None n = refl

counted_push : (q : ℕ) (ms : List ℕ) (m : ℕ) → counted q (ms ++ m ∷ []) ≡ or_then (counted q ms) (numbered (eqb m q) (length ms))
counted_push q [] m = refl
counted_push q (x ∷ ms) m = ap (λ r. cond (eqb x q) (Some 0) (up r)) (counted_push q ms m) ∙ more_step (eqb x q) (eqb m q) (counted q ms) (length ms)

-- one name more, which was not there
pub numbered_more : (ms : List ℕ) (m : ℕ) (old new : ℕ → Option ℕ) → AreNumbered ms old → ((q : ℕ) → new q ≡ or_then (old q) (cond (eqb m q) (Some (length ms)) None)) → AreNumbered (ms ++ m ∷ []) new
numbered_more ms m old new n u = record {
  found = λ q. u q ∙ (ap (λ o. or_then o (numbered (eqb m q) (length ms))) (n.found q ∙ number_is q ms) ∙ (sym (counted_push q ms m) ∙ sym (number_is q (ms ++ m ∷ []))));
}

there_step : (b : Bool) (p : ℕ) → b ≡ is_some (numbered b p)
there_step true p = refl
there_step false p = refl

pub is_there : (q : ℕ) (ms : List ℕ) → is_in q ms ≡ is_some (number_in q ms)
is_there q ms = there_step (is_in q ms) (place_in q ms)

value_step : (b : Bool) (p n : ℕ) → numbered b p ≡ Some n → n ≡ p
value_step true p n h = ap value_of (sym h)
value_step false p n h = let z : false ≡ true = ap is_some h in absurd (grind (arith, nat_tests))

pub place_there : (q n : ℕ) (ms : List ℕ) → number_in q ms ≡ Some n → n ≡ place_in q ms
place_there q n ms h = value_step (is_in q ms) (place_in q ms) n h

missing_step : (b c : Bool) (p n : ℕ) → (b || c) ≡ false → (c ≡ false → p ≡ n) → cond b 0 (p + 1) ≡ suc n
missing_step true c p n h e = absurd (grind (arith, nat_tests))
missing_step false c p n h e = let f = e h in omega (arith, f)

missing : (q : ℕ) (ms : List ℕ) → is_in q ms ≡ false → place_in q ms ≡ length ms
missing q [] h = refl
missing q (x ∷ ms) h = missing_step (eqb x q) (is_in q ms) (place_in q ms) (length ms) h (missing q ms)

pub place_missing : (q : ℕ) (ms : List ℕ) → number_in q ms ≡ None → length ms ≡ place_in q ms
place_missing q ms h = sym (missing q ms (is_there q ms ∙ ap is_some h))

there : (b : Bool) (ms ns : List ℕ) → b ≡ true → ms ≡ cond b ms ns
there b ms ns h = ap (λ c. cond c ms ns) (sym h)

pub new_there : (m : ℕ) (ms : List ℕ) → is_some (number_in m ms) ≡ true → ms ≡ with_new m ms
new_there m ms h = there (is_in m ms) ms (ms ++ m ∷ []) (is_there m ms ∙ h)

pub new_missing : (m : ℕ) (ms : List ℕ) → is_some (number_in m ms) ≡ false → ms ++ m ∷ [] ≡ with_new m ms
new_missing m ms h = ap (λ c. cond c ms (ms ++ m ∷ [])) (sym (is_there m ms ∙ h))

low_place : (b : Bool) (p n : ℕ) → p ≤ n → cond b 0 (p + 1) ≤ suc n
low_place true p n h = omega arith
low_place false p n h = omega (arith, h)

pub place_low : (q : ℕ) (ms : List ℕ) → place_in q ms ≤ length ms
place_low q [] = omega arith
place_low q (x ∷ ms) = low_place (eqb x q) (place_in q ms) (length ms) (place_low q ms)
