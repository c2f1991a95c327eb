-- What no refusal finds in a source that has none.
use Rattle.std.proofs.Common.{◌≡◌, ℕ, Bool, true, false, cond, List, [], ◌∷◌, Option, Some, None, refl, sym, ◌∙◌, ap, subst, arith, is_some}
use Rattle.std.proofs.lemmas.Bool.Decides.{nat_tests}
use Rattle.std.specs.List.{find}
use Rattle.asm_model.specs.declared.statements.Source.{Source}
use Rattle.asm_model.specs.declared.program.Defined.{Defined}
use Rattle.asm_model.specs.declared.refusal.AsmRefusal.{AsmRefusal}
use Rattle.asm_model.specs.declared.refusal.AsmRefusal.TheVariants as refusal
use Rattle.asm_model.specs.Places.{State, Standing, start, standings, last}
use Rattle.asm_model.specs.Refused.{is_bad, is_unknown, has_no_section, passes, is_doubled, is_undefined, has_no_base, is_out, refused, unended, later_refusal, refusal_of}

pub record IsClean (names : List Defined) (x : Standing) : Type 0 where
  pub bad : is_bad x ≡ false
  pub unknown : is_unknown x ≡ false
  pub placed : has_no_section x ≡ false
  pub fits : passes x ≡ false
  pub single : is_doubled x ≡ false
  pub defined : is_undefined names x ≡ false
  pub based : has_no_base names x ≡ false
  pub ranged : is_out names x ≡ false

abbrev pub AllClean : List Defined → List Standing → Type 0
AllClean names [] = Unit {0}
AllClean names (x ∷ xs) = IsClean names x × AllClean names xs

-- ---- refusals that are none

refused_none : (r : ℕ → AsmRefusal) (o : Option Standing) (more : Option AsmRefusal) → refused r o more ≡ None → (o ≡ None) × (more ≡ None)
refused_none r None more h = (refl, h)
refused_none r (Some s) more h = let z : true ≡ false = ap is_some h in absurd (grind (arith, nat_tests))

unended_none : (b : Bool) (more : Option AsmRefusal) → unended b more ≡ None → (b ≡ true) × (more ≡ None)
unended_none true more h = (refl, h)
unended_none false more h = let z : true ≡ false = ap is_some h in absurd (grind (arith, nat_tests))

found_head : (p : Standing → Bool) (x : Standing) (xs : List Standing) (b : Bool) → p x ≡ b → cond b (Some x) (find p xs) ≡ None → (p x ≡ false) × (find p xs ≡ None)
found_head p x xs true e h = let z : true ≡ false = ap is_some h in absurd (grind (arith, nat_tests))
found_head p x xs false e h = (e, h)

head_false : (p : Standing → Bool) (x : Standing) (xs : List Standing) → find p (x ∷ xs) ≡ None → (p x ≡ false) × (find p xs ≡ None)
head_false p x xs h = found_head p x xs (p x) refl h

-- ---- all lines

all_clean : (names : List Defined) (xs : List Standing) → find is_bad xs ≡ None → find is_unknown xs ≡ None → find has_no_section xs ≡ None → find passes xs ≡ None → find is_doubled xs ≡ None → find (is_undefined names) xs ≡ None → find (has_no_base names) xs ≡ None → find (is_out names) xs ≡ None → AllClean names xs
all_clean names [] a b c d e f g h = tt
all_clean names (x ∷ xs) a b c d e f g h =
    let i = head_false is_bad x xs a in
    let j = head_false is_unknown x xs b in
    let k = head_false has_no_section x xs c in
    let l = head_false passes x xs d in
    let m = head_false is_doubled x xs e in
    let n = head_false (is_undefined names) x xs f in
    let o = head_false (has_no_base names) x xs g in
    let p = head_false (is_out names) x xs h in (
      record {
        bad = i.0;
        unknown = j.0;
        placed = k.0;
        fits = l.0;
        single = m.0;
        defined = n.0;
        based = o.0;
        ranged = p.0;
      },
      all_clean names xs i.1 j.1 k.1 l.1 m.1 n.1 o.1 p.1,
    )

pub clean : (xs : List Source) → refusal_of xs ≡ None → AllClean (last start xs).names (standings start xs)
unfolding refusal_of
clean xs h =
    let ss = standings start xs in
    let end = last start xs in
    let a = refused_none refusal.BadLine (find is_bad ss) _ h in
    let b = refused_none refusal.UnknownOp (find is_unknown ss) _ a.1 in
    let c = refused_none refusal.NoSection (find has_no_section ss) _ b.1 in
    let d = unended_none end.ended (later_refusal end.names ss) c.1 in
    let e = refused_none refusal.TooBig (find passes ss) _ d.1 in
    let f = refused_none refusal.Doubled (find is_doubled ss) _ e.1 in
    let g = refused_none refusal.Undefined (find (is_undefined end.names) ss) _ f.1 in
    let i = refused_none refusal.NoBase (find (has_no_base end.names) ss) _ g.1 in
    let j = refused_none refusal.OutOfRange (find (is_out end.names) ss) None i.1 in
    all_clean end.names ss a.0 b.0 c.0 e.0 f.0 g.0 i.0 j.0
