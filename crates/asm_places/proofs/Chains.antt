-- The refusals one after another.
use Rattle.std.proofs.Common.{◌≡◌, ℕ, Bool, true, false, inl, inr, List, Option, Some, None, refl, sym, ◌∙◌, ap, arith, is_some}
use Rattle.std.proofs.lemmas.Bool.Decides.{nat_tests}
use Rattle.std.specs.List.{find}
use Rattle.asm_model.specs.declared.program.Defined.{Defined}
use Rattle.asm_model.specs.declared.statements.Source.{Source}
use Rattle.asm_model.specs.declared.refusal.AsmRefusal.{AsmRefusal}
use Rattle.asm_model.specs.declared.refusal.AsmRefusal.TheVariants.{BadLine, UnknownOp, NoSection, TooBig, Doubled}
use Rattle.asm_model.specs.Places.{State, Standing, start, standings, last}
use Rattle.asm_model.specs.Refused.{is_bad, is_unknown, has_no_section, passes, is_doubled, refused, unended, refusal_of}
use Rattle.asm_places.specs.Found.{number_of, MayBe, placing_refusal, form_refusal, name_refusal}

abbrev number_or_zero : Option ℕ → ℕ
number_or_zero None = 0
number_or_zero (Some n) = n

pub refused_by : (r : ℕ → AsmRefusal) (n : ℕ) (o : Option Standing) (more : Option AsmRefusal) → number_of o ≡ Some n → Some (r n) ≡ refused r o more
refused_by r n None more h = let z : false ≡ true = ap is_some h in absurd (grind (arith, nat_tests))
refused_by r n (Some s) more h = ap (λ k. Some (r (number_or_zero k))) (sym h)

pub refused_on : (r : ℕ → AsmRefusal) (o : Option Standing) (more : Option AsmRefusal) → number_of o ≡ None → more ≡ refused r o more
refused_on r None more h = refl
refused_on r (Some s) more h = let z : true ≡ false = ap is_some h in absurd (grind (arith, nat_tests))

-- ---- what comes behind refusals that are, or are not

stays : (r : ℕ → AsmRefusal) (o : Option Standing) (f g : Option AsmRefusal) (x : AsmRefusal) → (f ≡ Some x → g ≡ Some x) → refused r o f ≡ Some x → refused r o g ≡ Some x
stays r None f g x h e = h e
stays r (Some s) f g x h e = e

passed : (r : ℕ → AsmRefusal) (o : Option Standing) (f g more : Option AsmRefusal) → (f ≡ None → g ≡ more) → refused r o f ≡ None → refused r o g ≡ more
passed r None f g more h e = h e
passed r (Some s) f g more h e = let z : true ≡ false = ap is_some e in absurd (grind (arith, nat_tests))

ended_stays : (b : Bool) (more : Option AsmRefusal) (x : AsmRefusal) → unended b None ≡ Some x → unended b more ≡ Some x
ended_stays true more x e = let z : false ≡ true = ap is_some e in absurd (grind (arith, nat_tests))
ended_stays false more x e = e

ended_passed : (b : Bool) (more : Option AsmRefusal) → unended b None ≡ None → unended b more ≡ more
ended_passed true more e = refl
ended_passed false more e = let z : true ≡ false = ap is_some e in absurd (grind (arith, nat_tests))

abbrev behind_forms : List Source → Option AsmRefusal → Option AsmRefusal
behind_forms xs more =
    refused BadLine (find is_bad (standings start xs))
    (refused UnknownOp (find is_unknown (standings start xs))
    (refused NoSection (find has_no_section (standings start xs)) (unended (last start xs).ended more)))

abbrev behind_places : List Source → Option AsmRefusal → Option AsmRefusal
behind_places xs more =
    refused TooBig (find passes (standings start xs))
    (refused Doubled (find is_doubled (standings start xs)) more)

abbrev third : List Source → Option AsmRefusal → Option AsmRefusal
third xs more = refused NoSection (find has_no_section (standings start xs)) more

abbrev second : List Source → Option AsmRefusal → Option AsmRefusal
second xs more = refused UnknownOp (find is_unknown (standings start xs)) (third xs more)

forms_stay : (xs : List Source) (more : Option AsmRefusal) (x : AsmRefusal) → form_refusal xs ≡ Some x → behind_forms xs more ≡ Some x
forms_stay xs more x h =
    let e : Bool = (last start xs).ended in
    stays BadLine (find is_bad (standings start xs)) (second xs (unended e None)) (second xs (unended e more)) x
    (stays UnknownOp (find is_unknown (standings start xs)) (third xs (unended e None)) (third xs (unended e more)) x
    (stays NoSection (find has_no_section (standings start xs)) (unended e None) (unended e more) x (ended_stays e more x))) h

forms_pass : (xs : List Source) (more : Option AsmRefusal) → form_refusal xs ≡ None → behind_forms xs more ≡ more
forms_pass xs more h =
    let e : Bool = (last start xs).ended in
    passed BadLine (find is_bad (standings start xs)) (second xs (unended e None)) (second xs (unended e more)) more
    (passed UnknownOp (find is_unknown (standings start xs)) (third xs (unended e None)) (third xs (unended e more)) more
    (passed NoSection (find has_no_section (standings start xs)) (unended e None) (unended e more) more (ended_passed e more))) h

places_stay : (xs : List Source) (more : Option AsmRefusal) (x : AsmRefusal) → placing_refusal xs ≡ Some x → behind_places xs more ≡ Some x
places_stay xs more x h =
    let ss = standings start xs in
    stays TooBig (find passes ss) (refused Doubled (find is_doubled ss) None) (refused Doubled (find is_doubled ss) more) x
    (stays Doubled (find is_doubled ss) None more x (λ e. let z : false ≡ true = ap is_some e in absurd (grind (arith, nat_tests)))) h

places_pass : (xs : List Source) (more : Option AsmRefusal) → placing_refusal xs ≡ None → behind_places xs more ≡ more
places_pass xs more h =
    let ss = standings start xs in
    passed TooBig (find passes ss) (refused Doubled (find is_doubled ss) None) (refused Doubled (find is_doubled ss) more) more
    (passed Doubled (find is_doubled ss) None more more (λ e. refl)) h

-- ---- of a whole source

abbrev names_in : List Source → List Defined
names_in xs = (last start xs).names

whole : (xs : List Source) → refusal_of xs ≡ behind_forms xs (behind_places xs (name_refusal (names_in xs) xs))
unfolding refusal_of
whole xs = refl

pub by_form : (xs : List Source) (r : AsmRefusal) → form_refusal xs ≡ Some r → MayBe (refusal_of xs) r
by_form xs r h = inr (whole xs ∙ forms_stay xs (behind_places xs (name_refusal (names_in xs) xs)) r h)

pub by_place : (xs : List Source) (r : AsmRefusal) → form_refusal xs ≡ None → MayBe (placing_refusal xs) r → MayBe (refusal_of xs) r
by_place xs r f (inl e) = inl e
by_place xs r f (inr e) =
    let more = name_refusal (names_in xs) xs in
    inr (whole xs ∙ (forms_pass xs (behind_places xs more) f ∙ places_stay xs more r e))

pub by_name : (xs : List Source) (r : AsmRefusal) (end : State) (names : List Defined) → form_refusal xs ≡ None → placing_refusal xs ≡ None → end ≡ last start xs → names ≡ end.names → name_refusal names xs ≡ Some r → MayBe (refusal_of xs) r
by_name xs r end names f p e n h =
    let more = name_refusal (names_in xs) xs in
    let same : names ≡ names_in xs = n ∙ ap (λ (s : State). s.names) e in
    inr (whole xs ∙ (forms_pass xs (behind_places xs more) f ∙ (places_pass xs more p ∙ (ap (λ (ds : List Defined). name_refusal ds xs) (sym same) ∙ h))))

pub by_none : (xs : List Source) (end : State) (names : List Defined) → form_refusal xs ≡ None → placing_refusal xs ≡ None → end ≡ last start xs → names ≡ end.names → name_refusal names xs ≡ None → refusal_of xs ≡ None
by_none xs end names f p e n h =
    let more = name_refusal (names_in xs) xs in
    let same : names ≡ names_in xs = n ∙ ap (λ (s : State). s.names) e in
    whole xs ∙ (forms_pass xs (behind_places xs more) f ∙ (places_pass xs more p ∙ (ap (λ (ds : List Defined). name_refusal ds xs) (sym same) ∙ h)))

none_first : (r : ℕ → AsmRefusal) (o : Option Standing) (more : Option AsmRefusal) → refused r o more ≡ None → o ≡ None
none_first r None more h = refl
none_first r (Some s) more h = let z : true ≡ false = ap is_some h in absurd (grind (arith, nat_tests))

pub none_pass : (xs : List Source) → placing_refusal xs ≡ None → find passes (standings start xs) ≡ None
none_pass xs h = none_first TooBig (find passes (standings start xs)) (refused Doubled (find is_doubled (standings start xs)) None) h
