-- Places and doubled names, one line at a time.
use Rattle.std.proofs.Common.{◌≡◌, ℕ, Bool, true, false, cond, inr, List, [], ◌∷◌, Option, Some, None, refl, sym, ◌∙◌, ap, subst}
use Rattle.std.specs.List.{find}
use Rattle.asm_model.specs.declared.statements.Source.{Source}
use Rattle.asm_model.specs.declared.refusal.AsmRefusal.TheVariants.{TooBig, Doubled}
use Rattle.asm_model.specs.Places.{State, Standing, start, after, standings, last}
use Rattle.asm_model.specs.Refused.{passes, is_too_big, is_doubled, doubled_line, refused}
use Rattle.asm_places.specs.Found.{number_of, first_line, placing_refusal, MayBe}
use Rattle.asm_places.specs.Named.{or_then}
use Rattle.asm_places.proofs.Chains.{refused_by, refused_on}
use Rattle.asm_places.proofs.Walks.{stands, found_here, found_on}

-- what holds of the lines that are left
pub record Going (xs : List Source) (doubled : Option ℕ) (s : State) (rest : List Source) : Type 0 where
  pub fits : is_too_big s ≡ false
  pub end : last s rest ≡ last start xs
  pub passing : number_of (find passes (standings s rest)) ≡ first_line passes xs
  pub again : or_then doubled (number_of (find is_doubled (standings s rest))) ≡ first_line is_doubled xs

going_start : (xs : List Source) → Going xs None start xs
going_start xs = record { fits = refl; end = refl; passing = refl; again = refl }

pub going_first : (xs : List Source) (s : State) → s ≡ start → Going xs None s xs
going_first xs s e = subst (λ (t : State). Going xs None t xs) (sym e) (going_start xs)

again_step : (d : Option ℕ) (b : Bool) (x : Standing) (o : Option Standing) → or_then (or_then d (cond b (Some x.number) None)) (number_of o) ≡ or_then d (number_of (cond b (Some x) o))
again_step (Some n) b x o = refl
again_step None true x o = refl
again_step None false x o = refl

pub going_on : (xs : List Source) (d e : Option ℕ) (s t : State) (x : Source) (rest more : List Source) → Going xs d s rest → rest ≡ x ∷ more → t ≡ after s x.line → e ≡ or_then d (cond (doubled_line x.line s) (Some x.number) None) → is_too_big t ≡ false → Going xs e t more
going_on xs d e s t x rest more g r h k fits =
    let f : passes (stands x s) ≡ false = ap is_too_big (sym h) ∙ fits in
    let p : number_of (find passes (standings (after s x.line) more)) ≡ first_line passes xs =
    found_on passes s x more f ∙ (ap (λ ys. number_of (find passes (standings s ys))) (sym r) ∙ g.passing) in
    let a : or_then e (number_of (find is_doubled (standings (after s x.line) more))) ≡ first_line is_doubled xs =
    ap (λ o. or_then o (number_of (find is_doubled (standings (after s x.line) more)))) k
    ∙ (again_step d (doubled_line x.line s) (stands x s) (find is_doubled (standings (after s x.line) more))
    ∙ (ap (λ ys. or_then d (number_of (find is_doubled (standings s ys)))) (sym r) ∙ g.again)) in
    record {
      fits = fits;
      end = ap (λ u. last u more) h ∙ (ap (last s) (sym r) ∙ g.end);
      passing = ap (λ u. number_of (find passes (standings u more))) h ∙ p;
      again = ap (λ u. or_then e (number_of (find is_doubled (standings u more)))) h ∙ a;
    }

pub too_big : (xs : List Source) (d : Option ℕ) (s t : State) (x : Source) (rest more : List Source) → Going xs d s rest → rest ≡ x ∷ more → t ≡ after s x.line → is_too_big t ≡ true → MayBe (placing_refusal xs) (TooBig x.number)
too_big xs d s t x rest more g r h b =
    let f : passes (stands x s) ≡ true = ap is_too_big (sym h) ∙ b in
    let n : number_of (find passes (standings start xs)) ≡ Some x.number =
    sym (found_here passes s x more f ∙ (ap (λ ys. number_of (find passes (standings s ys))) (sym r) ∙ g.passing)) in
    inr (sym (refused_by TooBig x.number (find passes (standings start xs)) (refused Doubled (find is_doubled (standings start xs)) None) n))

or_nothing : (d : Option ℕ) → d ≡ or_then d None
or_nothing (Some n) = refl
or_nothing None = refl

found_none : (xs : List Source) (d : Option ℕ) (s : State) → Going xs d s [] → (None ≡ first_line passes xs) × (d ≡ first_line is_doubled xs)
found_none xs d s g = (g.passing, or_nothing d ∙ g.again)

pub doubled_there : (xs : List Source) (d : Option ℕ) (n : ℕ) (s : State) (rest : List Source) → Going xs d s rest → rest ≡ [] → d ≡ Some n → MayBe (placing_refusal xs) (Doubled n)
doubled_there xs d n s rest g r e =
    let f = found_none xs d s (subst (Going xs d s) r g) in
    inr (sym (refused_on TooBig (find passes (standings start xs)) (refused Doubled (find is_doubled (standings start xs)) None) (sym f.0))
    ∙ sym (refused_by Doubled n (find is_doubled (standings start xs)) None (sym f.1 ∙ e)))

pub doubled_none : (xs : List Source) (d : Option ℕ) (s : State) (rest : List Source) → Going xs d s rest → rest ≡ [] → d ≡ None → placing_refusal xs ≡ None
doubled_none xs d s rest g r e =
    let f = found_none xs d s (subst (Going xs d s) r g) in
    sym (refused_on TooBig (find passes (standings start xs)) (refused Doubled (find is_doubled (standings start xs)) None) (sym f.0))
    ∙ sym (refused_on Doubled (find is_doubled (standings start xs)) None (sym f.1 ∙ e))

pub end_there : (xs : List Source) (d : Option ℕ) (s : State) (rest : List Source) → Going xs d s rest → rest ≡ [] → s ≡ last start xs
end_there xs d s rest g r = ap (last s) (sym r) ∙ g.end
