-- Fields outside their ranges over the lines that are left.
use Rattle.std.proofs.Common.{◌≡◌, true, false, List, [], ◌∷◌, Some, None, sym, ◌∙◌, ap, subst}
use Rattle.std.specs.List.{find}
use Rattle.asm_model.specs.declared.statements.Source.{Source}
use Rattle.asm_model.specs.declared.program.Defined.{Defined}
use Rattle.asm_model.specs.Places.{State, start, after, standings}
use Rattle.asm_model.specs.Refused.{passes, is_out, is_out_by, said_by}
use Rattle.asm_places.specs.declared.spots.Spot.{Spot}
use Rattle.asm_places.specs.Found.{number_of, first_line}
use Rattle.asm_places.specs.Spots.{spot_of, at, IsLow}
use Rattle.asm_places.proofs.OutSteps.{StayLow, all_low, out_stops, out_goes}

pub record Ranging (names : List Defined) (xs : List Source) (p : Spot) (rest : List Source) : Type 0 where
  pub low : IsLow p
  pub stays : StayLow p rest
  pub found : number_of (find (is_out names) (standings (at p) rest)) ≡ first_line (is_out names) xs

pub ranging_first : (names : List Defined) (xs : List Source) (p : Spot) → at p ≡ start → IsLow p → find passes (standings start xs) ≡ None → Ranging names xs p xs
ranging_first names xs p e l h = record {
  low = l;
  stays = let q : spot_of start ≡ p = ap spot_of (sym e) in subst (λ (r : Spot). StayLow r xs) q (all_low start xs h);
  found = ap (λ (s : State). number_of (find (is_out names) (standings s xs))) e;
}

pub ranging_on : (names : List Defined) (xs : List Source) (p q : Spot) (x : Source) (rest more : List Source) → Ranging names xs p rest → rest ≡ x ∷ more → said_by (is_out_by names) (at p) x.line ≡ false → q ≡ spot_of (after (at p) x.line) → Ranging names xs q more
ranging_on names xs p q x rest more r e h f =
    let s = subst (StayLow p) e r.stays in
    record {
      low = subst IsLow (sym f) s.0;
      stays = subst (λ (k : Spot). StayLow k more) (sym f) s.1;
      found = out_goes names p q x more h f ∙ (ap (λ ys. number_of (find (is_out names) (standings (at p) ys))) (sym e) ∙ r.found);
    }

pub ranging_stops : (names : List Defined) (xs : List Source) (p : Spot) (x : Source) (rest more : List Source) → Ranging names xs p rest → rest ≡ x ∷ more → said_by (is_out_by names) (at p) x.line ≡ true → Some x.number ≡ first_line (is_out names) xs
ranging_stops names xs p x rest more r e h = out_stops names p x more h ∙ (ap (λ ys. number_of (find (is_out names) (standings (at p) ys))) (sym e) ∙ r.found)

pub ranging_ends : (names : List Defined) (xs : List Source) (p : Spot) (rest : List Source) → Ranging names xs p rest → rest ≡ [] → None ≡ first_line (is_out names) xs
ranging_ends names xs p rest r e = ap (λ ys. number_of (find (is_out names) (standings (at p) ys))) (sym e) ∙ r.found
