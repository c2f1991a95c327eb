-- Fields outside their ranges, one line at a time.
use Rattle.std.proofs.Common.{◌≡◌, ℕ, ◌+◌, Bool, true, false, cond, not, List, [], ◌∷◌, Option, Some, None, refl, sym, ◌∙◌, ap, subst, arith, is_some}
use Rattle.std.proofs.lemmas.Bool.Decides.{nat_tests}
use Rattle.std.specs.List.{find}
use Rattle.asm_model.specs.declared.operands.Goes.{Goes}
use Rattle.asm_model.specs.declared.operands.Goes.TheVariants.{First, Second, Half}
use Rattle.asm_model.specs.declared.operands.Reference.{Reference}
use Rattle.asm_model.specs.declared.operands.Given.{Given}
use Rattle.asm_model.specs.declared.statements.Operation.{Operation}
use Rattle.asm_model.specs.declared.statements.Operation.TheVariants.{Section, Bytes, Word, Address, External, Space, AlignWord, AlignDouble, Using, End, Instruction}
use Rattle.asm_model.specs.declared.statements.Line.{Line}
use Rattle.asm_model.specs.declared.statements.Line.TheVariants.{Broken, Unknown, Said}
use Rattle.asm_model.specs.declared.statements.Source.{Source}
use Rattle.asm_model.specs.declared.program.Defined.{Defined}
use Rattle.asm_places.specs.declared.spots.Spot.{Spot}
use Rattle.asm_model.specs.Places.{State, Standing, standing_at, after, standings}
use Rattle.asm_model.specs.Refused.{by_goes, by_reference, resolved, in_range, passes, is_out, is_out_by, said_by, place_of}
use Rattle.asm_places.specs.Found.{number_of}
use Rattle.asm_places.specs.Spots.{spot_of, at, IsLow}
use Rattle.asm_places.proofs.Walks.{after_same, after_spot, low_of, stands, found_alike, found_here, found_on}

-- ---- fields depend on the place of their instruction alone

goes_at : (names : List Defined) (s : State) (p : Defined) (to : ℕ) (g : Given) (goes : Goes) → by_goes goes names s p to g ≡ by_goes goes names (at (spot_of s)) p to g
goes_at names s p to g First = refl
goes_at names s p to g Second = refl
goes_at names s p to g Half = refl

referred_at : (names : List Defined) (s : State) (r : Option Reference) (g : Given) → by_reference names s r g ≡ by_reference names (at (spot_of s)) r g
referred_at names s None g = refl
referred_at names s (Some r) g = goes_at names s (place_of names r.name) ((place_of names r.name).offset + r.plus) g r.goes

pub resolved_at : (names : List Defined) (s : State) (g : Given) → resolved names s g ≡ resolved names (at (spot_of s)) g
unfolding resolved
resolved_at names s g = referred_at names s g.to g

pub resolved_same : (names : List Defined) (s t : State) (g : Given) → spot_of s ≡ spot_of t → resolved names s g ≡ resolved names t g
resolved_same names s t g e = resolved_at names s g ∙ (ap (λ (p : Spot). resolved names (at p) g) e ∙ sym (resolved_at names t g))

-- ---- lines

abbrev SameSpot : State → State → Type 0
SameSpot s t = spot_of s ≡ spot_of t

raised_same : (s t : State) (g : Given) → SameSpot s t → SameSpot (standing_at s (Instruction g)) (standing_at t (Instruction g))
raised_same s t g e = ap (λ (p : Spot). spot_of (standing_at (at p) (Instruction g))) e

out_operation : (names : List Defined) (s t : State) (o : Operation) → SameSpot s t → is_out_by names s o ≡ is_out_by names t o
out_operation names s t (Instruction g) e = ap (λ (h : Given). not (in_range h)) (resolved_same names (standing_at s (Instruction g)) (standing_at t (Instruction g)) g (raised_same s t g e))
out_operation names s t (Using m r) e = refl
out_operation names s t Section e = refl
out_operation names s t (Bytes b) e = refl
out_operation names s t (Word n) e = refl
out_operation names s t (Address m n) e = refl
out_operation names s t (External m) e = refl
out_operation names s t (Space n) e = refl
out_operation names s t AlignWord e = refl
out_operation names s t AlignDouble e = refl
out_operation names s t (End m) e = refl

out_line : (names : List Defined) (s t : State) (l : Line) → SameSpot s t → said_by (is_out_by names) s l ≡ said_by (is_out_by names) t l
out_line names s t Broken e = refl
out_line names s t Unknown e = refl
out_line names s t (Said u) e = out_operation names s t u.operation e

pub out_stops : (names : List Defined) (p : Spot) (x : Source) (xs : List Source) → said_by (is_out_by names) (at p) x.line ≡ true → Some x.number ≡ number_of (find (is_out names) (standings (at p) (x ∷ xs)))
out_stops names p x xs h = found_here (is_out names) (at p) x xs h

pub out_goes : (names : List Defined) (p q : Spot) (x : Source) (xs : List Source) → said_by (is_out_by names) (at p) x.line ≡ false → q ≡ spot_of (after (at p) x.line) → number_of (find (is_out names) (standings (at q) xs)) ≡ number_of (find (is_out names) (standings (at p) (x ∷ xs)))
out_goes names p q x xs h e =
    found_alike SameSpot (is_out names) (λ s t y k. out_line names s t y.line k) (λ s t l k. after_same s t l k) (at q) (after (at p) x.line) xs e
    ∙ found_on (is_out names) (at p) x xs h

-- ---- places of lines that are not too big

abbrev pub StayLow : Spot → List Source → Type 0
StayLow p [] = Unit {0}
StayLow p (x ∷ xs) = IsLow (spot_of (after (at p) x.line)) × StayLow (spot_of (after (at p) x.line)) xs

none_step : (b : Bool) (x : Standing) (o : Option Standing) → cond b (Some x) o ≡ None → (b ≡ false) × (o ≡ None)
none_step true x o h = let z : true ≡ false = ap is_some h in absurd (grind (arith, nat_tests))
none_step false x o h = (refl, h)

pub all_low : (s : State) (xs : List Source) → find passes (standings s xs) ≡ None → StayLow (spot_of s) xs
all_low s [] h = tt
all_low s (x ∷ xs) h =
    let both = none_step (passes (stands x s)) (stands x s) (find passes (standings (after s x.line) xs)) h in (
      subst IsLow (after_spot s x.line) (low_of (after s x.line) both.0),
      subst (λ (p : Spot). StayLow p xs) (after_spot s x.line) (all_low (after s x.line) xs both.1),
    )
