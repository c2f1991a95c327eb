-- Names that no line defines and addresses without a base, one line at a time.
use Rattle.std.proofs.Common.{◌≡◌, Bool, true, false, List, ◌∷◌, Option, Some, None, refl, sym, ◌∙◌, ap}
use Rattle.std.specs.List.{find}
use Rattle.asm_model.specs.declared.operands.Reference.{Reference}
use Rattle.asm_model.specs.declared.statements.Operation.{Operation}
use Rattle.asm_model.specs.declared.statements.Operation.TheVariants.{Section, Bytes, Word, Address, External, Space, AlignWord, AlignDouble, Using, End, Instruction}
use Rattle.asm_model.specs.declared.statements.Line.{Line}
use Rattle.asm_model.specs.declared.statements.Line.TheVariants.{Broken, Unknown, Said}
use Rattle.asm_model.specs.declared.statements.Statement.{Statement}
use Rattle.asm_model.specs.declared.statements.Source.{Source}
use Rattle.asm_model.specs.declared.program.Base.{Base}
use Rattle.asm_model.specs.declared.program.Defined.{Defined}
use Rattle.asm_places.specs.declared.spots.Spot.{Spot}
use Rattle.asm_model.specs.Places.{State, start, size, done, standing_at, after, standings}
use Rattle.asm_model.specs.Refused.{is_missing, wanted, is_undefined, lacks_for, lacks_by, reference_of, has_no_base, said_by}
use Rattle.asm_places.specs.Found.{number_of}
use Rattle.asm_places.specs.Spots.{of_base}
use Rattle.asm_places.proofs.Walks.{named_spot, found_alike, found_here, found_on}

-- ---- names that no line defines

abbrev Any : State → State → Type 0
Any s t = Unit {0}

abbrev misses : List Defined → State → Operation → Bool
misses names t o = is_missing names (wanted o)

any_line : (names : List Defined) (s t : State) (l : Line) → said_by (misses names) s l ≡ said_by (misses names) t l
any_line names s t Broken = refl
any_line names s t Unknown = refl
any_line names s t (Said u) = refl

pub undefined_stops : (names : List Defined) (x : Source) (xs : List Source) → said_by (misses names) (of_base None) x.line ≡ true → Some x.number ≡ number_of (find (is_undefined names) (standings start (x ∷ xs)))
undefined_stops names x xs h = found_here (is_undefined names) start x xs h

pub undefined_goes : (names : List Defined) (x : Source) (xs : List Source) → said_by (misses names) (of_base None) x.line ≡ false → number_of (find (is_undefined names) (standings start xs)) ≡ number_of (find (is_undefined names) (standings start (x ∷ xs)))
undefined_goes names x xs h =
    found_alike Any (is_undefined names) (λ s t y k. any_line names s t y.line) (λ s t l k. tt) start (after start x.line) xs tt
    ∙ found_on (is_undefined names) start x xs h

-- ---- addresses without a base

abbrev SameBase : State → State → Type 0
SameBase s t = s.base ≡ t.base

done_base : (s t : State) (o : Operation) → SameBase s t → SameBase (done s o) (done t o)
done_base s t Section r = r
done_base s t (Bytes b) r = r
done_base s t (Word n) r = r
done_base s t (Address m n) r = r
done_base s t (External m) r = r
done_base s t (Space n) r = r
done_base s t AlignWord r = r
done_base s t AlignDouble r = r
done_base s t (Using m k) r = refl
done_base s t (End m) r = r
done_base s t (Instruction g) r = r

said_base : (s : State) (t : Statement) → (after s (Said t)).base ≡ (done s t.operation).base
said_base s t = ap (λ (p : Spot). p.base) (named_spot t.name (size t.operation) (standing_at s t.operation))

next_base : (s t : State) (l : Line) → SameBase s t → SameBase (after s l) (after t l)
next_base s t Broken r = r
next_base s t Unknown r = r
next_base s t (Said u) r = said_base s u ∙ (done_base s t u.operation r ∙ sym (said_base t u))

lacks_same : (names : List Defined) (s t : State) (r : Option Reference) → SameBase s t → lacks_by names s r ≡ lacks_by names t r
lacks_same names s t None e = refl
lacks_same names s t (Some r) e = ap (lacks_for r.goes names r.name) e

base_line : (names : List Defined) (s t : State) (l : Line) → SameBase s t → said_by (λ u o. lacks_by names u (reference_of o)) s l ≡ said_by (λ u o. lacks_by names u (reference_of o)) t l
base_line names s t Broken e = refl
base_line names s t Unknown e = refl
base_line names s t (Said u) e = lacks_same names s t (reference_of u.operation) e

pub baseless_stops : (names : List Defined) (b : Option Base) (x : Source) (xs : List Source) → said_by (λ u o. lacks_by names u (reference_of o)) (of_base b) x.line ≡ true → Some x.number ≡ number_of (find (has_no_base names) (standings (of_base b) (x ∷ xs)))
baseless_stops names b x xs h = found_here (has_no_base names) (of_base b) x xs h

pub baseless_goes : (names : List Defined) (b c : Option Base) (x : Source) (xs : List Source) → said_by (λ u o. lacks_by names u (reference_of o)) (of_base b) x.line ≡ false → c ≡ (after (of_base b) x.line).base → number_of (find (has_no_base names) (standings (of_base c) xs)) ≡ number_of (find (has_no_base names) (standings (of_base b) (x ∷ xs)))
baseless_goes names b c x xs h e =
    found_alike SameBase (has_no_base names) (λ s t y k. base_line names s t y.line k) next_base (of_base c) (after (of_base b) x.line) xs e
    ∙ found_on (has_no_base names) (of_base b) x xs h
