-- Lines that are not of a form, unknown or before all sections, one line at a time.
use Rattle.std.proofs.Common.{◌≡◌, ℕ, ◌+◌, Bool, true, false, eqb, ◌||◌, List, [], ◌∷◌, Some, refl, sym, ◌∙◌, ap, arith}
use Rattle.std.proofs.lemmas.Bool.Decides.{nat_tests}
use Rattle.std.specs.List.{find}
use Rattle.asm_model.specs.declared.statements.Operation.{Operation}
use Rattle.asm_model.specs.declared.statements.Operation.TheVariants.{Section, Bytes, Word, Address, External, Space, AlignWord, AlignDouble, Using, End, Instruction}
use Rattle.asm_model.specs.declared.statements.Line.{Line}
use Rattle.asm_model.specs.declared.statements.Line.TheVariants.{Broken, Unknown, Said}
use Rattle.asm_model.specs.declared.statements.Statement.{Statement}
use Rattle.asm_model.specs.declared.statements.Source.{Source}
use Rattle.asm_places.specs.declared.spots.Spot.{Spot}
use Rattle.asm_model.specs.Places.{State, start, size, done, standing_at, after, standings, last}
use Rattle.asm_model.specs.Refused.{is_bad, is_broken, is_unknown, is_unknown_line, has_no_section, said_by, is_outside}
use Rattle.asm_places.specs.Found.{number_of}
use Rattle.asm_places.specs.Kinds.{is_end, ends, is_section, begins}
use Rattle.asm_places.specs.Spots.{of_end, of_section}
use Rattle.asm_places.proofs.Walks.{named_spot, found_alike, found_here, found_on}

-- ---- END

or_true : (b : Bool) → true ≡ (b || true)
or_true true = refl
or_true false = refl

or_false : (b : Bool) → b ≡ (b || false)
or_false true = refl
or_false false = refl

done_ended : (s : State) (o : Operation) → (done s o).ended ≡ (s.ended || is_end o)
done_ended s Section = or_false s.ended
done_ended s (Bytes b) = or_false s.ended
done_ended s (Word n) = or_false s.ended
done_ended s (Address m n) = or_false s.ended
done_ended s (External m) = or_false s.ended
done_ended s (Space n) = or_false s.ended
done_ended s AlignWord = or_false s.ended
done_ended s AlignDouble = or_false s.ended
done_ended s (Using m r) = or_false s.ended
done_ended s (End m) = or_true s.ended
done_ended s (Instruction g) = or_false s.ended

after_ended : (s : State) (l : Line) → (after s l).ended ≡ (s.ended || ends l)
after_ended s Broken = or_false s.ended
after_ended s Unknown = or_false s.ended
after_ended s (Said t) = ap (λ (p : Spot). p.ended) (named_spot t.name (size t.operation) (standing_at s t.operation)) ∙ done_ended s t.operation

abbrev SameEnd : State → State → Type 0
SameEnd s t = s.ended ≡ t.ended

next_end : (s t : State) (l : Line) → SameEnd s t → SameEnd (after s l) (after t l)
next_end s t l r = after_ended s l ∙ (ap (λ b. b || ends l) r ∙ sym (after_ended t l))

pub bad_stops : (e : Bool) (x : Source) (xs : List Source) → (e || is_broken x.line) ≡ true → Some x.number ≡ number_of (find is_bad (standings (of_end e) (x ∷ xs)))
bad_stops e x xs h = found_here is_bad (of_end e) x xs h

left_false : (b c : Bool) → (b || c) ≡ false → b ≡ false
left_false true c h = absurd (grind (arith, nat_tests))
left_false false c h = refl

pub bad_goes : (e : Bool) (x : Source) (xs : List Source) → (e || is_broken x.line) ≡ false → number_of (find is_bad (standings (of_end (ends x.line)) xs)) ≡ number_of (find is_bad (standings (of_end e) (x ∷ xs)))
bad_goes e x xs h =
    let z : e ≡ false = left_false e (is_broken x.line) h in
    let r : ends x.line ≡ (after (of_end e) x.line).ended = sym (after_ended (of_end e) x.line ∙ ap (λ b. b || ends x.line) z) in
    found_alike SameEnd is_bad (λ s t y k. ap (λ b. b || is_broken y.line) k) next_end (of_end (ends x.line)) (after (of_end e) x.line) xs r
    ∙ found_on is_bad (of_end e) x xs h

-- ---- whether END came at all

stays_ended : (s : State) (xs : List Source) → s.ended ≡ true → (last s xs).ended ≡ true
stays_ended s [] h = h
stays_ended s (x ∷ xs) h = stays_ended (after s x.line) xs (after_ended s x.line ∙ ap (λ b. b || ends x.line) h)

last_end : (s t : State) (xs : List Source) → SameEnd s t → (last s xs).ended ≡ (last t xs).ended
last_end s t [] r = r
last_end s t (x ∷ xs) r = last_end (after s x.line) (after t x.line) xs (next_end s t x.line r)

pub end_stops : (x : Source) (xs : List Source) → ends x.line ≡ true → true ≡ (last start (x ∷ xs)).ended
end_stops x xs h = sym (stays_ended (after start x.line) xs (after_ended start x.line ∙ h))

pub end_goes : (x : Source) (xs : List Source) → ends x.line ≡ false → (last start xs).ended ≡ (last start (x ∷ xs)).ended
end_goes x xs h = last_end start (after start x.line) xs (sym (after_ended start x.line ∙ h))

-- ---- unknown operations

abbrev Any : State → State → Type 0
Any s t = Unit {0}

pub unknown_stops : (x : Source) (xs : List Source) → is_unknown_line x.line ≡ true → Some x.number ≡ number_of (find is_unknown (standings start (x ∷ xs)))
unknown_stops x xs h = found_here is_unknown start x xs h

pub unknown_goes : (x : Source) (xs : List Source) → is_unknown_line x.line ≡ false → number_of (find is_unknown (standings start xs)) ≡ number_of (find is_unknown (standings start (x ∷ xs)))
unknown_goes x xs h =
    found_alike Any is_unknown (λ s t y k. refl) (λ s t l k. tt) start (after start x.line) xs tt
    ∙ found_on is_unknown start x xs h

-- ---- statements before all sections

abbrev is_first : State → Bool
is_first s = eqb s.section 0

abbrev SameSection : State → State → Type 0
SameSection s t = is_first s ≡ is_first t

not_first : (n : ℕ) → eqb (n + 1) 0 ≡ false
not_first n = grind (arith, nat_tests)

done_first : (s t : State) (o : Operation) → SameSection s t → SameSection (done s o) (done t o)
done_first s t Section r = not_first s.section ∙ sym (not_first t.section)
done_first s t (Bytes b) r = r
done_first s t (Word n) r = r
done_first s t (Address m n) r = r
done_first s t (External m) r = r
done_first s t (Space n) r = r
done_first s t AlignWord r = r
done_first s t AlignDouble r = r
done_first s t (Using m k) r = r
done_first s t (End m) r = r
done_first s t (Instruction g) r = r

said_first : (s : State) (t : Statement) → is_first (after s (Said t)) ≡ is_first (done s t.operation)
said_first s t = ap (λ (p : Spot). eqb p.section 0) (named_spot t.name (size t.operation) (standing_at s t.operation))

next_first : (s t : State) (l : Line) → SameSection s t → SameSection (after s l) (after t l)
next_first s t Broken r = r
next_first s t Unknown r = r
next_first s t (Said u) r = said_first s u ∙ (done_first s t u.operation r ∙ sym (said_first t u))

outside_operation : (s t : State) (o : Operation) → SameSection s t → is_outside s o ≡ is_outside t o
outside_operation s t Section r = refl
outside_operation s t (End m) r = refl
outside_operation s t (Bytes b) r = r
outside_operation s t (Word n) r = r
outside_operation s t (Address m n) r = r
outside_operation s t (External m) r = r
outside_operation s t (Space n) r = r
outside_operation s t AlignWord r = r
outside_operation s t AlignDouble r = r
outside_operation s t (Using m k) r = r
outside_operation s t (Instruction g) r = r

outside_line : (s t : State) (l : Line) → SameSection s t → said_by is_outside s l ≡ said_by is_outside t l
outside_line s t Broken r = refl
outside_line s t Unknown r = refl
outside_line s t (Said u) r = outside_operation s t u.operation r

begun_operation : (b : Bool) (o : Operation) → is_first (of_section (b || is_section o)) ≡ is_first (done (of_section b) o)
begun_operation true Section = refl
begun_operation false Section = refl
begun_operation b (Bytes c) = ap (λ d. is_first (of_section d)) (sym (or_false b))
begun_operation b (Word n) = ap (λ d. is_first (of_section d)) (sym (or_false b))
begun_operation b (Address m n) = ap (λ d. is_first (of_section d)) (sym (or_false b))
begun_operation b (External m) = ap (λ d. is_first (of_section d)) (sym (or_false b))
begun_operation b (Space n) = ap (λ d. is_first (of_section d)) (sym (or_false b))
begun_operation b AlignWord = ap (λ d. is_first (of_section d)) (sym (or_false b))
begun_operation b AlignDouble = ap (λ d. is_first (of_section d)) (sym (or_false b))
begun_operation b (Using m k) = ap (λ d. is_first (of_section d)) (sym (or_false b))
begun_operation b (End m) = ap (λ d. is_first (of_section d)) (sym (or_false b))
begun_operation b (Instruction g) = ap (λ d. is_first (of_section d)) (sym (or_false b))

begun_line : (b : Bool) (l : Line) → SameSection (of_section (b || begins l)) (after (of_section b) l)
begun_line b Broken = ap (λ d. is_first (of_section d)) (sym (or_false b))
begun_line b Unknown = ap (λ d. is_first (of_section d)) (sym (or_false b))
begun_line b (Said t) = begun_operation b t.operation ∙ sym (said_first (of_section b) t)

pub outside_stops : (b : Bool) (x : Source) (xs : List Source) → said_by is_outside (of_section b) x.line ≡ true → Some x.number ≡ number_of (find has_no_section (standings (of_section b) (x ∷ xs)))
outside_stops b x xs h = found_here has_no_section (of_section b) x xs h

pub outside_goes : (b : Bool) (x : Source) (xs : List Source) → said_by is_outside (of_section b) x.line ≡ false → number_of (find has_no_section (standings (of_section (b || begins x.line)) xs)) ≡ number_of (find has_no_section (standings (of_section b) (x ∷ xs)))
outside_goes b x xs h =
    found_alike SameSection has_no_section (λ s t y k. outside_line s t y.line k) next_first (of_section (b || begins x.line)) (after (of_section b) x.line) xs (begun_line b x.line)
    ∙ found_on has_no_section (of_section b) x xs h
