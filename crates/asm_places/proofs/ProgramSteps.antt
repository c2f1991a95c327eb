-- The program of lines, one line at a time.
use Rattle.std.proofs.Common.{◌≡◌, ℕ, ◌-◌, true, false, List, [], ◌∷◌, ◌++◌, replicate, Option, Some, None, refl, sym, ◌∙◌, ap, subst, arith}
use Rattle.std.proofs.lemmas.Bool.Decides.{nat_tests}
use Rattle.std.proofs.lemmas.List.{append-nil, append_assoc}
use Rattle.esa_table.specs.Encoding.{instruction_bytes}
use Rattle.asm_model.specs.declared.operands.Given.{Given}
use Rattle.asm_model.specs.declared.statements.Operation.{Operation}
use Rattle.asm_model.specs.declared.statements.Operation.TheVariants.{Section, Bytes, Word, Address, External, Space, AlignWord, AlignDouble, Using, End, Instruction}
use Rattle.asm_model.specs.declared.statements.Line.{Line}
use Rattle.asm_model.specs.declared.statements.Line.TheVariants.{Broken, Unknown, Said}
use Rattle.asm_model.specs.declared.statements.Statement.{Statement}
use Rattle.asm_model.specs.declared.statements.Source.{Source}
use Rattle.asm_model.specs.declared.program.Constant.{Constant}
use Rattle.asm_model.specs.declared.program.Defined.{Defined}
use Rattle.asm_model.specs.Section.{SectionBytes}
use Rattle.asm_model.specs.Places.{State, Standing, start, standing_at, raised, after, standings, last}
use Rattle.asm_model.specs.Program.{Program, Assembly, nothing, fields_given, operation_bytes, placed_bytes, before_others, line_before, program_of, entry_named, entry_operation, entry_line, entry_in, assembly}
use Rattle.asm_places.specs.declared.spots.Spot.{Spot}
use Rattle.asm_places.specs.Fitting.{AllFit}
use Rattle.asm_places.specs.Kinds.{is_section}
use Rattle.asm_places.specs.Spots.{spot_of, at, IsLow}
use Rattle.asm_places.specs.WrittenLines.{words_of, opened, extended, section_named, joined, end_operation, end_name, of_names}
use Rattle.asm_places.proofs.OutSteps.{resolved_same}
use Rattle.asm_places.proofs.Walks.{after_same}

-- ---- what a statement adds

-- a statement that begins a section
section_is : (end s : State) (m : Option ℕ) (o : Operation) (p : Program) → is_section o ≡ true → before_others end s m o p ≡ before_others end s m Section p
section_is end s m Section p h = refl
section_is end s m (Bytes b) p h = absurd (grind (arith, nat_tests))
section_is end s m (Word n) p h = absurd (grind (arith, nat_tests))
section_is end s m (Address k n) p h = absurd (grind (arith, nat_tests))
section_is end s m (External k) p h = absurd (grind (arith, nat_tests))
section_is end s m (Space n) p h = absurd (grind (arith, nat_tests))
section_is end s m AlignWord p h = absurd (grind (arith, nat_tests))
section_is end s m AlignDouble p h = absurd (grind (arith, nat_tests))
section_is end s m (Using k r) p h = absurd (grind (arith, nat_tests))
section_is end s m (End k) p h = absurd (grind (arith, nat_tests))
section_is end s m (Instruction g) p h = absurd (grind (arith, nat_tests))

no_bytes : (s : ℕ) (p : List ℕ) → (replicate (raised 1 s - s) 0 ++ []) ++ p ≡ p
no_bytes s p = let z : raised 1 s - s ≡ 0 = omega arith in ap (λ n. (replicate n 0 ++ []) ++ p) z

abbrev plain_program : State → State → Operation → Program → Program
plain_program end s o p = record {
  pending = placed_bytes end s o ++ p.pending;
  sections = p.sections;
  constants = words_of end s o ++ p.constants;
}

-- any other statement
plain_is : (end s : State) (m : Option ℕ) (o : Operation) (p : Program) → is_section o ≡ false → before_others end s m o p ≡ plain_program end s o p
plain_is end s m Section p h = absurd (grind (arith, nat_tests))
plain_is end s m (Bytes b) p h = refl
plain_is end s m (Word n) p h = refl
plain_is end s m (Address k n) p h = refl
plain_is end s m (External k) p h = refl
plain_is end s m (Space n) p h = refl
plain_is end s m AlignWord p h = refl
plain_is end s m AlignDouble p h = refl
plain_is end s m (Using k r) p h = ap (λ xs. record { pending = xs; sections = p.sections; constants = p.constants }) (sym (no_bytes s.offset p.pending))
plain_is end s m (End k) p h = ap (λ xs. record { pending = xs; sections = p.sections; constants = p.constants }) (sym (no_bytes s.offset p.pending))
plain_is end s m (Instruction g) p h = refl

-- ---- sections, one statement further

abbrev bytes_named : ℕ → List ℕ → SectionBytes
bytes_named name xs = record { name = name; bytes = xs }

section_joined : (end s : State) (m : Option ℕ) (ss : List SectionBytes) (o : Option SectionBytes) (p : Program) → (ss ++ opened o) ++ joined (section_named m) p ≡ ss ++ joined o (before_others end s m Section p)
section_joined end s m ss None p = ap (λ (xs : List SectionBytes). xs ++ joined (section_named m) p) (append-nil ss)
section_joined end s m ss (Some o) p =
    append_assoc ss (o ∷ []) (joined (section_named m) p)
    ∙ ap (λ xs. ss ++ (bytes_named o.name xs ∷ joined (section_named m) p)) (sym (append-nil o.bytes))

pub section_line : (end s : State) (t : Statement) (old new : List SectionBytes) (o n : Option SectionBytes) → is_section t.operation ≡ true → n ≡ section_named t.name → new ≡ old ++ opened o → (p : Program) → new ++ joined n p ≡ old ++ joined o (line_before end s (Said t) p)
section_line end s t old new o n h e f p =
    ap (λ (xs : List SectionBytes). xs ++ joined n p) f
    ∙ (ap (λ (k : Option SectionBytes). (old ++ opened o) ++ joined k p) e
    ∙ (section_joined end s t.name old o p ∙ ap (λ (q : Program). old ++ joined o q) (sym (section_is end s t.name t.operation p h))))

pub section_words : (end s : State) (t : Statement) (old new : List Constant) → is_section t.operation ≡ true → new ≡ old → (p : Program) → new ++ p.constants ≡ old ++ (line_before end s (Said t) p).constants
section_words end s t old new h e p =
    ap (λ (xs : List Constant). xs ++ p.constants) e
    ∙ ap (λ (q : Program). old ++ q.constants) (sym (section_is end s t.name t.operation p h))

plain_joined : (end s : State) (op : Operation) (ss : List SectionBytes) (o : Option SectionBytes) (p : Program) → ss ++ joined (extended o (placed_bytes end s op)) p ≡ ss ++ joined o (plain_program end s op p)
plain_joined end s op ss None p = refl
plain_joined end s op ss (Some o) p = ap (λ xs. ss ++ (bytes_named o.name xs ∷ p.sections)) (append_assoc o.bytes (placed_bytes end s op) p.pending)

pub plain_line : (end s : State) (t : Statement) (old new : List SectionBytes) (o n : Option SectionBytes) → is_section t.operation ≡ false → n ≡ extended o (placed_bytes end s t.operation) → new ≡ old → (p : Program) → new ++ joined n p ≡ old ++ joined o (line_before end s (Said t) p)
plain_line end s t old new o n h e f p =
    ap (λ (xs : List SectionBytes). xs ++ joined n p) f
    ∙ (ap (λ (k : Option SectionBytes). old ++ joined k p) e
    ∙ (plain_joined end s t.operation old o p ∙ ap (λ (q : Program). old ++ joined o q) (sym (plain_is end s t.name t.operation p h))))

pub plain_words : (end s : State) (t : Statement) (old new : List Constant) → is_section t.operation ≡ false → new ≡ old ++ words_of end s t.operation → (p : Program) → new ++ p.constants ≡ old ++ (line_before end s (Said t) p).constants
plain_words end s t old new h e p =
    ap (λ (xs : List Constant). xs ++ p.constants) e
    ∙ (append_assoc old (words_of end s t.operation) p.constants
    ∙ ap (λ (q : Program). old ++ q.constants) (sym (plain_is end s t.name t.operation p h)))

-- ---- a program depends on the places of its lines alone

instruction_at : (end s : State) (g : Given) → operation_bytes end.names (standing_at s (Instruction g)) (Instruction g) ≡ operation_bytes end.names (standing_at (at (spot_of s)) (Instruction g)) (Instruction g)
instruction_at end s g = ap (λ (h : Given). instruction_bytes (fields_given h)) (resolved_same end.names (standing_at s (Instruction g)) (standing_at (at (spot_of s)) (Instruction g)) g refl)

before_at : (end s : State) (m : Option ℕ) (o : Operation) (p : Program) → before_others end s m o p ≡ before_others end (at (spot_of s)) m o p
before_at end s m Section p = refl
before_at end s m (Bytes b) p = refl
before_at end s m (Word n) p = refl
before_at end s m (Address k n) p = refl
before_at end s m (External k) p = refl
before_at end s m (Space n) p = refl
before_at end s m AlignWord p = refl
before_at end s m AlignDouble p = refl
before_at end s m (Using k r) p = refl
before_at end s m (End k) p = refl
before_at end s m (Instruction g) p =
    ap (λ (xs : List ℕ). record {
      pending = (replicate ((standing_at s (Instruction g)).offset - s.offset) 0 ++ xs) ++ p.pending;
      sections = p.sections;
      constants = p.constants;
    }) (instruction_at end s g)

line_at : (end s : State) (l : Line) (p : Program) → line_before end s l p ≡ line_before end (at (spot_of s)) l p
line_at end s Broken p = refl
line_at end s Unknown p = refl
line_at end s (Said t) p = before_at end s t.name t.operation p

line_same : (end s t : State) (l : Line) (p : Program) → spot_of s ≡ spot_of t → line_before end s l p ≡ line_before end t l p
line_same end s t l p e = line_at end s l p ∙ (ap (λ (q : Spot). line_before end (at q) l p) e ∙ sym (line_at end t l p))

program_same : (end s t : State) (xs : List Source) → spot_of s ≡ spot_of t → program_of end (standings s xs) ≡ program_of end (standings t xs)
program_same end s t [] e = refl
program_same end s t (x ∷ xs) e =
    line_same end s t x.line (program_of end (standings (after s x.line) xs)) e
    ∙ ap (line_before end t x.line) (program_same end (after s x.line) (after t x.line) xs (after_same s t x.line e))

-- ---- lines that are left

pub record Left (end : State) (xs : List Source) (p : Spot) (rest : List Source) (ss : List SectionBytes) (o : Option SectionBytes) (cs : List Constant) : Type 0 where
  pub low : IsLow p
  pub fits : AllFit end.names p rest
  pub sections : ss ++ joined o (program_of end (standings (at p) rest)) ≡ (program_of end (standings start xs)).sections
  pub constants : cs ++ (program_of end (standings (at p) rest)).constants ≡ (program_of end (standings start xs)).constants

pub left_first : (end : State) (xs : List Source) (p : Spot) → at p ≡ start → IsLow p → AllFit end.names (spot_of start) xs → Left end xs p xs [] None []
left_first end xs p e l f =
    let q : p ≡ spot_of start = ap spot_of e in
    record {
      low = l;
      fits = subst (λ (r : Spot). AllFit end.names r xs) (sym q) f;
      sections = ap (λ (s : State). (program_of end (standings s xs)).sections) e;
      constants = ap (λ (s : State). (program_of end (standings s xs)).constants) e;
    }

pub left_on : (end : State) (xs : List Source) (p q : Spot) (x : Source) (rest more : List Source) (old new : List SectionBytes) (o n : Option SectionBytes) (cs ds : List Constant)
    → Left end xs p rest old o cs → rest ≡ x ∷ more
    → ((r : Program) → new ++ joined n r ≡ old ++ joined o (line_before end (at p) x.line r))
    → ((r : Program) → ds ++ r.constants ≡ cs ++ (line_before end (at p) x.line r).constants)
    → q ≡ spot_of (after (at p) x.line)
    → Left end xs q more new n ds
left_on end xs p q x rest more old new o n cs ds l r f g e =
    let fits = subst (AllFit end.names p) r l.fits in
    let step : program_of end (standings (at q) more) ≡ program_of end (standings (after (at p) x.line) more) = program_same end (at q) (after (at p) x.line) more e in
    let whole : line_before end (at p) x.line (program_of end (standings (at q) more)) ≡ program_of end (standings (at p) rest) =
    ap (line_before end (at p) x.line) step ∙ ap (λ ys. program_of end (standings (at p) ys)) (sym r) in
    record {
      low = subst IsLow (sym e) fits.1.0;
      fits = subst (λ (k : Spot). AllFit end.names k more) (sym e) fits.1.1;
      sections = f (program_of end (standings (at q) more)) ∙ (ap (λ (k : Program). old ++ joined o k) whole ∙ l.sections);
      constants = g (program_of end (standings (at q) more)) ∙ (ap (λ (k : Program). cs ++ k.constants) whole ∙ l.constants);
    }

opened_is : (ss : List SectionBytes) (o : Option SectionBytes) → ss ++ opened o ≡ ss ++ joined o nothing
opened_is ss None = refl
opened_is ss (Some o) = ap (λ xs. ss ++ (bytes_named o.name xs ∷ [])) (sym (append-nil o.bytes))

pub left_sections : (end : State) (xs : List Source) (p : Spot) (rest : List Source) (ss : List SectionBytes) (o : Option SectionBytes) (cs : List Constant) → Left end xs p rest ss o cs → rest ≡ [] → ss ++ opened o ≡ (program_of end (standings start xs)).sections
left_sections end xs p rest ss o cs l e = opened_is ss o ∙ (ap (λ ys. ss ++ joined o (program_of end (standings (at p) ys))) (sym e) ∙ l.sections)

pub left_constants : (end : State) (xs : List Source) (p : Spot) (rest : List Source) (ss : List SectionBytes) (o : Option SectionBytes) (cs : List Constant) → Left end xs p rest ss o cs → rest ≡ [] → cs ≡ (program_of end (standings start xs)).constants
left_constants end xs p rest ss o cs l e = sym (append-nil cs) ∙ (ap (λ ys. cs ++ (program_of end (standings (at p) ys)).constants) (sym e) ∙ l.constants)

-- ---- the entry

entry_any : (end s t : State) (xs : List Source) → entry_in end (standings s xs) ≡ entry_in end (standings t xs)
entry_any end s t [] = refl
entry_any end s t (x ∷ xs) = ap (entry_line end x.line) (entry_any end (after s x.line) (after t x.line) xs)

abbrev chosen : State → Option (Option ℕ) → Option Defined → Option Defined
chosen end None more = more
chosen end (Some m) more = entry_named end m

operation_entry : (end : State) (o : Operation) (more : Option Defined) → entry_operation end o more ≡ chosen end (end_operation o) more
operation_entry end Section more = refl
operation_entry end (Bytes b) more = refl
operation_entry end (Word n) more = refl
operation_entry end (Address k n) more = refl
operation_entry end (External k) more = refl
operation_entry end (Space n) more = refl
operation_entry end AlignWord more = refl
operation_entry end AlignDouble more = refl
operation_entry end (Using k r) more = refl
operation_entry end (End k) more = refl
operation_entry end (Instruction g) more = refl

line_entry : (end : State) (l : Line) (more : Option Defined) → entry_line end l more ≡ chosen end (end_name l) more
line_entry end Broken more = refl
line_entry end Unknown more = refl
line_entry end (Said t) more = operation_entry end t.operation more

pub entry_stops : (names : List Defined) (x : Source) (xs : List Source) (m : Option ℕ) → end_name x.line ≡ Some m → entry_named (of_names names) m ≡ entry_in (of_names names) (standings start (x ∷ xs))
entry_stops names x xs m h =
    let more = entry_in (of_names names) (standings (after start x.line) xs) in
    ap (λ o. chosen (of_names names) o more) (sym h) ∙ sym (line_entry (of_names names) x.line more)

pub entry_goes : (names : List Defined) (x : Source) (xs : List Source) → end_name x.line ≡ None → entry_in (of_names names) (standings start xs) ≡ entry_in (of_names names) (standings start (x ∷ xs))
entry_goes names x xs h =
    let more = entry_in (of_names names) (standings (after start x.line) xs) in
    entry_any (of_names names) start (after start x.line) xs
    ∙ (ap (λ o. chosen (of_names names) o more) (sym h) ∙ sym (line_entry (of_names names) x.line more))

named_entry : (end : State) (m : Option ℕ) → entry_named end m ≡ entry_named (of_names end.names) m
named_entry end None = refl
named_entry end (Some m) = refl

chosen_names : (end : State) (o : Option (Option ℕ)) (f g : Option Defined) → f ≡ g → chosen end o f ≡ chosen (of_names end.names) o g
chosen_names end None f g e = e
chosen_names end (Some m) f g e = named_entry end m

entry_names : (end : State) (ss : List Standing) → entry_in end ss ≡ entry_in (of_names end.names) ss
entry_names end [] = refl
entry_names end (s ∷ ss) =
    line_entry end s.line (entry_in end ss)
    ∙ (chosen_names end (end_name s.line) (entry_in end ss) (entry_in (of_names end.names) ss) (entry_names end ss)
    ∙ sym (line_entry (of_names end.names) s.line (entry_in (of_names end.names) ss)))

-- ---- of a whole source

abbrev assembly_by : List SectionBytes → List ℕ → List Constant → Option Defined → Assembly
assembly_by ss ms cs e = record { sections = ss; externals = ms; constants = cs; entry = e }

at_end : (xs : List Source) → assembly_by (program_of (last start xs) (standings start xs)).sections (last start xs).externals (program_of (last start xs) (standings start xs)).constants (entry_in (last start xs) (standings start xs)) ≡ assembly xs
unfolding assembly
at_end xs = refl

pub assembly_is : (xs : List Source) (end : State) (old ss : List SectionBytes) (o : Option SectionBytes) (ms : List ℕ) (cs : List Constant) (names : List Defined) (e : Option Defined)
    → end ≡ last start xs
    → ss ≡ old ++ opened o
    → old ++ opened o ≡ (program_of end (standings start xs)).sections
    → ms ≡ end.externals
    → cs ≡ (program_of end (standings start xs)).constants
    → names ≡ end.names
    → e ≡ entry_in (of_names names) (standings start xs)
    → record { sections = ss; externals = ms; constants = cs; entry = e } ≡ assembly xs
assembly_is xs end old ss o ms cs names e h f k g i n j =
    let entry : e ≡ entry_in end (standings start xs) = j ∙ (ap (λ (ds : List Defined). entry_in (of_names ds) (standings start xs)) n ∙ sym (entry_names end (standings start xs))) in
    ap (λ (x : List SectionBytes). assembly_by x ms cs e) (f ∙ k)
    ∙ (ap (λ (k : List ℕ). assembly_by (program_of end (standings start xs)).sections k cs e) g
    ∙ (ap (λ (k : List Constant). assembly_by (program_of end (standings start xs)).sections end.externals k e) i
    ∙ (ap (λ (k : Option Defined). assembly_by (program_of end (standings start xs)).sections end.externals (program_of end (standings start xs)).constants k) entry
    ∙ (ap (λ (k : State). assembly_by (program_of k (standings start xs)).sections k.externals (program_of k (standings start xs)).constants (entry_in k (standings start xs))) h
    ∙ at_end xs))))
