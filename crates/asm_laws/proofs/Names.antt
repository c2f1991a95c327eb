-- The names of an accepted source: those of sections differ, each lies in a section, and external names are
-- kept.
use Rattle.std.proofs.Common.{◌≡◌, ℕ, zero, suc, ◌+◌, ◌-◌, ◌*◌, ◌<◌, ◌≤◌, Bool, true, false, cond, eqb, ltb, not, ◌||◌, List, [], ◌∷◌, ◌++◌, length, get_or, Option, Some, None, refl, sym, ◌∙◌, ap, subst, arith, inl, inr, ◌⊎◌}
use Rattle.std.proofs.lemmas.Bool.Decides.{nat_tests}
use Rattle.std.specs.List.{find, list_any}
use Rattle.asm_model.specs.declared.statements.Operation.{Operation}
use Rattle.asm_model.specs.declared.statements.Operation.TheVariants.{Section, Bytes, Word, Address, External, Space, AlignWord, AlignDouble, Using, End, Instruction}
use Rattle.asm_model.specs.declared.statements.Source.{Source}
use Rattle.asm_model.specs.declared.program.Defined.{Defined}
use Rattle.asm_model.specs.Section.{SectionBytes}
use Rattle.asm_model.specs.Places.{State, Standing, standings, standing_at, start, last, done, with_name, is_in, with_new, alignment, raised}
use Rattle.asm_model.specs.Refused.{has_name, nowhere, or_nowhere, place_of, is_outside, is_doubled_name}
use Rattle.asm_model.specs.Program.{Program, before_others, program_of, name_or_zero, place_in}
use Rattle.asm_deck.specs.LoadedSections.{is_named}
use Rattle.asm_deck.specs.Accepted.{NameFits, NamesFit, NamesDiffer}
use Rattle.asm_laws.proofs.Clean.{IsClean, AllClean}
use Rattle.asm_laws.proofs.ReadLines.{NameRead, HasName, OperationRead, LineRead, AllRead}
use Rattle.asm_laws.proofs.Steps.{begins, statement, stands, ready, by_lines, plain_program, plain_is, Keeps, done_keeps, named_section, named_externals, named_ended, ready_section}

-- ---- lists of tests

or_false : (b : Bool) → (b || false) ≡ b
or_false true = refl
or_false false = refl

or_more : (a b c : Bool) → (a || (b || c)) ≡ ((a || b) || c)
or_more true b c = refl
or_more false b c = refl

pub any_push : {X : Type 0} (p : X → Bool) (xs : List X) (x : X) → list_any p (xs ++ x ∷ []) ≡ (list_any p xs || p x)
any_push p [] x = or_false (p x)
any_push p (y ∷ ys) x = ap (λ b. p y || b) (any_push p ys x) ∙ or_more (p y) (list_any p ys) (p x)

-- ---- section names

section_named : (name : Option ℕ) → NameRead name → HasName name → NameFits (name_or_zero name)
section_named None h k = absurd k
section_named (Some m) h k = h

abbrev HasNames : State → State → List Source → Type 0
HasNames end s xs = NamesFit (program_of end (standings s xs)).sections

pub names_fit : (names : List Defined) (end s : State) (xs : List Source) → AllClean names (standings s xs) → AllRead xs → NamesFit (program_of end (standings s xs)).sections
names_fit names end s xs c r =
    by_lines names (HasNames end) (λ t. tt)
    (λ t number name ys k l ih. (section_named name l.0 l.1, ih))
    (λ t number name o ys b k l ih. subst (λ (p : Program). NamesFit p.sections) (sym (plain_is end t name o (program_of end (standings (ready t name o) ys)) b)) ih) s xs c r

-- the sections before are among the names
abbrev AreNames : List SectionBytes → List Defined → Type 0
AreNames pre names = (q : ℕ) → is_named q pre ≡ true → list_any (has_name q) names ≡ true

not_named : (b : Bool) (m : ℕ) (pre : List SectionBytes) (names : List Defined) → is_named m pre ≡ b → AreNames pre names → list_any (has_name m) names ≡ false → b ≡ false
not_named true m pre names e h k = sym (h m e) ∙ k
not_named false m pre names e h k = refl

or_right : (b c : Bool) → c ≡ true → (b || c) ≡ true
or_right true c h = refl
or_right false c h = h

or_first : (b c : Bool) → b ≡ true → (b || c) ≡ true
or_first true c h = refl
or_first false c h = absurd (grind (arith, nat_tests))

grown : (d : Defined) (names : List Defined) (q : ℕ) → list_any (has_name q) names ≡ true → list_any (has_name q) (names ++ d ∷ []) ≡ true
grown d names q h = any_push (has_name q) names d ∙ or_first (list_any (has_name q) names) (has_name q d) h

-- names after a statement
pub names_kept : (s : State) (name : Option ℕ) (o : Operation) (q : ℕ) → list_any (has_name q) (done s o).names ≡ true → list_any (has_name q) (ready s name o).names ≡ true
names_kept s None o q h = h
names_kept s (Some m) o q h = grown (record { name = m; section = (standing_at s o).section; offset = (standing_at s o).offset }) (done s o).names q h

case_or : (b c d : Bool) → (b ≡ true → d ≡ true) → (c ≡ true → d ≡ true) → (b || c) ≡ true → d ≡ true
case_or true c d h k e = h refl
case_or false c d h k e = k e

with_section : (s : State) (m : ℕ) (bytes : List ℕ) (pre : List SectionBytes) → AreNames pre s.names → AreNames (pre ++ record { name = m; bytes = bytes } ∷ []) (ready s (Some m) Section).names
with_section s m bytes pre h q e =
    let d : Defined = record { name = m; section = (standing_at s Section).section; offset = (standing_at s Section).offset } in
    let x : SectionBytes = record { name = m; bytes = bytes } in
    any_push (has_name q) s.names d
    ∙ case_or (is_named q pre) (eqb m q) (list_any (has_name q) s.names || eqb m q)
    (λ k. or_first (list_any (has_name q) s.names) (eqb m q) (h q k))
    (λ k. or_right (list_any (has_name q) s.names) (eqb m q) k)
    (sym (any_push (λ (y : SectionBytes). eqb y.name q) pre x) ∙ e)

abbrev DifferAfter : State → State → List Source → Type 0
DifferAfter end s xs = (pre : List SectionBytes) → AreNames pre s.names → NamesDiffer pre (program_of end (standings s xs)).sections

section_differs : (end s : State) (name : Option ℕ) (ys : List Source) (pre : List SectionBytes) → HasName name → is_doubled_name name s.names ≡ false → DifferAfter end (ready s name Section) ys → AreNames pre s.names
    → NamesDiffer pre (before_others end s name Section (program_of end (standings (ready s name Section) ys))).sections
section_differs end s None ys pre h d ih k = absurd h
section_differs end s (Some m) ys pre h d ih k =
    let bytes = (program_of end (standings (ready s (Some m) Section) ys)).pending in
    (not_named (is_named m pre) m pre s.names refl k d, ih (pre ++ record { name = m; bytes = bytes } ∷ []) (with_section s m bytes pre k))

plain_names : (s : State) (name : Option ℕ) (o : Operation) (pre : List SectionBytes) → begins o ≡ false → AreNames pre s.names → AreNames pre (ready s name o).names
plain_names s name o pre b h q e = names_kept s name o q (ap (list_any (has_name q)) (done_keeps s o b).names ∙ h q e)

pub names_differ : (names : List Defined) (end : State) (xs : List Source) → AllClean names (standings start xs) → AllRead xs → NamesDiffer [] (program_of end (standings start xs)).sections
names_differ names end xs c r =
    by_lines names (DifferAfter end) (λ t pre h. tt)
    (λ t number name ys k l ih pre h. section_differs end t name ys pre l.1 k.single ih h)
    (λ t number name o ys b k l ih pre h. subst (λ (p : Program). NamesDiffer pre p.sections) (sym (plain_is end t name o (program_of end (standings (ready t name o) ys)) b)) (ih pre (plain_names t name o pre b h))) start xs c r [] (λ q e. absurd (grind (arith, nat_tests)))

-- ---- names lie in sections

abbrev pub AreIn : ℕ → List Defined → Type 0
AreIn n [] = Unit {0}
AreIn n (d ∷ ds) = ((1 ≤ d.section) × (d.section ≤ n)) × AreIn n ds

in_push : (n : ℕ) (ds : List Defined) (d : Defined) → AreIn n ds → (1 ≤ d.section) × (d.section ≤ n) → AreIn n (ds ++ d ∷ [])
in_push n [] d h k = (k, tt)
in_push n (x ∷ xs) d h k = (h.0, in_push n xs d h.1 k)

in_more : (n m : ℕ) (ds : List Defined) → n ≤ m → AreIn n ds → AreIn m ds
in_more n m [] l h = tt
in_more n m (d ∷ ds) l h = let a = h.0.1 in ((h.0.0, omega (arith, a, l)), in_more n m ds l h.1)

-- before the first section there is no name but that of END
abbrev pub NamesLie : State → Type 0
NamesLie s = ((s.section ≡ 0) × ((s.ended ≡ true) ⊎ (s.names ≡ []))) ⊎ ((1 ≤ s.section) × AreIn s.section s.names)

named_in : (name : Option ℕ) (t : State) → 1 ≤ t.section → AreIn t.section t.names → AreIn (with_name name t).section (with_name name t).names
named_in None t h k = k
named_in (Some m) t h k = in_push t.section t.names (record { name = m; section = t.section; offset = t.offset }) k (h, omega arith)

not_ended : (b : Bool) → (b || false) ≡ false → b ≡ true → false ≡ true
not_ended true h e = sym h
not_ended false h e = e

section_lies : (s : State) (name : Option ℕ) → (s.ended || false) ≡ false → NamesLie s → NamesLie (ready s name Section)
section_lies s name h (inl (z, inl e)) = let x = not_ended s.ended h e in absurd (grind (arith, nat_tests))
section_lies s name h (inl (z, inr e)) =
    let g = named_section name (standing_at s Section) in
    let k : AreIn (s.section + 1) s.names = subst (AreIn (s.section + 1)) (sym e) tt in
    inr (omega (arith, g), named_in name (standing_at s Section) (omega arith) k)
section_lies s name h (inr (l, k)) =
    let g = named_section name (standing_at s Section) in
    inr (omega (arith, g), named_in name (standing_at s Section) (omega arith) (in_more s.section (s.section + 1) s.names (omega arith) k))

zero_test : (n : ℕ) → n ≡ 0 → eqb n 0 ≡ false → false ≡ true
zero_test n h e = absurd (grind (arith, nat_tests))

-- only END stands before the first section
ended_by : (s : State) (name : Option ℕ) (o : Operation) → begins o ≡ false → s.section ≡ 0 → is_outside s o ≡ false → (ready s name o).ended ≡ true
ended_by s name Section b z h = absurd (grind (arith, nat_tests))
ended_by s name (Bytes x) b z h = let e = zero_test s.section z h in absurd (grind (arith, nat_tests))
ended_by s name (Word n) b z h = let e = zero_test s.section z h in absurd (grind (arith, nat_tests))
ended_by s name (Address m n) b z h = let e = zero_test s.section z h in absurd (grind (arith, nat_tests))
ended_by s name (External m) b z h = let e = zero_test s.section z h in absurd (grind (arith, nat_tests))
ended_by s name (Space n) b z h = let e = zero_test s.section z h in absurd (grind (arith, nat_tests))
ended_by s name AlignWord b z h = let e = zero_test s.section z h in absurd (grind (arith, nat_tests))
ended_by s name AlignDouble b z h = let e = zero_test s.section z h in absurd (grind (arith, nat_tests))
ended_by s name (Using m r) b z h = let e = zero_test s.section z h in absurd (grind (arith, nat_tests))
ended_by s name (End m) b z h = named_ended name (standing_at s (End m))
ended_by s name (Instruction g) b z h = let e = zero_test s.section z h in absurd (grind (arith, nat_tests))

plain_lies : (s : State) (name : Option ℕ) (o : Operation) → begins o ≡ false → is_outside s o ≡ false → NamesLie s → NamesLie (ready s name o)
plain_lies s name o b h (inl (z, e)) = inl (ready_section s name o b ∙ z, inl (ended_by s name o b z h))
plain_lies s name o b h (inr (l, k)) =
    let e = done_keeps s o b in
    let g = ready_section s name o b in
    let x = e.section in
    let a : AreIn (done s o).section (done s o).names = subst (λ n. AreIn n (done s o).names) (sym e.section) (subst (AreIn s.section) (sym e.names) k) in
    inr (omega (arith, g, l), named_in name (standing_at s o) (omega (arith, x, l)) a)

abbrev LieAfter : State → List Source → Type 0
LieAfter s xs = NamesLie s → NamesLie (last s xs)

pub names_lie : (names : List Defined) (xs : List Source) → AllClean names (standings start xs) → AllRead xs → NamesLie (last start xs)
names_lie names xs c r =
    by_lines names LieAfter (λ t h. h)
    (λ t number name ys k l ih h. ih (section_lies t name k.bad h))
    (λ t number name o ys b k l ih h. ih (plain_lies t name o b k.placed h)) start xs c r (inl (refl, inr refl))

-- a name that is defined lies in one of them
abbrev IsIn : ℕ → Defined → Type 0
IsIn n d = (1 ≤ d.section) × (d.section ≤ n)

one_found : (b : Bool) (n m : ℕ) (d : Defined) (ds : List Defined) → IsIn n d → (list_any (has_name m) ds ≡ true → IsIn n (or_nowhere (find (has_name m) ds))) → (b || list_any (has_name m) ds) ≡ true → IsIn n (or_nowhere (cond b (Some d) (find (has_name m) ds)))
one_found true n m d ds h ih k = h
one_found false n m d ds h ih k = ih k

found_in : (n m : ℕ) (ds : List Defined) → AreIn n ds → list_any (has_name m) ds ≡ true → IsIn n (or_nowhere (find (has_name m) ds))
found_in n m [] h k = absurd (grind (arith, nat_tests))
found_in n m (d ∷ ds) h k = one_found (has_name m d) n m d ds h.0 (λ e. found_in n m ds h.1 e) k

pub place_in_section : (n m : ℕ) (ds : List Defined) → AreIn n ds → list_any (has_name m) ds ≡ true → (1 ≤ (place_of ds m).section) × ((place_of ds m).section ≤ n)
unfolding place_of
place_in_section n m ds h k = found_in n m ds h k

-- ---- external names

abbrev pub ExternalsRead : List ℕ → Type 0
ExternalsRead [] = Unit {0}
ExternalsRead (m ∷ ms) = NameFits m × ExternalsRead ms

read_push : (ms : List ℕ) (m : ℕ) → ExternalsRead ms → NameFits m → ExternalsRead (ms ++ m ∷ [])
read_push [] m h k = (k, tt)
read_push (x ∷ xs) m h k = (h.0, read_push xs m h.1 k)

read_new : (b : Bool) (m : ℕ) (ms : List ℕ) → ExternalsRead ms → NameFits m → ExternalsRead (cond b ms (ms ++ m ∷ []))
read_new true m ms h k = h
read_new false m ms h k = read_push ms m h k

done_read : (s : State) (name : Option ℕ) (o : Operation) → OperationRead name o → ExternalsRead s.externals → ExternalsRead (done s o).externals
done_read s name Section r h = h
done_read s name (Bytes b) r h = h
done_read s name (Word n) r h = h
done_read s name (Address m n) r h = h
done_read s name (External m) r h = read_new (is_in m s.externals) m s.externals h r
done_read s name (Space n) r h = h
done_read s name AlignWord r h = h
done_read s name AlignDouble r h = h
done_read s name (Using m n) r h = h
done_read s name (End m) r h = h
done_read s name (Instruction g) r h = h

abbrev ReadAfter : State → List Source → Type 0
ReadAfter s xs = ExternalsRead s.externals → ExternalsRead (last s xs).externals

pub externals_read : (names : List Defined) (xs : List Source) → AllClean names (standings start xs) → AllRead xs → ExternalsRead (last start xs).externals
externals_read names xs c r =
    by_lines names ReadAfter (λ t h. h)
    (λ t number name ys k l ih h. ih (subst ExternalsRead (sym (named_externals name (standing_at t Section))) h))
    (λ t number name o ys b k l ih h. ih (subst ExternalsRead (sym (named_externals name (standing_at t o))) (done_read t name o l.1 h))) start xs c r tt

-- an external name stays in the list
is_new : (b : Bool) (m q : ℕ) (ms : List ℕ) → is_in q ms ≡ true → is_in q (cond b ms (ms ++ m ∷ [])) ≡ true
is_new true m q ms h = h
is_new false m q ms h = any_push (λ x. eqb x q) ms m ∙ or_first (is_in q ms) (eqb m q) h

done_in : (s : State) (o : Operation) (q : ℕ) → is_in q s.externals ≡ true → is_in q (done s o).externals ≡ true
done_in s Section q h = h
done_in s (Bytes b) q h = h
done_in s (Word n) q h = h
done_in s (Address m n) q h = h
done_in s (External m) q h = is_new (is_in m s.externals) m q s.externals h
done_in s (Space n) q h = h
done_in s AlignWord q h = h
done_in s AlignDouble q h = h
done_in s (Using m n) q h = h
done_in s (End m) q h = h
done_in s (Instruction g) q h = h

abbrev InAfter : ℕ → State → List Source → Type 0
InAfter q s xs = is_in q s.externals ≡ true → is_in q (last s xs).externals ≡ true

ready_in : (s : State) (name : Option ℕ) (o : Operation) (q : ℕ) → is_in q s.externals ≡ true → is_in q (ready s name o).externals ≡ true
ready_in s name o q h = ap (is_in q) (named_externals name (standing_at s o)) ∙ done_in s o q h

pub external_stays : (names : List Defined) (q : ℕ) (s : State) (xs : List Source) → AllClean names (standings s xs) → AllRead xs → is_in q s.externals ≡ true → is_in q (last s xs).externals ≡ true
external_stays names q s xs c r =
    by_lines names (InAfter q) (λ t h. h)
    (λ t number name ys k l ih h. ih (ready_in t name Section q h))
    (λ t number name o ys b k l ih h. ih (ready_in t name o q h)) s xs c r

-- a new one is in it
same_number : (m : ℕ) → eqb m m ≡ true
same_number m = grind (arith, nat_tests)

new_is : (b : Bool) (m : ℕ) (ms : List ℕ) → is_in m ms ≡ b → is_in m (cond b ms (ms ++ m ∷ [])) ≡ true
new_is true m ms e = e
new_is false m ms e = any_push (λ x. eqb x m) ms m ∙ or_right (is_in m ms) (eqb m m) (same_number m)

pub external_comes : (s : State) (name : Option ℕ) (m : ℕ) → is_in m (ready s name (External m)).externals ≡ true
external_comes s name m = ap (is_in m) (named_externals name (standing_at s (External m))) ∙ new_is (is_in m s.externals) m s.externals refl

-- and stands at its place
place_case : (b : Bool) (x m : ℕ) (ms : List ℕ) → eqb x m ≡ b → (is_in m ms ≡ true → (place_in m ms < length ms) × (get_or ms (place_in m ms) 0 ≡ m)) → (b || is_in m ms) ≡ true → (cond b 0 (place_in m ms + 1) < suc (length ms)) × (get_or (x ∷ ms) (cond b 0 (place_in m ms + 1)) 0 ≡ m)
place_case true x m ms e ih h = (omega arith, grind (arith, nat_tests))
place_case false x m ms e ih h =
    let k = ih h in
    let l = k.0 in
    let s : place_in m ms + 1 ≡ suc (place_in m ms) = omega arith in
    (omega (arith, l), ap (λ i. get_or (x ∷ ms) i 0) s ∙ k.1)

pub place_is : (m : ℕ) (ms : List ℕ) → is_in m ms ≡ true → (place_in m ms < length ms) × (get_or ms (place_in m ms) 0 ≡ m)
place_is m [] h = absurd (grind (arith, nat_tests))
place_is m (x ∷ ms) h = place_case (eqb x m) x m ms refl (λ k. place_is m ms k) h
