-- A source line by line: what its program and the places are after each statement.
use Rattle.std.proofs.Common.{◌≡◌, ℕ, zero, suc, ◌+◌, ◌-◌, ◌*◌, ◌/◌, ◌%◌, ◌<◌, ◌≤◌, Bool, true, false, cond, ltb, ◌||◌, List, [], ◌∷◌, ◌++◌, length, replicate, Option, Some, None, refl, sym, ◌∙◌, ap, subst, arith, length-append}
use Rattle.std.proofs.lemmas.Bool.Decides.{nat_tests}
use Rattle.std.proofs.lemmas.List.{length-replicate}
use Rattle.byteorder.specs.Numbers.{length-bytes_high_first}
use Rattle.esa_model.specs.Table.{row_numbered}
use Rattle.esa_model.specs.declared.instructions.Form.{Form}
use Rattle.esa_model.specs.declared.instructions.Form.TheVariants.{Rr, Rx, Rs, Si, S, Ri, Rsi, Rre, Ss1, Ss2}
use Rattle.esa_model.specs.declared.instructions.Decoded.{Decoded}
use Rattle.esa_table.specs.Encoding.{encoded, based}
use Rattle.asm_model.specs.declared.operands.Given.{Given}
use Rattle.asm_model.specs.declared.statements.Operation.{Operation}
use Rattle.asm_model.specs.declared.statements.Operation.TheVariants.{Section, Bytes, Word, Address, External, Space, AlignWord, AlignDouble, Using, End, Instruction}
use Rattle.asm_model.specs.declared.statements.Line.{Line}
use Rattle.asm_model.specs.declared.statements.Line.TheVariants.{Broken, Unknown, Said}
use Rattle.asm_model.specs.declared.statements.Statement.{Statement}
use Rattle.asm_model.specs.declared.statements.Source.{Source}
use Rattle.asm_model.specs.declared.program.Defined.{Defined}
use Rattle.asm_model.specs.declared.program.Constant.{Constant}
use Rattle.asm_model.specs.Section.{SectionBytes}
use Rattle.asm_model.specs.Places.{State, Standing, form_length, alignment, size, raised, done, standing_at, with_name, past, after, standings}
use Rattle.asm_model.specs.Refused.{place_of, resolved}
use Rattle.asm_model.specs.Program.{Program, nothing, fields_given, operation_bytes, placed_bytes, address_word, external_word, before_others, line_before, program_of, name_or_zero}
use Rattle.asm_laws.proofs.Clean.{IsClean, AllClean}
use Rattle.asm_laws.proofs.ReadLines.{LineRead, AllRead}
use Rattle.asm_laws.proofs.Instructions.{resolved_row}

-- ---- sections, and other operations

abbrev pub begins : Operation → Bool
begins Section = true
begins (Bytes b) = false
begins (Word n) = false
begins (Address m n) = false
begins (External m) = false
begins (Space n) = false
begins AlignWord = false
begins AlignDouble = false
begins (Using m r) = false
begins (End m) = false
begins (Instruction g) = false

-- the address words of an operation
abbrev pub words_of : State → State → Operation → List Constant
words_of end s (Address m n) = address_word end (standing_at s (Address m n)) m ∷ []
words_of end s (External m) = external_word end (standing_at s (External m)) m ∷ []
words_of end s Section = []
words_of end s (Bytes b) = []
words_of end s (Word n) = []
words_of end s (Space n) = []
words_of end s AlignWord = []
words_of end s AlignDouble = []
words_of end s (Using m r) = []
words_of end s (End m) = []
words_of end s (Instruction g) = []

abbrev pub statement : ℕ → Option ℕ → Operation → Source
statement number name o = record { number = number; line = Said (record { name = name; operation = o }) }

abbrev pub stands : ℕ → Option ℕ → Operation → State → Standing
stands number name o s = record { number = number; line = Said (record { name = name; operation = o }); before = s }

abbrev pub ready : State → Option ℕ → Operation → State
ready s name o = past (size o) (with_name name (standing_at s o))

-- ---- an induction over the statements of a source without refusals

abbrev pub SectionStep : List Defined → (State → List Source → Type 0) → Type 0
SectionStep names P =
    (s : State) (number : ℕ) (name : Option ℕ) (xs : List Source)
    → IsClean names (stands number name Section s)
    → LineRead (Said (record { name = name; operation = Section }))
    → P (ready s name Section) xs
    → P s (statement number name Section ∷ xs)

abbrev pub PlainStep : List Defined → (State → List Source → Type 0) → Type 0
PlainStep names P =
    (s : State) (number : ℕ) (name : Option ℕ) (o : Operation) (xs : List Source)
    → begins o ≡ false
    → IsClean names (stands number name o s)
    → LineRead (Said (record { name = name; operation = o }))
    → P (ready s name o) xs
    → P s (statement number name o ∷ xs)

or_left : (b : Bool) → (b || true) ≡ false → false ≡ true
or_left true h = sym h
or_left false h = sym h

operation_step : (names : List Defined) (P : State → List Source → Type 0) → SectionStep names P → PlainStep names P
    → (o : Operation) (s : State) (number : ℕ) (name : Option ℕ) (xs : List Source)
    → IsClean names (stands number name o s) → LineRead (Said (record { name = name; operation = o })) → P (ready s name o) xs → P s (statement number name o ∷ xs)
operation_step names P sec plain Section s number name xs c r h = sec s number name xs c r h
operation_step names P sec plain (Bytes b) s number name xs c r h = plain s number name (Bytes b) xs refl c r h
operation_step names P sec plain (Word n) s number name xs c r h = plain s number name (Word n) xs refl c r h
operation_step names P sec plain (Address m n) s number name xs c r h = plain s number name (Address m n) xs refl c r h
operation_step names P sec plain (External m) s number name xs c r h = plain s number name (External m) xs refl c r h
operation_step names P sec plain (Space n) s number name xs c r h = plain s number name (Space n) xs refl c r h
operation_step names P sec plain AlignWord s number name xs c r h = plain s number name AlignWord xs refl c r h
operation_step names P sec plain AlignDouble s number name xs c r h = plain s number name AlignDouble xs refl c r h
operation_step names P sec plain (Using m r) s number name xs c k h = plain s number name (Using m r) xs refl c k h
operation_step names P sec plain (End m) s number name xs c r h = plain s number name (End m) xs refl c r h
operation_step names P sec plain (Instruction g) s number name xs c r h = plain s number name (Instruction g) xs refl c r h

line_step : (names : List Defined) (P : State → List Source → Type 0) → SectionStep names P → PlainStep names P
    → (l : Line) (s : State) (number : ℕ) (xs : List Source)
    → IsClean names (record { number = number; line = l; before = s }) → LineRead l → P (after s l) xs → P s (record { number = number; line = l } ∷ xs)
line_step names P sec plain Broken s number xs c r h = let z = or_left s.ended c.bad in absurd (grind (arith, nat_tests))
line_step names P sec plain Unknown s number xs c r h = let z = c.unknown in absurd (grind (arith, nat_tests))
line_step names P sec plain (Said t) s number xs c r h = operation_step names P sec plain t.operation s number t.name xs c r h

pub by_lines : (names : List Defined) (P : State → List Source → Type 0) → ((s : State) → P s []) → SectionStep names P → PlainStep names P
    → (s : State) (xs : List Source) → AllClean names (standings s xs) → AllRead xs → P s xs
by_lines names P nil sec plain s [] c r = nil s
by_lines names P nil sec plain s (x ∷ xs) c r = line_step names P sec plain x.line s x.number xs c.0 r.0 (by_lines names P nil sec plain (after s x.line) xs c.1 r.1)

-- ---- the program of one statement more

itself : (o : ℕ) → raised 1 o ≡ o
itself o = omega arith

no_bytes : (s : ℕ) (p : List ℕ) → (replicate (raised 1 s - s) 0 ++ []) ++ p ≡ p
no_bytes s p = let z : raised 1 s - s ≡ 0 = omega arith in ap (λ n. (replicate n 0 ++ []) ++ p) z

abbrev pub plain_program : State → State → Operation → Program → Program
plain_program end s o p = record {
  pending = placed_bytes end s o ++ p.pending;
  sections = p.sections;
  constants = words_of end s o ++ p.constants;
}

pub plain_is : (end s : State) (name : Option ℕ) (o : Operation) (p : Program) → begins o ≡ false → before_others end s name o p ≡ plain_program end s o p
plain_is end s name Section p h = absurd (grind (arith, nat_tests))
plain_is end s name (Bytes b) p h = refl
plain_is end s name (Word n) p h = refl
plain_is end s name (Address m n) p h = refl
plain_is end s name (External m) p h = refl
plain_is end s name (Space n) p h = refl
plain_is end s name AlignWord p h = refl
plain_is end s name AlignDouble p h = refl
plain_is end s name (Using m r) p h = ap (λ xs. record { pending = xs; sections = p.sections; constants = p.constants }) (sym (no_bytes s.offset p.pending))
plain_is end s name (End m) p h = ap (λ xs. record { pending = xs; sections = p.sections; constants = p.constants }) (sym (no_bytes s.offset p.pending))
plain_is end s name (Instruction g) p h = refl

-- ---- the state after a statement

pub named_section : (n : Option ℕ) (s : State) → (with_name n s).section ≡ s.section
named_section None s = refl
named_section (Some m) s = refl

pub named_offset : (n : Option ℕ) (s : State) → (with_name n s).offset ≡ s.offset
named_offset None s = refl
named_offset (Some m) s = refl

pub named_total : (n : Option ℕ) (s : State) → (with_name n s).total ≡ s.total
named_total None s = refl
named_total (Some m) s = refl

pub named_externals : (n : Option ℕ) (s : State) → (with_name n s).externals ≡ s.externals
named_externals None s = refl
named_externals (Some m) s = refl

pub named_ended : (n : Option ℕ) (s : State) → (with_name n s).ended ≡ s.ended
named_ended None s = refl
named_ended (Some m) s = refl

-- what an operation that begins no section keeps
pub record Keeps (s t : State) : Type 0 where
  pub section : t.section ≡ s.section
  pub offset : t.offset ≡ s.offset
  pub total : t.total ≡ s.total
  pub names : t.names ≡ s.names

pub done_keeps : (s : State) (o : Operation) → begins o ≡ false → Keeps s (done s o)
done_keeps s Section h = absurd (grind (arith, nat_tests))
done_keeps s (Bytes b) h = record { section = refl; offset = refl; total = refl; names = refl }
done_keeps s (Word n) h = record { section = refl; offset = refl; total = refl; names = refl }
done_keeps s (Address m n) h = record { section = refl; offset = refl; total = refl; names = refl }
done_keeps s (External m) h = record { section = refl; offset = refl; total = refl; names = refl }
done_keeps s (Space n) h = record { section = refl; offset = refl; total = refl; names = refl }
done_keeps s AlignWord h = record { section = refl; offset = refl; total = refl; names = refl }
done_keeps s AlignDouble h = record { section = refl; offset = refl; total = refl; names = refl }
done_keeps s (Using m r) h = record { section = refl; offset = refl; total = refl; names = refl }
done_keeps s (End m) h = record { section = refl; offset = refl; total = refl; names = refl }
done_keeps s (Instruction g) h = record { section = refl; offset = refl; total = refl; names = refl }

pub ready_section : (s : State) (name : Option ℕ) (o : Operation) → begins o ≡ false → (ready s name o).section ≡ s.section
ready_section s name o h = named_section name (standing_at s o) ∙ (done_keeps s o h).section

pub ready_total : (s : State) (name : Option ℕ) (o : Operation) → begins o ≡ false → (ready s name o).total ≡ s.total
ready_total s name o h = named_total name (standing_at s o) ∙ (done_keeps s o h).total

pub ready_offset : (s : State) (name : Option ℕ) (o : Operation) → (ready s name o).offset ≡ (standing_at s o).offset + size o
ready_offset s name o = ap (λ n. n + size o) (named_offset name (standing_at s o))

raised_one : (o : ℕ) → o ≤ raised 1 o
raised_one o = omega arith

raised_two : (o : ℕ) → o ≤ raised 2 o
raised_two o = omega arith

raised_four : (o : ℕ) → o ≤ raised 4 o
raised_four o = omega arith

raised_eight : (o : ℕ) → o ≤ raised 8 o
raised_eight o = omega arith

pub offset_raised : (s : State) (o : Operation) → begins o ≡ false → s.offset ≤ (standing_at s o).offset
offset_raised s Section h = absurd (grind (arith, nat_tests))
offset_raised s (Bytes b) h = raised_one s.offset
offset_raised s (Word n) h = raised_four s.offset
offset_raised s (Address m n) h = raised_four s.offset
offset_raised s (External m) h = raised_four s.offset
offset_raised s (Space n) h = raised_one s.offset
offset_raised s AlignWord h = raised_four s.offset
offset_raised s AlignDouble h = raised_eight s.offset
offset_raised s (Using m r) h = raised_one s.offset
offset_raised s (End m) h = raised_one s.offset
offset_raised s (Instruction g) h = raised_two s.offset

-- ---- the bytes of a statement are as many as its size

s_length : (b : Bool) (o : ℕ) (d : Decoded) → length (cond b (o ∷ 0 ∷ based d.b2 d.d2 []) (o / 256 ∷ o % 256 ∷ based d.b2 d.d2 [])) ≡ 4
s_length true o d = refl
s_length false o d = refl

length-encoded : (f : Form) (o : ℕ) (d : Decoded) → length (encoded f o d) ≡ form_length f
length-encoded Rr o d = refl
length-encoded Rx o d = refl
length-encoded Rs o d = refl
length-encoded Si o d = refl
length-encoded S o d = s_length (ltb o 256) o d
length-encoded Ri o d = refl
length-encoded Rsi o d = refl
length-encoded Rre o d = refl
length-encoded Ss1 o d = refl
length-encoded Ss2 o d = refl

pub length-operation : (names : List Defined) (s : State) (o : Operation) → length (operation_bytes names s o) ≡ size o
length-operation names s Section = refl
length-operation names s (Bytes b) = refl
length-operation names s (Word n) = length-bytes_high_first 4 n
length-operation names s (Address m n) = length-bytes_high_first 4 ((place_of names m).offset + n)
length-operation names s (External m) = refl
length-operation names s (Space n) = length-replicate n 0
length-operation names s AlignWord = refl
length-operation names s AlignDouble = refl
length-operation names s (Using m r) = refl
length-operation names s (End m) = refl
length-operation names s (Instruction g) = length-encoded (row_numbered (resolved names s g).row).form (row_numbered (resolved names s g).row).opcode (fields_given (resolved names s g)) ∙ ap (λ n. form_length (row_numbered n).form) (resolved_row names s g)

abbrev zeros : ℕ → List ℕ
zeros n = replicate n 0

zeros_length : (n : ℕ) → length (zeros n) ≡ n
zeros_length n = length-replicate n 0

pub length-placed : (end s : State) (name : Option ℕ) (o : Operation) → begins o ≡ false → length (placed_bytes end s o) + s.offset ≡ (ready s name o).offset
length-placed end s name o h =
    let t = standing_at s o in
    let z = zeros_length (t.offset - s.offset) in
    let a = length-append (zeros (t.offset - s.offset)) (operation_bytes end.names t o) in
    let b = length-operation end.names t o in
    let l = offset_raised s o h in
    let r = ready_offset s name o in
    omega (arith, z, a, b, l, r)
