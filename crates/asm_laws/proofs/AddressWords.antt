-- The address words of an accepted source: inside their sections, in order, and of items that there are.
use Rattle.std.proofs.Common.{◌≡◌, ℕ, zero, suc, ◌+◌, ◌-◌, ◌*◌, ◌<◌, ◌≤◌, Bool, true, false, cond, eqb, not, List, [], ◌∷◌, ◌++◌, length, get_or, Option, Some, None, refl, sym, ◌∙◌, ap, subst, arith, inl, inr, ◌⊎◌}
use Rattle.std.proofs.lemmas.Bool.Decides.{nat_tests}
use Rattle.std.specs.List.{list_all, list_any}
use Rattle.asm_model.specs.declared.statements.Operation.{Operation}
use Rattle.asm_model.specs.declared.statements.Operation.TheVariants.{Section, Bytes, Word, Address, External, Space, AlignWord, AlignDouble, Using, End, Instruction}
use Rattle.asm_model.specs.declared.statements.Source.{Source}
use Rattle.asm_model.specs.declared.program.Defined.{Defined}
use Rattle.asm_model.specs.declared.program.Constant.{Constant}
use Rattle.asm_model.specs.Section.{SectionBytes}
use Rattle.asm_model.specs.Places.{State, Standing, standings, standing_at, start, last, size, is_in}
use Rattle.asm_model.specs.Refused.{has_name, place_of, is_outside, is_missing}
use Rattle.asm_model.specs.Program.{Program, before_others, program_of, place_in, address_word, external_word}
use Rattle.asm_deck.specs.LoadedSections.{section_bytes, is_named, external_name}
use Rattle.asm_deck.specs.Accepted.{NameFits, TargetFits, ConstantFits, ConstantsFit, IsBefore, AreOrdered, LengthsFit}
use Rattle.asm_deck.specs.Writable.{ColumnsFit}
use Rattle.asm_laws.proofs.Clean.{IsClean, AllClean}
use Rattle.asm_laws.proofs.ReadLines.{LineRead, AllRead}
use Rattle.asm_laws.proofs.Steps.{begins, words_of, statement, stands, ready, by_lines, plain_program, plain_is, named_section, ready_section, ready_offset, offset_raised}
use Rattle.asm_laws.proofs.ReadNames.{both}
use Rattle.asm_laws.proofs.Names.{AreIn, NamesLie, place_in_section, ExternalsRead, external_stays, external_comes, place_is}
use Rattle.asm_laws.proofs.Lies.{Lies, lies_section, lies_plain, At, statement_at, ends_inside}

-- ---- items and places

abbrev pub TargetIn : Bool → List SectionBytes → List ℕ → ℕ → Type 0
TargetIn true ss ms id = (1 + length ss ≤ id) × (id < 1 + length ss + length ms)
TargetIn false ss ms id = (1 ≤ id) × (id ≤ length ss)

abbrev pub WordFits : List SectionBytes → List ℕ → Constant → Type 0
WordFits ss ms c = (1 ≤ c.section) × (c.section ≤ length ss) × (c.offset + 4 ≤ length (section_bytes ss (c.section - 1))) × TargetIn c.external ss ms c.target

abbrev pub WordsFit : List SectionBytes → List ℕ → List Constant → Type 0
WordsFit ss ms [] = Unit {0}
WordsFit ss ms (c ∷ cs) = WordFits ss ms c × WordsFit ss ms cs

pub words_append : (ss : List SectionBytes) (ms : List ℕ) (cs ds : List Constant) → WordsFit ss ms cs → WordsFit ss ms ds → WordsFit ss ms (cs ++ ds)
words_append ss ms [] ds h k = k
words_append ss ms (c ∷ cs) ds h k = (h.0, words_append ss ms cs ds h.1 k)

pub words_front : (ss : List SectionBytes) (ms : List ℕ) (cs ds : List Constant) → WordsFit ss ms (cs ++ ds) → WordsFit ss ms cs
words_front ss ms [] ds h = tt
words_front ss ms (c ∷ cs) ds h = (h.0, words_front ss ms cs ds h.1)

pub words_back : (ss : List SectionBytes) (ms : List ℕ) (cs ds : List Constant) → WordsFit ss ms (cs ++ ds) → WordsFit ss ms ds
words_back ss ms [] ds h = h
words_back ss ms (c ∷ cs) ds h = words_back ss ms cs ds h.1

-- ---- of the whole source

pub record Whole (end : State) (ss : List SectionBytes) : Type 0 where
  pub count : length ss ≡ end.section
  pub lie : NamesLie end

pub not_zero : (n : ℕ) → eqb n 0 ≡ false → 1 ≤ n
not_zero n h = grind (arith, nat_tests)

not_missing : (b : Bool) → not b ≡ false → b ≡ true
not_missing true h = refl
not_missing false h = absurd (grind (arith, nat_tests))

in_sections : (end : State) (n : ℕ) → 1 ≤ n → n ≤ end.section → NamesLie end → AreIn end.section end.names
in_sections end n a b (inl (z, e)) = absurd (omega (arith, a, b, z))
in_sections end n a b (inr (l, h)) = h

pub section_low : (ss : List SectionBytes) (s : State) (p : Program) → Lies ss s p → s.section ≤ length ss
section_low ss s p h = let c = h.count in omega (arith, c)

word_in : (ss : List SectionBytes) (ms : List ℕ) (end s : State) (number : ℕ) (name : Option ℕ) (o : Operation) (ys : List Source) → ms ≡ end.externals → Whole end ss
    → begins o ≡ false → IsClean end.names (stands number name o s) → AllClean end.names (standings (ready s name o) ys) → AllRead ys → last (ready s name o) ys ≡ end
    → Lies ss s (plain_program end s o (program_of end (standings (ready s name o) ys))) → WordsFit ss ms (words_of end s o)
word_in ss ms end s number name Section ys q w b k c r e h = tt
word_in ss ms end s number name (Bytes x) ys q w b k c r e h = tt
word_in ss ms end s number name (Word n) ys q w b k c r e h = tt
word_in ss ms end s number name (Address m n) ys q w b k c r e h =
    let p = program_of end (standings (ready s name (Address m n)) ys) in
    let l = not_zero s.section k.placed in
    let a = statement_at ss end s (Address m n) p refl l h in
    let i = section_low ss s (plain_program end s (Address m n) p) h in
    let count = w.count in
    let t = place_in_section end.section m end.names (in_sections end s.section l (omega (arith, i, count)) w.lie) (not_missing (list_any (has_name m) end.names) k.defined) in
    let u = t.1 in
    ((l, i, ends_inside ss end.names s (Address m n) a, (t.0, omega (arith, u, count))), tt)
word_in ss ms end s number name (External m) ys q w b k c r e h =
    let p = program_of end (standings (ready s name (External m)) ys) in
    let l = not_zero s.section k.placed in
    let a = statement_at ss end s (External m) p refl l h in
    let i = section_low ss s (plain_program end s (External m) p) h in
    let count = w.count in
    let x : is_in m end.externals ≡ true = ap (λ (t : State). is_in m t.externals) (sym e) ∙ external_stays end.names m (ready s name (External m)) ys c r (external_comes s name m) in
    let t = (place_is m end.externals x).0 in
    let z = ap length q in
    ((l, i, ends_inside ss end.names s (External m) a, (omega (arith, count), omega (arith, t, count, z))), tt)
word_in ss ms end s number name (Space n) ys q w b k c r e h = tt
word_in ss ms end s number name AlignWord ys q w b k c r e h = tt
word_in ss ms end s number name AlignDouble ys q w b k c r e h = tt
word_in ss ms end s number name (Using m x) ys q w b k c r e h = tt
word_in ss ms end s number name (End m) ys q w b k c r e h = tt
word_in ss ms end s number name (Instruction g) ys q w b k c r e h = tt

-- ---- all words lie in their sections

abbrev HasWords : List SectionBytes → List ℕ → State → State → List Source → Type 0
HasWords ss ms end s xs =
    AllClean end.names (standings s xs) → AllRead xs → last s xs ≡ end → Lies ss s (program_of end (standings s xs))
    → WordsFit ss ms (program_of end (standings s xs)).constants

plain_words : (ss : List SectionBytes) (ms : List ℕ) (end : State) → ms ≡ end.externals → Whole end ss
    → (s : State) (number : ℕ) (name : Option ℕ) (o : Operation) (ys : List Source) → begins o ≡ false → HasWords ss ms end (ready s name o) ys → HasWords ss ms end s (statement number name o ∷ ys)
plain_words ss ms end q w s number name o ys b ih c r e h =
    let p = program_of end (standings (ready s name o) ys) in
    let z = plain_is end s name o p b in
    let k : Lies ss s (plain_program end s o p) = subst (Lies ss s) z h in
    subst (λ (x : Program). WordsFit ss ms x.constants) (sym z)
    (words_append ss ms (words_of end s o) p.constants (word_in ss ms end s number name o ys q w b c.0 c.1 r.1 e k) (ih c.1 r.1 e (lies_plain ss end s name o p b k)))

pub words_fit : (ss : List SectionBytes) (ms : List ℕ) (end : State) → ms ≡ end.externals → Whole end ss → (s : State) (xs : List Source) → HasWords ss ms end s xs
words_fit ss ms end q w s xs c r =
    by_lines end.names (HasWords ss ms end) (λ t c r e h. tt)
    (λ t number name ys k l ih c r e h. ih c.1 r.1 e (lies_section ss end t name (program_of end (standings (ready t name Section) ys)) h))
    (λ t number name o ys b k l ih. plain_words ss ms end q w t number name o ys b ih) s xs c r c r

-- ---- external items are named

named_from : (ss : List SectionBytes) (ms : List ℕ) (k : ℕ) → k < length ms → list_all (λ m. is_named m ss) ms ≡ true → is_named (get_or ms k 0) ss ≡ true
named_from ss [] k h a = absurd (omega arith)
named_from ss (m ∷ ms) zero h a = (both (is_named m ss) (list_all (λ x. is_named x ss) ms) a).0
named_from ss (m ∷ ms) (suc k) h a = named_from ss ms k (omega arith) (both (is_named m ss) (list_all (λ x. is_named x ss) ms) a).1

read_from : (ms : List ℕ) (k : ℕ) → k < length ms → ExternalsRead ms → NameFits (get_or ms k 0)
read_from [] k h a = absurd (omega arith)
read_from (m ∷ ms) zero h a = a.0
read_from (m ∷ ms) (suc k) h a = read_from ms k (omega arith) a.1

target_fits : (b : Bool) (ss : List SectionBytes) (ms : List ℕ) (id : ℕ) → list_all (λ m. is_named m ss) ms ≡ true → ExternalsRead ms → TargetIn b ss ms id → TargetFits b ss ms id
target_fits true ss ms id n r h =
    let x = h.0 in
    let y = h.1 in
    let k : id - (1 + length ss) < length ms = omega (arith, x, y) in
    (h.0, h.1, read_from ms (id - (1 + length ss)) k r, named_from ss ms (id - (1 + length ss)) k n)
target_fits false ss ms id n r h = h

pub constants_fit : (ss : List SectionBytes) (ms : List ℕ) (cs : List Constant) → list_all (λ m. is_named m ss) ms ≡ true → ExternalsRead ms → WordsFit ss ms cs → ConstantsFit ss ms cs
constants_fit ss ms [] n r h = tt
constants_fit ss ms (c ∷ cs) n r h = ((h.0.0, h.0.1, h.0.2, target_fits c.external ss ms c.target n r h.0.3), constants_fit ss ms cs n r h.1)

-- ---- the columns of the cards hold them

target_small : (b : Bool) (ss : List SectionBytes) (ms : List ℕ) (id : ℕ) → length ss + length ms < 65536 → TargetIn b ss ms id → id < 65536
target_small true ss ms id n h = let x = h.1 in omega (arith, x, n)
target_small false ss ms id n h = let x = h.1 in omega (arith, x, n)

bytes_low : (k : ℕ) (ss : List SectionBytes) → LengthsFit ss → length (section_bytes ss k) ≤ 1048576
bytes_low k [] h = omega arith
bytes_low zero (s ∷ ss) h = h.0
bytes_low (suc k) (s ∷ ss) h = bytes_low k ss h.1

pub columns_fit : (ss : List SectionBytes) (ms : List ℕ) (cs : List Constant) → length ss + length ms < 65536 → LengthsFit ss → WordsFit ss ms cs → ColumnsFit cs
columns_fit ss ms [] n l h = tt
columns_fit ss ms (c ∷ cs) n l h =
    let a = h.0.1 in
    let b = h.0.2 in
    let d = bytes_low (c.section - 1) ss l in
    (omega (arith, a, n), target_small c.external ss ms c.target n h.0.3, omega (arith, b, d), columns_fit ss ms cs n l h.1)

-- ---- in the order of their places

-- each lies behind the place that is reached
abbrev pub AreLater : State → List Constant → Type 0
AreLater s [] = Unit {0}
AreLater s (c ∷ cs) = ((s.section < c.section) ⊎ ((s.section ≡ c.section) × (s.offset ≤ c.offset))) × AreLater s cs

abbrev InOrder : State → State → List Source → Type 0
InOrder end s xs = AreOrdered (program_of end (standings s xs)).constants × AreLater s (program_of end (standings s xs)).constants

one_section : (s t : State) (c : Constant) → t.section ≡ s.section + 1 → (t.section < c.section) ⊎ ((t.section ≡ c.section) × (t.offset ≤ c.offset)) → (s.section < c.section) ⊎ ((s.section ≡ c.section) × (s.offset ≤ c.offset))
one_section s t c g (inl h) = inl (omega (arith, g, h))
one_section s t c g (inr h) = let x = h.0 in inl (omega (arith, g, x))

one_same : (s t : State) (c : Constant) → t.section ≡ s.section → s.offset ≤ t.offset → (t.section < c.section) ⊎ ((t.section ≡ c.section) × (t.offset ≤ c.offset)) → (s.section < c.section) ⊎ ((s.section ≡ c.section) × (s.offset ≤ c.offset))
one_same s t c g o (inl h) = inl (omega (arith, g, h))
one_same s t c g o (inr h) = let y = h.1 in inr (sym g ∙ h.0, omega (arith, o, y))

one_before : (t : State) (c d : Constant) → c.section ≡ t.section → c.offset + 4 ≤ t.offset → (t.section < d.section) ⊎ ((t.section ≡ d.section) × (t.offset ≤ d.offset)) → (c.section < d.section) ⊎ ((c.section ≡ d.section) × (c.offset + 4 ≤ d.offset))
one_before t c d g o (inl h) = inl (omega (arith, g, h))
one_before t c d g o (inr h) = let y = h.1 in inr (g ∙ h.0, omega (arith, o, y))

next_section : (s t : State) (cs : List Constant) → t.section ≡ s.section + 1 → AreLater t cs → AreLater s cs
next_section s t [] g h = tt
next_section s t (c ∷ cs) g h = (one_section s t c g h.0, next_section s t cs g h.1)

same_section : (s t : State) (cs : List Constant) → t.section ≡ s.section → s.offset ≤ t.offset → AreLater t cs → AreLater s cs
same_section s t [] g o h = tt
same_section s t (c ∷ cs) g o h = (one_same s t c g o h.0, same_section s t cs g o h.1)

before_later : (t : State) (c : Constant) (cs : List Constant) → c.section ≡ t.section → c.offset + 4 ≤ t.offset → AreLater t cs → IsBefore c cs
before_later t c [] g o h = tt
before_later t c (d ∷ ds) g o h = (one_before t c d g o h.0, before_later t c ds g o h.1)

-- an operation with a word at the raised offset
one_word : (s t : State) (c : Constant) (cs : List Constant) → t.section ≡ s.section → c.section ≡ s.section → s.offset ≤ c.offset → c.offset + 4 ≤ t.offset → AreOrdered cs × AreLater t cs → AreOrdered (c ∷ cs) × AreLater s (c ∷ cs)
one_word s t c cs g e l o h =
    let m : s.offset ≤ t.offset = omega (arith, l, o) in
    ((before_later t c cs (e ∙ sym g) o h.1, h.0), (inr (sym e, l), same_section s t cs g m h.1))

no_word : (s : State) (name : Option ℕ) (o : Operation) (cs : List Constant) → begins o ≡ false → AreLater (ready s name o) cs → AreLater s cs
no_word s name o cs b h =
    let r = ready_offset s name o in
    let l = offset_raised s o b in
    same_section s (ready s name o) cs (ready_section s name o b) (omega (arith, r, l)) h

words_order : (end s : State) (name : Option ℕ) (o : Operation) (cs : List Constant) → begins o ≡ false → AreOrdered cs × AreLater (ready s name o) cs → AreOrdered (words_of end s o ++ cs) × AreLater s (words_of end s o ++ cs)
words_order end s name Section cs b h = absurd (grind (arith, nat_tests))
words_order end s name (Address m n) cs b h =
    let r = ready_offset s name (Address m n) in
    one_word s (ready s name (Address m n)) (address_word end (standing_at s (Address m n)) m) cs (ready_section s name (Address m n) refl) refl (offset_raised s (Address m n) refl) (omega (arith, r)) h
words_order end s name (External m) cs b h =
    let r = ready_offset s name (External m) in
    one_word s (ready s name (External m)) (external_word end (standing_at s (External m)) m) cs (ready_section s name (External m) refl) refl (offset_raised s (External m) refl) (omega (arith, r)) h
words_order end s name (Bytes x) cs b h = (h.0, no_word s name (Bytes x) cs b h.1)
words_order end s name (Word n) cs b h = (h.0, no_word s name (Word n) cs b h.1)
words_order end s name (Space n) cs b h = (h.0, no_word s name (Space n) cs b h.1)
words_order end s name AlignWord cs b h = (h.0, no_word s name AlignWord cs b h.1)
words_order end s name AlignDouble cs b h = (h.0, no_word s name AlignDouble cs b h.1)
words_order end s name (Using m r) cs b h = (h.0, no_word s name (Using m r) cs b h.1)
words_order end s name (End m) cs b h = (h.0, no_word s name (End m) cs b h.1)
words_order end s name (Instruction g) cs b h = (h.0, no_word s name (Instruction g) cs b h.1)

pub in_order : (names : List Defined) (end s : State) (xs : List Source) → AllClean names (standings s xs) → AllRead xs → AreOrdered (program_of end (standings s xs)).constants × AreLater s (program_of end (standings s xs)).constants
in_order names end s xs c r =
    by_lines names (InOrder end) (λ t. (tt, tt))
    (λ t number name ys k l ih. (ih.0, next_section t (ready t name Section) (program_of end (standings (ready t name Section) ys)).constants (named_section name (standing_at t Section)) ih.1))
    (λ t number name o ys b k l ih.
    subst (λ (p : Program). AreOrdered p.constants × AreLater t p.constants) (sym (plain_is end t name o (program_of end (standings (ready t name o) ys)) b))
    (words_order end t name o (program_of end (standings (ready t name o) ys)).constants b ih)) s xs c r
