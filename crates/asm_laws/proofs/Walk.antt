-- All statements are loaded.
use Rattle.std.proofs.Common.{◌≡◌, ℕ, zero, suc, ◌+◌, ◌-◌, ◌*◌, ◌%◌, ◌<◌, ◌≤◌, Bool, true, false, cond, eqb, not, List, [], ◌∷◌, ◌++◌, length, get_or, replicate, Option, Some, None, refl, sym, ◌∙◌, ap, subst, arith, append_assoc, append-nil, inl, inr, ◌⊎◌}
use Rattle.std.proofs.lemmas.Bool.Decides.{nat_tests}
use Rattle.esa_model.specs.Table.{row_numbered, decoded}
use Rattle.deck_model.specs.Image.{bytes_from}
use Rattle.esa_table.specs.Encoding.{instruction_bytes}
use Rattle.asm_model.specs.declared.operands.Given.{Given}
use Rattle.asm_model.specs.declared.statements.Operation.{Operation}
use Rattle.asm_model.specs.declared.statements.Operation.TheVariants.{Section, Bytes, Word, Address, External, Space, AlignWord, AlignDouble, Using, End, Instruction}
use Rattle.asm_model.specs.declared.statements.Line.TheVariants.{Said}
use Rattle.asm_model.specs.declared.statements.Source.{Source}
use Rattle.asm_model.specs.declared.program.Defined.{Defined}
use Rattle.asm_model.specs.declared.program.Constant.{Constant}
use Rattle.asm_model.specs.Section.{SectionBytes}
use Rattle.asm_model.specs.Places.{State, Standing, standings, standing_at, last, size, is_in}
use Rattle.asm_model.specs.Refused.{place_of, resolved, in_range, is_outside}
use Rattle.asm_model.specs.Program.{Program, before_others, program_of, place_in, fields_given, operation_bytes, address_word, external_word}
use Rattle.asm_deck.specs.LoadedSections.{load_at, section_bytes, external_name, name_place, target_of, constant_place}
use Rattle.asm_deck.specs.AssembledImage.{HoldsSections, word_at, ConstantsMoved, IsOutside, BeginsWith}
use Rattle.asm_deck.proofs.Decoding.{decoded_at}
use Rattle.asm_deck.proofs.Ordered.{ends_before}
use Rattle.asm_laws.specs.LoadedProgram.{loaded_at, address_of, OperationLoaded, StatementsLoaded}
use Rattle.asm_laws.proofs.Clean.{IsClean, AllClean}
use Rattle.asm_laws.proofs.ReadLines.{LineRead, AllRead}
use Rattle.asm_laws.proofs.Instructions.{is_instruction}
use Rattle.asm_laws.proofs.Steps.{begins, words_of, statement, stands, ready, by_lines, plain_program, plain_is, named_section, ready_section, ready_offset, offset_raised, length-operation}
use Rattle.asm_laws.proofs.Names.{external_stays, external_comes, place_is}
use Rattle.asm_laws.proofs.Lies.{Lies, lies_section, lies_plain, At, statement_at, ends_inside}
use Rattle.asm_laws.proofs.AddressWords.{WordFits, WordsFit, words_front, words_back, Whole, AreLater, in_order, section_low, not_zero}
use Rattle.asm_laws.proofs.Loaded.{held_at, begins_part, begins_same, word_begins, zeros_begin}

-- ---- where no address word is

-- address words that end at or before the place that is reached
abbrev AreBefore : State → List Constant → Type 0
AreBefore s [] = Unit {0}
AreBefore s (c ∷ cs) = ((c.section < s.section) ⊎ ((c.section ≡ s.section) × (c.offset + 4 ≤ s.offset))) × AreBefore s cs

abbrev place_in_section : ℕ → List SectionBytes → ℕ → ℕ → ℕ
place_in_section origin ss section offset = load_at origin ss (section - 1) + offset

-- a word in an earlier place of the program is loaded before a later one
earlier_word : (origin : ℕ) (ss : List SectionBytes) (k n j m len : ℕ) → 1 ≤ k → j ≤ length ss → n + len ≤ length (section_bytes ss (k - 1)) → (k < j) ⊎ ((k ≡ j) × (n + len ≤ m)) → place_in_section origin ss k n + len ≤ place_in_section origin ss j m
earlier_word origin ss k n j m len a b e (inl h) =
    let x = ends_before origin ss (k - 1) (j - 1) (omega (arith, a, h)) (omega (arith, a, b, h)) in
    omega (arith, x, e)
earlier_word origin ss k n j m len a b e (inr h) =
    let x : load_at origin ss (k - 1) ≡ load_at origin ss (j - 1) = ap (λ i. load_at origin ss (i - 1)) h.0 in
    let y = h.1 in
    omega (arith, x, y)

outside_before : (origin : ℕ) (ss : List SectionBytes) (ms : List ℕ) (s : State) (a : ℕ) (cs : List Constant) → s.section ≤ length ss → loaded_at origin ss s ≤ a → WordsFit ss ms cs → AreBefore s cs → IsOutside origin ss a cs
outside_before origin ss ms s a [] l h w k = tt
outside_before origin ss ms s a (c ∷ cs) l h w k =
    let x = earlier_word origin ss c.section c.offset s.section s.offset 4 w.0.0 l w.0.2 k.0 in
    (inr (omega (arith, x, h)), outside_before origin ss ms s a cs l h w.1 k.1)

-- the bytes from a place on, which end inside the section, lie before later words
reach : (t : State) (c : Constant) (n len : ℕ) → n + len ≤ t.offset → (t.section < c.section) ⊎ ((t.section ≡ c.section) × (t.offset ≤ c.offset)) → (t.section < c.section) ⊎ ((t.section ≡ c.section) × (n + len ≤ c.offset))
reach t c n len o (inl h) = inl h
reach t c n len o (inr h) = let y = h.1 in inr (h.0, omega (arith, o, y))

outside_later : (origin : ℕ) (ss : List SectionBytes) (ms : List ℕ) (t : State) (n len a : ℕ) (cs : List Constant) → 1 ≤ t.section → n + len ≤ t.offset → n + len ≤ length (section_bytes ss (t.section - 1)) → a < place_in_section origin ss t.section n + len → WordsFit ss ms cs → AreLater t cs → IsOutside origin ss a cs
outside_later origin ss ms t n len a [] l o e h w k = tt
outside_later origin ss ms t n len a (c ∷ cs) l o e h w k =
    let x = earlier_word origin ss t.section n c.section c.offset len l w.0.1 e (reach t c n len o k.0) in
    (inl (omega (arith, x, h)), outside_later origin ss ms t n len a cs l o e h w.1 k.1)

outside_both : (origin : ℕ) (ss : List SectionBytes) (a : ℕ) (cs ds : List Constant) → IsOutside origin ss a cs → IsOutside origin ss a ds → IsOutside origin ss a (cs ++ ds)
outside_both origin ss a [] ds h k = k
outside_both origin ss a (c ∷ cs) ds h k = (h.0, outside_both origin ss a cs ds h.1 k)

-- ---- what a walk over the lines knows

pub record Walk (origin : ℕ) (ss : List SectionBytes) (ms : List ℕ) (cs : List Constant) (placed byte : ℕ → ℕ) : Type 0 where
  pub sections : HoldsSections placed origin ss
  pub words : WordsFit ss ms cs
  pub others : (a : ℕ) → IsOutside origin ss a cs → byte a ≡ placed a

-- at a state, before a program
pub record Reached (origin : ℕ) (ss : List SectionBytes) (ms : List ℕ) (cs : List Constant) (placed byte : ℕ → ℕ) (s : State) (p : Program) : Type 0 where
  pub lies : Lies ss s p
  pub earlier : List Constant
  pub split : cs ≡ earlier ++ p.constants
  pub before : AreBefore s earlier
  pub moved : ConstantsMoved byte placed origin ss ms p.constants

before_append : (s : State) (cs ds : List Constant) → AreBefore s cs → AreBefore s ds → AreBefore s (cs ++ ds)
before_append s [] ds h k = k
before_append s (c ∷ cs) ds h k = (h.0, before_append s cs ds h.1 k)

past_one : (s t : State) (c : Constant) → (s.section < t.section) ⊎ ((s.section ≡ t.section) × (s.offset ≤ t.offset)) → (c.section < s.section) ⊎ ((c.section ≡ s.section) × (c.offset + 4 ≤ s.offset)) → (c.section < t.section) ⊎ ((c.section ≡ t.section) × (c.offset + 4 ≤ t.offset))
past_one s t c (inl h) (inl k) = inl (omega (arith, h, k))
past_one s t c (inl h) (inr k) = let x = k.0 in inl (omega (arith, h, x))
past_one s t c (inr h) (inl k) = let x = h.0 in inl (omega (arith, k, x))
past_one s t c (inr h) (inr k) = let x = h.1 in let y = k.1 in inr (k.0 ∙ h.0, omega (arith, x, y))

past_all : (s t : State) (cs : List Constant) → (s.section < t.section) ⊎ ((s.section ≡ t.section) × (s.offset ≤ t.offset)) → AreBefore s cs → AreBefore t cs
past_all s t [] h k = tt
past_all s t (c ∷ cs) h k = (past_one s t c h k.0, past_all s t cs h k.1)

moved_back : (byte placed : ℕ → ℕ) (origin : ℕ) (ss : List SectionBytes) (ms : List ℕ) (cs ds : List Constant) → ConstantsMoved byte placed origin ss ms (cs ++ ds) → ConstantsMoved byte placed origin ss ms ds
moved_back byte placed origin ss ms [] ds h = h
moved_back byte placed origin ss ms (c ∷ cs) ds h = moved_back byte placed origin ss ms cs ds h.1

-- the words of one operation end before the next one
words_before : (end s : State) (name : Option ℕ) (o : Operation) → begins o ≡ false → AreBefore (ready s name o) (words_of end s o)
words_before end s name Section b = tt
words_before end s name (Bytes x) b = tt
words_before end s name (Word n) b = tt
words_before end s name (Address m n) b = let r = ready_offset s name (Address m n) in (inr (sym (ready_section s name (Address m n) refl), omega (arith, r)), tt)
words_before end s name (External m) b = let r = ready_offset s name (External m) in (inr (sym (ready_section s name (External m) refl), omega (arith, r)), tt)
words_before end s name (Space n) b = tt
words_before end s name AlignWord b = tt
words_before end s name AlignDouble b = tt
words_before end s name (Using m r) b = tt
words_before end s name (End m) b = tt
words_before end s name (Instruction g) b = tt

-- ---- the walk goes on

reached_section : (origin : ℕ) (ss : List SectionBytes) (ms : List ℕ) (cs : List Constant) (placed byte : ℕ → ℕ) (end s : State) (name : Option ℕ) (p : Program) → Reached origin ss ms cs placed byte s (before_others end s name Section p) → Reached origin ss ms cs placed byte (ready s name Section) p
reached_section origin ss ms cs placed byte end s name p h =
    let g : (ready s name Section).section ≡ s.section + 1 = named_section name (standing_at s Section) in
    record {
      lies = lies_section ss end s name p h.lies;
      earlier = h.earlier;
      split = h.split;
      before = past_all s (ready s name Section) h.earlier (inl (omega (arith, g))) h.before;
      moved = h.moved;
    }

reached_plain : (origin : ℕ) (ss : List SectionBytes) (ms : List ℕ) (cs : List Constant) (placed byte : ℕ → ℕ) (end s : State) (name : Option ℕ) (o : Operation) (p : Program) → begins o ≡ false → Reached origin ss ms cs placed byte s (plain_program end s o p) → Reached origin ss ms cs placed byte (ready s name o) p
reached_plain origin ss ms cs placed byte end s name o p b h =
    let r = ready_offset s name o in
    let l = offset_raised s o b in
    let on : s.offset ≤ (ready s name o).offset = omega (arith, r, l) in
    record {
      lies = lies_plain ss end s name o p b h.lies;
      earlier = h.earlier ++ words_of end s o;
      split = h.split ∙ sym (append_assoc h.earlier (words_of end s o) p.constants);
      before = before_append (ready s name o) h.earlier (words_of end s o) (past_all s (ready s name o) h.earlier (inr (sym (ready_section s name o b), on)) h.before) (words_before end s name o b);
      moved = moved_back byte placed origin ss ms (words_of end s o) p.constants h.moved;
    }

-- ---- one statement

-- its bytes before relocation
placed_begins : (origin : ℕ) (ss : List SectionBytes) (ms : List ℕ) (cs : List Constant) (placed byte : ℕ → ℕ) (end s : State) (o : Operation) (p : Program) → Walk origin ss ms cs placed byte → begins o ≡ false → 1 ≤ s.section → Lies ss s (plain_program end s o p) → BeginsWith placed (load_at origin ss (s.section - 1) + (standing_at s o).offset) (operation_bytes end.names (standing_at s o) o)
placed_begins origin ss ms cs placed byte end s o p w b l h =
    let a = statement_at ss end s o p b l h in
    let c = section_low ss s (plain_program end s o p) h in
    let k : s.section - 1 < length ss = omega (arith, l, c) in
    subst (λ n. BeginsWith placed (load_at origin ss (s.section - 1) + n) (operation_bytes end.names (standing_at s o) o)) a.offset
    (begins_part placed (load_at origin ss (s.section - 1)) (section_bytes ss (s.section - 1)) a.front (operation_bytes end.names (standing_at s o) o) a.back a.bytes
    (λ i j. held_at placed origin ss (s.section - 1) i k w.sections j))

-- and after it, where it has no address word
byte_begins : (origin : ℕ) (ss : List SectionBytes) (ms : List ℕ) (cs : List Constant) (placed byte : ℕ → ℕ) (end s : State) (name : Option ℕ) (o : Operation) (p : Program) → Walk origin ss ms cs placed byte → begins o ≡ false → words_of end s o ≡ [] → 1 ≤ s.section → Reached origin ss ms cs placed byte s (plain_program end s o p) → AreLater (ready s name o) p.constants → BeginsWith byte (load_at origin ss (s.section - 1) + (standing_at s o).offset) (operation_bytes end.names (standing_at s o) o)
byte_begins origin ss ms cs placed byte end s name o p w b e l h later =
    let u = standing_at s o in
    let at : ℕ = load_at origin ss (s.section - 1) + u.offset in
    let ob = operation_bytes end.names u o in
    let t = ready s name o in
    let g = ready_section s name o b in
    let r = ready_offset s name o in
    let raise = offset_raised s o b in
    let low = section_low ss s (plain_program end s o p) h.lies in
    let long = length-operation end.names u o in
    let a = statement_at ss end s o p b l h.lies in
    let ends = ends_inside ss end.names s o a in
    let same : cs ≡ h.earlier ++ p.constants = h.split ∙ ap (λ xs. h.earlier ++ (xs ++ p.constants)) e in
    let fit = subst (WordsFit ss ms) same w.words in
    let there : load_at origin ss (t.section - 1) ≡ load_at origin ss (s.section - 1) = ap (λ n. load_at origin ss (n - 1)) g in
    let inside : u.offset + size o ≤ length (section_bytes ss (t.section - 1)) = subst (λ n. u.offset + size o ≤ length (section_bytes ss (n - 1))) (sym g) ends in
    begins_same placed byte at ob
    (λ i from to. w.others i (subst (IsOutside origin ss i) (sym same) (outside_both origin ss i h.earlier p.constants
    (outside_before origin ss ms s i h.earlier low (omega (arith, from, raise)) (words_front ss ms h.earlier p.constants fit) h.before)
    (outside_later origin ss ms t u.offset (size o) i p.constants (omega (arith, g, l)) (omega (arith, r)) inside (omega (arith, to, long, there)) (words_back ss ms h.earlier p.constants fit) later))))
    (placed_begins origin ss ms cs placed byte end s o p w b l h.lies)

-- an address word, and an external one
sum_of : (w d n l : ℕ) → w ≡ (d + n) % 4294967296 → (w + l) % 4294967296 ≡ (l + d + n) % 4294967296
sum_of w d n l h = omega (arith, h)

zero_sum : (w l : ℕ) → w ≡ 0 → (w + l) % 4294967296 ≡ l % 4294967296
zero_sum w l h = omega (arith, h)

target_is : (ss : List SectionBytes) (ms : List ℕ) (end : State) (m : ℕ) → ms ≡ end.externals → length ss ≡ end.section → is_in m end.externals ≡ true → external_name ss ms (end.section + 1 + place_in m end.externals) ≡ m
target_is ss ms end m q c h =
    let e : end.section + 1 + place_in m end.externals - (1 + length ss) ≡ place_in m end.externals = omega (arith, c) in
    ap (λ k. get_or ms k 0) e ∙ (ap (λ xs. get_or xs (place_in m end.externals) 0) q ∙ (place_is m end.externals h).1)

not_out : (b : Bool) → not b ≡ false → b ≡ true
not_out true h = refl
not_out false h = absurd (grind (arith, nat_tests))

abbrev IsLoaded : (ℕ → ℕ) → ℕ → List SectionBytes → State → State → Operation → Type 0
IsLoaded byte origin ss end s o = OperationLoaded byte origin ss end.names (standing_at s o) o

loaded : (origin : ℕ) (ss : List SectionBytes) (ms : List ℕ) (cs : List Constant) (placed byte : ℕ → ℕ) (end s : State) (number : ℕ) (name : Option ℕ) (o : Operation) (ys : List Source)
    → Walk origin ss ms cs placed byte → ms ≡ end.externals → length ss ≡ end.section
    → begins o ≡ false → IsClean end.names (stands number name o s) → LineRead (Said (record { name = name; operation = o })) → AllClean end.names (standings (ready s name o) ys) → AllRead ys → last (ready s name o) ys ≡ end
    → Reached origin ss ms cs placed byte s (plain_program end s o (program_of end (standings (ready s name o) ys)))
    → IsLoaded byte origin ss end s o
loaded origin ss ms cs placed byte end s number name Section ys w q n b k d c r e h = tt
loaded origin ss ms cs placed byte end s number name (Bytes x) ys w q n b k d c r e h =
    byte_begins origin ss ms cs placed byte end s name (Bytes x) _ w b refl (not_zero s.section k.placed) h (in_order end.names end (ready s name (Bytes x)) ys c r).1
loaded origin ss ms cs placed byte end s number name (Word x) ys w q n b k d c r e h =
    word_begins byte _ x (byte_begins origin ss ms cs placed byte end s name (Word x) _ w b refl (not_zero s.section k.placed) h (in_order end.names end (ready s name (Word x)) ys c r).1)
loaded origin ss ms cs placed byte end s number name (Address m x) ys w q n b k d c r e h =
    let u = standing_at s (Address m x) in
    let at : ℕ = load_at origin ss (s.section - 1) + u.offset in
    let f = word_begins placed at ((place_of end.names m).offset + x) (placed_begins origin ss ms cs placed byte end s (Address m x) _ w b (not_zero s.section k.placed) h.lies) in
    h.moved.0 ∙ sum_of (word_at placed at) (place_of end.names m).offset x (load_at origin ss ((place_of end.names m).section - 1)) f
loaded origin ss ms cs placed byte end s number name (External m) ys w q n b k d c r e h =
    let u = standing_at s (External m) in
    let at : ℕ = load_at origin ss (s.section - 1) + u.offset in
    let f = zeros_begin placed at (placed_begins origin ss ms cs placed byte end s (External m) _ w b (not_zero s.section k.placed) h.lies) in
    let x : is_in m end.externals ≡ true = ap (λ (t : State). is_in m t.externals) (sym e) ∙ external_stays end.names m (ready s name (External m)) ys c r (external_comes s name m) in
    h.moved.0
    ∙ (ap (λ y. (word_at placed at + load_at origin ss (name_place y ss)) % 4294967296) (target_is ss ms end m q n x)
    ∙ zero_sum (word_at placed at) (load_at origin ss (name_place m ss)) f)
loaded origin ss ms cs placed byte end s number name (Space x) ys w q n b k d c r e h =
    byte_begins origin ss ms cs placed byte end s name (Space x) _ w b refl (not_zero s.section k.placed) h (in_order end.names end (ready s name (Space x)) ys c r).1
loaded origin ss ms cs placed byte end s number name AlignWord ys w q n b k d c r e h = tt
loaded origin ss ms cs placed byte end s number name AlignDouble ys w q n b k d c r e h = tt
loaded origin ss ms cs placed byte end s number name (Using m x) ys w q n b k d c r e h = tt
loaded origin ss ms cs placed byte end s number name (End m) ys w q n b k d c r e h = tt
loaded origin ss ms cs placed byte end s number name (Instruction g) ys w q n b k d c r e h =
    let u = standing_at s (Instruction g) in
    let i = is_instruction end.names u g d.1.0 d.1.1 (not_out (in_range (resolved end.names u g)) k.ranged) in
    decoded_at byte _ (fields_given (resolved end.names u g)) i (byte_begins origin ss ms cs placed byte end s name (Instruction g) _ w b refl (not_zero s.section k.placed) h (in_order end.names end (ready s name (Instruction g)) ys c r).1)

-- ---- all statements

abbrev AreLoaded : ℕ → List SectionBytes → List ℕ → List Constant → (ℕ → ℕ) → (ℕ → ℕ) → State → State → List Source → Type 0
AreLoaded origin ss ms cs placed byte end s xs =
    AllClean end.names (standings s xs) → AllRead xs → last s xs ≡ end
    → Reached origin ss ms cs placed byte s (program_of end (standings s xs))
    → StatementsLoaded byte origin ss end.names (standings s xs)

pub statements_loaded : (origin : ℕ) (ss : List SectionBytes) (ms : List ℕ) (cs : List Constant) (placed byte : ℕ → ℕ) (end : State) → Walk origin ss ms cs placed byte → ms ≡ end.externals → length ss ≡ end.section
    → (s : State) (xs : List Source) → AreLoaded origin ss ms cs placed byte end s xs
statements_loaded origin ss ms cs placed byte end w q n s xs c r =
    by_lines end.names (AreLoaded origin ss ms cs placed byte end) (λ t c r e h. tt)
    (λ t number name ys k l ih c r e h. (tt, ih c.1 r.1 e (reached_section origin ss ms cs placed byte end t name (program_of end (standings (ready t name Section) ys)) h)))
    (λ t number name o ys b k l ih c r e h.
    let p = program_of end (standings (ready t name o) ys) in
    let z = plain_is end t name o p b in
    let g : Reached origin ss ms cs placed byte t (plain_program end t o p) = subst (Reached origin ss ms cs placed byte t) z h in (
      loaded origin ss ms cs placed byte end t number name o ys w q n b c.0 r.0 c.1 r.1 e g,
      ih c.1 r.1 e (reached_plain origin ss ms cs placed byte end t name o p b g),
    )) s xs c r c r
