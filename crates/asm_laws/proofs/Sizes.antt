-- The sections of an accepted source: how many, how long, and how many address words they have.
use Rattle.std.proofs.Common.{◌≡◌, ℕ, zero, suc, ◌+◌, ◌-◌, ◌*◌, ◌<◌, ◌≤◌, Bool, true, false, cond, ltb, ◌||◌, List, [], ◌∷◌, ◌++◌, length, Option, Some, None, refl, sym, ◌∙◌, ap, subst, arith, length-append}
use Rattle.std.proofs.lemmas.Bool.Decides.{nat_tests}
use Rattle.asm_model.specs.declared.statements.Operation.{Operation}
use Rattle.asm_model.specs.declared.statements.Operation.TheVariants.{Section, Bytes, Word, Address, External, Space, AlignWord, AlignDouble, Using, End, Instruction}
use Rattle.asm_model.specs.declared.statements.Source.{Source}
use Rattle.asm_model.specs.declared.program.Defined.{Defined}
use Rattle.asm_model.specs.declared.program.Constant.{Constant}
use Rattle.asm_model.specs.Section.{SectionBytes}
use Rattle.asm_model.specs.Places.{State, Standing, size, standings, standing_at, start, last}
use Rattle.asm_model.specs.Refused.{is_too_big}
use Rattle.asm_model.specs.Program.{Program, nothing, placed_bytes, before_others, program_of}
use Rattle.asm_deck.specs.Accepted.{LengthsFit}
use Rattle.asm_deck.specs.Writable.{total_length}
use Rattle.asm_laws.proofs.Clean.{IsClean, AllClean}
use Rattle.asm_laws.proofs.ReadLines.{AllRead}
use Rattle.asm_laws.proofs.Steps.{begins, words_of, statement, stands, ready, by_lines, plain_program, plain_is, named_section, named_offset, named_total, ready_section, ready_total, ready_offset, offset_raised, length-placed}

-- ---- what is not too big

pub record IsSmall (t : State) : Type 0 where
  pub offset : t.offset ≤ 1048576
  pub total : t.total + t.offset ≤ 16777216
  pub count : t.section + length t.externals ≤ 65535

neither : (b c : Bool) → (b || c) ≡ false → (b ≡ false) × (c ≡ false)
neither true c h = absurd (grind (arith, nat_tests))
neither false c h = (refl, h)

not_below : (a b : ℕ) → ltb a b ≡ false → b ≤ a
not_below a b h = grind (arith, nat_tests)

pub small : (t : State) → is_too_big t ≡ false → IsSmall t
small t h =
    let a = neither (ltb 1048576 t.offset) _ h in
    let b = neither (ltb 16777216 (t.total + t.offset)) (ltb 65535 (t.section + length t.externals)) a.1 in
    record {
      offset = not_below 1048576 t.offset a.0;
      total = not_below 16777216 (t.total + t.offset) b.0;
      count = not_below 65535 (t.section + length t.externals) b.1;
    }

abbrev StaysSmall : State → List Source → Type 0
StaysSmall s xs = IsSmall s → IsSmall (last s xs)

pub last_small : (names : List Defined) (s : State) (xs : List Source) → AllClean names (standings s xs) → AllRead xs → IsSmall s → IsSmall (last s xs)
last_small names s xs c r =
    by_lines names StaysSmall (λ t h. h)
    (λ t number name ys k l ih h. ih (small (ready t name Section) k.fits))
    (λ t number name o ys b k l ih h. ih (small (ready t name o) k.fits)) s xs c r

-- ---- sections and bytes

pub record Sizes (s end : State) (p : Program) : Type 0 where
  pub pending : length p.pending + s.offset ≤ 1048576
  pub lengths : LengthsFit p.sections
  pub total : total_length p.sections + length p.pending + s.total + s.offset ≡ end.total + end.offset
  pub count : length p.sections + s.section ≡ end.section
  pub words : 4 * length p.constants ≤ total_length p.sections + length p.pending

abbrev HasSizes : State → State → List Source → Type 0
HasSizes end s xs = s.offset ≤ 1048576 → Sizes s (last s xs) (program_of end (standings s xs))

zero_sums : (a b : ℕ) → 0 + 0 + a + b ≡ a + b
zero_sums a b = omega arith

section_sizes : (end s last : State) (name : Option ℕ) (p : Program) → s.offset ≤ 1048576 → Sizes (ready s name Section) last p → Sizes s last (before_others end s name Section p)
section_sizes end s last name p h z =
    let a = z.pending in
    let b = z.total in
    let c = z.count in
    let d = z.words in
    let e = named_offset name (standing_at s Section) in
    let f = named_total name (standing_at s Section) in
    let g = named_section name (standing_at s Section) in
    let l : length p.pending ≤ 1048576 = omega (arith, a) in
    record {
      pending = omega (arith, h);
      lengths = (l, z.lengths);
      total = omega (arith, b, e, f);
      count = omega (arith, c, g);
      words = omega (arith, d);
    }

words_size : (end s : State) (o : Operation) → 4 * length (words_of end s o) ≤ size o
words_size end s Section = omega arith
words_size end s (Bytes b) = omega arith
words_size end s (Word n) = omega arith
words_size end s (Address m n) = omega arith
words_size end s (External m) = omega arith
words_size end s (Space n) = omega arith
words_size end s AlignWord = omega arith
words_size end s AlignDouble = omega arith
words_size end s (Using m r) = omega arith
words_size end s (End m) = omega arith
words_size end s (Instruction g) = omega arith

placed_size : (end s : State) (name : Option ℕ) (o : Operation) → begins o ≡ false → size o ≤ length (placed_bytes end s o)
placed_size end s name o b =
    let l = length-placed end s name o b in
    let r = ready_offset s name o in
    let k = offset_raised s o b in
    omega (arith, l, r, k)

plain_sizes : (end s last : State) (name : Option ℕ) (o : Operation) (p : Program) → begins o ≡ false → Sizes (ready s name o) last p → Sizes s last (plain_program end s o p)
plain_sizes end s last name o p b z =
    let l = length-placed end s name o b in
    let q = length-append (placed_bytes end s o) p.pending in
    let w = length-append (words_of end s o) p.constants in
    let t = ready_total s name o b in
    let n = ready_section s name o b in
    let v = words_size end s o in
    let u = placed_size end s name o b in
    let a = z.pending in
    let c = z.total in
    let d = z.count in
    let e = z.words in
    record {
      pending = omega (arith, l, q, a);
      lengths = z.lengths;
      total = omega (arith, l, q, t, c);
      count = omega (arith, n, d);
      words = omega (arith, w, v, u, q, e);
    }

pub sizes : (names : List Defined) (end s : State) (xs : List Source) → AllClean names (standings s xs) → AllRead xs → s.offset ≤ 1048576 → Sizes s (last s xs) (program_of end (standings s xs))
sizes names end s xs c r =
    by_lines names (HasSizes end)
    (λ t h. record { pending = omega (arith, h); lengths = tt; total = zero_sums t.total t.offset; count = omega arith; words = omega arith })
    (λ t number name ys k l ih h. section_sizes end t (last (ready t name Section) ys) name (program_of end (standings (ready t name Section) ys)) h (ih (small (ready t name Section) k.fits).offset))
    (λ t number name o ys b k l ih h.
    subst (Sizes t (last (ready t name o) ys)) (sym (plain_is end t name o (program_of end (standings (ready t name o) ys)) b))
    (plain_sizes end t (last (ready t name o) ys) name o (program_of end (standings (ready t name o) ys)) b (ih (small (ready t name o) k.fits).offset))) s xs c r
