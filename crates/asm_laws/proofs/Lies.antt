-- Where the bytes of the statements lie in the sections of the whole source.
use Rattle.std.proofs.Common.{◌≡◌, ℕ, zero, suc, ◌+◌, ◌-◌, ◌*◌, ◌<◌, ◌≤◌, Bool, true, false, List, [], ◌∷◌, ◌++◌, length, get_or, replicate, Option, Some, None, refl, sym, ◌∙◌, ap, subst, arith, length-append, append_assoc}
use Rattle.std.proofs.lemmas.List.{length-replicate}
use Rattle.asm_model.specs.declared.statements.Operation.{Operation}
use Rattle.asm_model.specs.declared.statements.Operation.TheVariants.{Section}
use Rattle.asm_model.specs.declared.program.Defined.{Defined}
use Rattle.asm_model.specs.Section.{SectionBytes}
use Rattle.asm_model.specs.Places.{State, start, standing_at, size}
use Rattle.asm_model.specs.Program.{Program, operation_bytes, placed_bytes, before_others}
use Rattle.asm_deck.specs.LoadedSections.{no_section, section_bytes}
use Rattle.asm_laws.proofs.Steps.{begins, ready, plain_program, named_section, named_offset, ready_section, ready_offset, offset_raised, length-operation, length-placed}

-- the sections of the whole source, at a state, before the program of the lines that follow
pub record Lies (ss : List SectionBytes) (s : State) (p : Program) : Type 0 where
  pub here : 1 ≤ s.section → (pre : List ℕ) × ((section_bytes ss (s.section - 1) ≡ pre ++ p.pending) × (length pre ≡ s.offset))
  pub later : (j : ℕ) → get_or ss (s.section + j) no_section ≡ get_or p.sections j no_section
  pub count : length ss ≡ s.section + length p.sections

zero_more : (j : ℕ) → 0 + j ≡ j
zero_more j = omega arith

zero_length : (n : ℕ) → n ≡ 0 + n
zero_length n = omega arith

pub lies_first : (p : Program) → Lies p.sections start p
lies_first p = record {
  here = λ l. absurd (omega (arith, l));
  later = λ j. ap (λ n. get_or p.sections n no_section) (zero_more j);
  count = zero_length (length p.sections);
}

pub lies_section : (ss : List SectionBytes) (end s : State) (name : Option ℕ) (p : Program) → Lies ss s (before_others end s name Section p) → Lies ss (ready s name Section) p
lies_section ss end s name p h =
    let g : (ready s name Section).section ≡ s.section + 1 = named_section name (standing_at s Section) in
    let z : (ready s name Section).offset ≡ 0 = ap (λ n. n + 0) (named_offset name (standing_at s Section)) in
    let c = h.count in
    let first : (ready s name Section).section - 1 ≡ s.section + 0 = omega (arith, g) in
    record {
      here = λ l. ([], (ap (section_bytes ss) first ∙ ap (λ (x : SectionBytes). x.bytes) (h.later 0), sym z));
      later = λ j. let e : (ready s name Section).section + j ≡ s.section + suc j = omega (arith, g) in ap (λ n. get_or ss n no_section) e ∙ h.later (suc j);
      count = omega (arith, g, c);
    }

pub lies_plain : (ss : List SectionBytes) (end s : State) (name : Option ℕ) (o : Operation) (p : Program) → begins o ≡ false → Lies ss s (plain_program end s o p) → Lies ss (ready s name o) p
lies_plain ss end s name o p b h =
    let g : (ready s name o).section ≡ s.section = ready_section s name o b in
    let m = length-placed end s name o b in
    record {
      here = λ l.
          let x = h.here (subst (λ n. 1 ≤ n) g l) in
          let a = length-append x.0 (placed_bytes end s o) in
          let y = x.1.1 in (
            x.0 ++ placed_bytes end s o,
            (
              ap (λ n. section_bytes ss (n - 1)) g ∙ (x.1.0 ∙ sym (append_assoc x.0 (placed_bytes end s o) p.pending)),
              omega (arith, a, y, m),
            ),
          );
      later = λ j. ap (λ n. get_or ss (n + j) no_section) g ∙ h.later j;
      count = ap (λ n. n) h.count ∙ ap (λ n. n + length p.sections) (sym g);
    }

-- ---- one statement

-- the bytes of a statement in its section
pub record At (ss : List SectionBytes) (names : List Defined) (s : State) (o : Operation) : Type 0 where
  pub front : List ℕ
  pub back : List ℕ
  pub bytes : section_bytes ss (s.section - 1) ≡ front ++ (operation_bytes names (standing_at s o) o ++ back)
  pub offset : length front ≡ (standing_at s o).offset

pub statement_at : (ss : List SectionBytes) (end s : State) (o : Operation) (p : Program) → begins o ≡ false → 1 ≤ s.section → Lies ss s (plain_program end s o p) → At ss end.names s o
statement_at ss end s o p b l h =
    let x = h.here l in
    let u = standing_at s o in
    let zs = replicate (u.offset - s.offset) 0 in
    let ob = operation_bytes end.names u o in
    let k : length zs ≡ u.offset - s.offset = length-replicate (u.offset - s.offset) 0 in
    let a = length-append x.0 zs in
    let r = offset_raised s o b in
    let y = x.1.1 in
    record {
      front = x.0 ++ zs;
      back = p.pending;
      bytes = x.1.0 ∙ (ap (λ xs. x.0 ++ xs) (append_assoc zs ob p.pending) ∙ sym (append_assoc x.0 zs (ob ++ p.pending)));
      offset = omega (arith, a, k, y, r);
    }

pub ends_inside : (ss : List SectionBytes) (names : List Defined) (s : State) (o : Operation) → At ss names s o → (standing_at s o).offset + size o ≤ length (section_bytes ss (s.section - 1))
ends_inside ss names s o h =
    let ob = operation_bytes names (standing_at s o) o in
    let a = length-append h.front (ob ++ h.back) in
    let b = length-append ob h.back in
    let c = length-operation names (standing_at s o) o in
    let d = ap length h.bytes in
    let e = h.offset in
    omega (arith, a, b, c, d, e)
