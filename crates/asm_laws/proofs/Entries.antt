-- The entry of END lies in a section, at an offset that its card can hold.
use Rattle.std.proofs.Common.{◌≡◌, ℕ, zero, suc, ◌+◌, ◌-◌, ◌*◌, ◌<◌, ◌≤◌, Bool, true, false, cond, eqb, not, ◌||◌, List, [], ◌∷◌, ◌++◌, length, Option, Some, None, refl, sym, ◌∙◌, ap, subst, arith}
use Rattle.std.proofs.lemmas.Bool.Decides.{nat_tests}
use Rattle.std.specs.List.{find, list_any}
use Rattle.asm_model.specs.declared.statements.Operation.{Operation}
use Rattle.asm_model.specs.declared.statements.Operation.TheVariants.{Section, Bytes, Word, Address, External, Space, AlignWord, AlignDouble, Using, End, Instruction}
use Rattle.asm_model.specs.declared.statements.Source.{Source}
use Rattle.asm_model.specs.declared.program.Defined.{Defined}
use Rattle.asm_model.specs.Places.{State, Standing, standings, standing_at, start, last, done, with_name, past, size}
use Rattle.asm_model.specs.Refused.{has_name, nowhere, or_nowhere, place_of}
use Rattle.asm_model.specs.Program.{entry_named, entry_operation, entry_line, entry_in}
use Rattle.asm_deck.specs.Writable.{EntryColumnsFit}
use Rattle.asm_laws.proofs.Clean.{IsClean, AllClean}
use Rattle.asm_laws.proofs.ReadLines.{AllRead}
use Rattle.asm_laws.proofs.Steps.{begins, statement, ready, by_lines, named_section, named_offset, Keeps, done_keeps, ready_section, ready_offset}
use Rattle.asm_laws.proofs.Sizes.{IsSmall, small}

-- names with small offsets and sections
abbrev IsNear : Defined → Type 0
IsNear d = (d.section < 65536) × (d.offset ≤ 1048576)

abbrev AreNear : List Defined → Type 0
AreNear [] = Unit {0}
AreNear (d ∷ ds) = IsNear d × AreNear ds

near_push : (ds : List Defined) (d : Defined) → AreNear ds → IsNear d → AreNear (ds ++ d ∷ [])
near_push [] d h k = (k, tt)
near_push (x ∷ xs) d h k = (h.0, near_push xs d h.1 k)

named_near : (name : Option ℕ) (t : State) → AreNear t.names → t.section < 65536 → t.offset ≤ 1048576 → AreNear (with_name name t).names
named_near None t h a b = h
named_near (Some m) t h a b = near_push t.names (record { name = m; section = t.section; offset = t.offset }) h (a, b)

abbrev NearAfter : State → List Source → Type 0
NearAfter s xs = AreNear s.names → AreNear (last s xs).names

ready_near : (s : State) (name : Option ℕ) (o : Operation) → (done s o).names ≡ s.names → IsSmall (ready s name o) → AreNear s.names → AreNear (ready s name o).names
ready_near s name o e k h =
    let a = k.count in
    let b = k.offset in
    let c = named_section name (standing_at s o) in
    let d = ready_offset s name o in
    named_near name (standing_at s o) (subst AreNear (sym e) h) (omega (arith, a, c)) (omega (arith, b, d))

all_near : (names : List Defined) (xs : List Source) → AllClean names (standings start xs) → AllRead xs → AreNear (last start xs).names
all_near names xs c r =
    by_lines names NearAfter (λ t h. h)
    (λ t number name ys k l ih h. ih (ready_near t name Section refl (small (ready t name Section) k.fits) h))
    (λ t number name o ys b k l ih h. ih (ready_near t name o (done_keeps t o b).names (small (ready t name o) k.fits) h)) start xs c r tt

one_near : (b : Bool) (m : ℕ) (d : Defined) (ds : List Defined) → IsNear d → IsNear (or_nowhere (find (has_name m) ds)) → IsNear (or_nowhere (cond b (Some d) (find (has_name m) ds)))
one_near true m d ds h k = h
one_near false m d ds h k = k

found_near : (m : ℕ) (ds : List Defined) → AreNear ds → IsNear (or_nowhere (find (has_name m) ds))
found_near m [] h = (omega arith, omega arith)
found_near m (d ∷ ds) h = one_near (has_name m d) m d ds h.0 (found_near m ds h.1)

place_near : (m : ℕ) (ds : List Defined) → AreNear ds → IsNear (place_of ds m)
unfolding place_of
place_near m ds h = found_near m ds h

named_columns : (end : State) (m : Option ℕ) → AreNear end.names → EntryColumnsFit (entry_named end m)
named_columns end None h = tt
named_columns end (Some m) h = place_near m end.names h

abbrev HasEntry : State → State → List Source → Type 0
HasEntry end s xs = EntryColumnsFit (entry_in end (standings s xs))

operation_columns : (end : State) (o : Operation) (more : Option Defined) → AreNear end.names → EntryColumnsFit more → EntryColumnsFit (entry_operation end o more)
operation_columns end Section more h k = k
operation_columns end (Bytes b) more h k = k
operation_columns end (Word n) more h k = k
operation_columns end (Address m n) more h k = k
operation_columns end (External m) more h k = k
operation_columns end (Space n) more h k = k
operation_columns end AlignWord more h k = k
operation_columns end AlignDouble more h k = k
operation_columns end (Using m r) more h k = k
operation_columns end (End m) more h k = named_columns end m h
operation_columns end (Instruction g) more h k = k

pub entry_columns : (xs : List Source) (end : State) → AllClean end.names (standings start xs) → AllRead xs → last start xs ≡ end → IsSmall end → EntryColumnsFit (entry_in end (standings start xs))
entry_columns xs end c r e k =
    let near = subst (λ (t : State). AreNear t.names) e (all_near end.names xs c r) in
    by_lines end.names (HasEntry end) (λ t. tt)
    (λ t number name ys k l ih. ih)
    (λ t number name o ys b k l ih. operation_columns end o (entry_in end (standings (ready t name o) ys)) near ih) start xs c r
