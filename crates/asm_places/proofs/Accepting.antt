-- What an accepted source of a text gives its program.
use Rattle.std.proofs.Common.{◌≡◌, ℕ, ◌+◌, ◌≤◌, Bool, true, false, not, List, [], ◌∷◌, length, Option, None, refl, sym, subst, arith}
use Rattle.std.proofs.lemmas.Bool.Decides.{nat_tests}
use Rattle.esa_table.specs.Encoding.{IsInstruction}
use Rattle.asm_model.specs.declared.operands.Given.{Given}
use Rattle.asm_model.specs.declared.statements.Operation.{Operation}
use Rattle.asm_model.specs.declared.statements.Operation.TheVariants.{Section, Bytes, Word, Address, External, Space, AlignWord, AlignDouble, Using, End, Instruction}
use Rattle.asm_model.specs.declared.statements.Line.{Line}
use Rattle.asm_model.specs.declared.statements.Line.TheVariants.{Broken, Unknown, Said}
use Rattle.asm_model.specs.declared.statements.Source.{Source}
use Rattle.asm_model.specs.declared.program.Defined.{Defined}
use Rattle.asm_model.specs.Places.{State, start, standing_at, after, standings, last}
use Rattle.asm_model.specs.Refused.{resolved, in_range, is_out_by, said_by, refusal_of}
use Rattle.asm_model.specs.Program.{fields_given}
use Rattle.asm_laws.proofs.Clean.{AllClean, clean}
use Rattle.asm_laws.proofs.Instructions.{is_instruction}
use Rattle.asm_laws.proofs.ReadLines.{OperationRead, LineRead, AllRead, sources_read}
use Rattle.asm_laws.proofs.Sizes.{IsSmall, last_small}
use Rattle.asm_places.specs.declared.spots.Spot.{Spot}
use Rattle.asm_places.specs.Fitting.{FieldsFit, LineFits, AllFit, AreOfText}
use Rattle.asm_places.specs.Spots.{spot_of, at, IsLow}
use Rattle.asm_places.proofs.OutSteps.{resolved_same}
use Rattle.asm_places.proofs.Walks.{after_spot, low_of}

not_false : (b : Bool) → not b ≡ false → b ≡ true
not_false true h = refl
not_false false h = absurd (grind (arith, nat_tests))

abbrev Fits : List Defined → State → Operation → Type 0
Fits names s o = FieldsFit names (standing_at (at (spot_of s)) o) o

operation_fits : (names : List Defined) (s : State) (m : Option ℕ) (o : Operation) → is_out_by names s o ≡ false → OperationRead m o → Fits names s o
operation_fits names s m Section c h = tt
operation_fits names s m (Bytes b) c h = tt
operation_fits names s m (Word n) c h = tt
operation_fits names s m (Address k n) c h = tt
operation_fits names s m (External k) c h = tt
operation_fits names s m (Space n) c h = tt
operation_fits names s m AlignWord c h = tt
operation_fits names s m AlignDouble c h = tt
operation_fits names s m (Using k r) c h = tt
operation_fits names s m (End k) c h = tt
operation_fits names s m (Instruction g) c h =
    let t : State = standing_at s (Instruction g) in
    let i : IsInstruction (fields_given (resolved names t g)) = is_instruction names t g h.0 h.1 (not_false (in_range (resolved names t g)) c) in
    subst (λ (k : Given). IsInstruction (fields_given k)) (resolved_same names t (standing_at (at (spot_of s)) (Instruction g)) g refl) i

line_fits : (names : List Defined) (s : State) (l : Line) → said_by (is_out_by names) s l ≡ false → LineRead l → LineFits names (at (spot_of s)) l
line_fits names s Broken c r = tt
line_fits names s Unknown c r = tt
line_fits names s (Said t) c r = operation_fits names s t.name t.operation c r.1

lines_fit : (names : List Defined) (s : State) (xs : List Source) → AllClean names (standings s xs) → AllRead xs → AllFit names (spot_of s) xs
lines_fit names s [] c r = tt
lines_fit names s (x ∷ xs) c r = (
  line_fits names s x.line c.0.ranged r.0,
  (
    subst IsLow (after_spot s x.line) (low_of (after s x.line) c.0.fits),
    subst (λ (p : Spot). AllFit names p xs) (after_spot s x.line) (lines_fit names (after s x.line) xs c.1 r.1),
  ),
)

read : (xs : List Source) → AreOfText xs → AllRead xs
read xs t = subst AllRead (sym t.same) (sources_read t.text)

pub all_fit : (xs : List Source) (end : State) → AreOfText xs → refusal_of xs ≡ None → end ≡ last start xs → AllFit end.names (spot_of start) xs
all_fit xs end t h e = subst (λ (s : State). AllFit s.names (spot_of start) xs) (sym e) (lines_fit (last start xs).names start xs (clean xs h) (read xs t))

small_start : IsSmall start
small_start = record { offset = omega arith; total = omega arith; count = omega arith }

pub few : (xs : List Source) (end : State) → AreOfText xs → refusal_of xs ≡ None → end ≡ last start xs → end.section + length end.externals ≤ 65535
few xs end t h e = subst (λ (s : State). s.section + length s.externals ≤ 65535) (sym e) (last_small (last start xs).names start xs (clean xs h) (read xs t) small_start).count
