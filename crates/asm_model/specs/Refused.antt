-- The first refusal of a source, and the fields of an instruction with its name in place.
-- Source: choice of this project. The refusals are tested one after another, each over the whole source; the
-- number is that of the first line that a refusal finds.
use Rattle.std.specs.Prelude.{ℕ, ◌≡◌, ◌+◌, ◌-◌, ◌/◌, ◌%◌, ◌==◌, ◌&&◌, ◌||◌, Bool, true, false, not, nat_lt, if◌then◌else◌, List, [], ◌∷◌, length, Option, Some, None, ⊤}
use Rattle.std.specs.List.{find, list_any}
use Rattle.asm_model.specs.declared.operands.Goes.{Goes}
use Rattle.asm_model.specs.declared.operands.Goes.TheVariants.{First, Second, Half}
use Rattle.asm_model.specs.declared.operands.Reference.{Reference}
use Rattle.asm_model.specs.declared.operands.Given.{Given}
use Rattle.asm_model.specs.declared.statements.Operation.{Operation}
use Rattle.asm_model.specs.declared.statements.Operation.TheVariants.{Section, Bytes, Word, Address, External, Space, AlignWord, AlignDouble, Using, End, Instruction}
use Rattle.asm_model.specs.declared.statements.Line.{Line}
use Rattle.asm_model.specs.declared.statements.Line.TheVariants.{Broken, Unknown, Said}
use Rattle.asm_model.specs.declared.statements.Source.{Source}
use Rattle.asm_model.specs.declared.program.Defined.{Defined}
use Rattle.asm_model.specs.declared.program.Base.{Base}
use Rattle.asm_model.specs.declared.refusal.AsmRefusal.{AsmRefusal}
use Rattle.asm_model.specs.declared.refusal.AsmRefusal.TheVariants as refusal
use Rattle.asm_model.specs.Line.{sources}
use Rattle.asm_model.specs.Slots.{half_of, minus_half}
use Rattle.asm_model.specs.Places.{State, Standing, start, standings, standing_at, after, last}

-- ---- names

abbrev pub has_name : ℕ → Defined → Bool
has_name m d = d.name == m

abbrev pub nowhere : Defined
nowhere = record { name = 0; section = 0; offset = 0 }

abbrev pub or_nowhere : Option Defined → Defined
or_nowhere None = nowhere
or_nowhere (Some d) = d

-- where a name lies; nowhere, in section 0, where no line defines it
unfoldable pub place_of : List Defined → ℕ → Defined
place_of names m = or_nowhere (find (has_name m) names)

-- ---- fields with the name in place; 65,536 is above every range

-- the distance from a base
abbrev pub over : ℕ → ℕ → ℕ
over to from = if nat_lt to from then 65536 else to - from

-- the distance in halfwords, with sign
abbrev pub halfwords : ℕ → ℕ → ℕ
halfwords to from =
    if nat_lt to from
    then (if (from - to) % 2 == 0 then minus_half ((from - to) / 2) else 65536)
    else (if (to - from) % 2 == 0 then half_of ((to - from) / 2) else 65536)

-- a base register and a displacement, put where f says
abbrev pub by_base : (ℕ → ℕ → Given) → List Defined → ℕ → Option Base → Given → Given
by_base f names to None g = g
by_base f names to (Some b) g = f b.register (over to (place_of names b.name).offset)

-- of an instruction that stands at s, whose name is at p and gives the offset `to`
abbrev pub by_goes : Goes → List Defined → State → Defined → ℕ → Given → Given
by_goes First names s p to g = by_base (λ b d. record g { b1 = b; d1 = d }) names to s.base g
by_goes Second names s p to g = by_base (λ b d. record g { b2 = b; d2 = d }) names to s.base g
by_goes Half names s p to g =
    record g { imm = if p.section == s.section then halfwords to s.offset else 65536 }

abbrev pub by_reference : List Defined → State → Option Reference → Given → Given
by_reference names s None g = g
by_reference names s (Some r) g =
    let p = place_of names r.name in
    by_goes r.goes names s p (p.offset + r.plus) g

unfoldable pub resolved : List Defined → State → Given → Given
resolved names s g = by_reference names s g.to g

unfoldable pub in_range : Given → Bool
in_range g =
    nat_lt g.r1 16
    && (nat_lt g.r2 16
    && (nat_lt g.b1 16
    && (nat_lt g.d1 4096
    && (nat_lt g.b2 16 && (nat_lt g.d2 4096 && (nat_lt g.imm 65536 && nat_lt g.len 256))))))

-- ---- what each refusal finds

abbrev pub said_by : (State → Operation → Bool) → State → Line → Bool
said_by f s Broken = false
said_by f s Unknown = false
said_by f s (Said t) = f s t.operation

abbrev pub is_broken : Line → Bool
is_broken Broken = true
is_broken Unknown = false
is_broken (Said t) = false

-- the line is not of a form, or follows END
abbrev pub is_bad : Standing → Bool
is_bad s = s.before.ended || is_broken s.line

abbrev pub is_unknown_line : Line → Bool
is_unknown_line Broken = false
is_unknown_line Unknown = true
is_unknown_line (Said t) = false

abbrev pub is_unknown : Standing → Bool
is_unknown s = is_unknown_line s.line

abbrev pub is_outside : State → Operation → Bool
is_outside s Section = false
is_outside s (End m) = false
is_outside s (Bytes b) = s.section == 0
is_outside s (Word n) = s.section == 0
is_outside s (Address m n) = s.section == 0
is_outside s (External m) = s.section == 0
is_outside s (Space n) = s.section == 0
is_outside s AlignWord = s.section == 0
is_outside s AlignDouble = s.section == 0
is_outside s (Using m r) = s.section == 0
is_outside s (Instruction g) = s.section == 0

-- a statement other than CSECT and END stands before the first CSECT
abbrev pub has_no_section : Standing → Bool
has_no_section s = said_by is_outside s.before s.line

abbrev pub is_too_big : State → Bool
is_too_big t =
    nat_lt 1048576 t.offset
    || (nat_lt 16777216 (t.total + t.offset) || nat_lt 65535 (t.section + length t.externals))

-- with this line a section, all sections together, or the sections and external names are too many
abbrev pub passes : Standing → Bool
passes s = is_too_big (after s.before s.line)

abbrev pub is_doubled_name : Option ℕ → List Defined → Bool
is_doubled_name None names = false
is_doubled_name (Some m) names = list_any (has_name m) names

abbrev pub doubled_line : Line → State → Bool
doubled_line Broken s = false
doubled_line Unknown s = false
doubled_line (Said t) s = is_doubled_name t.name s.names

-- an earlier line has the name
abbrev pub is_doubled : Standing → Bool
is_doubled s = doubled_line s.line s.before

abbrev pub reference_name : Option Reference → Option ℕ
reference_name None = None
reference_name (Some r) = Some r.name

-- the name that a statement needs; an external one is needed by no line
abbrev pub wanted : Operation → Option ℕ
wanted Section = None
wanted (Bytes b) = None
wanted (Word n) = None
wanted (Address m n) = Some m
wanted (External m) = None
wanted (Space n) = None
wanted AlignWord = None
wanted AlignDouble = None
wanted (Using m r) = Some m
wanted (End m) = m
wanted (Instruction g) = reference_name g.to

abbrev pub is_missing : List Defined → Option ℕ → Bool
is_missing names None = false
is_missing names (Some m) = not (list_any (has_name m) names)

-- a name outside V is defined by no line
abbrev pub is_undefined : List Defined → Standing → Bool
is_undefined names s = said_by (λ t o. is_missing names (wanted o)) s.before s.line

abbrev pub is_baseless : List Defined → ℕ → Option Base → Bool
is_baseless names m None = true
is_baseless names m (Some b) =
    not ((place_of names b.name).section == (place_of names m).section)

abbrev pub lacks_for : Goes → List Defined → ℕ → Option Base → Bool
lacks_for First names m b = is_baseless names m b
lacks_for Second names m b = is_baseless names m b
lacks_for Half names m b = false

abbrev pub lacks_by : List Defined → State → Option Reference → Bool
lacks_by names s None = false
lacks_by names s (Some r) = lacks_for r.goes names r.name s.base

abbrev pub reference_of : Operation → Option Reference
reference_of Section = None
reference_of (Bytes b) = None
reference_of (Word n) = None
reference_of (Address m n) = None
reference_of (External m) = None
reference_of (Space n) = None
reference_of AlignWord = None
reference_of AlignDouble = None
reference_of (Using m r) = None
reference_of (End m) = None
reference_of (Instruction g) = g.to

-- an address is a name, and no USING came before or the name of USING lies in another section
abbrev pub has_no_base : List Defined → Standing → Bool
has_no_base names s = said_by (λ t o. lacks_by names t (reference_of o)) s.before s.line

abbrev pub is_out_by : List Defined → State → Operation → Bool
is_out_by names s (Instruction g) =
    not (in_range (resolved names (standing_at s (Instruction g)) g))
is_out_by names s (Using m r) = not (nat_lt r 16)
is_out_by names s Section = false
is_out_by names s (Bytes b) = false
is_out_by names s (Word n) = false
is_out_by names s (Address m n) = false
is_out_by names s (External m) = false
is_out_by names s (Space n) = false
is_out_by names s AlignWord = false
is_out_by names s AlignDouble = false
is_out_by names s (End m) = false

-- a field or a distance is outside its range, or a name that is a distance is odd or in another section
abbrev pub is_out : List Defined → Standing → Bool
is_out names s = said_by (is_out_by names) s.before s.line

-- ---- the first refusal

abbrev pub refused : (ℕ → AsmRefusal) → Option Standing → Option AsmRefusal → Option AsmRefusal
refused r None more = more
refused r (Some s) more = Some (r s.number)

abbrev pub unended : Bool → Option AsmRefusal → Option AsmRefusal
unended true more = more
unended false more = Some refusal.NoEndStatement

-- where the lines are of a form, known, in sections and ended
abbrev pub later_refusal : List Defined → List Standing → Option AsmRefusal
later_refusal names ss =
    refused refusal.TooBig (find passes ss)
    (refused refusal.Doubled (find is_doubled ss)
    (refused refusal.Undefined (find (is_undefined names) ss)
    (refused refusal.NoBase (find (has_no_base names) ss)
    (refused refusal.OutOfRange (find (is_out names) ss) None))))

unfoldable pub refusal_of : List Source → Option AsmRefusal
refusal_of xs =
    let ss = standings start xs in
    let end = last start xs in
    refused refusal.BadLine (find is_bad ss)
    (refused refusal.UnknownOp (find is_unknown ss)
    (refused refusal.NoSection (find has_no_section ss)
    (unended end.ended (later_refusal end.names ss))))

-- a call may refuse a source by this; want of memory may come at any time
abbrev pub MayRefuse : List ℕ → AsmRefusal → Type 0
MayRefuse text (refusal.BadLine n) = refusal_of (sources text) ≡ Some (refusal.BadLine n)
MayRefuse text (refusal.UnknownOp n) = refusal_of (sources text) ≡ Some (refusal.UnknownOp n)
MayRefuse text (refusal.NoSection n) = refusal_of (sources text) ≡ Some (refusal.NoSection n)
MayRefuse text refusal.NoEndStatement =
    refusal_of (sources text) ≡ Some refusal.NoEndStatement
MayRefuse text (refusal.TooBig n) = refusal_of (sources text) ≡ Some (refusal.TooBig n)
MayRefuse text (refusal.Doubled n) = refusal_of (sources text) ≡ Some (refusal.Doubled n)
MayRefuse text (refusal.Undefined n) = refusal_of (sources text) ≡ Some (refusal.Undefined n)
MayRefuse text (refusal.NoBase n) = refusal_of (sources text) ≡ Some (refusal.NoBase n)
MayRefuse text (refusal.OutOfRange n) =
    refusal_of (sources text) ≡ Some (refusal.OutOfRange n)
MayRefuse text refusal.NoMemory = ⊤
