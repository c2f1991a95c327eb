-- What is known of a line that was read: names are eight bytes that are not blank, a section has a name,
-- and an instruction has a row of the table and the fields of its form.
use Rattle.std.proofs.Common.{◌≡◌, ◌≢◌, ℕ, zero, suc, ◌+◌, ◌-◌, ◌*◌, ◌/◌, ◌%◌, ◌<◌, ◌≤◌, Bool, true, false, cond, leb, ltb, eqb, ◌&&◌, ◌||◌, List, [], ◌∷◌, length, get_or, Option, Some, None, refl, sym, ◌∙◌, ap, subst, arith, is_some}
use Rattle.std.proofs.lemmas.Bool.Decides.{nat_tests}
use Rattle.std.proofs.lemmas.List.Quantifiers.{position-Some}
use Rattle.byteorder.specs.Endian.{big_number}
use Rattle.std.specs.List.{filter, list_all}
use Rattle.esa_model.specs.Table.{rows, row_numbered}
use Rattle.run_model.specs.Script.{fields, lines}
use Rattle.asm_model.specs.declared.operands.Operand.{Operand}
use Rattle.asm_model.specs.declared.operands.Operand.TheVariants.{Plain, Negative, Based, Indexed, Named, Bad}
use Rattle.asm_model.specs.declared.operands.Given.{Given}
use Rattle.asm_model.specs.declared.statements.Mnemonic.{Mnemonic}
use Rattle.asm_model.specs.declared.statements.Mnemonic.TheVariants as mnemonic
use Rattle.asm_model.specs.declared.statements.Operation.{Operation}
use Rattle.asm_model.specs.declared.statements.Operation.TheVariants.{Section, Bytes, Word, Address, External, Space, AlignWord, AlignDouble, Using, End, Instruction}
use Rattle.asm_model.specs.declared.statements.Line.{Line}
use Rattle.asm_model.specs.declared.statements.Line.TheVariants.{Broken, Unknown, Said}
use Rattle.asm_model.specs.declared.statements.Source.{Source}
use Rattle.asm_model.specs.Words.{within, name_of, number_of, quoted, is_quoted, is_enclosed, is_hex_byte}
use Rattle.asm_model.specs.Pieces.{operands, pieces, signed, simple_operand}
use Rattle.asm_model.specs.Slots.{instruction}
use Rattle.asm_model.specs.Statement.{six, row_named, machine, mnemonic_numbered, mnemonic_of, hex_bytes, pairs, word_by, address_by, external_by, constant, space_of, is_pair, space, using_of, using_by, end_by, section_by, instruction_by, operation}
use Rattle.asm_model.specs.Line.{Head, is_word, head_by, said, by_mnemonic, by_name, by_head, is_plain, line_of, is_passed, source_step, sources_from, sources}
use Rattle.asm_deck.specs.Accepted.{NameFits}
use Rattle.asm_laws.proofs.ReadNames.{name_fits}
use Rattle.asm_laws.proofs.ReadFields.{HasFields, given_fields}

-- ---- lines

abbrev pub NameRead : Option ℕ → Type 0
NameRead None = Unit {0}
NameRead (Some m) = NameFits m

abbrev pub HasName : Option ℕ → Type 0
HasName None = ⊥
HasName (Some m) = Unit {0}

abbrev pub OperationRead : Option ℕ → Operation → Type 0
OperationRead name Section = HasName name
OperationRead name (External m) = NameFits m
OperationRead name (Instruction g) = (g.row < 134) × HasFields (row_numbered g.row).form g
OperationRead name (Bytes b) = Unit {0}
OperationRead name (Word n) = Unit {0}
OperationRead name (Address m n) = Unit {0}
OperationRead name (Space n) = Unit {0}
OperationRead name AlignWord = Unit {0}
OperationRead name AlignDouble = Unit {0}
OperationRead name (Using m r) = Unit {0}
OperationRead name (End m) = Unit {0}

abbrev pub LineRead : Line → Type 0
LineRead Broken = Unit {0}
LineRead Unknown = Unit {0}
LineRead (Said t) = NameRead t.name × OperationRead t.name t.operation

abbrev pub AllRead : List Source → Type 0
AllRead [] = Unit {0}
AllRead (x ∷ xs) = LineRead x.line × AllRead xs

abbrev OptionRead : Option ℕ → Option Operation → Type 0
OptionRead name None = Unit {0}
OptionRead name (Some o) = OperationRead name o

-- ---- names and rows

name_read : (w : List ℕ) (o : Option ℕ) → name_of w ≡ o → NameRead o
name_read w None e = tt
name_read w (Some m) e = name_fits w m e

abbrev MnemonicRead : Option Mnemonic → Type 0
MnemonicRead None = Unit {0}
MnemonicRead (Some mnemonic.Csect) = Unit {0}
MnemonicRead (Some mnemonic.Dc) = Unit {0}
MnemonicRead (Some mnemonic.Ds) = Unit {0}
MnemonicRead (Some mnemonic.Using) = Unit {0}
MnemonicRead (Some mnemonic.End) = Unit {0}
MnemonicRead (Some (mnemonic.Machine row)) = row < 134

table_length : length rows ≡ 134
table_length = refl

machine_read : (name : ℕ) (o : Option ℕ) → row_named name ≡ o → MnemonicRead (machine o)
unfolding row_named
machine_read name None e = tt
machine_read name (Some row) e =
    let i = (position-Some (λ r. eqb (big_number 6 r.name) name) rows row (row_numbered 0) e).0 in
    let l = table_length in
    omega (arith, i, l)

either : (b : Bool) (m : Mnemonic) (o : Option Mnemonic) → MnemonicRead (Some m) → MnemonicRead o → MnemonicRead (cond b (Some m) o)
either true m o h k = h
either false m o h k = k

numbered_read : (n : ℕ) → MnemonicRead (mnemonic_numbered n)
numbered_read n =
    let five : Option Mnemonic = cond (eqb n 0x454E44202020) (Some mnemonic.End) (machine (row_named n)) in
    let four : Option Mnemonic = cond (eqb n 0x5553494E4720) (Some mnemonic.Using) five in
    let three : Option Mnemonic = cond (eqb n 0x445320202020) (Some mnemonic.Ds) four in
    either (eqb n 0x435345435420) mnemonic.Csect (cond (eqb n 0x444320202020) (Some mnemonic.Dc) three) tt
    (either (eqb n 0x444320202020) mnemonic.Dc three tt
    (either (eqb n 0x445320202020) mnemonic.Ds four tt
    (either (eqb n 0x5553494E4720) mnemonic.Using five tt
    (either (eqb n 0x454E44202020) mnemonic.End (machine (row_named n)) tt (machine_read n (row_named n) refl)))))

some_mnemonic : (b : Bool) (o : Option Mnemonic) → MnemonicRead o → MnemonicRead (cond b o None)
some_mnemonic true o h = h
some_mnemonic false o h = tt

mnemonic_read : (w : List ℕ) → MnemonicRead (mnemonic_of w)
unfolding mnemonic_of
mnemonic_read w = some_mnemonic (within 1 6 (length w)) (mnemonic_numbered (six w)) (numbered_read (six w))

-- ---- operations

one_read : (b : Bool) (name : Option ℕ) (o p : Option Operation) → OptionRead name o → OptionRead name p → OptionRead name (cond b o p)
one_read true name o p h k = h
one_read false name o p h k = k

word_read : (name : Option ℕ) (o : Operand) → OptionRead name (word_by o)
word_read name (Plain n) = one_read (ltb n 2147483648) name (Some (Word n)) None tt tt
word_read name (Negative n) = one_read (leb n 2147483648) name (Some (Word ((4294967296 - n) % 4294967296))) None tt tt
word_read name (Based d b) = tt
word_read name (Indexed d x b) = tt
word_read name (Named m n) = tt
word_read name Bad = tt

address_read : (name : Option ℕ) (o : Operand) → OptionRead name (address_by o)
address_read name (Plain n) = tt
address_read name (Negative n) = tt
address_read name (Based d b) = tt
address_read name (Indexed d x b) = tt
address_read name (Named m n) = tt
address_read name Bad = tt

external_read : (name o : Option ℕ) → NameRead o → OptionRead name (external_by o)
external_read name None h = tt
external_read name (Some m) h = h

hex_read : (name : Option ℕ) (h : List ℕ) → OptionRead name (hex_bytes h)
hex_read name h = one_read (list_all is_hex_byte h && (within 2 112 (length h) && eqb (length h % 2) 0)) name (Some (Bytes (record { items = pairs h }))) None tt tt

constant_read : (name : Option ℕ) (w : List ℕ) → OptionRead name (constant w)
unfolding constant
constant_read name w =
    let h = quoted w in
    let v = is_enclosed 86 40 41 w in
    let a = is_enclosed 65 40 41 w in
    let third : Option Operation = cond v (external_by (name_of h)) None in
    let second : Option Operation = cond a (address_by (simple_operand h)) third in
    one_read (is_quoted 88 w) name (hex_bytes h) (cond (is_quoted 70 w) (word_by (signed h)) second) (hex_read name h)
    (one_read (is_quoted 70 w) name (word_by (signed h)) second (word_read name (signed h))
    (one_read a name (address_by (simple_operand h)) third (address_read name (simple_operand h))
    (one_read v name (external_by (name_of h)) None (external_read name (name_of h) (name_read h (name_of h) refl)) tt)))

space_option : (name o : Option ℕ) → OptionRead name (space_of o)
space_option name None = tt
space_option name (Some n) = one_read (within 1 65535 n) name (Some (Space n)) None tt tt

space_read : (name : Option ℕ) (w : List ℕ) → OptionRead name (space w)
unfolding space
space_read name w =
    one_read (is_pair 48 70 w) name (Some AlignWord) (cond (is_pair 48 68 w) (Some AlignDouble) (space_of (number_of w))) tt
    (one_read (is_pair 48 68 w) name (Some AlignDouble) (space_of (number_of w)) tt (space_option name (number_of w)))

using_option : (name m r : Option ℕ) → OptionRead name (using_of m r)
using_option name None r = tt
using_option name (Some m) None = tt
using_option name (Some m) (Some r) = tt

using_read : (name : Option ℕ) (ws : List (List ℕ)) → OptionRead name (using_by ws)
using_read name [] = tt
using_read name (m ∷ []) = tt
using_read name (m ∷ r ∷ []) = using_option name (name_of m) (number_of r)
using_read name (m ∷ r ∷ x ∷ more) = tt

end_read : (name o : Option ℕ) → OptionRead name (end_by o)
end_read name None = tt
end_read name (Some m) = tt

section_read : (name : Option ℕ) (text : List ℕ) → OptionRead name (section_by name text)
section_read None text = tt
section_read (Some m) text = one_read (eqb (length text) 0) (Some m) (Some Section) None tt tt

instruction_read : (name : Option ℕ) (row : ℕ) (os : List Operand) (o : Option Given) → row < 134 → instruction row os ≡ o → OptionRead name (instruction_by o)
instruction_read name row os None h e = tt
instruction_read name row os (Some g) h e =
    let f = given_fields row os g e in
    (let r = f.0 in omega (arith, r, h), subst (λ n. HasFields (row_numbered n).form g) (sym f.0) f.1)

operation_read : (m : Mnemonic) (name : Option ℕ) (text : List ℕ) → MnemonicRead (Some m) → OptionRead name (operation m name text)
unfolding operation
operation_read mnemonic.Csect name text h = section_read name text
operation_read mnemonic.Dc name text h = constant_read name text
operation_read mnemonic.Ds name text h = space_read name text
operation_read mnemonic.Using name text h = using_read name (pieces [] text)
operation_read mnemonic.End name text h = one_read (eqb (length text) 0) name (Some (End None)) (end_by (name_of text)) tt (end_read name (name_of text))
operation_read (mnemonic.Machine row) name text h = instruction_read name row (operands text) (instruction row (operands text)) h refl

-- ---- lines

said_read : (name : Option ℕ) (o : Option Operation) → NameRead name → OptionRead name o → LineRead (said name o)
said_read name None h k = tt
said_read name (Some o) h k = (h, k)

by_mnemonic_read : (m : Option Mnemonic) (name : Option ℕ) (text : List ℕ) → MnemonicRead m → NameRead name → LineRead (by_mnemonic m name text)
by_mnemonic_read None name text h k = tt
by_mnemonic_read (Some m) name text h k = said_read name (operation m name text) k (operation_read m name text h)

by_name_read : (o : Option ℕ) (h : Head) → NameRead o → LineRead (by_name o h)
by_name_read None h k = tt
by_name_read (Some m) h k = by_mnemonic_read (mnemonic_of h.operation) (Some m) h.operands (mnemonic_read h.operation) k

line_case : (b : Bool) (x y : Line) → LineRead x → LineRead y → LineRead (cond b x y)
line_case true x y h k = h
line_case false x y h k = k

by_head_read : (o : Option Head) → LineRead (by_head o)
by_head_read None = tt
by_head_read (Some h) =
    line_case (eqb (length h.label) 0) (by_mnemonic (mnemonic_of h.operation) None h.operands) (by_name (name_of h.label) h)
    (by_mnemonic_read (mnemonic_of h.operation) None h.operands (mnemonic_read h.operation) tt)
    (by_name_read (name_of h.label) h (name_read h.label (name_of h.label) refl))

line_read : (text : List ℕ) → LineRead (line_of text)
unfolding line_of
line_read text = line_case (is_plain text) (by_head (head_by (fields text))) Broken (by_head_read (head_by (fields text))) tt

step_read : (b : Bool) (n : ℕ) (text : List ℕ) (more : List Source) → AllRead more → AllRead (source_step b n text more)
step_read true n text more h = h
step_read false n text more h = (line_read text, h)

all_read : (n : ℕ) (ls : List (List ℕ)) → AllRead (sources_from n ls)
all_read n [] = tt
all_read n (l ∷ ls) = step_read (is_passed l) n l (sources_from (n + 1) ls) (all_read (n + 1) ls)

pub sources_read : (text : List ℕ) → AllRead (sources text)
unfolding sources
sources_read text = all_read 1 (lines text)
