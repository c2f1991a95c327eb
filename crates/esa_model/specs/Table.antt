-- The opcode table: its rows, and the fields of an instruction.
-- Source: Principles of Operation, chapters on program execution (instruction formats), general, decimal and
-- control instructions, and the lists of instructions in the appendix. The number of a row is its place in the
-- list here, a choice of this project.
use Rattle.std.specs.Prelude.{ℕ, ◌+◌, ◌*◌, ◌/◌, ◌%◌, nat_lt, ◌==◌, if◌then◌else◌, List, [], ◌∷◌, Bool, true, false, Option, Some, None, codes, slice_get, slice_index, slice_index_or, find, position, map}
use Rattle.esa_model.specs.declared.instructions.Form.{Form}
use Rattle.esa_model.specs.declared.instructions.Form.TheVariants.{Rr, Rx, Rs, Si, S, Ri, Rsi, Rre, Ss1, Ss2}
use Rattle.esa_model.specs.declared.instructions.Row.{Row}
use Rattle.esa_model.specs.declared.kinds.Kind.{Kind}
use Rattle.esa_model.specs.declared.kinds.Kind.TheVariants.{Words, Branches, Stores, Bytes, Decimals, Controls}
use Rattle.esa_model.specs.declared.kinds.WordKind.TheVariants.{Registers, Pairs, Storage, PairStorage, Halfwords, Immediates, Shifts, PairShifts, Address}
use Rattle.esa_model.specs.declared.kinds.BranchKind.TheVariants.{ByRegister, ByIndex, ByBase, ByDistance, Call, Execute}
use Rattle.esa_model.specs.declared.kinds.StoreKind.TheVariants.{Character, Halfword, Word, StoreMultiple, LoadMultiple, InsertCharacter, InsertUnderMask, CompareUnderMask, StoreUnderMask, TestUnderMask, MoveImmediate, CombineImmediate, CompareImmediate, TestAndSet, CompareAndSwap, CompareDoubleAndSwap}
use Rattle.esa_model.specs.declared.kinds.ByteKind.TheVariants.{Move, Combine, Compare, Translate, TranslateAndTest, MoveInverse, MoveLong, CompareLong}
use Rattle.esa_model.specs.declared.kinds.DecimalKind.TheVariants.{Fields, Products, Replaced, Compared, Shifted, Edited, EditedAndMarked, ToBinary, ToDecimal}
use Rattle.esa_model.specs.declared.kinds.ControlKind.TheVariants.{Fetching, Storing, Masks, Keys, Diagnose, Signal, Clock, SetsClock, StoresClock}
use Rattle.esa_model.specs.declared.instructions.Decoded.{Decoded}

-- a row, and how it is carried out
pub record TableRow : Type 0 where
  pub row : Row
  pub kind : Kind

abbrev pub entry : ℕ → Form → List ℕ → Bool → Kind → TableRow
entry opcode form name privileged kind = record {
  row = record { opcode = opcode; form = form; name = name; privileged = privileged };
  kind = kind;
}

-- all rows, ascending by the number of the opcode
abbrev pub table : List TableRow
table =
    entry 0x04 Rr (codes "SPM   ") false (Branches ByRegister) ∷
    entry 0x05 Rr (codes "BALR  ") false (Branches ByRegister) ∷
    entry 0x06 Rr (codes "BCTR  ") false (Branches ByRegister) ∷
    entry 0x07 Rr (codes "BCR   ") false (Branches ByRegister) ∷
    entry 0x0A Rr (codes "SVC   ") false (Branches Call) ∷
    entry 0x0B Rr (codes "BSM   ") false (Branches ByRegister) ∷
    entry 0x0C Rr (codes "BASSM ") false (Branches ByRegister) ∷
    entry 0x0D Rr (codes "BASR  ") false (Branches ByRegister) ∷
    entry 0x0E Rr (codes "MVCL  ") false (Bytes MoveLong) ∷
    entry 0x0F Rr (codes "CLCL  ") false (Bytes CompareLong) ∷
    entry 0x10 Rr (codes "LPR   ") false (Words Registers) ∷
    entry 0x11 Rr (codes "LNR   ") false (Words Registers) ∷
    entry 0x12 Rr (codes "LTR   ") false (Words Registers) ∷
    entry 0x13 Rr (codes "LCR   ") false (Words Registers) ∷
    entry 0x14 Rr (codes "NR    ") false (Words Registers) ∷
    entry 0x15 Rr (codes "CLR   ") false (Words Registers) ∷
    entry 0x16 Rr (codes "OR    ") false (Words Registers) ∷
    entry 0x17 Rr (codes "XR    ") false (Words Registers) ∷
    entry 0x18 Rr (codes "LR    ") false (Words Registers) ∷
    entry 0x19 Rr (codes "CR    ") false (Words Registers) ∷
    entry 0x1A Rr (codes "AR    ") false (Words Registers) ∷
    entry 0x1B Rr (codes "SR    ") false (Words Registers) ∷
    entry 0x1C Rr (codes "MR    ") false (Words Pairs) ∷
    entry 0x1D Rr (codes "DR    ") false (Words Pairs) ∷
    entry 0x1E Rr (codes "ALR   ") false (Words Registers) ∷
    entry 0x1F Rr (codes "SLR   ") false (Words Registers) ∷
    entry 0x40 Rx (codes "STH   ") false (Stores Halfword) ∷
    entry 0x41 Rx (codes "LA    ") false (Words Address) ∷
    entry 0x42 Rx (codes "STC   ") false (Stores Character) ∷
    entry 0x43 Rx (codes "IC    ") false (Stores InsertCharacter) ∷
    entry 0x44 Rx (codes "EX    ") false (Branches Execute) ∷
    entry 0x45 Rx (codes "BAL   ") false (Branches ByIndex) ∷
    entry 0x46 Rx (codes "BCT   ") false (Branches ByIndex) ∷
    entry 0x47 Rx (codes "BC    ") false (Branches ByIndex) ∷
    entry 0x48 Rx (codes "LH    ") false (Words Halfwords) ∷
    entry 0x49 Rx (codes "CH    ") false (Words Halfwords) ∷
    entry 0x4A Rx (codes "AH    ") false (Words Halfwords) ∷
    entry 0x4B Rx (codes "SH    ") false (Words Halfwords) ∷
    entry 0x4C Rx (codes "MH    ") false (Words Halfwords) ∷
    entry 0x4D Rx (codes "BAS   ") false (Branches ByIndex) ∷
    entry 0x4E Rx (codes "CVD   ") false (Decimals ToDecimal) ∷
    entry 0x4F Rx (codes "CVB   ") false (Decimals ToBinary) ∷
    entry 0x50 Rx (codes "ST    ") false (Stores Word) ∷
    entry 0x54 Rx (codes "N     ") false (Words Storage) ∷
    entry 0x55 Rx (codes "CL    ") false (Words Storage) ∷
    entry 0x56 Rx (codes "O     ") false (Words Storage) ∷
    entry 0x57 Rx (codes "X     ") false (Words Storage) ∷
    entry 0x58 Rx (codes "L     ") false (Words Storage) ∷
    entry 0x59 Rx (codes "C     ") false (Words Storage) ∷
    entry 0x5A Rx (codes "A     ") false (Words Storage) ∷
    entry 0x5B Rx (codes "S     ") false (Words Storage) ∷
    entry 0x5C Rx (codes "M     ") false (Words PairStorage) ∷
    entry 0x5D Rx (codes "D     ") false (Words PairStorage) ∷
    entry 0x5E Rx (codes "AL    ") false (Words Storage) ∷
    entry 0x5F Rx (codes "SL    ") false (Words Storage) ∷
    entry 0x71 Rx (codes "MS    ") false (Words Storage) ∷
    entry 0x80 S (codes "SSM   ") true (Controls Fetching) ∷
    entry 0x82 S (codes "LPSW  ") true (Controls Fetching) ∷
    entry 0x83 Rs (codes "DIAG  ") true (Controls Diagnose) ∷
    entry 0x84 Rsi (codes "BRXH  ") false (Branches ByDistance) ∷
    entry 0x85 Rsi (codes "BRXLE ") false (Branches ByDistance) ∷
    entry 0x86 Rs (codes "BXH   ") false (Branches ByBase) ∷
    entry 0x87 Rs (codes "BXLE  ") false (Branches ByBase) ∷
    entry 0x88 Rs (codes "SRL   ") false (Words Shifts) ∷
    entry 0x89 Rs (codes "SLL   ") false (Words Shifts) ∷
    entry 0x8A Rs (codes "SRA   ") false (Words Shifts) ∷
    entry 0x8B Rs (codes "SLA   ") false (Words Shifts) ∷
    entry 0x8C Rs (codes "SRDL  ") false (Words PairShifts) ∷
    entry 0x8D Rs (codes "SLDL  ") false (Words PairShifts) ∷
    entry 0x8E Rs (codes "SRDA  ") false (Words PairShifts) ∷
    entry 0x8F Rs (codes "SLDA  ") false (Words PairShifts) ∷
    entry 0x90 Rs (codes "STM   ") false (Stores StoreMultiple) ∷
    entry 0x91 Si (codes "TM    ") false (Stores TestUnderMask) ∷
    entry 0x92 Si (codes "MVI   ") false (Stores MoveImmediate) ∷
    entry 0x93 S (codes "TS    ") false (Stores TestAndSet) ∷
    entry 0x94 Si (codes "NI    ") false (Stores CombineImmediate) ∷
    entry 0x95 Si (codes "CLI   ") false (Stores CompareImmediate) ∷
    entry 0x96 Si (codes "OI    ") false (Stores CombineImmediate) ∷
    entry 0x97 Si (codes "XI    ") false (Stores CombineImmediate) ∷
    entry 0x98 Rs (codes "LM    ") false (Stores LoadMultiple) ∷
    entry 0xAC Si (codes "STNSM ") true (Controls Masks) ∷
    entry 0xAD Si (codes "STOSM ") true (Controls Masks) ∷
    entry 0xAE Rs (codes "SIGP  ") true (Controls Signal) ∷
    entry 0xB6 Rs (codes "STCTL ") true (Controls Storing) ∷
    entry 0xB7 Rs (codes "LCTL  ") true (Controls Fetching) ∷
    entry 0xBA Rs (codes "CS    ") false (Stores CompareAndSwap) ∷
    entry 0xBB Rs (codes "CDS   ") false (Stores CompareDoubleAndSwap) ∷
    entry 0xBD Rs (codes "CLM   ") false (Stores CompareUnderMask) ∷
    entry 0xBE Rs (codes "STCM  ") false (Stores StoreUnderMask) ∷
    entry 0xBF Rs (codes "ICM   ") false (Stores InsertUnderMask) ∷
    entry 0xD1 Ss1 (codes "MVN   ") false (Bytes Combine) ∷
    entry 0xD2 Ss1 (codes "MVC   ") false (Bytes Move) ∷
    entry 0xD3 Ss1 (codes "MVZ   ") false (Bytes Combine) ∷
    entry 0xD4 Ss1 (codes "NC    ") false (Bytes Combine) ∷
    entry 0xD5 Ss1 (codes "CLC   ") false (Bytes Compare) ∷
    entry 0xD6 Ss1 (codes "OC    ") false (Bytes Combine) ∷
    entry 0xD7 Ss1 (codes "XC    ") false (Bytes Combine) ∷
    entry 0xDC Ss1 (codes "TR    ") false (Bytes Translate) ∷
    entry 0xDD Ss1 (codes "TRT   ") false (Bytes TranslateAndTest) ∷
    entry 0xDE Ss1 (codes "ED    ") false (Decimals Edited) ∷
    entry 0xDF Ss1 (codes "EDMK  ") false (Decimals EditedAndMarked) ∷
    entry 0xE8 Ss1 (codes "MVCIN ") false (Bytes MoveInverse) ∷
    entry 0xF0 Ss2 (codes "SRP   ") false (Decimals Shifted) ∷
    entry 0xF1 Ss2 (codes "MVO   ") false (Decimals Fields) ∷
    entry 0xF2 Ss2 (codes "PACK  ") false (Decimals Replaced) ∷
    entry 0xF3 Ss2 (codes "UNPK  ") false (Decimals Replaced) ∷
    entry 0xF8 Ss2 (codes "ZAP   ") false (Decimals Replaced) ∷
    entry 0xF9 Ss2 (codes "CP    ") false (Decimals Compared) ∷
    entry 0xFA Ss2 (codes "AP    ") false (Decimals Fields) ∷
    entry 0xFB Ss2 (codes "SP    ") false (Decimals Fields) ∷
    entry 0xFC Ss2 (codes "MP    ") false (Decimals Products) ∷
    entry 0xFD Ss2 (codes "DP    ") false (Decimals Products) ∷
    entry 0xA70 Ri (codes "TMH   ") false (Words Immediates) ∷
    entry 0xA71 Ri (codes "TML   ") false (Words Immediates) ∷
    entry 0xA74 Ri (codes "BRC   ") false (Branches ByDistance) ∷
    entry 0xA75 Ri (codes "BRAS  ") false (Branches ByDistance) ∷
    entry 0xA76 Ri (codes "BRCT  ") false (Branches ByDistance) ∷
    entry 0xA78 Ri (codes "LHI   ") false (Words Immediates) ∷
    entry 0xA7A Ri (codes "AHI   ") false (Words Immediates) ∷
    entry 0xA7C Ri (codes "MHI   ") false (Words Immediates) ∷
    entry 0xA7E Ri (codes "CHI   ") false (Words Immediates) ∷
    entry 0xB205 S (codes "STCK  ") false (Controls Clock) ∷
    entry 0xB206 S (codes "SCKC  ") true (Controls SetsClock) ∷
    entry 0xB207 S (codes "STCKC ") true (Controls StoresClock) ∷
    entry 0xB208 S (codes "SPT   ") true (Controls SetsClock) ∷
    entry 0xB209 S (codes "STPT  ") true (Controls StoresClock) ∷
    entry 0xB210 S (codes "SPX   ") true (Controls Fetching) ∷
    entry 0xB211 S (codes "STPX  ") true (Controls Storing) ∷
    entry 0xB212 S (codes "STAP  ") true (Controls Storing) ∷
    entry 0xB222 Rre (codes "IPM   ") false (Branches ByRegister) ∷
    entry 0xB229 Rre (codes "ISKE  ") true (Controls Keys) ∷
    entry 0xB22A Rre (codes "RRBE  ") true (Controls Keys) ∷
    entry 0xB22B Rre (codes "SSKE  ") true (Controls Keys) ∷
    entry 0xB252 Rre (codes "MSR   ") false (Words Registers) ∷
    []

abbrev pub rows : List Row
rows = map (λ (r : TableRow). r.row) table

abbrev pub kinds : List Kind
kinds = map (λ (r : TableRow). r.kind) table

-- the row of an opcode
unfoldable pub row_of : ℕ → Option Row
row_of opcode = find (λ r. r.opcode == opcode) rows

-- the row of a number, from 0
unfoldable pub row_at : ℕ → Option Row
row_at number = slice_get rows number

-- the same, and past the end a row with opcode 0, which no row of the table has
unfoldable pub row_numbered : ℕ → Row
row_numbered number = slice_index_or rows number (record { opcode = 0; form = Rr; name = codes "      "; privileged = false })

-- the kind of a row of a number, from 0
unfoldable pub kind_at : ℕ → Option Kind
kind_at number = slice_get kinds number

-- the same, and past the end that of no operation
unfoldable pub kind_numbered : ℕ → Kind
kind_numbered number = slice_index_or kinds number (Branches Execute)

-- the number of the row of an opcode
unfoldable pub number_of : ℕ → Option ℕ
number_of opcode = position (λ r. r.opcode == opcode) rows

-- how many bytes an instruction has, by its first byte: the first two bits are 00, 01 or 10, 11
abbrev pub length_of : ℕ → ℕ
length_of byte = if nat_lt byte 64 then 2 else if nat_lt byte 192 then 4 else 6

-- the number of an opcode: after X'B2' both bytes are the opcode, after X'A7' the right half of the second
-- byte belongs to it, else it is the first byte alone
abbrev pub opcode_of : List ℕ → ℕ
opcode_of bytes =
    let first = slice_index bytes 0 in
    let second = slice_index bytes 1 in
    if first == 0xB2 then first * 256 + second else if first == 0xA7 then first * 16 + second % 16 else first

-- the left and the right half of byte k
abbrev pub left : List ℕ → ℕ → ℕ
left bytes k = slice_index bytes k / 16

abbrev pub right : List ℕ → ℕ → ℕ
right bytes k = slice_index bytes k % 16

-- a displacement: the right half of byte k and the byte after it
abbrev pub low12 : List ℕ → ℕ → ℕ
low12 bytes k = right bytes k * 256 + slice_index bytes (k + 1)

-- an immediate halfword: bytes 2 and 3
abbrev pub halfword : List ℕ → ℕ
halfword bytes = slice_index bytes 2 * 256 + slice_index bytes 3

abbrev pub fields : ℕ → ℕ → ℕ → ℕ → ℕ → ℕ → ℕ → ℕ → ℕ → Decoded
fields row r1 r2 b1 d1 b2 d2 imm len = record { row = row; r1 = r1; r2 = r2; b1 = b1; d1 = d1; b2 = b2; d2 = d2; imm = imm; len = len }

-- the fields of an instruction's bytes, by the form of its row and the row's number: R3, M3 and X2 are in r2,
-- M1 in r1, I2 in imm, the length code of SS1 in len, those of SS2 (or the second is I3) in r1 and r2
abbrev pub fields_of : Form → ℕ → List ℕ → Decoded
fields_of Rr row b = fields row (left b 1) (right b 1) 0 0 0 0 0 0
fields_of Rx row b = fields row (left b 1) (right b 1) 0 0 (left b 2) (low12 b 2) 0 0
fields_of Rs row b = fields row (left b 1) (right b 1) 0 0 (left b 2) (low12 b 2) 0 0
fields_of Si row b = fields row 0 0 (left b 2) (low12 b 2) 0 0 (slice_index b 1) 0
fields_of S row b = fields row 0 0 0 0 (left b 2) (low12 b 2) 0 0
fields_of Ri row b = fields row (left b 1) 0 0 0 0 0 (halfword b) 0
fields_of Rsi row b = fields row (left b 1) (right b 1) 0 0 0 0 (halfword b) 0
fields_of Rre row b = fields row (left b 3) (right b 3) 0 0 0 0 0 0
fields_of Ss1 row b = fields row 0 0 (left b 2) (low12 b 2) (left b 4) (low12 b 4) 0 (slice_index b 1)
fields_of Ss2 row b = fields row (left b 1) (right b 1) (left b 2) (low12 b 2) (left b 4) (low12 b 4) 0 0

abbrev pub fields_at : List ℕ → Option ℕ → Option Decoded
fields_at bytes None = None
fields_at bytes (Some number) = Some (fields_of (row_numbered number).form number bytes)

-- an instruction: the number of the row whose opcode the bytes have, and its fields; none where no row has it
unfoldable pub decoded : List ℕ → Option Decoded
decoded bytes = fields_at bytes (number_of (opcode_of bytes))
