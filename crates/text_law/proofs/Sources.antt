-- The text of an instruction between a CSECT and END, read and assembled.
use Rattle.std.proofs.Common.{◌≡◌, ℕ, Bool, true, false, List, [], ◌∷◌, ◌++◌, Some, None, refl, sym, ◌∙◌, ap, arith, append_assoc}
use Rattle.std.specs.Prelude.{codes}
use Rattle.std.specs.List.{slice_split}
use Rattle.run_model.specs.Script.{lines, is_line_feed, without_last_empty}
use Rattle.esa_model.specs.declared.instructions.Decoded.{Decoded}
use Rattle.esa_model.specs.Table.{row_numbered}
use Rattle.esa_table.specs.Encoding.{IsInstruction, instruction_bytes}
use Rattle.asm_text.specs.declared.operands.Operands.{Operands}
use Rattle.asm_text.specs.Operands.{operands_of}
use Rattle.asm_text.specs.Text.{mnemonic_of, operands_text, text_of}
use Rattle.asm_model.specs.declared.statements.Line.{Line}
use Rattle.asm_model.specs.declared.statements.Source.{Source}
use Rattle.asm_model.specs.Words.{name_of}
use Rattle.asm_model.specs.Pieces.{operands}
use Rattle.asm_model.specs.Slots.{slots, given, nothing_given, instruction}
use Rattle.asm_model.specs.Line.{line_of, is_passed, source_step, sources_from, sources}
use Rattle.asm_model.specs.Refused.{refusal_of}
use Rattle.asm_model.specs.Program.{assembly}
use Rattle.text_law.specs.Between.{between, ignored, only_section}
use Rattle.text_law.proofs.Marks.{AllIn, free_below, split_front}
use Rattle.text_law.proofs.Operands.{flats, texts_flat, operands_in, operands_long, operands_some, operands_read}
use Rattle.text_law.proofs.Fields.{given_of, fields_back, operands_small}
use Rattle.text_law.proofs.Names.{row_mnemonic}
use Rattle.text_law.proofs.Lines.{statement_in, statement_read, section_line, section_in, section_read, section_kept, IsLabel, label_is, end_line, end_read, end_kept, not_passed}
use Rattle.text_law.proofs.Assembled.{section_said, instruction_said, end_said, three, accepted, assembled}

-- ---- the line of an instruction

abbrev mnemonic : Decoded → List ℕ
mnemonic d = mnemonic_of (row_numbered d.row).name

abbrev printed : Decoded → Operands
printed d = operands_of (row_numbered d.row).form (row_numbered d.row).opcode d

text_is : (d : Decoded) → text_of d ≡ mnemonic d ++ 32 ∷ flats (printed d)
unfolding text_of
text_is d =
    append_assoc (mnemonic d) (32 ∷ []) (operands_text (printed d))
    ∙ ap (λ t. mnemonic d ++ 32 ∷ t) (texts_flat (printed d))

-- what the line of an instruction holds
record IsStatement (d : Decoded) : Type 0 where
  bytes : AllIn 11 127 (32 ∷ text_of d)
  read : line_of (32 ∷ text_of d) ≡ instruction_said (given_of d)
  kept : is_passed (32 ∷ text_of d) ≡ false

fields_read :
    (d : Decoded) → IsInstruction d → ignored d ≡ 0
    → instruction d.row (operands (flats (printed d))) ≡ Some (given_of d)
unfolding instruction
fields_read d h i =
    let f = (row_numbered d.row).form in
    let o = (row_numbered d.row).opcode in
    ap (λ os. given (slots f o) os (nothing_given d.row))
    (operands_read (printed d) (operands_small f o d h.range))
    ∙ fields_back f o d i h.range h.form

is_statement : (d : Decoded) → IsInstruction d → ignored d ≡ 0 → IsStatement d
is_statement d h i =
    let small = operands_small (row_numbered d.row).form (row_numbered d.row).opcode d h.range in
    let m = row_mnemonic d.row h.row in
    let t = flats (printed d) in
    let within_bounds = operands_in (printed d) small in
    let read = statement_read (mnemonic d) t d.row (given_of d) m within_bounds
    (operands_some (printed d) small) (operands_long (printed d) small) (fields_read d h i) in
    record {
      bytes = rw (text_is d) (statement_in (mnemonic d) t m.capitals within_bounds);
      read = ap (λ x. line_of (32 ∷ x)) (text_is d) ∙ read;
      kept = not_passed (32 ∷ text_of d) (omega arith) refl;
    }

-- ---- the three lines

parted :
    (name t : List ℕ)
    → ((name ++ codes " CSECT\n ") ++ t) ++ codes "\n END\n"
    ≡ section_line name ++ 10 ∷ ((32 ∷ t) ++ 10 ∷ (end_line ++ 10 ∷ []))
parted name t =
    append_assoc (name ++ codes " CSECT\n ") t (codes "\n END\n")
    ∙ (append_assoc name (codes " CSECT\n ") (t ++ codes "\n END\n")
    ∙ sym (append_assoc name (codes " CSECT") (10 ∷ ((32 ∷ t) ++ 10 ∷ (end_line ++ 10 ∷ [])))))

lines_are :
    (name : List ℕ) (d : Decoded) → IsLabel name → IsStatement d
    → lines (between name d) ≡ section_line name ∷ (32 ∷ text_of d) ∷ end_line ∷ []
unfolding lines between
lines_are name d l s =
    let first = section_line name in
    let second = 32 ∷ text_of d in
    let rest : List ℕ = end_line ++ 10 ∷ [] in
    let f1 = free_below 10 11 127 first (omega arith) (section_in name l.bytes) in
    let f2 = free_below 10 11 127 second (omega arith) s.bytes in
    ap (λ x. without_last_empty (slice_split is_line_feed x)) (parted name (text_of d))
    ∙ (ap without_last_empty (split_front is_line_feed first 10 (second ++ 10 ∷ rest) f1 refl)
    ∙ ap (λ xs. without_last_empty (first ∷ xs)) (split_front is_line_feed second 10 rest f2 refl))

abbrev entry : ℕ → Line → Source
entry n line = record { number = n; line = line }

kept_step :
    (b : Bool) (n : ℕ) (w : List ℕ) (line : Line) (more : List Source) → b ≡ false
    → line_of w ≡ line → source_step b n w more ≡ entry n line ∷ more
kept_step true n w line more h e = absurd (cc)
kept_step false n w line more h e = ap (λ x. entry n x ∷ more) e

abbrev from_three : List ℕ → Decoded → List Source
from_three name d = sources_from 1 (section_line name ∷ (32 ∷ text_of d) ∷ end_line ∷ [])

three_read :
    (name : List ℕ) (m : ℕ) (d : Decoded) → name_of name ≡ Some m → IsStatement d
    → from_three name d ≡ three m (given_of d)
three_read name m d h s =
    let first = section_line name in
    let second = 32 ∷ text_of d in
    let g = given_of d in
    let tail : List Source = sources_from 3 (end_line ∷ []) in
    let more : List Source = sources_from 2 (second ∷ end_line ∷ []) in
    let kept = section_kept name (label_is name m h) in
    let read = section_read name m h in
    let after : List Source → List Source = λ xs. entry 1 (section_said m) ∷ xs in
    let later : List Source → List Source = λ xs. entry 2 (instruction_said g) ∷ xs in
    kept_step (is_passed first) 1 first (section_said m) more kept read
    ∙ (ap after (kept_step (is_passed second) 2 second (instruction_said g) tail s.kept s.read)
    ∙ ap (λ xs. after (later xs))
    (kept_step (is_passed end_line) 3 end_line end_said [] end_kept end_read))

sources_are :
    (name : List ℕ) (m : ℕ) (d : Decoded) → name_of name ≡ Some m → IsInstruction d
    → ignored d ≡ 0 → sources (between name d) ≡ three m (given_of d)
unfolding sources
sources_are name m d n h i =
    let s = is_statement d h i in
    ap (sources_from 1) (lines_are name d (label_is name m n) s) ∙ three_read name m d n s

-- ---- the law

pub text_assembles :
    (name : List ℕ) (m : ℕ) (d : Decoded) → name_of name ≡ Some m → IsInstruction d
    → ignored d ≡ 0
    → (refusal_of (sources (between name d)) ≡ None)
    × (assembly (sources (between name d)) ≡ only_section m (instruction_bytes d))
text_assembles name m d n h i =
    let are = sources_are name m d n h i in
    (ap refusal_of are ∙ accepted m d h.range, ap assembly are ∙ assembled m d)
