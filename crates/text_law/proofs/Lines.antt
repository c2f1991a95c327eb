-- The lines of a section, of an instruction and of the end are read as such.
use Rattle.std.proofs.Common.{◌≡◌, ℕ, ◌<◌, ◌≤◌, Bool, true, false, cond, eqb, leb, ◌&&◌, List, [], ◌∷◌, ◌++◌, length, get_or, Some, None, refl, ◌∙◌, ap, arith, length-append}
use Rattle.std.specs.Prelude.{codes}
use Rattle.std.proofs.lemmas.Bool.Decides.{nat_tests}
use Rattle.std.specs.List.{list_all, filter}
use Rattle.byteorder.specs.Endian.{big_number}
use Rattle.run_model.specs.Script.{fields, is_blank}
use Rattle.asm_model.specs.declared.operands.Given.{Given}
use Rattle.asm_model.specs.declared.statements.Operation.TheVariants.{Section, End, Instruction}
use Rattle.asm_model.specs.declared.statements.Line.{Line}
use Rattle.asm_model.specs.declared.statements.Line.TheVariants.{Broken, Said}
use Rattle.asm_model.specs.Words.{within, is_capital, is_name, is_name_byte, name_bytes, name_of}
use Rattle.asm_model.specs.Pieces.{operands}
use Rattle.asm_model.specs.Slots.{instruction}
use Rattle.asm_model.specs.Statement.{mnemonic_of, operation, instruction_by}
use Rattle.asm_model.specs.Line.{Head, is_word, head_words, head_by, said, by_mnemonic, by_name, by_head, is_plain, line_of, is_passed}
use Rattle.text_law.proofs.Marks.{AllIn, in_append, in_wider, all_ascii, both_left, both_right, in_of_test, Free, free_below, split_front, split_none}
use Rattle.text_law.proofs.Names.{IsMnemonic}

-- ---- plain text

pub plain_text : (w : List ℕ) → length w ≤ 120 → AllIn 11 127 w → is_plain w ≡ true
unfolding is_plain
plain_text w l h =
    let e : leb (length w) 120 ≡ true = grind (arith, nat_tests) in
    rw (e, all_ascii 11 127 w (omega arith) h) refl

said_plain : (w : List ℕ) → is_plain w ≡ true → line_of w ≡ by_head (head_by (fields w))
unfolding line_of
said_plain w h = ap (λ b. cond b (by_head (head_by (fields w))) Broken) h

-- a line that begins with another byte than an asterisk
pub not_passed : (w : List ℕ) → 0 < length w → eqb (get_or w 0 0) 42 ≡ false → is_passed w ≡ false
unfolding is_passed
not_passed w l e =
    let some : eqb (length w) 0 ≡ false = grind (arith, nat_tests) in
    rw (some, e) refl

word_first :
    (w : List ℕ) (ws : List (List ℕ)) → 0 < length w
    → filter is_word (w ∷ ws) ≡ w ∷ filter is_word ws
word_first w ws h = let z : eqb (length w) 0 ≡ false = grind (arith, nat_tests) in rw z refl

-- ---- the line of an instruction

-- one blank, a mnemonic and operands
abbrev pub statement : List ℕ → List ℕ → List ℕ
statement m t = 32 ∷ (m ++ 32 ∷ t)

pub statement_in : (m t : List ℕ) → AllIn 65 90 m → AllIn 40 57 t → AllIn 11 127 (statement m t)
statement_in m t h k = (
  (omega arith, omega arith),
  in_append 11 127 m (32 ∷ t) (in_wider 65 90 11 127 m (omega arith) (omega arith) h)
      ((omega arith, omega arith), in_wider 40 57 11 127 t (omega arith) (omega arith) k),
)

statement_long : (m t : List ℕ) → length m ≤ 6 → length t ≤ 56 → length (statement m t) ≤ 120
statement_long m t h k = let e = length-append m (32 ∷ t) in omega (arith, e, h, k)

pub statement_read :
    (m t : List ℕ) (row : ℕ) (g : Given) → IsMnemonic row m → AllIn 40 57 t → 0 < length t
    → length t ≤ 56 → instruction row (operands t) ≡ Some g
    → line_of (statement m t) ≡ Said (record { name = None; operation = Instruction g })
unfolding fields operation
statement_read m t row g h k some few e =
    let bytes = statement_in m t h.capitals k in
    let plain = plain_text (statement m t) (statement_long m t h.few few) bytes in
    let fm : Free is_blank m = free_below 32 65 90 m (omega arith) h.capitals in
    let ft : Free is_blank t = free_below 32 40 57 t (omega arith) k in
    said_plain (statement m t) plain
    ∙ (ap (λ ws. by_head (head_by ([] ∷ ws)))
    (split_front is_blank m 32 t fm refl ∙ ap (λ ws. m ∷ ws) (split_none is_blank t ft))
    ∙ (ap (λ ws. by_head (head_words [] ws))
    (word_first m (t ∷ []) h.some ∙ ap (λ ws. m ∷ ws) (word_first t [] some))
    ∙ (ap (λ o. by_mnemonic o None t) h.read
    ∙ ap (λ o. said None (instruction_by o)) e)))

-- ---- the line of a section

pub record IsLabel (w : List ℕ) : Type 0 where
  pub bytes : AllIn 48 90 w
  pub some : 0 < length w
  pub few : length w ≤ 8
  pub letter : 65 ≤ get_or w 0 0

named : (b : Bool) (n m : ℕ) → cond b (Some n) None ≡ Some m → b ≡ true
named true n m h = refl
named false n m h = absurd (cc)

byte_bounds : (b : ℕ) → is_name_byte b ≡ true → (48 ≤ b) × (b ≤ 90)
byte_bounds b h = (grind (arith, nat_tests), grind (arith, nat_tests))

name_in : (w : List ℕ) → list_all is_name_byte w ≡ true → AllIn 48 90 w
name_in [] h = tt
name_in (b ∷ w) h = (
  byte_bounds b (both_left (is_name_byte b) (list_all is_name_byte w) h),
  name_in w (both_right (is_name_byte b) (list_all is_name_byte w) h),
)

capital_low : (b : ℕ) → is_capital b ≡ true → 65 ≤ b
capital_low b h = grind (arith, nat_tests)

count_some : (k : ℕ) → within 1 8 k ≡ true → 0 < k
count_some k h = grind (arith, nat_tests)

count_few : (k : ℕ) → within 1 8 k ≡ true → k ≤ 8
count_few k h = grind (arith, nat_tests)

label_by : (w : List ℕ) → is_name w ≡ true → IsLabel w
unfolding is_name
label_by w h =
    let count : Bool = within 1 8 (length w) in
    let letter : Bool = is_capital (get_or w 0 0) in
    let bytes : Bool = list_all is_name_byte w in
    let c = both_left count (letter && bytes) h in
    let more = both_right count (letter && bytes) h in
    record {
      bytes = name_in w (both_right letter bytes more);
      some = count_some (length w) c;
      few = count_few (length w) c;
      letter = capital_low (get_or w 0 0) (both_left letter bytes more);
    }

pub label_is : (w : List ℕ) (m : ℕ) → name_of w ≡ Some m → IsLabel w
unfolding name_of
label_is w m h = label_by w (named (is_name w) (big_number 8 (name_bytes w)) m h)

abbrev csect : List ℕ
csect = codes "CSECT"

-- a name, a blank and CSECT
abbrev pub section_line : List ℕ → List ℕ
section_line w = w ++ 32 ∷ csect

pub section_in : (w : List ℕ) → AllIn 48 90 w → AllIn 11 127 (section_line w)
section_in w h =
    in_append 11 127 w (32 ∷ csect) (in_wider 48 90 11 127 w (omega arith) (omega arith) h)
    (in_of_test 11 127 (32 ∷ csect) refl)

section_long : (w : List ℕ) → length w ≤ 8 → length (section_line w) ≤ 120
section_long w h = let e = length-append w (32 ∷ csect) in omega (arith, e, h)

pub section_read :
    (w : List ℕ) (m : ℕ) → name_of w ≡ Some m
    → line_of (section_line w) ≡ Said (record { name = Some m; operation = Section })
unfolding fields operation mnemonic_of
section_read w m h =
    let l = label_is w m h in
    let plain = plain_text (section_line w) (section_long w l.few) (section_in w l.bytes) in
    let fw : Free is_blank w = free_below 32 48 90 w (omega arith) l.bytes in
    let n = l.some in
    let z : eqb (length w) 0 ≡ false = grind (arith, nat_tests) in
    let x : Line = by_mnemonic (mnemonic_of csect) None [] in
    let head : Head = record { label = w; operation = csect; operands = [] } in
    said_plain (section_line w) plain
    ∙ (ap (λ ws. by_head (head_by ws)) (split_front is_blank w 32 csect fw refl)
    ∙ (ap (λ b. cond b x (by_name (name_of w) head)) z ∙ ap (λ o. by_name o head) h))

pub section_kept : (w : List ℕ) → IsLabel w → is_passed (section_line w) ≡ false
section_kept [] h = let n = h.some in absurd (omega arith)
section_kept (b ∷ w) h =
    let l = h.letter in
    let e : eqb b 42 ≡ false = grind (arith, nat_tests) in
    not_passed (section_line (b ∷ w)) (omega arith) e

-- ---- the line of the end

abbrev pub end_line : List ℕ
end_line = codes " END"

pub end_read : line_of end_line ≡ Said (record { name = None; operation = End None })
unfolding line_of is_plain fields mnemonic_of operation
end_read = refl

pub end_kept : is_passed end_line ≡ false
unfolding is_passed
end_kept = refl
