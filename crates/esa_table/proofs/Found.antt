-- What is found by an opcode: the row of the number, and fields in range.
use Rattle.std.proofs.Common.{◌≡◌, ℕ, ◌+◌, ◌<◌, ◌≤◌, Bool, true, false, cond, List, [], ◌∷◌, length, refl, arith, get_or, sym, ap, subst, ◌∙◌, add-one}
use Rattle.std.specs.Prelude.{◌==◌, ◌^◌, not, nat_lt, Option, Some, None, IfSome, IfNone, find, position, slice_get, slice_index}
use Rattle.std.specs.List.{position_or_len}
use Rattle.std.proofs.lemmas.Bool.Decides.{nat_tests}
use Rattle.std.proofs.lemmas.Option.{slice_get_past, slice_get-get_or}
use Rattle.esa_model.specs.declared.instructions.Form.{Form}
use Rattle.esa_model.specs.declared.instructions.Form.TheVariants.{Rr, Rx, Rs, Si, S, Ri, Rsi, Rre, Ss1, Ss2}
use Rattle.esa_model.specs.declared.instructions.Row.{Row}
use Rattle.esa_model.specs.declared.instructions.Decoded.{Decoded}
use Rattle.esa_model.specs.Table.{rows as table, row_of, row_at, row_numbered, number_of, decoded, fields_at, fields_of, opcode_of, left, right, low12, halfword}
use Rattle.esa_table.specs.Search.{blank}
use Rattle.esa_table.specs.Encoding.{IsInRange, IsInstruction, HasOnly}

-- ---- the first row that passes, and its number

find_step : (b : Bool) (x : Row) (xs : List Row) (n : ℕ) (rest : Option Row) → rest ≡ slice_get xs n
    → cond b (Some x) rest ≡ slice_get (x ∷ xs) (cond (not b) (1 + n) 0)
find_step true x xs n rest h = refl
find_step false x xs n rest h = let e : 1 + n ≡ n + 1 = omega arith in rw (e, add-one) h

find_is : (p : Row → Bool) (xs : List Row) → find p xs ≡ slice_get xs (position_or_len p xs)
find_is p [] = refl
find_is p (x ∷ xs) = find_step (p x) x xs (position_or_len p xs) (find p xs) (find_is p xs)

record Place (k len n : ℕ) : Type 0 where
  same : k ≡ n
  inside : k < len

some_place : (k len n : ℕ) (b : Bool) → nat_lt k len ≡ b → cond b (Some k) None ≡ Some n → Place k len n
some_place k len n true e h = record { same = cc; inside = grind (arith, nat_tests) }
some_place k len n false e h = cc

no_place : (k len : ℕ) (b : Bool) → nat_lt k len ≡ b → cond b (Some k) None ≡ None → len ≤ k
no_place k len true e h = cc
no_place k len false e h = grind (arith, nat_tests)

record Found (p : Row → Bool) (xs : List Row) (n : ℕ) : Type 0 where
  inside : n < length xs
  at : slice_get xs n ≡ Some (get_or xs n blank)
  first : find p xs ≡ Some (get_or xs n blank)

found : (p : Row → Bool) (xs : List Row) (n : ℕ) → position p xs ≡ Some n → Found p xs n
found p xs n h =
    let k = position_or_len p xs in
    let at : Place k (length xs) n = some_place k (length xs) n (nat_lt k (length xs)) refl h in
    let l : n < length xs = omega (arith, at.same, at.inside) in
    let there = slice_get-get_or xs n blank l in
    record { inside = l; at = there; first = find_is p xs ∙ (ap (slice_get xs) at.same ∙ there) }

absent : (p : Row → Bool) (xs : List Row) → position p xs ≡ None → find p xs ≡ None
absent p xs h =
    let k = position_or_len p xs in
    find_is p xs ∙ slice_get_past xs k (no_place k (length xs) (nat_lt k (length xs)) refl h)

-- ---- of the table

record IsRow (opcode n : ℕ) : Type 0 where
  inside : n < 134
  at : row_at n ≡ Some (row_numbered n)
  row : row_of opcode ≡ Some (row_numbered n)

numbered : (opcode n : ℕ) → number_of opcode ≡ Some n → IsRow opcode n
unfolding number_of row_of row_at row_numbered
numbered opcode n h =
    let at : Found (λ r. r.opcode == opcode) table n = found (λ r. r.opcode == opcode) table n h in
    record { inside = at.inside; at = at.at; row = at.first }

unnumbered : (opcode : ℕ) → number_of opcode ≡ None → row_of opcode ≡ None
unfolding number_of row_of
unnumbered opcode h = absent (λ r. r.opcode == opcode) table h

-- ---- of an instruction

row_of_fields : (f : Form) (n : ℕ) (bytes : List ℕ) → (fields_of f n bytes).row ≡ n
row_of_fields Rr n bytes = refl
row_of_fields Rx n bytes = refl
row_of_fields Rs n bytes = refl
row_of_fields Si n bytes = refl
row_of_fields S n bytes = refl
row_of_fields Ri n bytes = refl
row_of_fields Rsi n bytes = refl
row_of_fields Rre n bytes = refl
row_of_fields Ss1 n bytes = refl
row_of_fields Ss2 n bytes = refl

row_by : (bytes : List ℕ) (o : Option ℕ) → number_of (opcode_of bytes) ≡ o
    → IfSome (fields_at bytes o) (λ d. row_of (opcode_of bytes) ≡ Some (row_numbered d.row))
row_by bytes None h = tt
row_by bytes (Some n) h =
    let P : ℕ → Type 0 = λ q. row_of (opcode_of bytes) ≡ Some (row_numbered q) in
    subst P (sym (row_of_fields (row_numbered n).form n bytes)) (numbered (opcode_of bytes) n h).row

pub is_row : (bytes : List ℕ) → IfSome (decoded bytes) (λ d. row_of (opcode_of bytes) ≡ Some (row_numbered d.row))
unfolding decoded
is_row bytes = row_by bytes (number_of (opcode_of bytes)) refl

number_by : (bytes : List ℕ) (o : Option ℕ) → number_of (opcode_of bytes) ≡ o
    → IfSome (fields_at bytes o) (λ d. row_at d.row ≡ Some (row_numbered d.row))
number_by bytes None h = tt
number_by bytes (Some n) h =
    let P : ℕ → Type 0 = λ q. row_at q ≡ Some (row_numbered q) in
    subst P (sym (row_of_fields (row_numbered n).form n bytes)) (numbered (opcode_of bytes) n h).at

pub is_number : (bytes : List ℕ) → IfSome (decoded bytes) (λ d. row_at d.row ≡ Some (row_numbered d.row))
unfolding decoded
is_number bytes = number_by bytes (number_of (opcode_of bytes)) refl

none_by : (bytes : List ℕ) (o : Option ℕ) → number_of (opcode_of bytes) ≡ o → IfNone (fields_at bytes o) (row_of (opcode_of bytes) ≡ None)
none_by bytes None h = unnumbered (opcode_of bytes) h
none_by bytes (Some n) h = tt

pub is_absent : (bytes : List ℕ) → IfNone (decoded bytes) (row_of (opcode_of bytes) ≡ None)
unfolding decoded
is_absent bytes = none_by bytes (number_of (opcode_of bytes)) refl

record IsOfForm (f : Form) (d : Decoded) : Type 0 where
  range : IsInRange d
  form : HasOnly f d

-- the fields of bytes are in range
left_small : (bytes : List ℕ) (k : ℕ) → slice_index bytes k < 256 → left bytes k < 16
left_small bytes k h = omega (arith, h)

right_small : (bytes : List ℕ) (k : ℕ) → right bytes k < 16
right_small bytes k = omega arith

low12_small : (bytes : List ℕ) (k : ℕ) → slice_index bytes (k + 1) < 256 → low12 bytes k < 4096
low12_small bytes k h = omega (arith, h)

halfword_small : (bytes : List ℕ) → slice_index bytes 2 < 256 → slice_index bytes 3 < 256
    → halfword bytes < 2 ^ 16
halfword_small bytes h g = omega (arith, h, g)

of_form : (f : Form) (n : ℕ) (bytes : List ℕ) → ((k : ℕ) → slice_index bytes k < 256)
    → IsOfForm f (fields_of f n bytes)
of_form Rr n bytes h = record {
  range = record {
    r1 = left_small bytes 1 (h 1);
    r2 = right_small bytes 1;
    b1 = omega arith;
    d1 = omega arith;
    b2 = omega arith;
    d2 = omega arith;
    imm = omega arith;
    len = omega arith;
  };
  form = (refl, refl, refl, refl, refl, refl);
}
of_form Rx n bytes h = record {
  range = record {
    r1 = left_small bytes 1 (h 1);
    r2 = right_small bytes 1;
    b1 = omega arith;
    d1 = omega arith;
    b2 = left_small bytes 2 (h 2);
    d2 = low12_small bytes 2 (h 3);
    imm = omega arith;
    len = omega arith;
  };
  form = (refl, refl, refl, refl);
}
of_form Rs n bytes h = record {
  range = record {
    r1 = left_small bytes 1 (h 1);
    r2 = right_small bytes 1;
    b1 = omega arith;
    d1 = omega arith;
    b2 = left_small bytes 2 (h 2);
    d2 = low12_small bytes 2 (h 3);
    imm = omega arith;
    len = omega arith;
  };
  form = (refl, refl, refl, refl);
}
of_form Si n bytes h = record {
  range = record {
    r1 = omega arith;
    r2 = omega arith;
    b1 = left_small bytes 2 (h 2);
    d1 = low12_small bytes 2 (h 3);
    b2 = omega arith;
    d2 = omega arith;
    imm = let b = h 1 in omega (arith, b);
    len = omega arith;
  };
  form = (refl, refl, refl, refl, h 1, refl);
}
of_form S n bytes h = record {
  range = record {
    r1 = omega arith;
    r2 = omega arith;
    b1 = omega arith;
    d1 = omega arith;
    b2 = left_small bytes 2 (h 2);
    d2 = low12_small bytes 2 (h 3);
    imm = omega arith;
    len = omega arith;
  };
  form = (refl, refl, refl, refl, refl, refl);
}
of_form Ri n bytes h = record {
  range = record {
    r1 = left_small bytes 1 (h 1);
    r2 = omega arith;
    b1 = omega arith;
    d1 = omega arith;
    b2 = omega arith;
    d2 = omega arith;
    imm = halfword_small bytes (h 2) (h 3);
    len = omega arith;
  };
  form = (refl, refl, refl, refl, refl, refl);
}
of_form Rsi n bytes h = record {
  range = record {
    r1 = left_small bytes 1 (h 1);
    r2 = right_small bytes 1;
    b1 = omega arith;
    d1 = omega arith;
    b2 = omega arith;
    d2 = omega arith;
    imm = halfword_small bytes (h 2) (h 3);
    len = omega arith;
  };
  form = (refl, refl, refl, refl, refl);
}
of_form Rre n bytes h = record {
  range = record {
    r1 = left_small bytes 3 (h 3);
    r2 = right_small bytes 3;
    b1 = omega arith;
    d1 = omega arith;
    b2 = omega arith;
    d2 = omega arith;
    imm = omega arith;
    len = omega arith;
  };
  form = (refl, refl, refl, refl, refl, refl);
}
of_form Ss1 n bytes h = record {
  range = record {
    r1 = omega arith;
    r2 = omega arith;
    b1 = left_small bytes 2 (h 2);
    d1 = low12_small bytes 2 (h 3);
    b2 = left_small bytes 4 (h 4);
    d2 = low12_small bytes 4 (h 5);
    imm = omega arith;
    len = h 1;
  };
  form = (refl, refl, refl);
}
of_form Ss2 n bytes h = record {
  range = record {
    r1 = left_small bytes 1 (h 1);
    r2 = right_small bytes 1;
    b1 = left_small bytes 2 (h 2);
    d1 = low12_small bytes 2 (h 3);
    b2 = left_small bytes 4 (h 4);
    d2 = low12_small bytes 4 (h 5);
    imm = omega arith;
    len = omega arith;
  };
  form = (refl, refl);
}

instruction_by : (bytes : List ℕ) (o : Option ℕ) → number_of (opcode_of bytes) ≡ o
    → ((k : ℕ) → slice_index bytes k < 256) → IfSome (fields_at bytes o) IsInstruction
instruction_by bytes None h small = tt
instruction_by bytes (Some n) h small =
    let f = (row_numbered n).form in
    let d = fields_of f n bytes in
    let same = row_of_fields f n bytes in
    let r = numbered (opcode_of bytes) n h in
    let at = of_form f n bytes small in
    let P : ℕ → Type 0 = λ q. HasOnly (row_numbered q).form d in
    record { row = omega (arith, same, r.inside); range = at.range; form = subst P (sym same) at.form }

pub is_instruction : (bytes : List ℕ) → ((k : ℕ) → slice_index bytes k < 256) → IfSome (decoded bytes) IsInstruction
unfolding decoded
is_instruction bytes small = instruction_by bytes (number_of (opcode_of bytes)) refl small

range_by : (o : Option Decoded) → IfSome o IsInstruction → IfSome o IsInRange
range_by None h = tt
range_by (Some d) h = h.range

pub is_in_range : (bytes : List ℕ) → ((k : ℕ) → slice_index bytes k < 256) → IfSome (decoded bytes) IsInRange
is_in_range bytes small = range_by (decoded bytes) (is_instruction bytes small)
