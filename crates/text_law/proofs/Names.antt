-- The mnemonic of each row is read as its row.
use Rattle.std.proofs.Common.{◌≡◌, ℕ, zero, suc, ◌+◌, ◌<◌, ◌≤◌, Bool, true, false, eqb, ◌&&◌, List, [], ◌∷◌, length, get_or, Option, Some, None, refl, ◌∙◌, ap, arith}
use Rattle.std.specs.Prelude.{codes}
use Rattle.std.proofs.lemmas.Bool.Decides.{nat_tests}
use Rattle.std.specs.List.{list_all}
use Rattle.esa_model.specs.declared.instructions.Row.{Row}
use Rattle.esa_model.specs.declared.instructions.Form.TheVariants.{Rr}
use Rattle.esa_model.specs.Table.{rows as table, row_numbered}
use Rattle.asm_text.specs.Text.{mnemonic_of as printed}
use Rattle.asm_model.specs.declared.statements.Mnemonic.{Mnemonic}
use Rattle.asm_model.specs.declared.statements.Mnemonic.TheVariants.{Csect, Dc, Ds, Using, End, Machine}
use Rattle.asm_model.specs.Words.{within}
use Rattle.asm_model.specs.Statement.{mnemonic_of, row_named}
use Rattle.text_law.proofs.Marks.{AllIn, both_left, both_right, in_of_test}

abbrev is_machine : ℕ → Option Mnemonic → Bool
is_machine n None = false
is_machine n (Some (Machine m)) = eqb m n
is_machine n (Some Csect) = false
is_machine n (Some Dc) = false
is_machine n (Some Ds) = false
is_machine n (Some Using) = false
is_machine n (Some End) = false

-- capitals, at least one and at most six, that are read as the row of this number
abbrev is_word : ℕ → List ℕ → Bool
is_word n w = list_all (within 65 90) w && (within 1 6 (length w) && is_machine n (mnemonic_of w))

abbrev all_words : ℕ → List Row → Bool
all_words n [] = true
all_words n (r ∷ rs) = is_word n (printed r.name) && all_words (n + 1) rs

all_named : all_words 0 table ≡ true
unfolding mnemonic_of row_named
all_named = refl

word_at :
    (rs : List Row) (n k m : ℕ) (r : Row) → all_words n rs ≡ true → k < length rs → m ≡ n + k
    → is_word m (printed (get_or rs k r).name) ≡ true
word_at [] n k m r h l e = absurd (omega arith)
word_at (x ∷ xs) n zero m r h l e =
    let same : m ≡ n = omega arith in
    ap (λ q. is_word q (printed x.name)) same
    ∙ both_left (is_word n (printed x.name)) (all_words (n + 1) xs) h
word_at (x ∷ xs) n (suc k) m r h l e =
    let more = both_right (is_word n (printed x.name)) (all_words (n + 1) xs) h in
    word_at xs (n + 1) k m r more (omega arith) (omega arith)

the_machine : (n : ℕ) (o : Option Mnemonic) → is_machine n o ≡ true → o ≡ Some (Machine n)
the_machine n None h = absurd (cc)
the_machine n (Some (Machine m)) h =
    let e : m ≡ n = grind (arith, nat_tests) in
    ap (λ k. Some (Machine k)) e
the_machine n (Some Csect) h = absurd (cc)
the_machine n (Some Dc) h = absurd (cc)
the_machine n (Some Ds) h = absurd (cc)
the_machine n (Some Using) h = absurd (cc)
the_machine n (Some End) h = absurd (cc)

pub record IsMnemonic (n : ℕ) (w : List ℕ) : Type 0 where
  pub capitals : AllIn 65 90 w
  pub some : 0 < length w
  pub few : length w ≤ 6
  pub read : mnemonic_of w ≡ Some (Machine n)

bounds_few : (k : ℕ) → within 1 6 k ≡ true → k ≤ 6
bounds_few k h = grind (arith, nat_tests)

bounds_some : (k : ℕ) → within 1 6 k ≡ true → 0 < k
bounds_some k h = grind (arith, nat_tests)

is_mnemonic : (n : ℕ) (w : List ℕ) → is_word n w ≡ true → IsMnemonic n w
is_mnemonic n w h =
    let capitals : Bool = list_all (within 65 90) w in
    let count : Bool = within 1 6 (length w) in
    let machine : Bool = is_machine n (mnemonic_of w) in
    let more = both_right capitals (count && machine) h in
    record {
      capitals = in_of_test 65 90 w (both_left capitals (count && machine) h);
      some = bounds_some (length w) (both_left count machine more);
      few = bounds_few (length w) (both_left count machine more);
      read = the_machine n (mnemonic_of w) (both_right count machine more);
    }

pub row_mnemonic : (n : ℕ) → n < 134 → IsMnemonic n (printed (row_numbered n).name)
unfolding row_numbered
row_mnemonic n l =
    let past : Row = record { opcode = 0; form = Rr; name = codes "      "; privileged = false } in
    is_mnemonic n (printed (get_or table n past).name)
    (word_at table 0 n n past all_named l (omega arith))
