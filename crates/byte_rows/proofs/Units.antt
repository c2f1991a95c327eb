-- A unit of a long operation has at most 256 bytes, and its condition code is below 5; addresses
-- wrap by the mode.
use Rattle.std.proofs.Common.{◌≡◌, ℕ, ◌+◌, ◌-◌, ◌%◌, ◌^◌, ◌<◌, ◌≤◌, Bool, true, false, List, refl, arith}
use Rattle.std.specs.Prelude.{if◌then◌else◌, ◌==◌, nat_lt, nat_le, min, max, Option, Some, None, IfSome}
use Rattle.esa_model.specs.declared.long_operands.LongOperands.{LongOperands}
use Rattle.esa_model.specs.declared.long_operands.MoveUnit.{MoveUnit}
use Rattle.esa_model.specs.declared.machine.Psw.{Psw}
use Rattle.esa_model.specs.Psw.{is_wide, wrapped}
use Rattle.esa_model.specs.LongMoves.{wrap, is_destructive, length_code, move_row, places, first_byte, second_byte, same_places, compare_row}

number : (b : Bool) (x y : ℕ) → x < 5 → y < 5 → (if b then x else y) < 5
number true x y p q = p
number false x y p q = q

few : (b : Bool) (x y : MoveUnit) → x.copied + x.padded ≤ 256 → y.copied + y.padded ≤ 256
    → (if b then x else y).copied + (if b then x else y).padded ≤ 256
few true x y p q = p
few false x y p q = q

code : (b : Bool) (x y : MoveUnit) → IfSome x.cc (λ k. k < 5) → IfSome y.cc (λ k. k < 5)
    → IfSome (if b then x else y).cc (λ k. k < 5)
code true x y p q = p
code false x y p q = q

option : (b : Bool) (x y : Option ℕ) → IfSome x (λ k. k < 5) → IfSome y (λ k. k < 5)
    → IfSome (if b then x else y) (λ k. k < 5)
option true x y p q = p
option false x y p q = q

length_small : (a b : ℕ) → length_code a b < 5
length_small a b =
    number (a == b) 0 (if nat_lt a b then 1 else 2) (omega arith)
    (number (nat_lt a b) 1 2 (omega arith) (omega arith))

abbrev refusal : MoveUnit
refusal = record { copied = 0; padded = 0; cc = Some 3; destructive = true }

abbrev unit : LongOperands → MoveUnit
unit m = record {
  copied = min (min 256 m.to_len) m.from_len;
  padded = min 256 m.to_len - min (min 256 m.to_len) m.from_len;
  cc = if nat_le m.to_len 256 then Some (length_code m.to_len m.from_len) else None;
  destructive = false;
}

pub move_few : (m : LongOperands) → (move_row m).copied + (move_row m).padded ≤ 256
unfolding move_row
move_few m = few (is_destructive m) refusal (unit m) (omega arith) (omega arith)

pub move_code : (m : LongOperands) → IfSome (move_row m).cc (λ k. k < 5)
unfolding move_row
move_code m =
    let three : 3 < 5 = omega arith in
    code (is_destructive m) refusal (unit m) three
    (option (nat_le m.to_len 256) (Some (length_code m.to_len m.from_len)) None
    (length_small m.to_len m.from_len) tt)

pub compare_code : (first second : List ℕ) (c : LongOperands)
    → IfSome (compare_row first second c).cc (λ k. k < 5)
unfolding compare_row
compare_code first second c =
    let p : ℕ = same_places first second c in
    let x : ℕ = first_byte first c p in
    let y : ℕ = second_byte second c p in
    let zero : 0 < 5 = omega arith in
    option (nat_lt p (places c)) (Some (if nat_lt x y then 1 else 2))
    (if nat_le (max c.to_len c.from_len) 256 then Some 0 else None)
    (number (nat_lt x y) 1 2 (omega arith) (omega arith))
    (option (nat_le (max c.to_len c.from_len) 256) (Some 0) None zero tt)

wraps : (b : Bool) (a : ℕ) → (if b then a % 2 ^ 31 else a % 2 ^ 24) ≡ a % wrap b
wraps true a = refl
wraps false a = refl

pub wraps_by_mode : (p : Psw) (a : ℕ) → wrapped p a ≡ a % wrap (is_wide p)
wraps_by_mode p a = wraps (is_wide p) a
