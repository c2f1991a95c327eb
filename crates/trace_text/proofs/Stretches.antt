-- The text of the stretches, byte by byte.
use Rattle.std.proofs.Common.{◌≡◌, ℕ, zero, suc, ◌+◌, ◌*◌, ◌≤◌, ◌<◌, eqb, Bool, true, false, not, List, [], ◌∷◌, ◌++◌, length, drop, ◌⊎◌, inl, inr, Option, Some, None, sym, ◌∙◌, ap, refl, arith, append_assoc, length-append, append-nil, codes}
use Rattle.std.proofs.lemmas.List.{drop_more}
use Rattle.std.specs.Prelude.{flat_map, slice_index_or}
use Rattle.run_model.specs.Numbers.{hex_text}
use Rattle.esa_model.specs.Changes.{Stretch, joined, stretches}
use Rattle.run_model.specs.Trace.{stretch_start, stretch_text, bytes_text, changes_text}
use Rattle.esa_model.specs.declared.changes.Changed.{Changed}
use Rattle.trace_text.specs.Spelling.{goes_on, spelled_byte, spelled}

cases_bool : (b : Bool) → (b ≡ true) ⊎ (b ≡ false)
cases_bool true = inl refl
cases_bool false = inr refl

-- the byte past the end of a list
abbrev pub none : Changed
none = record { at = 0; byte = 0 }

-- how the stretches begin that a byte begins
record Begins (c : Changed) (cs : List Changed) : Type 0 where
  s : Stretch
  ss : List Stretch
  is : stretches (c ∷ cs) ≡ s ∷ ss
  first : s.first ≡ c.at
  rest :
      bytes_text s.bytes ++ flat_map stretch_text ss
      ≡ hex_text 2 c.byte ++ spelled (Some (c.at + 1)) cs

abbrev alone : Changed → Stretch
alone c = record { first = c.at; bytes = c.byte ∷ [] }

abbrev longer : Changed → Stretch → Stretch
longer c s = record { first = c.at; bytes = c.byte ∷ s.bytes }

joins :
    (c : Changed) (s : Stretch) (ss : List Stretch) → eqb (c.at + 1) s.first ≡ true
    → joined c (s ∷ ss) ≡ longer c s ∷ ss
joins c s ss e = rw e refl

parts :
    (c : Changed) (s : Stretch) (ss : List Stretch) → eqb (c.at + 1) s.first ≡ false
    → joined c (s ∷ ss) ≡ alone c ∷ s ∷ ss
parts c s ss e = rw e refl

spelled_on :
    (c d : Changed) (ds : List Changed) → eqb (c.at + 1) d.at ≡ true
    → spelled (Some (c.at + 1)) (d ∷ ds) ≡ hex_text 2 d.byte ++ spelled (Some (d.at + 1)) ds
spelled_on c d ds e = rw e refl

spelled_anew :
    (c d : Changed) (ds : List Changed) → eqb (c.at + 1) d.at ≡ false
    → spelled (Some (c.at + 1)) (d ∷ ds)
    ≡ (stretch_start d.at ++ hex_text 2 d.byte) ++ spelled (Some (d.at + 1)) ds
spelled_anew c d ds e = rw e refl

begins_joined :
    (c d : Changed) (ds : List Changed) → Begins d ds → eqb (c.at + 1) d.at ≡ true
    → Begins c (d ∷ ds)
begins_joined c d ds r e = record {
  s = longer c r.s;
  ss = r.ss;
  is = ap (joined c) r.is ∙ joins c r.s r.ss (ap (λ x. eqb (c.at + 1) x) r.first ∙ e);
  first = refl;
  rest = append_assoc (hex_text 2 c.byte) (bytes_text r.s.bytes) (flat_map stretch_text r.ss)
      ∙ ap (λ x. hex_text 2 c.byte ++ x) (r.rest ∙ sym (spelled_on c d ds e));
}

anew :
    (d : Changed) (ds : List Changed) (r : Begins d ds)
    → flat_map stretch_text (r.s ∷ r.ss)
    ≡ (stretch_start d.at ++ hex_text 2 d.byte) ++ spelled (Some (d.at + 1)) ds
anew d ds r =
    append_assoc (stretch_start r.s.first) (bytes_text r.s.bytes) (flat_map stretch_text r.ss)
    ∙ ap (λ x. stretch_start x ++ (bytes_text r.s.bytes ++ flat_map stretch_text r.ss)) r.first
    ∙ ap (λ x. stretch_start d.at ++ x) r.rest
    ∙ sym (append_assoc (stretch_start d.at) (hex_text 2 d.byte) (spelled (Some (d.at + 1)) ds))

begins_apart :
    (c d : Changed) (ds : List Changed) → Begins d ds → eqb (c.at + 1) d.at ≡ false
    → Begins c (d ∷ ds)
begins_apart c d ds r e = record {
  s = alone c;
  ss = r.s ∷ r.ss;
  is = ap (joined c) r.is ∙ parts c r.s r.ss (ap (λ x. eqb (c.at + 1) x) r.first ∙ e);
  first = refl;
  rest = ap (λ x. x ++ flat_map stretch_text (r.s ∷ r.ss)) (append-nil (hex_text 2 c.byte))
      ∙ ap (λ x. hex_text 2 c.byte ++ x) (anew d ds r ∙ sym (spelled_anew c d ds e));
}

begins : (c : Changed) (cs : List Changed) → Begins c cs
begins c [] = record {
  s = alone c;
  ss = [];
  is = refl;
  first = refl;
  rest = ap (λ x. x ++ []) (append-nil (hex_text 2 c.byte));
}
begins c (d ∷ ds) = elim (cases_bool (eqb (c.at + 1) d.at)) [
  | inl e ↦ begins_joined c d ds (begins d ds) e
  | inr e ↦ begins_apart c d ds (begins d ds) e
]

pub spelled_whole : (cs : List Changed) → spelled None cs ≡ changes_text cs
unfolding changes_text
spelled_whole [] = refl
spelled_whole (c ∷ cs) = let r = begins c cs in sym (ap (flat_map stretch_text) r.is ∙ anew c cs r)

-- ---- lengths
length_hex : (k n : ℕ) → length (hex_text k n) ≡ k
unfolding hex_text
length_hex zero n = refl
length_hex (suc k) n = let l = length_hex k n in omega arith

length_bytes : (bs : List ℕ) → length (bytes_text bs) ≡ 2 * length bs
length_bytes [] = refl
length_bytes (b ∷ bs) =
    let l = length_bytes bs in
    let h = length_hex 2 b in
    let a = length-append (hex_text 2 b) (bytes_text bs) in
    omega arith

length_start : (at : ℕ) → length (stretch_start at) ≡ 8
length_start at =
    let h = length_hex 6 at in
    let a = length-append (codes " ") (hex_text 6 at) in
    let b = length-append (codes " " ++ hex_text 6 at) (codes "=") in
    omega arith

abbrev bytes_in : List Stretch → ℕ
bytes_in [] = 0
bytes_in (s ∷ ss) = length s.bytes + bytes_in ss

bytes_first : (s : Stretch) (ss : List Stretch) → bytes_in (s ∷ ss) ≡ length s.bytes + bytes_in ss
bytes_first s ss = refl

length_stretches :
    (ss : List Stretch) → length (flat_map stretch_text ss) ≡ 8 * length ss + 2 * bytes_in ss
length_stretches [] = refl
length_stretches (s ∷ ss) =
    let l = length_stretches ss in
    let h = length_start s.first in
    let b = length_bytes s.bytes in
    let x = length-append (stretch_start s.first) (bytes_text s.bytes) in
    let y = length-append (stretch_text s) (flat_map stretch_text ss) in
    let f = bytes_first s ss in
    omega arith

one_more : (c : Changed) (ss : List Stretch) → bytes_in (joined c ss) ≡ bytes_in ss + 1
one_more c [] = refl
one_more c (s ∷ ss) = elim (cases_bool (eqb (c.at + 1) s.first)) [
  | inl e ↦
      let j = ap bytes_in (joins c s ss e) in
      let f = bytes_first s ss in
      let g = bytes_first (longer c s) ss in
      omega arith
  | inr e ↦
      let j = ap bytes_in (parts c s ss e) in
      let g = bytes_first (alone c) (s ∷ ss) in
      omega arith
]

bytes_kept : (cs : List Changed) → bytes_in (stretches cs) ≡ length cs
bytes_kept [] = refl
bytes_kept (c ∷ cs) = let r = bytes_kept cs in let o = one_more c (stretches cs) in omega arith

pub length_changes :
    (cs : List Changed) → length (changes_text cs) ≡ 8 * length (stretches cs) + 2 * length cs
unfolding changes_text
length_changes cs = let k = bytes_kept cs in let l = length_stretches (stretches cs) in omega arith

-- a byte that is written, and those after it
pub one_byte :
    (next : Option ℕ) (cs : List Changed) (i : ℕ) → i < length cs
    → let c = slice_index_or cs i none in
    spelled next (drop i cs)
    ≡ spelled_byte (not (goes_on next c)) c ++ spelled (Some (c.at + 1)) (drop (i + 1) cs)
one_byte next cs i lt = ap (spelled next) (drop_more cs i none lt)

pub room_for :
    (out a b whole : List ℕ) → out ++ (a ++ b) ≡ whole → length whole ≤ 2048
    → length out + length a ≤ 2048
room_for out a b whole e h =
    let l = ap length e in
    let x = length-append out (a ++ b) in
    let y = length-append a b in
    omega arith
