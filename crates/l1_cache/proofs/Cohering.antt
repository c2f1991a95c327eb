-- What stays coherent when a line is filled, and when one is invalidated.
use Rattle.std.proofs.Common.{◌≡◌, ◌≢◌, ℕ, zero, suc, ◌+◌, ◌*◌, ◌/◌, ◌%◌, ◌<◌, List, [], ◌∷◌, length, replicate, refl, sym, ap, ◌∙◌, subst, inl, inr, arith}
use Rattle.std.specs.Prelude.{slice_set, slice_get, Option, Some, None}
use Rattle.std.proofs.lemmas.Option.{same_Some, none-some}
use Rattle.l1_cache.specs.Filling.{Filling}
use Rattle.l1_cache.specs.Lines.{HasLine, IsEmpty, Coherent, DiffersInLine, with_line, line_of}
use Rattle.l1_cache.proofs.Places.{get_same, get_other, same_or}

-- ---- which lines are present

pub line_present : (ns : List (Option ℕ)) (n : ℕ) → length ns ≡ 64 → HasLine (with_line ns n) n
line_present ns n len = get_same ns (n % 64) (Some n) (omega (arith, len))

pub line_gone : (ns : List (Option ℕ)) (n : ℕ) → length ns ≡ 64 → HasLine (slice_set ns (n % 64) None) n → ⊥
line_gone ns n len is =
    none-some n (same_Some None (Some n) (sym (get_same ns (n % 64) None (omega (arith, len))) ∙ is))

-- line n is present, so no other line has its place
pub others_stay : (ns : List (Option ℕ)) (n m : ℕ) → HasLine ns n → m ≢ n
    → (HasLine ns m → HasLine (slice_set ns (n % 64) None) m) × (HasLine (slice_set ns (n % 64) None) m → HasLine ns m)
others_stay ns n m has ne =
    elim (same_or (n % 64) (m % 64)) [
      | inl same ↦
          let here : HasLine ns m → ⊥ = λ is.
          ne (sym (same_Some n m (same_Some (Some n) (Some m) (sym has ∙ (ap (slice_get ns) same ∙ is))))) in
          (λ is. absurd (here is), λ is. absurd (none_here ns (n % 64) (m % 64) m same is))
      | inr other ↦
          let e : slice_get (slice_set ns (n % 64) None) (m % 64) ≡ slice_get ns (m % 64) = get_other ns (n % 64) (m % 64) None other in
          (λ is. e ∙ is, λ is. sym e ∙ is)
    ]
  where
    none_set : (xs : List (Option ℕ)) (i m : ℕ) → slice_get (slice_set xs i None) i ≡ Some (Some m) → ⊥
    none_set [] i m is = none-some (Some m) is
    none_set (x ∷ xs) zero m is = none-some m (same_Some None (Some m) is)
    none_set (x ∷ xs) (suc i) m is = none_set xs i m is

    none_here : (xs : List (Option ℕ)) (i j m : ℕ) → i ≡ j → slice_get (slice_set xs i None) j ≡ Some (Some m) → ⊥
    none_here xs i j m same is = none_set xs i m (ap (slice_get (slice_set xs i None)) same ∙ is)

no_line_in : (o : Option ℕ) (k i n : ℕ) → o ≡ None → slice_get (replicate k o) i ≡ Some (Some n) → ⊥
no_line_in o zero i n none is = none-some (Some n) is
no_line_in o (suc k) zero n none is = none-some n (sym none ∙ same_Some o (Some n) is)
no_line_in o (suc k) (suc i) n none is = no_line_in o k i n none is

pub no_lines_in : (k : ℕ) → IsEmpty (replicate k None)
no_lines_in k n is = no_line_in None k (n % 64) n refl is

-- ---- coherence

pub empty_coherent : (ns : List (Option ℕ)) (bytes s : List ℕ) (fills : ℕ) → IsEmpty ns
    → Coherent (record { numbers = ns; bytes = bytes; fills = fills }) s
unfolding Coherent
empty_coherent ns bytes s fills empty a l is = absurd (empty (line_of a) is)

pub coherent_byte : (ns : List (Option ℕ)) (bytes s : List ℕ) (fills a : ℕ)
    → Coherent (record { numbers = ns; bytes = bytes; fills = fills }) s → a < length s → HasLine ns (line_of a)
    → slice_get bytes (a % 16384) ≡ slice_get s a
unfolding Coherent
coherent_byte ns bytes s fills a was l is = was a l is

pub filled_coherent : (ns : List (Option ℕ)) (before bytes s : List ℕ) (n fills more : ℕ)
    → Coherent (record { numbers = ns; bytes = before; fills = fills }) s → length ns ≡ 64 → Filling 256 n s before bytes
    → Coherent (record { numbers = with_line ns n; bytes = bytes; fills = more }) s
unfolding Coherent
filled_coherent ns before bytes s n fills more was len f a l is =
    let d : a % 16384 / 256 ≡ a / 256 % 64 = omega arith in
    elim (same_or (n % 64) (a / 256 % 64)) [
      | inl same ↦
          let t : Some (Some n) ≡ Some (Some (a / 256)) =
          sym (line_present ns n len) ∙ (ap (slice_get (with_line ns n)) same ∙ is) in
          let v : n ≡ a / 256 = same_Some n (a / 256) (same_Some (Some n) (Some (a / 256)) t) in
          let at : a % 16384 ≡ n % 64 * 256 + a % 256 = omega (arith, d, same) in
          let from : a ≡ n * 256 + a % 256 = omega (arith, v) in
          ap (slice_get bytes) at ∙ (f.copied (a % 256) (omega arith) ∙ ap (slice_get s) (sym from))
      | inr other ↦
          let t : slice_get (with_line ns n) (a / 256 % 64) ≡ slice_get ns (a / 256 % 64) =
          get_other ns (n % 64) (a / 256 % 64) (Some n) other in
          f.others (a % 16384) (λ q. other (sym q ∙ d)) ∙ was a l (sym t ∙ is)
    ]

pub absent_coherent : (ns : List (Option ℕ)) (bytes s t : List ℕ) (n fills : ℕ) → (HasLine ns n → ⊥)
    → DiffersInLine n s t → Coherent (record { numbers = ns; bytes = bytes; fills = fills }) s
    → Coherent (record { numbers = ns; bytes = bytes; fills = fills }) t
unfolding Coherent
absent_coherent ns bytes s t n fills hasnt d was a l is =
    let ne : line_of a ≢ n = λ e. hasnt (subst (HasLine ns) e is) in
    was a (let e = d.size in omega (arith, l, e)) is ∙ sym (d.others a ne)

pub cleared_coherent : (ns : List (Option ℕ)) (bytes s t : List ℕ) (n fills : ℕ) → HasLine ns n → length ns ≡ 64
    → DiffersInLine n s t → Coherent (record { numbers = ns; bytes = bytes; fills = fills }) s
    → Coherent (record { numbers = slice_set ns (n % 64) None; bytes = bytes; fills = fills }) t
unfolding Coherent
cleared_coherent ns bytes s t n fills has len d was a l is =
    let ne : line_of a ≢ n = λ e. line_gone ns n len (subst (HasLine (slice_set ns (n % 64) None)) e is) in
    let stays = others_stay ns n (line_of a) has ne in
    was a (let e = d.size in omega (arith, l, e)) (stays.1 is) ∙ sym (d.others a ne)
