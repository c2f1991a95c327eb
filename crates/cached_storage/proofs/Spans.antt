-- A piece of at most 256 bytes lies in the lines of its first and of its last byte.
use Rattle.std.proofs.Common.{◌≡◌, ◌≢◌, ℕ, suc, ◌+◌, ◌-◌, ◌*◌, ◌%◌, ◌<◌, ◌≤◌, List, [], ◌∷◌, ◌++◌, length, take, drop, refl, sym, ◌∙◌, subst, inl, inr, arith, ◌⊎◌}
use Rattle.std.specs.Prelude.{slice_set, slice_get, Some, None}
use Rattle.std.proofs.lemmas.Bool.{cases_lt}
use Rattle.std.proofs.lemmas.Grind.{common_steps}
use Rattle.std.proofs.lemmas.List.{length-set}
use Rattle.std.proofs.lemmas.Option.{none-some, same_Some}
use Rattle.esa_model.specs.Apply.{Piece, put_all}
use Rattle.l1_cache.specs.Lines.{Lines, DiffersInLine, line_of}
use Rattle.l1_cache.proofs.Places.{get_other}
use Rattle.store_buffer.specs.declared.span.Span.{Span}
use Rattle.store_buffer.specs.Waiting.{oldest_of, oldest_span, span_of, stored_in}
use Rattle.cached_storage.specs.Caches.{AllCoherent}

put_length : (a : ℕ) (xs s : List ℕ) → length (put_all a xs s) ≡ length s
put_length a [] s = refl
put_length a (x ∷ xs) s = put_length (a + 1) xs (slice_set s a x) ∙ length-set s a x

put_other : (at a : ℕ) (xs s : List ℕ) → (a < at) ⊎ (at + length xs ≤ a) → slice_get (put_all at xs s) a ≡ slice_get s a
put_other at a [] s h = refl
put_other at a (x ∷ xs) s h =
    let ne : at ≢ a = elim h [ inl l ↦ omega (arith, l) | inr g ↦ omega (arith, g) ] in
    let rest : (a < at + 1) ⊎ (at + 1 + length xs ≤ a) =
    elim h [ inl l ↦ inl (omega (arith, l)) | inr g ↦ inr (omega (arith, g)) ] in
    put_other (at + 1) a xs (slice_set s at x) rest ∙ get_other s at a x ne

put_append : (a : ℕ) (xs ys s : List ℕ) → put_all a (xs ++ ys) s ≡ put_all (a + length xs) ys (put_all a xs s)
put_append a [] ys s = let e : a + 0 ≡ a = omega arith in rw e refl
put_append a (x ∷ xs) ys s =
    let e : a + suc (length xs) ≡ a + 1 + length xs = omega arith in
    rw e (put_append (a + 1) xs ys (slice_set s a x))

-- what is stored within line n leaves the others
stored_in_line : (n at : ℕ) (xs s : List ℕ) → n * 256 ≤ at → at + length xs ≤ n * 256 + 256 → DiffersInLine n s (put_all at xs s)
stored_in_line n at xs s low high = record {
  size = put_length at xs s;
  others = λ a ne. put_other at a xs s
      (elim (cases_lt a at) [
        | inl l ↦ inl l
        | inr g ↦ elim (cases_lt a (at + length xs)) [
          | inl l ↦ absurd (ne (omega (arith, low, high, g, l)))
          | inr h ↦ inr h
        ]
      ]);
}

-- what stores nothing differs nowhere
nothing_stored : (n at : ℕ) (xs s : List ℕ) → length xs ≤ 0 → DiffersInLine n s (put_all at xs s)
nothing_stored n at [] s h = record { size = refl; others = λ a ne. refl }
nothing_stored n at (x ∷ xs) s h = absurd (omega (arith, h))

-- the caches after the line of an address was invalidated in all of them
abbrev Invalidates : ℕ → List Lines → List Lines → Type 0
Invalidates at old new = (s t : List ℕ) → DiffersInLine (line_of at) s t → AllCoherent old s → AllCoherent new t

-- the bytes up to the end of the first line, and then the others
piece_stored : (old mid new : List Lines) (at len : ℕ) (s xs : List ℕ) → length xs ≡ len → 1 ≤ len → len ≤ 256
    → Invalidates at old mid → Invalidates (at + len - 1) mid new → AllCoherent old s → AllCoherent new (put_all at xs s)
piece_stored old mid new at len s xs is some most first second was =
    let k : ℕ = 256 - at % 256 in
    let ys : List ℕ = take k xs in
    let zs : List ℕ = drop k xs in
    let both : ys ++ zs ≡ xs = grind (arith, common_steps) in
    let short : length ys ≤ k = grind (arith, common_steps) in
    let rest : length ys + length zs ≡ len = grind (arith, common_steps, is) in
    let full : 0 < length zs → length ys ≡ k = λ z. grind (arith, common_steps, z) in
    let u : List ℕ = put_all at ys s in
    let one : AllCoherent mid u = first s u (stored_in_line (line_of at) at ys s (omega arith) (omega (arith, short))) was in
    let last : DiffersInLine (line_of (at + len - 1)) u (put_all (at + length ys) zs u) =
    elim (cases_lt 0 (length zs)) [
      | inl z ↦ let f = full z in
          stored_in_line (line_of (at + len - 1)) (at + length ys) zs u (omega (arith, rest, f, most, z)) (omega (arith, rest, f, most, z))
      | inr z ↦ nothing_stored (line_of (at + len - 1)) (at + length ys) zs u z
    ] in
    subst (λ (ws : List ℕ). AllCoherent new (put_all at ws s)) both
    (rw (put_append at ys zs s) (second u (put_all (at + length ys) zs u) last one))

pub oldest_stored : (old mid new : List Lines) (ps : List Piece) (w : Span) (s : List ℕ) → oldest_span ps ≡ Some w
    → 1 ≤ w.len → w.len ≤ 256 → Invalidates w.at old mid → Invalidates (w.at + w.len - 1) mid new
    → AllCoherent old s → AllCoherent new (stored_in (oldest_of ps) s)
oldest_stored old mid new [] w s is some most first second was = absurd (none-some w is)
oldest_stored old mid new (p ∷ ps) w s is some most first second was =
    let e : span_of p ≡ w = same_Some (span_of p) w is in
    piece_stored old mid new p.at (length p.bytes) s p.bytes refl
    (subst (λ (v : Span). 1 ≤ v.len) (sym e) some) (subst (λ (v : Span). v.len ≤ 256) (sym e) most)
    (subst (λ (v : Span). Invalidates v.at old mid) (sym e) first)
    (subst (λ (v : Span). Invalidates (v.at + v.len - 1) mid new) (sym e) second) was

pub no_oldest : (cs : List Lines) (ps : List Piece) (s : List ℕ) → oldest_span ps ≡ None
    → AllCoherent cs s → AllCoherent cs (stored_in (oldest_of ps) s)
no_oldest cs [] s is was = was
no_oldest cs (p ∷ ps) s is was = absurd (none-some (span_of p) (sym is))
