-- What a drain, a release, a hold and a drop do to what is seen and kept.
use Rattle.std.proofs.Common.{◌≡◌, ◌≢◌, ℕ, zero, suc, false, List, [], ◌∷◌, ◌++◌, length, refl, sym, ap, ◌∙◌, subst, inl, inr, arith, ◌⊎◌}
use Rattle.std.specs.Prelude.{slice_set, slice_get, Some}
use Rattle.std.proofs.lemmas.Bool.{cases_lt}
use Rattle.esa_model.specs.Apply.{Piece, stored_all}
use Rattle.store_buffer.specs.Waiting.{Waiting, meets_any, clash}
use Rattle.seen_memory.proofs.Oldest.{stored_oldest, tail_of, OldestInside}
use Rattle.seen_memory.specs.Seen.{seen, committed_at, held_at, AllInside, Kept}
use Rattle.seen_memory.proofs.Order.{put, one_comm, all_comm, clash_tail, clash_head, clash_swap, clash_append, stored_append}
use Rattle.seen_memory.proofs.Through.{stored_length}

-- ---- the lists of one buffer after it changed

pub now_at : (bs : List Waiting) (i : ℕ) (b : Waiting) → slice_get bs i ≡ Some b → committed_at bs i ≡ b.committed
now_at [] i b h = absurd cc
now_at (c ∷ bs) zero b h = let e : c ≡ b = cc in ap (λ (w : Waiting). w.committed) e
now_at (c ∷ bs) (suc i) b h = now_at bs i b h

pub held_now : (bs : List Waiting) (i : ℕ) (b : Waiting) → slice_get bs i ≡ Some b → held_at bs i ≡ b.held
held_now [] i b h = absurd cc
held_now (c ∷ bs) zero b h = let e : c ≡ b = cc in ap (λ (w : Waiting). w.held) e
held_now (c ∷ bs) (suc i) b h = held_now bs i b h

pub at_set : (bs : List Waiting) (i : ℕ) (b c : Waiting) → slice_get bs i ≡ Some b → committed_at (slice_set bs i c) i ≡ c.committed
at_set [] i b c h = absurd cc
at_set (d ∷ bs) zero b c h = refl
at_set (d ∷ bs) (suc i) b c h = at_set bs i b c h

pub held_set : (bs : List Waiting) (i : ℕ) (b c : Waiting) → slice_get bs i ≡ Some b → held_at (slice_set bs i c) i ≡ c.held
held_set [] i b c h = absurd cc
held_set (d ∷ bs) zero b c h = refl
held_set (d ∷ bs) (suc i) b c h = held_set bs i b c h

pub at_beside : (bs : List Waiting) (i j : ℕ) (c : Waiting) → i ≢ j → committed_at (slice_set bs i c) j ≡ committed_at bs j
at_beside [] i j c h = refl
at_beside (d ∷ bs) zero zero c h = absurd (h refl)
at_beside (d ∷ bs) zero (suc j) c h = refl
at_beside (d ∷ bs) (suc i) zero c h = refl
at_beside (d ∷ bs) (suc i) (suc j) c h = at_beside bs i j c (λ e. h (ap (λ (k : ℕ). suc k) e))

pub held_beside : (bs : List Waiting) (i j : ℕ) (c : Waiting) → i ≢ j → held_at (slice_set bs i c) j ≡ held_at bs j
held_beside [] i j c h = refl
held_beside (d ∷ bs) zero zero c h = absurd (h refl)
held_beside (d ∷ bs) zero (suc j) c h = refl
held_beside (d ∷ bs) (suc i) zero c h = refl
held_beside (d ∷ bs) (suc i) (suc j) c h = held_beside bs i j c (λ e. h (ap (λ (k : ℕ). suc k) e))

-- two numbers are one or are two
pub same_or : (i j : ℕ) → (i ≡ j) ⊎ (i ≢ j)
same_or i j =
    elim (cases_lt i j) [
      | inl low ↦ inr (omega (arith, low))
      | inr high ↦ elim (cases_lt j i) [ inl low ↦ inr (omega (arith, low)) | inr even ↦ inl (omega (arith, high, even)) ]
    ]

-- ---- what is seen

one_through : (p : Piece) (bs : List Waiting) (s : List ℕ) → ((j : ℕ) → meets_any p (committed_at bs j) ≡ false) → seen bs (put p s) ≡ put p (seen bs s)
one_through p [] s h = refl
one_through p (b ∷ bs) s h =
    ap (stored_all b.committed) (one_through p bs s (λ j. h (suc j))) ∙ one_comm p b.committed (seen bs s) (h zero)

seen_drained : (p : Piece) (ps : List Piece) (bs : List Waiting) (i : ℕ) (b : Waiting) (s : List ℕ) → slice_get bs i ≡ Some b → b.committed ≡ p ∷ ps
    → ((j : ℕ) → i ≢ j → meets_any p (committed_at bs j) ≡ false)
    → seen (slice_set bs i (record { committed = ps; held = b.held })) (put p s) ≡ seen bs s
seen_drained p ps [] i b s h e apart = absurd cc
seen_drained p ps (c ∷ bs) zero b s h e apart =
    let same : c ≡ b = cc in
    let first : c.committed ≡ p ∷ ps = ap (λ (w : Waiting). w.committed) same ∙ e in
    ap (stored_all ps) (one_through p bs s (λ j. apart (suc j) (omega arith)))
    ∙ sym (ap (λ (qs : List Piece). stored_all qs (seen bs s)) first)
seen_drained p ps (c ∷ bs) (suc i) b s h e apart =
    ap (stored_all c.committed) (seen_drained p ps bs i b s h e (λ j ne. apart (suc j) (omega (arith, ne))))

seen_released : (bs : List Waiting) (i : ℕ) (b : Waiting) (s : List ℕ) → slice_get bs i ≡ Some b
    → ((j : ℕ) → i ≢ j → clash (committed_at bs j) b.held ≡ false)
    → seen (slice_set bs i (record { committed = b.committed ++ b.held; held = [] })) s ≡ stored_all b.held (seen bs s)
seen_released [] i b s h apart = absurd cc
seen_released (c ∷ bs) zero b s h apart =
    let same : c ≡ b = cc in
    stored_append b.committed b.held (seen bs s) ∙ ap (λ (w : Waiting). stored_all b.held (stored_all w.committed (seen bs s))) (sym same)
seen_released (c ∷ bs) (suc i) b s h apart =
    ap (stored_all c.committed) (seen_released bs i b s h (λ j ne. apart (suc j) (omega (arith, ne))))
    ∙ all_comm c.committed b.held (seen bs s) (apart zero (omega arith))

-- the committed pieces of no buffer changed
seen_same : (bs : List Waiting) (i : ℕ) (b c : Waiting) (s : List ℕ) → slice_get bs i ≡ Some b → c.committed ≡ b.committed
    → seen (slice_set bs i c) s ≡ seen bs s
seen_same [] i b c s h e = absurd cc
seen_same (d ∷ bs) zero b c s h e =
    let same : d ≡ b = cc in
    ap (λ (ps : List Piece). stored_all ps (seen bs s)) (e ∙ ap (λ (w : Waiting). w.committed) (sym same))
seen_same (d ∷ bs) (suc i) b c s h e = ap (stored_all d.committed) (seen_same bs i b c s h e)

-- ---- inside

pub inside_append : (n : ℕ) (ps qs : List Piece) → AllInside n ps → AllInside n qs → AllInside n (ps ++ qs)
inside_append n [] qs h g = g
inside_append n (p ∷ ps) qs h g = (h.0, inside_append n ps qs h.1 g)

inside_tail : (n : ℕ) (ps : List Piece) → AllInside n ps → AllInside n (tail_of ps)
inside_tail n [] h = h
inside_tail n (p ∷ ps) h = h.1

pub oldest_inside : (n : ℕ) (ps : List Piece) → AllInside n ps → OldestInside n ps
oldest_inside n [] h = tt
oldest_inside n (p ∷ ps) h = h.0

pub oldest_length : (ps : List Piece) (s : List ℕ) → length (stored_oldest ps s) ≡ length s
oldest_length [] s = refl
oldest_length (p ∷ ps) s = stored_length (p ∷ []) s

clash_of_tail : (ps qs : List Piece) → clash ps qs ≡ false → clash (tail_of ps) qs ≡ false
clash_of_tail [] qs h = h
clash_of_tail (p ∷ ps) qs h = clash_tail p ps qs h

-- ---- one buffer changed: what is kept

-- buffer i now has these pieces, which keep apart from the others and lie inside
kept_with : (bs : List Waiting) (s t : List ℕ) (i : ℕ) (b c : Waiting) → Kept bs s → slice_get bs i ≡ Some b → length t ≡ length s
    → ((j : ℕ) → i ≢ j → clash c.committed (committed_at bs j) ≡ false)
    → AllInside (length s) c.committed → AllInside (length s) c.held
    → Kept (slice_set bs i c) t
kept_with bs s t i b c k h same apart inside held =
    let own = at_set bs i b c h in
    let own_held = held_set bs i b c h in
    record {
      apart = λ j l ne. elim (same_or i j) [
        | inl e ↦
            let other : i ≢ l = λ q. ne (sym e ∙ q) in
            rw (← e, own, at_beside bs i l c other) (apart l other)
        | inr f ↦ elim (same_or i l) [
          | inl e ↦ rw (← e, own, at_beside bs i j c f) (clash_swap c.committed (committed_at bs j) (apart j f))
          | inr g ↦ rw (at_beside bs i j c f, at_beside bs i l c g) (k.apart j l ne)
        ]
      ];
      inside = λ j. elim (same_or i j) [
        | inl e ↦ rw (← e, own, same) inside
        | inr f ↦ rw (at_beside bs i j c f, same) (k.inside j)
      ];
      held_inside = λ j. elim (same_or i j) [
        | inl e ↦ rw (← e, own_held, same) held
        | inr f ↦ rw (held_beside bs i j c f, same) (k.held_inside j)
      ];
    }

drained_by : (ps : List Piece) (bs : List Waiting) (i : ℕ) (b : Waiting) (s : List ℕ) → Kept bs s → slice_get bs i ≡ Some b → b.committed ≡ ps
    → seen (slice_set bs i (record { committed = tail_of ps; held = b.held })) (stored_oldest ps s) ≡ seen bs s
drained_by [] bs i b s k h e = seen_same bs i b (record { committed = []; held = b.held }) s h (sym e)
drained_by (p ∷ ps) bs i b s k h e =
    seen_drained p ps bs i b s h e
    (λ j ne. clash_head p ps (committed_at bs j) (subst (λ (qs : List Piece). clash qs (committed_at bs j) ≡ false) (now_at bs i b h ∙ e) (k.apart i j ne)))

-- the oldest committed piece of a buffer was stored
pub seen_after_drain : (bs : List Waiting) (i : ℕ) (b : Waiting) (s : List ℕ) → Kept bs s → slice_get bs i ≡ Some b
    → seen (slice_set bs i (record { committed = tail_of b.committed; held = b.held })) (stored_oldest b.committed s) ≡ seen bs s
seen_after_drain bs i b s k h = drained_by b.committed bs i b s k h refl

pub kept_after_drain : (bs : List Waiting) (i : ℕ) (b : Waiting) (s : List ℕ) → Kept bs s → slice_get bs i ≡ Some b
    → Kept (slice_set bs i (record { committed = tail_of b.committed; held = b.held })) (stored_oldest b.committed s)
kept_after_drain bs i b s k h =
    let own = now_at bs i b h in
    kept_with bs s (stored_oldest b.committed s) i b (record { committed = tail_of b.committed; held = b.held }) k h (oldest_length b.committed s)
    (λ j ne. clash_of_tail b.committed (committed_at bs j) (subst (λ (qs : List Piece). clash qs (committed_at bs j) ≡ false) own (k.apart i j ne)))
    (inside_tail (length s) b.committed (subst (AllInside (length s)) own (k.inside i)))
    (subst (AllInside (length s)) (held_now bs i b h) (k.held_inside i))

-- the held pieces of a buffer were released, which no other buffer's committed pieces share a byte with
pub seen_after_release : (bs : List Waiting) (i : ℕ) (b : Waiting) (s : List ℕ) → slice_get bs i ≡ Some b
    → ((j : ℕ) → i ≢ j → clash (committed_at bs j) b.held ≡ false)
    → seen (slice_set bs i (record { committed = b.committed ++ b.held; held = [] })) s ≡ stored_all b.held (seen bs s)
seen_after_release bs i b s h apart = seen_released bs i b s h apart

pub kept_after_release : (bs : List Waiting) (i : ℕ) (b : Waiting) (s : List ℕ) → Kept bs s → slice_get bs i ≡ Some b
    → ((j : ℕ) → i ≢ j → clash (committed_at bs j) b.held ≡ false)
    → Kept (slice_set bs i (record { committed = b.committed ++ b.held; held = [] })) s
kept_after_release bs i b s k h apart =
    let own = now_at bs i b h in
    let own_held = held_now bs i b h in
    kept_with bs s s i b (record { committed = b.committed ++ b.held; held = [] }) k h refl
    (λ j ne. clash_append b.committed b.held (committed_at bs j)
    (subst (λ (qs : List Piece). clash qs (committed_at bs j) ≡ false) own (k.apart i j ne))
    (clash_swap (committed_at bs j) b.held (apart j ne)))
    (inside_append (length s) b.committed b.held (subst (AllInside (length s)) own (k.inside i)) (subst (AllInside (length s)) own_held (k.held_inside i)))
    tt

-- the held pieces of a buffer changed, and its committed ones stay
pub seen_after_hold : (bs : List Waiting) (i : ℕ) (b c : Waiting) (s : List ℕ) → slice_get bs i ≡ Some b → c.committed ≡ b.committed
    → seen (slice_set bs i c) s ≡ seen bs s
seen_after_hold bs i b c s h e = seen_same bs i b c s h e

pub kept_after_hold : (bs : List Waiting) (i : ℕ) (b c : Waiting) (s : List ℕ) → Kept bs s → slice_get bs i ≡ Some b → c.committed ≡ b.committed
    → AllInside (length s) c.held → Kept (slice_set bs i c) s
kept_after_hold bs i b c s k h e held =
    let own : committed_at bs i ≡ c.committed = now_at bs i b h ∙ sym e in
    kept_with bs s s i b c k h refl
    (λ j ne. subst (λ (qs : List Piece). clash qs (committed_at bs j) ≡ false) own (k.apart i j ne))
    (subst (AllInside (length s)) own (k.inside i))
    held
