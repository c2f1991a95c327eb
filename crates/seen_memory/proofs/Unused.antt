-- Buffers that have no committed entry are not asked, and stay so.
use Rattle.std.proofs.Common.{◌≡◌, ◌≢◌, ℕ, zero, suc, ◌<◌, ◌≤◌, List, [], ◌∷◌, ◌++◌, length, take, get_or, refl, sym, ap, ◌∙◌, inl, inr, arith}
use Rattle.std.specs.Prelude.{slice_set, slice_get, Option, Some, None}
use Rattle.std.specs.Option.{option_or}
use Rattle.std.proofs.lemmas.Option.{slice_get-get_or}
use Rattle.esa_model.specs.Apply.{Piece}
use Rattle.store_buffer.specs.Waiting.{Waiting, newest}
use Rattle.seen_memory.specs.Seen.{committed_at, first_snooped, NoneFrom}
use Rattle.seen_memory.specs.Draining.{Drained, Settled}
use Rattle.seen_memory.proofs.Groups.{no_pieces}
use Rattle.seen_memory.proofs.Steps.{now_at, at_set, at_beside, same_or}

none_snooped : (bs : List Waiting) (a : ℕ) → NoneFrom 0 bs → first_snooped bs a ≡ None
none_snooped [] a h = refl
none_snooped (b ∷ bs) a h =
    ap (λ (ps : List Piece). option_or (newest ps a) (first_snooped bs a)) (h 0 (omega arith))
    ∙ none_snooped bs a (λ j le. h (suc j) (omega arith))

pub first_taken : (n : ℕ) (bs : List Waiting) (a : ℕ) → NoneFrom n bs
    → first_snooped (take n bs) a ≡ first_snooped bs a
first_taken zero bs a h = sym (none_snooped bs a h)
first_taken (suc n) [] a h = refl
first_taken (suc n) (b ∷ bs) a h =
    ap (λ (o : Option ℕ). option_or (newest b.committed a) o)
    (first_taken n bs a (λ j le. h (suc j) (omega (arith, le))))

pub hold_unused : (bs : List Waiting) (i : ℕ) (d c : Waiting) → i < length bs
    → c.committed ≡ (get_or bs i d).committed → (n : ℕ) → NoneFrom n bs
    → NoneFrom n (slice_set bs i c)
hold_unused bs i d c h e n none j le =
    let is : slice_get bs i ≡ Some (get_or bs i d) = slice_get-get_or bs i d h in
    elim (same_or i j) [
      | inl f ↦ rw (← f, at_set bs i (get_or bs i d) c is, e, ← now_at bs i (get_or bs i d) is) (none i (omega (arith, le, f)))
      | inr f ↦ rw (at_beside bs i j c f) (none j le)
    ]

pub release_unused : (i n : ℕ) (bs cs ds es : List Waiting) (s t u : List ℕ) → Settled i n bs s cs t
    → length cs ≡ n → i < n
    → ((b : Waiting) → slice_get cs i ≡ Some b → ds ≡ slice_set cs i (record { committed = b.committed ++ b.held; held = [] }))
    → Drained i ds t es u → (m : ℕ) → i < m → NoneFrom m bs → NoneFrom m es
release_unused i n bs cs ds es s t u f len h gives g m below none j le =
    let d : Waiting = record { committed = []; held = [] } in
    let b : Waiting = get_or cs i d in
    let at : slice_get cs i ≡ Some b = slice_get-get_or cs i d (omega (arith, h, len)) in
    let other : i ≢ j = omega (arith, below, le) in
    let few = f.fewer j in
    let zero_long : length (committed_at bs j) ≡ 0 = ap length (none j le) in
    rw (g.beside j other, gives b at, at_beside cs i j (record { committed = b.committed ++ b.held; held = [] }) other)
    (no_pieces (committed_at cs j) (omega (arith, few, zero_long)))
