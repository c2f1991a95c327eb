-- Holding and dropping leave what is seen.
use Rattle.std.proofs.Common.{◌≡◌, ℕ, ◌+◌, ◌<◌, ◌≤◌, List, [], ◌∷◌, ◌++◌, length, get_or, sym, ap, ◌∙◌, subst, inl, inr}
use Rattle.std.specs.Prelude.{slice_set, slice_get, Some}
use Rattle.std.proofs.lemmas.Option.{slice_get-get_or}
use Rattle.esa_model.specs.Apply.{Piece}
use Rattle.store_buffer.specs.Waiting.{Waiting}
use Rattle.seen_memory.specs.Seen.{seen, held_at, AllInside, Kept, Roomy}
use Rattle.seen_memory.proofs.Steps.{now_at, held_now, at_set, held_set, at_beside, same_or, seen_after_hold, kept_after_hold, inside_append}

pub hold_kept : (bs : List Waiting) (s : List ℕ) (i at : ℕ) (bytes : List ℕ) (d c : Waiting) → Kept bs s → i < length bs
    → at + length bytes ≤ length s → c.committed ≡ (get_or bs i d).committed → c.held ≡ (get_or bs i d).held ++ (record { at = at; bytes = bytes } ∷ [])
    → Kept (slice_set bs i c) s
hold_kept bs s i at bytes d c kept h inside e f =
    let b : Waiting = get_or bs i d in
    let is : slice_get bs i ≡ Some b = slice_get-get_or bs i d h in
    kept_after_hold bs i b c s kept is e
    (subst (AllInside (length s)) (sym f)
    (inside_append (length s) b.held (record { at = at; bytes = bytes } ∷ []) (subst (AllInside (length s)) (held_now bs i b is) (kept.held_inside i)) (inside, tt)))

pub drop_kept : (bs : List Waiting) (s : List ℕ) (i : ℕ) (d c : Waiting) → Kept bs s → i < length bs
    → c.committed ≡ (get_or bs i d).committed → c.held ≡ [] → Kept (slice_set bs i c) s
drop_kept bs s i d c kept h e f =
    kept_after_hold bs i (get_or bs i d) c s kept (slice_get-get_or bs i d h) e (subst (AllInside (length s)) (sym f) tt)

pub hold_seen : (bs : List Waiting) (s : List ℕ) (i : ℕ) (d c : Waiting) → i < length bs → c.committed ≡ (get_or bs i d).committed
    → seen (slice_set bs i c) s ≡ seen bs s
hold_seen bs s i d c h e = seen_after_hold bs i (get_or bs i d) c s (slice_get-get_or bs i d h) e

pub hold_room : (bs : List Waiting) (i : ℕ) (d c : Waiting) → i < length bs → c.committed ≡ (get_or bs i d).committed → Roomy bs → Roomy (slice_set bs i c)
hold_room bs i d c h e roomy j =
    let is : slice_get bs i ≡ Some (get_or bs i d) = slice_get-get_or bs i d h in
    elim (same_or i j) [
      | inl f ↦ rw (← f, at_set bs i (get_or bs i d) c is, e, ← now_at bs i (get_or bs i d) is) (roomy i)
      | inr f ↦ rw (at_beside bs i j c f) (roomy j)
    ]

pub hold_held : (bs : List Waiting) (i : ℕ) (d c : Waiting) (ps : List Piece) → i < length bs → c.held ≡ (get_or bs i d).held ++ ps
    → held_at (slice_set bs i c) i ≡ held_at bs i ++ ps
hold_held bs i d c ps h f =
    let is : slice_get bs i ≡ Some (get_or bs i d) = slice_get-get_or bs i d h in
    held_set bs i (get_or bs i d) c is ∙ (f ∙ ap (λ (qs : List Piece). qs ++ ps) (sym (held_now bs i (get_or bs i d) is)))

pub drop_held : (bs : List Waiting) (i : ℕ) (d c : Waiting) → i < length bs → c.held ≡ [] → held_at (slice_set bs i c) i ≡ []
drop_held bs i d c h f = held_set bs i (get_or bs i d) c (slice_get-get_or bs i d h) ∙ f
