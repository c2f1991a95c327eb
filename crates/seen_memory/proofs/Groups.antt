-- Draining, settling and releasing over all buffers.
use Rattle.std.proofs.Common.{◌≡◌, ◌≢◌, ℕ, zero, suc, ◌+◌, ◌<◌, ◌≤◌, false, List, [], ◌∷◌, ◌++◌, length, get_or, refl, sym, ap, ◌∙◌, subst, inl, inr, arith}
use Rattle.std.specs.Prelude.{slice_set, slice_get, Some}
use Rattle.std.proofs.lemmas.Bool.{cases_lt}
use Rattle.std.proofs.lemmas.Option.{slice_get-get_or}
use Rattle.esa_model.specs.Apply.{Piece, stored_all}
use Rattle.store_buffer.specs.Waiting.{Waiting, clash}
use Rattle.seen_memory.proofs.Oldest.{stored_oldest, tail_of, OldestInside}
use Rattle.seen_memory.specs.Seen.{seen, committed_at, held_at, AllInside, Kept, Roomy}
use Rattle.seen_memory.specs.Draining.{Drained, Settled}
use Rattle.seen_memory.proofs.Steps.{now_at, held_now, at_set, held_set, at_beside, held_beside, same_or, oldest_inside, oldest_length, seen_after_drain, kept_after_drain, seen_after_release, kept_after_release}

pub now_of : (bs : List Waiting) (k : ℕ) (d : Waiting) → k < length bs → committed_at bs k ≡ (get_or bs k d).committed
now_of bs k d h = now_at bs k (get_or bs k d) (slice_get-get_or bs k d h)

pub held_of : (bs : List Waiting) (k : ℕ) (d : Waiting) → k < length bs → held_at bs k ≡ (get_or bs k d).held
held_of bs k d h = held_now bs k (get_or bs k d) (slice_get-get_or bs k d h)

made_of : (c : Waiting) (ps qs : List Piece) → c.committed ≡ ps → c.held ≡ qs → c ≡ record { committed = ps; held = qs }
made_of c ps qs e f =
    ap (λ (p : List Piece). record { committed = p; held = c.held }) e ∙ ap (λ (q : List Piece). record { committed = ps; held = q }) f

pub drain_ready : (bs : List Waiting) (k : ℕ) (s : List ℕ) (d : Waiting) → Kept bs s → k < length bs → OldestInside (length s) (get_or bs k d).committed
drain_ready bs k s d kept h =
    oldest_inside (length s) (get_or bs k d).committed (subst (AllInside (length s)) (now_of bs k d h) (kept.inside k))

drain_of : (bs : List Waiting) (k : ℕ) (s : List ℕ) (b : Waiting) → Kept bs s → slice_get bs k ≡ Some b
    → Drained k bs s (slice_set bs k (record { committed = tail_of b.committed; held = b.held })) (stored_oldest b.committed s)
drain_of bs k s b kept h =
    let c : Waiting = record { committed = tail_of b.committed; held = b.held } in
    record {
      kept = kept_after_drain bs k b s kept h;
      same = seen_after_drain bs k b s kept h;
      size = oldest_length b.committed s;
      held = λ j. elim (same_or k j) [
        | inl e ↦ rw (← e) (held_set bs k b c h ∙ sym (held_now bs k b h))
        | inr f ↦ held_beside bs k j c f
      ];
      beside = λ j ne. at_beside bs k j c ne;
    }

pub drain_step : (bs : List Waiting) (k : ℕ) (s t : List ℕ) (d c : Waiting) → Kept bs s → k < length bs
    → c.committed ≡ tail_of (get_or bs k d).committed → c.held ≡ (get_or bs k d).held → t ≡ stored_oldest (get_or bs k d).committed s
    → Drained k bs s (slice_set bs k c) t
drain_step bs k s t d c kept h e f g =
    let b : Waiting = get_or bs k d in
    let is : c ≡ record { committed = tail_of b.committed; held = b.held } = made_of c (tail_of b.committed) b.held e f in
    subst (λ (w : Waiting). Drained k bs s (slice_set bs k w) t) (sym is)
    (subst (λ (u : List ℕ). Drained k bs s (slice_set bs k (record { committed = tail_of b.committed; held = b.held })) u) (sym g)
    (drain_of bs k s b kept (slice_get-get_or bs k d h)))

pub drain_own : (bs : List Waiting) (k : ℕ) (d c : Waiting) → k < length bs → c.committed ≡ tail_of (get_or bs k d).committed
    → committed_at (slice_set bs k c) k ≡ tail_of (committed_at bs k)
drain_own bs k d c h e =
    at_set bs k (get_or bs k d) c (slice_get-get_or bs k d h) ∙ (e ∙ ap tail_of (sym (now_of bs k d h)))

pub drained_none : (k : ℕ) (bs : List Waiting) (s : List ℕ) → Kept bs s → Drained k bs s bs s
drained_none k bs s kept = record { kept = kept; same = refl; size = refl; held = λ j. refl; beside = λ j ne. refl }

pub drained_more : (k : ℕ) (bs cs ds : List Waiting) (s t u : List ℕ) → Drained k bs s cs t → Drained k cs t ds u → Drained k bs s ds u
drained_more k bs cs ds s t u f g = record {
  kept = g.kept;
  same = g.same ∙ f.same;
  size = g.size ∙ f.size;
  held = λ j. g.held j ∙ f.held j;
  beside = λ j ne. g.beside j ne ∙ f.beside j ne;
}

pub tail_shorter : (ps : List Piece) → 0 < length ps → length (tail_of ps) < length ps
tail_shorter [] h = absurd (omega (arith, h))
tail_shorter (p ∷ ps) h = omega arith

pub no_pieces : (ps : List Piece) → length ps ≤ 0 → ps ≡ []
no_pieces [] h = refl
no_pieces (p ∷ ps) h = absurd (omega (arith, h))

-- ---- settling

pub settled_none : (i : ℕ) (bs : List Waiting) (s : List ℕ) → Kept bs s → Settled i 0 bs s bs s
settled_none i bs s kept = record {
  kept = kept;
  same = refl;
  size = refl;
  held = λ j. refl;
  own = refl;
  fewer = λ j. omega arith;
  clear = λ j ne h. absurd (omega (arith, h));
}

pub settled_clear : (i k : ℕ) (bs cs : List Waiting) (s t : List ℕ) → Settled i k bs s cs t
    → (i ≢ k → clash (committed_at cs k) (held_at cs i) ≡ false) → Settled i (k + 1) bs s cs t
settled_clear i k bs cs s t f h = record {
  kept = f.kept;
  same = f.same;
  size = f.size;
  held = f.held;
  own = f.own;
  fewer = f.fewer;
  clear = λ j ne l. elim (same_or k j) [
    | inl e ↦ subst (λ (n : ℕ). clash (committed_at cs n) (held_at cs i) ≡ false) e (h (λ q. ne (q ∙ e)))
    | inr g ↦ f.clear j ne (omega (arith, l, g))
  ];
}

pub settled_drained : (i k : ℕ) (bs cs ds : List Waiting) (s t u : List ℕ) → Settled i k bs s cs t → Drained k cs t ds u → committed_at ds k ≡ [] → k ≢ i
    → Settled i (k + 1) bs s ds u
settled_drained i k bs cs ds s t u f g empty ne = record {
  kept = g.kept;
  same = g.same ∙ f.same;
  size = g.size ∙ f.size;
  held = λ j. g.held j ∙ f.held j;
  own = g.beside i ne ∙ f.own;
  fewer = λ j. elim (same_or k j) [
    | inl e ↦ rw (← e, empty) (omega arith)
    | inr o ↦ rw (g.beside j o) (f.fewer j)
  ];
  clear = λ j other l. elim (same_or k j) [
    | inl e ↦ rw (← e, empty) refl
    | inr o ↦ rw (g.beside j o, g.held i) (f.clear j other (omega (arith, l, o)))
  ];
}

past : (bs : List Waiting) (j : ℕ) → length bs ≤ j → committed_at bs j ≡ []
past [] j h = refl
past (b ∷ bs) zero h = absurd (omega (arith, h))
past (b ∷ bs) (suc j) h = past bs j (omega (arith, h))

clear_all : (i n : ℕ) (bs cs : List Waiting) (s t : List ℕ) → Settled i n bs s cs t → length cs ≡ n → (j : ℕ) → i ≢ j
    → clash (committed_at cs j) (held_at cs i) ≡ false
clear_all i n bs cs s t f len j ne =
    elim (cases_lt j n) [
      | inl l ↦ f.clear j ne l
      | inr l ↦ rw (past cs j (omega (arith, l, len))) refl
    ]

-- ---- releasing

pub release_step : (bs : List Waiting) (i : ℕ) (d c : Waiting) → i < length bs → c.committed ≡ (get_or bs i d).committed ++ (get_or bs i d).held → c.held ≡ []
    → (b : Waiting) → slice_get bs i ≡ Some b → slice_set bs i c ≡ slice_set bs i (record { committed = b.committed ++ b.held; held = [] })
release_step bs i d c h e f b is =
    let same : Some (get_or bs i d) ≡ Some b = sym (slice_get-get_or bs i d h) ∙ is in
    let own : get_or bs i d ≡ b = cc in
    ap (λ (w : Waiting). slice_set bs i w)
    (made_of c (b.committed ++ b.held) [] (e ∙ ap (λ (w : Waiting). w.committed ++ w.held) own) f)

-- what a release gives, where all others are clear
pub release_kept : (i n : ℕ) (bs cs ds : List Waiting) (s t : List ℕ) → Settled i n bs s cs t → length cs ≡ n → i < n
    → ((b : Waiting) → slice_get cs i ≡ Some b → ds ≡ slice_set cs i (record { committed = b.committed ++ b.held; held = [] }))
    → Kept ds t
release_kept i n bs cs ds s t f len h gives =
    let d : Waiting = record { committed = []; held = [] } in
    let b : Waiting = get_or cs i d in
    let at : slice_get cs i ≡ Some b = slice_get-get_or cs i d (omega (arith, h, len)) in
    rw (gives b at)
    (kept_after_release cs i b t f.kept at (λ j ne. subst (λ (qs : List Piece). clash (committed_at cs j) qs ≡ false) (held_now cs i b at) (clear_all i n bs cs s t f len j ne)))

pub release_none : (i n : ℕ) (bs cs ds : List Waiting) (s t : List ℕ) → Settled i n bs s cs t → length cs ≡ n → i < n
    → ((b : Waiting) → slice_get cs i ≡ Some b → ds ≡ slice_set cs i (record { committed = b.committed ++ b.held; held = [] }))
    → held_at ds i ≡ []
release_none i n bs cs ds s t f len h gives =
    let d : Waiting = record { committed = []; held = [] } in
    let b : Waiting = get_or cs i d in
    let at : slice_get cs i ≡ Some b = slice_get-get_or cs i d (omega (arith, h, len)) in
    rw (gives b at) (held_set cs i b (record { committed = b.committed ++ b.held; held = [] }) at)

pub release_seen : (i n : ℕ) (bs cs ds es : List Waiting) (s t u : List ℕ) → Settled i n bs s cs t → length cs ≡ n → i < n
    → ((b : Waiting) → slice_get cs i ≡ Some b → ds ≡ slice_set cs i (record { committed = b.committed ++ b.held; held = [] }))
    → Drained i ds t es u
    → seen es u ≡ stored_all (held_at bs i) (seen bs s)
release_seen i n bs cs ds es s t u f len h gives g =
    let d : Waiting = record { committed = []; held = [] } in
    let b : Waiting = get_or cs i d in
    let at : slice_get cs i ≡ Some b = slice_get-get_or cs i d (omega (arith, h, len)) in
    let clear : (j : ℕ) → i ≢ j → clash (committed_at cs j) b.held ≡ false =
    λ j ne. subst (λ (qs : List Piece). clash (committed_at cs j) qs ≡ false) (held_now cs i b at) (clear_all i n bs cs s t f len j ne) in
    let own : b.held ≡ held_at bs i = sym (held_now cs i b at) ∙ f.held i in
    g.same
    ∙ (ap (λ (ws : List Waiting). seen ws t) (gives b at)
    ∙ (seen_after_release cs i b t at clear
    ∙ (ap (λ (qs : List Piece). stored_all qs (seen cs t)) own
    ∙ ap (stored_all (held_at bs i)) f.same)))

pub release_room : (i n : ℕ) (bs cs ds es : List Waiting) (s t u : List ℕ) → Settled i n bs s cs t → length cs ≡ n → i < n
    → ((b : Waiting) → slice_get cs i ≡ Some b → ds ≡ slice_set cs i (record { committed = b.committed ++ b.held; held = [] }))
    → Drained i ds t es u → length (committed_at es i) ≤ 4 → Roomy bs → Roomy es
release_room i n bs cs ds es s t u f len h gives g room roomy j =
    let d : Waiting = record { committed = []; held = [] } in
    let b : Waiting = get_or cs i d in
    let at : slice_get cs i ≡ Some b = slice_get-get_or cs i d (omega (arith, h, len)) in
    elim (same_or i j) [
      | inl e ↦ rw (← e) room
      | inr o ↦
          let few = f.fewer j in
          let most = roomy j in
          rw (g.beside j o, gives b at, at_beside cs i j (record { committed = b.committed ++ b.held; held = [] }) o) (omega (arith, few, most))
    ]

-- a buffer that was read
pub now_read : (bs : List Waiting) (k : ℕ) (d : Waiting) → k < length bs → d ≡ get_or bs k d → committed_at bs k ≡ d.committed
now_read bs k d h is = now_of bs k d h ∙ ap (λ (w : Waiting). w.committed) (sym is)

pub held_read : (bs : List Waiting) (k : ℕ) (d : Waiting) → k < length bs → d ≡ get_or bs k d → held_at bs k ≡ d.held
held_read bs k d h is = held_of bs k d h ∙ ap (λ (w : Waiting). w.held) (sym is)
