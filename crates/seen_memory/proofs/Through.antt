-- A byte that is seen is the one of the first buffer that has it committed, else the storage's.
use Rattle.std.proofs.Common.{◌≡◌, ℕ, ◌<◌, ◌≤◌, List, [], ◌∷◌, length, sym, ap, refl, ◌∙◌, arith}
use Rattle.std.specs.Prelude.{slice_get, Option, Some, None}
use Rattle.std.specs.Option.{option_or}
use Rattle.std.proofs.lemmas.Option.{slice_get_past}
use Rattle.esa_model.specs.Apply.{Piece, stored_all}
use Rattle.store_buffer.specs.Waiting.{Waiting, byte_of, newest}
use Rattle.store_buffer.proofs.Newest.{or_assoc}
use Rattle.store_buffer.proofs.Shown.{put_length, put_get}
use Rattle.seen_memory.specs.Seen.{seen, first_snooped}
use Rattle.seen_memory.proofs.Order.{put}

pub stored_length : (ps : List Piece) (s : List ℕ) → length (stored_all ps s) ≡ length s
stored_length [] s = refl
stored_length (p ∷ ps) s = stored_length ps (put p s) ∙ put_length p.at p.bytes s

pub seen_length : (bs : List Waiting) (s : List ℕ) → length (seen bs s) ≡ length s
seen_length [] s = refl
seen_length (b ∷ bs) s = stored_length b.committed (seen bs s) ∙ seen_length bs s

newest_get : (ps : List Piece) (s : List ℕ) (a : ℕ) → a < length s
    → slice_get (stored_all ps s) a ≡ option_or (newest ps a) (slice_get s a)
newest_get [] s a h = refl
newest_get (p ∷ ps) s a h =
    let l = put_length p.at p.bytes s in
    newest_get ps (put p s) a (omega (arith, l, h))
    ∙ ap (λ (o : Option ℕ). option_or (newest ps a) o) (put_get p.at a p.bytes s h)
    ∙ sym (or_assoc (newest ps a) (byte_of p a) (slice_get s a))

pub seen_get : (bs : List Waiting) (s : List ℕ) (a : ℕ) → a < length s
    → slice_get (seen bs s) a ≡ option_or (first_snooped bs a) (slice_get s a)
seen_get [] s a h = refl
seen_get (b ∷ bs) s a h =
    let l = seen_length bs s in
    newest_get b.committed (seen bs s) a (omega (arith, l, h))
    ∙ ap (λ (o : Option ℕ). option_or (newest b.committed a) o) (seen_get bs s a h)
    ∙ sym (or_assoc (newest b.committed a) (first_snooped bs a) (slice_get s a))

pub seen_hit : (bs : List Waiting) (s : List ℕ) (a b : ℕ) → first_snooped bs a ≡ Some b
    → a < length s → Some b ≡ slice_get (seen bs s) a
seen_hit bs s a b h l =
    sym (seen_get bs s a l ∙ ap (λ (o : Option ℕ). option_or o (slice_get s a)) h)

pub seen_miss : (bs : List Waiting) (s : List ℕ) (a : ℕ) → first_snooped bs a ≡ None
    → a < length s → slice_get s a ≡ slice_get (seen bs s) a
seen_miss bs s a h l =
    sym (seen_get bs s a l ∙ ap (λ (o : Option ℕ). option_or o (slice_get s a)) h)

pub seen_past : (bs : List Waiting) (s : List ℕ) (a : ℕ) → length s ≤ a
    → None ≡ slice_get (seen bs s) a
seen_past bs s a h =
    let e = seen_length bs s in sym (slice_get_past (seen bs s) a (omega (arith, e, h)))
