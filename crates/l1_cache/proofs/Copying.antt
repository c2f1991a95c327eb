-- One byte more of a line is copied.
use Rattle.std.proofs.Common.{◌≡◌, ℕ, ◌+◌, ◌*◌, ◌/◌, ◌%◌, ◌<◌, List, length, get_or, refl, sym, ap, ◌∙◌, inl, inr, arith}
use Rattle.std.specs.Prelude.{slice_set, slice_get, Some}
use Rattle.std.proofs.lemmas.List.{length-set}
use Rattle.std.proofs.lemmas.Option.{slice_get-get_or}
use Rattle.l1_cache.specs.Filling.{Filling}
use Rattle.l1_cache.proofs.Places.{get_same, get_other, same_or}

pub nothing_copied : (n : ℕ) (s bytes : List ℕ) → Filling 0 n s bytes bytes
nothing_copied n s bytes = record {
  copied = λ j h. absurd (omega (arith, h));
  others = λ j h. refl;
  size = refl;
}

place_of_byte : (p k : ℕ) → k < 256 → (p * 256 + k) / 256 ≡ p
place_of_byte p k h = omega (arith, h)

pub one_more_copied : (k n : ℕ) (s before bytes after : List ℕ) → Filling k n s before bytes
    → k < 256 → n % 64 * 256 + k < length bytes → n * 256 + k < length s
    → ((b : ℕ) → slice_get s (n * 256 + k) ≡ Some b → after ≡ slice_set bytes (n % 64 * 256 + k) b)
    → Filling (k + 1) n s before after
one_more_copied k n s before bytes after f h room inside gives =
    let place : ℕ = n % 64 * 256 + k in
    let b : ℕ = get_or s (n * 256 + k) 0 in
    let is : slice_get s (n * 256 + k) ≡ Some b = slice_get-get_or s (n * 256 + k) 0 inside in
    let e : after ≡ slice_set bytes place b = gives b is in
    record {
      copied = λ j l. elim (same_or k j) [
        | inl q ↦ rw (e, ← q) (get_same bytes place b room ∙ sym is)
        | inr q ↦ rw e (get_other bytes place (n % 64 * 256 + j) b (omega (arith, q)) ∙ f.copied j (omega (arith, l, q)))
      ];
      others = λ j ne. rw e (get_other bytes place j b (λ q. ne (ap (λ (i : ℕ). i / 256) (sym q) ∙ place_of_byte (n % 64) k h)) ∙ f.others j ne);
      size = rw e (length-set bytes place b ∙ f.size);
    }
