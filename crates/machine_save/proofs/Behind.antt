-- So many bytes of a list, one after another, behind what was there.
use Rattle.std.proofs.Common.{◌≡◌, ℕ, ◌+◌, ◌≤◌, List, [], ◌∷◌, ◌++◌, length, refl, sym, ap, ◌∙◌, append_assoc, append-nil, arith}
use Rattle.std.specs.List.{flat_map}
use Rattle.std.proofs.lemmas.Grind.{flat_map-append}
use Rattle.std.proofs.lemmas.List.FromFn.{map-range_with_len_more}
use Rattle.byteorder.specs.Endian.{big_bytes}
use Rattle.saved_machine.specs.Saved.{byte_at, first_bytes}

-- the bytes p, which are n, stand behind a in b
pub record Behind (a p b : List ℕ) (room now n : ℕ) : Type 0 where
  pub items : b ≡ a ++ p
  pub capacity : room ≤ now
  pub long : length b ≡ length a + n

abbrev pub keys_to : List ℕ → ℕ → List ℕ
keys_to keys n = flat_map (λ k. big_bytes 1 k) (first_bytes keys n)

first_more : (bytes : List ℕ) (n : ℕ)
    → first_bytes bytes (n + 1) ≡ first_bytes bytes n ++ byte_at bytes n ∷ []
unfolding first_bytes
first_more bytes n = map-range_with_len_more (byte_at bytes) 0 n n (omega arith)

no_bytes : (bytes : List ℕ) → [] ≡ first_bytes bytes 0
unfolding first_bytes
no_bytes bytes = refl

key_more : (keys : List ℕ) (n : ℕ)
    → keys_to keys (n + 1) ≡ keys_to keys n ++ big_bytes 1 (byte_at keys n)
key_more keys n =
    ap (flat_map (λ k. big_bytes 1 k)) (first_more keys n)
    ∙ flat_map-append (λ k. big_bytes 1 k) (first_bytes keys n) (byte_at keys n ∷ [])
    ∙ ap (λ z. keys_to keys n ++ z) (append-nil (big_bytes 1 (byte_at keys n)))

next : (a p q x b c : List ℕ) (room now new n : ℕ) → q ≡ p ++ x → Behind a p b room now n
    → c ≡ b ++ x → now ≤ new → length c ≡ length b + 1 → Behind a q c room new (n + 1)
next a p q x b c room now new n is so grew more long = record {
  items = grew ∙ ap (λ z. z ++ x) so.items ∙ append_assoc a p x ∙ ap (λ z. a ++ z) (sym is);
  capacity = omega (arith, so.capacity, more);
  long = omega (arith, so.long, long);
}

pub keys_start : (keys a : List ℕ) (room : ℕ) → Behind a (keys_to keys 0) a room room 0
keys_start keys a room = record {
  items = sym (append-nil a) ∙ ap (λ z. a ++ flat_map (λ k. big_bytes 1 k) z) (no_bytes keys);
  capacity = omega arith;
  long = omega arith;
}

pub keys_next : (keys a b c : List ℕ) (room now new n key : ℕ) → Behind a (keys_to keys n) b room now n
    → key ≡ byte_at keys n → c ≡ b ++ big_bytes 1 key → now ≤ new → length c ≡ length b + 1
    → Behind a (keys_to keys (n + 1)) c room new (n + 1)
keys_next keys a b c room now new n key so is grew more long =
    next a (keys_to keys n) (keys_to keys (n + 1)) (big_bytes 1 (byte_at keys n)) b c room now new n
    (key_more keys n) so (grew ∙ ap (λ k. b ++ big_bytes 1 k) is) more long

pub bytes_start : (bytes a : List ℕ) (room : ℕ) → Behind a (first_bytes bytes 0) a room room 0
bytes_start bytes a room = record {
  items = sym (append-nil a) ∙ ap (λ z. a ++ z) (no_bytes bytes);
  capacity = omega arith;
  long = omega arith;
}

pub bytes_next : (bytes a b c : List ℕ) (room now new n byte : ℕ)
    → Behind a (first_bytes bytes n) b room now n
    → byte ≡ byte_at bytes n → c ≡ b ++ byte ∷ [] → now ≤ new → length c ≡ length b + 1
    → Behind a (first_bytes bytes (n + 1)) c room new (n + 1)
bytes_next bytes a b c room now new n byte so is grew more long =
    next a (first_bytes bytes n) (first_bytes bytes (n + 1)) (byte_at bytes n ∷ []) b c room now new n
    (first_more bytes n) so (grew ∙ ap (λ k. b ++ k ∷ []) is) more long
