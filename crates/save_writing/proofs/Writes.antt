-- What is written are the bytes of the format.
use Rattle.std.proofs.Common.{◌≡◌, ℕ, ◌+◌, List, [], ◌∷◌, ◌++◌, refl, sym, ap, ◌∙◌, append_assoc, append-nil}
use Rattle.std.specs.List.{flat_map}
use Rattle.byteorder.specs.Endian.{big_bytes}
use Rattle.save_model.specs.declared.parts.SaveHead.{SaveHead}
use Rattle.save_model.specs.declared.parts.SavedNumbers.{SavedNumbers}
use Rattle.save_model.specs.declared.parts.SavedCpu.{SavedCpu}
use Rattle.save_model.specs.declared.parts.SavedCore.{SavedCore}
use Rattle.save_model.specs.Fields.{Field, bytes_of_fields}
use Rattle.save_model.specs.Parts.{head_fields, number_fields, word_fields, cpu_fields, cpus_fields, stored_fields, core_fields, cores_fields, key_fields}
use Rattle.save_model.specs.Save.{Save, magic, bytes_of}
use Rattle.save_model.proofs.FieldsRead.{fields_flat}
use Rattle.save_model.proofs.SaveRead.{parts_flat}
use Rattle.save_writing.specs.Written.{front_of, cpu_written, core_written}

-- ---- numbers

words_bytes : (p m k : ℕ) (ws : List ℕ) → flat_map (λ n. big_bytes 8 n) ws ≡ bytes_of_fields (word_fields p m k ws)
words_bytes p m k [] = refl
words_bytes p m k (w ∷ ws) = ap (λ z. big_bytes 8 w ++ z) (words_bytes p m (k + 1) ws)

stored_bytes : (k : ℕ) (ws : List ℕ) → flat_map (λ n. big_bytes 16 n) ws ≡ bytes_of_fields (stored_fields k ws)
stored_bytes k [] = refl
stored_bytes k (w ∷ ws) = ap (λ z. big_bytes 16 w ++ z) (stored_bytes (k + 1) ws)

keys_bytes : (ks : List ℕ) → flat_map (λ n. big_bytes 1 n) ks ≡ bytes_of_fields (key_fields ks)
keys_bytes [] = refl
keys_bytes (k ∷ ks) = ap (λ z. big_bytes 1 k ++ z) (keys_bytes ks)

-- ---- parts

cpu_bytes : (h : SaveHead) (before : List SavedCpu) (c : SavedCpu) → cpu_written c ≡ bytes_of_fields (cpu_fields h before c)
cpu_bytes h before c =
    ap (λ z. flat_map (λ n. big_bytes 1 n)
    (c.mode ∷ c.core ∷ c.retries ∷ c.state ∷ c.restart ∷ c.key ∷ c.malfunction ∷ c.emergency ∷ c.external_call ∷ [])
    ++ (big_bytes 7 c.zeros ++ z)) (words_bytes h.pages c.mode 0 c.words)

core_bytes : (h : SaveHead) (cs : List SavedCpu) (k : ℕ) (c : SavedCore) → core_written c ≡ bytes_of_fields (core_fields h cs k c)
core_bytes h cs k c =
    ap (λ z. flat_map (λ n. big_bytes 1 n) (c.place ∷ [])
    ++ (big_bytes 7 c.zeros ++ (flat_map (λ n. big_bytes 8 n) (c.begun ∷ []) ++ z))) (stored_bytes 0 c.stored)

two_lists : (fs gs : List Field) → bytes_of_fields (fs ++ gs) ≡ bytes_of_fields fs ++ bytes_of_fields gs
two_lists fs gs =
    sym (append-nil (bytes_of_fields (fs ++ gs)))
    ∙ fields_flat fs gs []
    ∙ ap (λ z. bytes_of_fields fs ++ z) (append-nil (bytes_of_fields gs))

pub cpus_bytes : (h : SaveHead) (before cs : List SavedCpu) → flat_map cpu_written cs ≡ bytes_of_fields (cpus_fields h before cs)
cpus_bytes h before [] = refl
cpus_bytes h before (c ∷ cs) =
    let more : List Field = cpus_fields h (before ++ c ∷ []) cs in
    ap (λ z. z ++ flat_map cpu_written cs) (cpu_bytes h before c)
    ∙ ap (λ z. bytes_of_fields (cpu_fields h before c) ++ z) (cpus_bytes h (before ++ c ∷ []) cs)
    ∙ sym (two_lists (cpu_fields h before c) more)

pub cores_bytes : (h : SaveHead) (cs : List SavedCpu) (k : ℕ) (xs : List SavedCore) → flat_map core_written xs ≡ bytes_of_fields (cores_fields h cs k xs)
cores_bytes h cs k [] = refl
cores_bytes h cs k (x ∷ xs) =
    let more : List Field = cores_fields h cs (k + 1) xs in
    ap (λ z. z ++ flat_map core_written xs) (core_bytes h cs k x)
    ∙ ap (λ z. bytes_of_fields (core_fields h cs k x) ++ z) (cores_bytes h cs (k + 1) xs)
    ∙ sym (two_lists (core_fields h cs k x) more)

-- ---- the whole

-- one behind another
then : (x y z b c : List ℕ) → y ≡ x ++ b → z ≡ y ++ c → z ≡ x ++ (b ++ c)
then x y z b c e f = f ∙ ap (λ w. w ++ c) e ∙ append_assoc x b c

pub front_written : (h : SaveHead) (n : SavedNumbers) (cs : List SavedCpu) (ks : List SavedCore) (a0 a1 a2 a3 a4 a5 : List ℕ)
    → a1 ≡ a0 ++ magic → a2 ≡ a1 ++ bytes_of_fields (head_fields h) → a3 ≡ a2 ++ bytes_of_fields (number_fields n)
    → a4 ≡ a3 ++ flat_map cpu_written cs → a5 ≡ a4 ++ flat_map core_written ks → a5 ≡ a0 ++ front_of h n cs ks
unfolding front_of
front_written h n cs ks a0 a1 a2 a3 a4 a5 e1 e2 e3 e4 e5 =
    let b2 : List ℕ = bytes_of_fields (head_fields h) in
    let b3 : List ℕ = bytes_of_fields (number_fields n) in
    let b4 : List ℕ = bytes_of_fields (cpus_fields h [] cs) in
    let b5 : List ℕ = bytes_of_fields (cores_fields h cs 0 ks) in
    let f4 : a4 ≡ a3 ++ b4 = e4 ∙ ap (λ z. a3 ++ z) (cpus_bytes h [] cs) in
    let f5 : a5 ≡ a4 ++ b5 = e5 ∙ ap (λ z. a4 ++ z) (cores_bytes h cs 0 ks) in
    then a0 a1 a5 magic (b2 ++ (b3 ++ (b4 ++ b5))) e1
    (then a1 a2 a5 b2 (b3 ++ (b4 ++ b5)) e2 (then a2 a3 a5 b3 (b4 ++ b5) e3 (then a3 a4 a5 b4 b5 f4 f5)))

-- keys and storage behind the front
pub save_bytes : (s : Save) → front_of s.head s.numbers s.cpus s.cores ++ (flat_map (λ n. big_bytes 1 n) s.keys ++ s.storage) ≡ bytes_of s
unfolding front_of bytes_of
save_bytes s =
    let b2 : List ℕ = bytes_of_fields (head_fields s.head) in
    let b3 : List ℕ = bytes_of_fields (number_fields s.numbers) in
    let b4 : List ℕ = bytes_of_fields (cpus_fields s.head [] s.cpus) in
    let b5 : List ℕ = bytes_of_fields (cores_fields s.head s.cpus 0 s.cores) in
    let b6 : List ℕ = bytes_of_fields (key_fields s.keys) in
    let rest : List ℕ = b6 ++ s.storage in
    ap (λ z. (magic ++ (b2 ++ (b3 ++ (b4 ++ b5)))) ++ (z ++ s.storage)) (keys_bytes s.keys)
    ∙ append_assoc magic (b2 ++ (b3 ++ (b4 ++ b5))) rest
    ∙ ap (λ z. magic ++ z) (append_assoc b2 (b3 ++ (b4 ++ b5)) rest)
    ∙ ap (λ z. magic ++ (b2 ++ z)) (append_assoc b3 (b4 ++ b5) rest)
    ∙ ap (λ z. magic ++ (b2 ++ (b3 ++ z))) (append_assoc b4 b5 rest)
    ∙ sym (ap (λ z. magic ++ (b2 ++ z)) (parts_flat s))

pub save_written : (s : Save) (a0 a1 a2 a3 : List ℕ) → a0 ≡ [] → a1 ≡ a0 ++ front_of s.head s.numbers s.cpus s.cores
    → a2 ≡ a1 ++ flat_map (λ n. big_bytes 1 n) s.keys → a3 ≡ a2 ++ s.storage → a3 ≡ bytes_of s
save_written s a0 a1 a2 a3 e0 e1 e2 e3 =
    let front : List ℕ = front_of s.head s.numbers s.cpus s.cores in
    let keys : List ℕ = flat_map (λ n. big_bytes 1 n) s.keys in
    then a0 a1 a3 front (keys ++ s.storage) e1 (then a1 a2 a3 keys s.storage e2 e3)
    ∙ ap (λ z. z ++ (front ++ (keys ++ s.storage))) e0
    ∙ save_bytes s
