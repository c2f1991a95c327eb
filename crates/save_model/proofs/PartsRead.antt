-- The parts of a save are read as they were written.
use Rattle.std.proofs.Common.{◌≡◌, ℕ, ◌+◌, ◌*◌, List, [], ◌∷◌, ◌++◌, length, replicate, refl, sym, ap, ◌∙◌, arith}
use Rattle.save_model.specs.declared.parts.SaveHead.{SaveHead}
use Rattle.save_model.specs.declared.parts.SavedCpu.{SavedCpu}
use Rattle.save_model.specs.declared.parts.SavedCore.{SavedCore}
use Rattle.save_model.specs.Fields.{Field, AllFit, bytes_of_fields, widths, values, size, numbers, behind, many, behind_many}
use Rattle.save_model.specs.Parts.{word_fields, cpu_fields, cpus_fields, stored_fields, core_fields, cores_fields, key_fields, word_widths, cpu_widths, cpu_of, stored_widths, core_widths, core_of}
use Rattle.save_model.specs.Save.{CpusShaped, CoresShaped}
use Rattle.save_model.proofs.FieldsRead.{fields_flat, fields_behind, fields_read, fit_front, fit_behind, size_append}

-- ---- words

widths_of_words : (p m k : ℕ) (ws : List ℕ) → widths (word_fields p m k ws) ≡ replicate (length ws) 8
widths_of_words p m k [] = refl
widths_of_words p m k (w ∷ ws) = ap (λ z. 8 ∷ z) (widths_of_words p m (k + 1) ws)

pub values_of_words : (p m k : ℕ) (ws : List ℕ) → values (word_fields p m k ws) ≡ ws
values_of_words p m k [] = refl
values_of_words p m k (w ∷ ws) = ap (λ z. w ∷ z) (values_of_words p m (k + 1) ws)

size_of_words : (p m k : ℕ) (ws : List ℕ) → size (word_fields p m k ws) ≡ 8 * length ws
size_of_words p m k [] = refl
size_of_words p m k (w ∷ ws) = let e = size_of_words p m (k + 1) ws in omega (arith, e)

forty_words : (p m : ℕ) (ws : List ℕ) → length ws ≡ 40 → widths (word_fields p m 0 ws) ≡ word_widths
unfolding word_widths
forty_words p m ws e = widths_of_words p m 0 ws ∙ ap (λ n. replicate n 8) e

widths_of_stored : (k : ℕ) (ws : List ℕ) → widths (stored_fields k ws) ≡ replicate (length ws) 16
widths_of_stored k [] = refl
widths_of_stored k (w ∷ ws) = ap (λ z. 16 ∷ z) (widths_of_stored (k + 1) ws)

pub values_of_stored : (k : ℕ) (ws : List ℕ) → values (stored_fields k ws) ≡ ws
values_of_stored k [] = refl
values_of_stored k (w ∷ ws) = ap (λ z. w ∷ z) (values_of_stored (k + 1) ws)

size_of_stored : (k : ℕ) (ws : List ℕ) → size (stored_fields k ws) ≡ 16 * length ws
size_of_stored k [] = refl
size_of_stored k (w ∷ ws) = let e = size_of_stored (k + 1) ws in omega (arith, e)

forty_stored : (ws : List ℕ) → length ws ≡ 40 → widths (stored_fields 0 ws) ≡ stored_widths
unfolding stored_widths
forty_stored ws e = widths_of_stored 0 ws ∙ ap (λ n. replicate n 16) e

-- ---- a CPU

pub cpu_size : (h : SaveHead) (before : List SavedCpu) (c : SavedCpu) → length c.words ≡ 40 → size (cpu_fields h before c) ≡ 336
cpu_size h before c e = let s = size_of_words h.pages c.mode 0 c.words in omega (arith, s, e)

pub cpu_same : (h : SaveHead) (before : List SavedCpu) (c : SavedCpu) → length c.words ≡ 40 → widths (cpu_fields h before c) ≡ cpu_widths
cpu_same h before c e =
    ap (λ z. 1 ∷ 1 ∷ 1 ∷ 1 ∷ 1 ∷ 1 ∷ 1 ∷ 1 ∷ 1 ∷ 7 ∷ z) (forty_words h.pages c.mode c.words e)

cpu_behind : (h : SaveHead) (before : List SavedCpu) (c : SavedCpu) (rest : List ℕ) → length c.words ≡ 40
    → behind cpu_widths (bytes_of_fields (cpu_fields h before c) ++ rest) ≡ rest
cpu_behind h before c rest e =
    let fs : List Field = cpu_fields h before c in
    ap (λ ws. behind ws (bytes_of_fields fs ++ rest)) (sym (cpu_same h before c e)) ∙ fields_behind fs rest

cpu_read : (h : SaveHead) (before : List SavedCpu) (c : SavedCpu) (rest : List ℕ) → length c.words ≡ 40
    → AllFit (cpu_fields h before c) → cpu_of (numbers cpu_widths (bytes_of_fields (cpu_fields h before c) ++ rest)) ≡ c
cpu_read h before c rest e fit =
    let fs : List Field = cpu_fields h before c in
    let all : numbers cpu_widths (bytes_of_fields fs ++ rest) ≡ values fs =
    ap (λ ws. numbers ws (bytes_of_fields fs ++ rest)) (sym (cpu_same h before c e)) ∙ fields_read fs rest fit in
    ap cpu_of all ∙ ap (λ z. record c { words = z }) (values_of_words h.pages c.mode 0 c.words)

pub cpus_size : (h : SaveHead) (before cs : List SavedCpu) → CpusShaped cs → size (cpus_fields h before cs) ≡ 336 * length cs
cpus_size h before [] shaped = refl
cpus_size h before (c ∷ cs) shaped =
    let more = cpus_size h (before ++ c ∷ []) cs shaped.1 in
    let all = size_append (cpu_fields h before c) (cpus_fields h (before ++ c ∷ []) cs) in
    let one = cpu_size h before c shaped.0 in
    omega (arith, more, all, one)

pub cpus_read : (h : SaveHead) (before cs : List SavedCpu) (rest : List ℕ) → CpusShaped cs → AllFit (cpus_fields h before cs)
    → many cpu_of cpu_widths (length cs) (bytes_of_fields (cpus_fields h before cs) ++ rest) ≡ cs
cpus_read h before [] rest shaped fit = refl
cpus_read h before (c ∷ cs) rest shaped fit =
    let fs : List Field = cpu_fields h before c in
    let gs : List Field = cpus_fields h (before ++ c ∷ []) cs in
    let left : List ℕ = bytes_of_fields gs ++ rest in
    ap (λ z. cpu_of (numbers cpu_widths z) ∷ many cpu_of cpu_widths (length cs) (behind cpu_widths z)) (fields_flat fs gs rest)
    ∙ ap (λ z. z ∷ many cpu_of cpu_widths (length cs) (behind cpu_widths (bytes_of_fields fs ++ left))) (cpu_read h before c left shaped.0 (fit_front fs gs fit))
    ∙ ap (λ z. c ∷ many cpu_of cpu_widths (length cs) z) (cpu_behind h before c left shaped.0)
    ∙ ap (λ z. c ∷ z) (cpus_read h (before ++ c ∷ []) cs rest shaped.1 (fit_behind fs gs fit))

pub cpus_behind : (h : SaveHead) (before cs : List SavedCpu) (rest : List ℕ) → CpusShaped cs
    → behind_many cpu_widths (length cs) (bytes_of_fields (cpus_fields h before cs) ++ rest) ≡ rest
cpus_behind h before [] rest shaped = refl
cpus_behind h before (c ∷ cs) rest shaped =
    let fs : List Field = cpu_fields h before c in
    let gs : List Field = cpus_fields h (before ++ c ∷ []) cs in
    ap (λ z. behind_many cpu_widths (length cs) (behind cpu_widths z)) (fields_flat fs gs rest)
    ∙ ap (λ z. behind_many cpu_widths (length cs) z) (cpu_behind h before c (bytes_of_fields gs ++ rest) shaped.0)
    ∙ cpus_behind h (before ++ c ∷ []) cs rest shaped.1

-- ---- a core

pub core_size : (h : SaveHead) (cs : List SavedCpu) (k : ℕ) (c : SavedCore) → length c.stored ≡ 40 → size (core_fields h cs k c) ≡ 656
core_size h cs k c e = let s = size_of_stored 0 c.stored in omega (arith, s, e)

pub core_same : (h : SaveHead) (cs : List SavedCpu) (k : ℕ) (c : SavedCore) → length c.stored ≡ 40 → widths (core_fields h cs k c) ≡ core_widths
core_same h cs k c e = ap (λ z. 1 ∷ 7 ∷ 8 ∷ z) (forty_stored c.stored e)

core_behind : (h : SaveHead) (cs : List SavedCpu) (k : ℕ) (c : SavedCore) (rest : List ℕ) → length c.stored ≡ 40
    → behind core_widths (bytes_of_fields (core_fields h cs k c) ++ rest) ≡ rest
core_behind h cs k c rest e =
    let fs : List Field = core_fields h cs k c in
    ap (λ ws. behind ws (bytes_of_fields fs ++ rest)) (sym (core_same h cs k c e)) ∙ fields_behind fs rest

core_read : (h : SaveHead) (cs : List SavedCpu) (k : ℕ) (c : SavedCore) (rest : List ℕ) → length c.stored ≡ 40
    → AllFit (core_fields h cs k c) → core_of (numbers core_widths (bytes_of_fields (core_fields h cs k c) ++ rest)) ≡ c
core_read h cs k c rest e fit =
    let fs : List Field = core_fields h cs k c in
    let all : numbers core_widths (bytes_of_fields fs ++ rest) ≡ values fs =
    ap (λ ws. numbers ws (bytes_of_fields fs ++ rest)) (sym (core_same h cs k c e)) ∙ fields_read fs rest fit in
    ap core_of all ∙ ap (λ z. record c { stored = z }) (values_of_stored 0 c.stored)

pub cores_size : (h : SaveHead) (cs : List SavedCpu) (k : ℕ) (xs : List SavedCore) → CoresShaped xs → size (cores_fields h cs k xs) ≡ 656 * length xs
cores_size h cs k [] shaped = refl
cores_size h cs k (x ∷ xs) shaped =
    let more = cores_size h cs (k + 1) xs shaped.1 in
    let all = size_append (core_fields h cs k x) (cores_fields h cs (k + 1) xs) in
    let one = core_size h cs k x shaped.0 in
    omega (arith, more, all, one)

pub cores_read : (h : SaveHead) (cs : List SavedCpu) (k : ℕ) (xs : List SavedCore) (rest : List ℕ) → CoresShaped xs → AllFit (cores_fields h cs k xs)
    → many core_of core_widths (length xs) (bytes_of_fields (cores_fields h cs k xs) ++ rest) ≡ xs
cores_read h cs k [] rest shaped fit = refl
cores_read h cs k (x ∷ xs) rest shaped fit =
    let fs : List Field = core_fields h cs k x in
    let gs : List Field = cores_fields h cs (k + 1) xs in
    let left : List ℕ = bytes_of_fields gs ++ rest in
    ap (λ z. core_of (numbers core_widths z) ∷ many core_of core_widths (length xs) (behind core_widths z)) (fields_flat fs gs rest)
    ∙ ap (λ z. z ∷ many core_of core_widths (length xs) (behind core_widths (bytes_of_fields fs ++ left))) (core_read h cs k x left shaped.0 (fit_front fs gs fit))
    ∙ ap (λ z. x ∷ many core_of core_widths (length xs) z) (core_behind h cs k x left shaped.0)
    ∙ ap (λ z. x ∷ z) (cores_read h cs (k + 1) xs rest shaped.1 (fit_behind fs gs fit))

pub cores_behind : (h : SaveHead) (cs : List SavedCpu) (k : ℕ) (xs : List SavedCore) (rest : List ℕ) → CoresShaped xs
    → behind_many core_widths (length xs) (bytes_of_fields (cores_fields h cs k xs) ++ rest) ≡ rest
cores_behind h cs k [] rest shaped = refl
cores_behind h cs k (x ∷ xs) rest shaped =
    let fs : List Field = core_fields h cs k x in
    let gs : List Field = cores_fields h cs (k + 1) xs in
    ap (λ z. behind_many core_widths (length xs) (behind core_widths z)) (fields_flat fs gs rest)
    ∙ ap (λ z. behind_many core_widths (length xs) z) (core_behind h cs k x (bytes_of_fields gs ++ rest) shaped.0)
    ∙ cores_behind h cs (k + 1) xs rest shaped.1

-- ---- keys

pub key_widths : (ks : List ℕ) → widths (key_fields ks) ≡ replicate (length ks) 1
key_widths [] = refl
key_widths (k ∷ ks) = ap (λ z. 1 ∷ z) (key_widths ks)

pub key_values : (ks : List ℕ) → values (key_fields ks) ≡ ks
key_values [] = refl
key_values (k ∷ ks) = ap (λ z. k ∷ z) (key_values ks)

pub key_size : (ks : List ℕ) → size (key_fields ks) ≡ length ks
key_size [] = refl
key_size (k ∷ ks) = let e = key_size ks in omega (arith, e)

pub keys_read : (ks : List ℕ) (n : ℕ) (rest : List ℕ) → length ks ≡ n → AllFit (key_fields ks)
    → numbers (replicate n 1) (bytes_of_fields (key_fields ks) ++ rest) ≡ ks
keys_read ks n rest e fit =
    ap (λ ws. numbers ws (bytes_of_fields (key_fields ks) ++ rest)) (sym (key_widths ks ∙ ap (λ m. replicate m 1) e))
    ∙ fields_read (key_fields ks) rest fit
    ∙ key_values ks

pub keys_behind : (ks : List ℕ) (n : ℕ) (rest : List ℕ) → length ks ≡ n
    → behind (replicate n 1) (bytes_of_fields (key_fields ks) ++ rest) ≡ rest
keys_behind ks n rest e =
    ap (λ ws. behind ws (bytes_of_fields (key_fields ks) ++ rest)) (sym (key_widths ks ∙ ap (λ m. replicate m 1) e))
    ∙ fields_behind (key_fields ks) rest
