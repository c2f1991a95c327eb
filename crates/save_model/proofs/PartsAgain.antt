-- The parts of a save that bytes are read as are written as they stood.
use Rattle.std.proofs.Common.{◌≡◌, ℕ, zero, suc, ◌+◌, ◌*◌, ◌≤◌, List, [], ◌∷◌, ◌++◌, length, replicate, refl, ap, ◌∙◌, arith}
use Rattle.std.proofs.lemmas.List.{length-replicate}
use Rattle.save_model.specs.declared.parts.SaveHead.{SaveHead}
use Rattle.save_model.specs.declared.parts.SavedCpu.{SavedCpu}
use Rattle.save_model.specs.declared.parts.SavedCore.{SavedCore}
use Rattle.save_model.specs.Fields.{AreBytes, values, numbers, behind, many, behind_many}
use Rattle.save_model.specs.Parts.{cpu_fields, cpus_fields, core_fields, cores_fields, key_fields, word_widths, cpu_widths, cpu_of, stored_widths, core_widths, core_of}
use Rattle.save_model.specs.Save.{CpusShaped, CoresShaped}
use Rattle.save_model.proofs.FieldsAgain.{Stood, stood, stood_both, stood_none, total, numbers_long, behind_long, behind_bytes}
use Rattle.save_model.proofs.PartsRead.{values_of_words, values_of_stored, cpu_size, cpu_same, core_size, core_same, key_widths, key_values, key_size}

-- ---- a CPU

forty_widths : length word_widths ≡ 40
unfolding word_widths
forty_widths = refl

pub cpu_total : total cpu_widths ≡ 336
unfolding word_widths
cpu_total = refl

pub cpu_long : (bs : List ℕ) → length (cpu_of (numbers cpu_widths bs)).words ≡ 40
cpu_long bs = numbers_long word_widths _ ∙ forty_widths

cpu_stood : (h : SaveHead) (before : List SavedCpu) (bs : List ℕ) → 336 ≤ length bs → AreBytes bs
    → Stood (cpu_fields h before (cpu_of (numbers cpu_widths bs))) bs (behind cpu_widths bs)
cpu_stood h before bs room b =
    let c : SavedCpu = cpu_of (numbers cpu_widths bs) in
    let long = cpu_long bs in
    let wide = cpu_size h before c long in
    let held : values (cpu_fields h before c) ≡ numbers cpu_widths bs =
    ap (λ z. c.mode ∷ c.core ∷ c.retries ∷ c.state ∷ c.restart ∷ c.key ∷ c.malfunction ∷ c.emergency ∷ c.external_call ∷ c.zeros ∷ z)
    (values_of_words h.pages c.mode 0 c.words) in
    stood (cpu_fields h before c) cpu_widths bs (cpu_same h before c long) held (omega (arith, wide, room)) b

behind_cpu : (bs : List ℕ) → 336 ≤ length bs → length (behind cpu_widths bs) + 336 ≡ length bs
behind_cpu bs room =
    let all = cpu_total in
    let e = behind_long cpu_widths bs (omega (arith, all, room)) in
    omega (arith, e, all)

pub cpus_stood : (h : SaveHead) (before : List SavedCpu) (n : ℕ) (bs : List ℕ) → 336 * n ≤ length bs → AreBytes bs
    → Stood (cpus_fields h before (many cpu_of cpu_widths n bs)) bs (behind_many cpu_widths n bs)
cpus_stood h before zero bs room b = stood_none bs
cpus_stood h before (suc n) bs room b =
    let c : SavedCpu = cpu_of (numbers cpu_widths bs) in
    let rest : List ℕ = behind cpu_widths bs in
    let more : List SavedCpu = before ++ c ∷ [] in
    let left = behind_cpu bs (omega (arith, room)) in
    stood_both (cpu_fields h before c) (cpus_fields h more (many cpu_of cpu_widths n rest)) bs rest (behind_many cpu_widths n rest)
    (cpu_stood h before bs (omega (arith, room)) b)
    (cpus_stood h more n rest (omega (arith, room, left)) (behind_bytes cpu_widths bs b))

pub cpus_long : (n : ℕ) (bs : List ℕ) → 336 * n ≤ length bs → length (behind_many cpu_widths n bs) + 336 * n ≡ length bs
cpus_long zero bs room = omega arith
cpus_long (suc n) bs room =
    let left = behind_cpu bs (omega (arith, room)) in
    let e = cpus_long n (behind cpu_widths bs) (omega (arith, room, left)) in
    omega (arith, e, left)

pub cpus_shaped : (n : ℕ) (bs : List ℕ) → CpusShaped (many cpu_of cpu_widths n bs)
cpus_shaped zero bs = tt
cpus_shaped (suc n) bs = (cpu_long bs, cpus_shaped n (behind cpu_widths bs))

-- ---- a core

forty_stored_widths : length stored_widths ≡ 40
unfolding stored_widths
forty_stored_widths = refl

pub core_total : total core_widths ≡ 656
unfolding stored_widths
core_total = refl

pub core_long : (bs : List ℕ) → length (core_of (numbers core_widths bs)).stored ≡ 40
core_long bs = numbers_long stored_widths _ ∙ forty_stored_widths

core_stood : (h : SaveHead) (cs : List SavedCpu) (k : ℕ) (bs : List ℕ) → 656 ≤ length bs → AreBytes bs
    → Stood (core_fields h cs k (core_of (numbers core_widths bs))) bs (behind core_widths bs)
core_stood h cs k bs room b =
    let c : SavedCore = core_of (numbers core_widths bs) in
    let long = core_long bs in
    let wide = core_size h cs k c long in
    let held : values (core_fields h cs k c) ≡ numbers core_widths bs =
    ap (λ z. c.place ∷ c.zeros ∷ c.begun ∷ z) (values_of_stored 0 c.stored) in
    stood (core_fields h cs k c) core_widths bs (core_same h cs k c long) held (omega (arith, wide, room)) b

behind_core : (bs : List ℕ) → 656 ≤ length bs → length (behind core_widths bs) + 656 ≡ length bs
behind_core bs room =
    let all = core_total in
    let e = behind_long core_widths bs (omega (arith, all, room)) in
    omega (arith, e, all)

pub cores_stood : (h : SaveHead) (cs : List SavedCpu) (k n : ℕ) (bs : List ℕ) → 656 * n ≤ length bs → AreBytes bs
    → Stood (cores_fields h cs k (many core_of core_widths n bs)) bs (behind_many core_widths n bs)
cores_stood h cs k zero bs room b = stood_none bs
cores_stood h cs k (suc n) bs room b =
    let c : SavedCore = core_of (numbers core_widths bs) in
    let rest : List ℕ = behind core_widths bs in
    let left = behind_core bs (omega (arith, room)) in
    stood_both (core_fields h cs k c) (cores_fields h cs (k + 1) (many core_of core_widths n rest)) bs rest (behind_many core_widths n rest)
    (core_stood h cs k bs (omega (arith, room)) b)
    (cores_stood h cs (k + 1) n rest (omega (arith, room, left)) (behind_bytes core_widths bs b))

pub cores_long : (n : ℕ) (bs : List ℕ) → 656 * n ≤ length bs → length (behind_many core_widths n bs) + 656 * n ≡ length bs
cores_long zero bs room = omega arith
cores_long (suc n) bs room =
    let left = behind_core bs (omega (arith, room)) in
    let e = cores_long n (behind core_widths bs) (omega (arith, room, left)) in
    omega (arith, e, left)

pub cores_shaped : (n : ℕ) (bs : List ℕ) → CoresShaped (many core_of core_widths n bs)
cores_shaped zero bs = tt
cores_shaped (suc n) bs = (core_long bs, cores_shaped n (behind core_widths bs))

-- ---- so many of both

pub many_long : {A : Type 0} (part : List ℕ → A) (ws : List ℕ) (n : ℕ) (bs : List ℕ) → length (many part ws n bs) ≡ n
many_long part ws zero bs = refl
many_long part ws (suc n) bs = let e = many_long part ws n (behind ws bs) in omega (arith, e)

pub behind_many_bytes : (ws : List ℕ) (n : ℕ) (bs : List ℕ) → AreBytes bs → AreBytes (behind_many ws n bs)
behind_many_bytes ws zero bs b = b
behind_many_bytes ws (suc n) bs b = behind_many_bytes ws n (behind ws bs) (behind_bytes ws bs b)

-- ---- keys

pub keys_long : (n : ℕ) (bs : List ℕ) → length (numbers (replicate n 1) bs) ≡ n
keys_long n bs = numbers_long (replicate n 1) bs ∙ length-replicate n 1

pub keys_total : (n : ℕ) → total (replicate n 1) ≡ n
keys_total zero = refl
keys_total (suc n) = let e = keys_total n in omega (arith, e)

pub keys_stood : (n : ℕ) (bs : List ℕ) → n ≤ length bs → AreBytes bs
    → Stood (key_fields (numbers (replicate n 1) bs)) bs (behind (replicate n 1) bs)
keys_stood n bs room b =
    let ks : List ℕ = numbers (replicate n 1) bs in
    let long = keys_long n bs in
    let wide = key_size ks in
    stood (key_fields ks) (replicate n 1) bs (key_widths ks ∙ ap (λ m. replicate m 1) long) (key_values ks) (omega (arith, wide, long, room)) b
