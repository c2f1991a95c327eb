-- One field, or one part, more is judged.
use Rattle.std.proofs.Common.{◌≡◌, ℕ, ◌+◌, ◌*◌, ◌<◌, ◌≤◌, List, [], ◌∷◌, ◌++◌, length, take, drop, get_or, refl, sym, ap, ◌∙◌, drop_of_length-le, arith, Some, None, true, false, Bool, if◌then◌else◌}
use Rattle.std.proofs.lemmas.List.{drop_more, take_more}
use Rattle.save_model.specs.declared.parts.SaveHead.{SaveHead}
use Rattle.save_model.specs.declared.parts.SavedCpu.{SavedCpu}
use Rattle.save_model.specs.declared.parts.SavedCore.{SavedCore}
use Rattle.save_model.specs.Fields.{Field, first_bad}
use Rattle.save_model.specs.Parts.{word_good, word_fields, cpu_fields, cpus_fields, key_fields, stored_good, stored_fields, core_fields, cores_fields}
use Rattle.save_reading.specs.declared.judge.Judge.{Judge}
use Rattle.save_reading.specs.Judging.{judge_one, judge_all}

pub judge_append : (j : Judge) (fs gs : List Field) → judge_all j (fs ++ gs) ≡ judge_all (judge_all j fs) gs
judge_append j [] gs = refl
judge_append j (f ∷ fs) gs = judge_append (judge_one j f.width f.good) fs gs

-- ---- the first that is found is the first of all

judged_bad : (at b : ℕ) (fs : List Field) → (judge_all (record { at = at; bad = Some b }) fs).bad ≡ Some b
judged_bad at b [] = refl
judged_bad at b (f ∷ fs) = judged_bad (at + f.width) b fs

judged_by : (at : ℕ) (f : Field) (fs : List Field) (g : Bool) → f.good ≡ g → ((judge_all (record { at = at + f.width; bad = None }) fs).bad ≡ first_bad (at + f.width) fs)
    → (judge_all (judge_one (record { at = at; bad = None }) f.width f.good) fs).bad ≡ (if f.good then first_bad (at + f.width) fs else Some at)
judged_by at f fs true e more = rw e more
judged_by at f fs false e more = rw e (judged_bad (at + f.width) at fs)

pub judged_first : (at : ℕ) (fs : List Field) → (judge_all (record { at = at; bad = None }) fs).bad ≡ first_bad at fs
judged_first at [] = refl
judged_first at (f ∷ fs) = judged_by at f fs f.good refl (judged_first (at + f.width) fs)

-- ---- a loop over parts: of all fields the last are left, and `i` parts of `size` bytes each were judged

pub record Judging (start now : Judge) (size i : ℕ) (all left : List Field) : Type 0 where
  pub left_is : judge_all start all ≡ judge_all now left
  pub at : now.at ≡ start.at + size * i

pub judging_next : (start now new : Judge) (size i : ℕ) (all left rest : List Field) → Judging start now size i all left → judge_all now left ≡ judge_all new rest → new.at ≡ now.at + size
    → Judging start new size (i + 1) all rest
judging_next start now new size i all left rest so e at = record { left_is = so.left_is ∙ e; at = omega (arith, so.at, at) }

pub judging_done : (start now : Judge) (size i : ℕ) (all left : List Field) → left ≡ [] → Judging start now size i all left → now ≡ judge_all start all
judging_done start now size i all left e so = sym (so.left_is ∙ ap (λ z. judge_all now z) e)

-- ---- words

pub words_step : (p m i d : ℕ) (ws : List ℕ) (j k : Judge) → i < length ws → k ≡ judge_one j 8 (word_good p m i (get_or ws i d))
    → judge_all j (word_fields p m i (drop i ws)) ≡ judge_all k (word_fields p m (i + 1) (drop (i + 1) ws))
words_step p m i d ws j k lt e =
    ap (λ z. judge_all j (word_fields p m i z)) (drop_more ws i d lt)
    ∙ ap (λ z. judge_all z (word_fields p m (i + 1) (drop (i + 1) ws))) (sym e)

pub words_end : (p m i : ℕ) (ws : List ℕ) → length ws ≤ i → word_fields p m i (drop i ws) ≡ []
words_end p m i ws le = ap (λ z. word_fields p m i z) (drop_of_length-le ws le)

pub stored_step : (i d : ℕ) (ws : List ℕ) (j k : Judge) → i < length ws → k ≡ judge_one j 16 (stored_good i (get_or ws i d))
    → judge_all j (stored_fields i (drop i ws)) ≡ judge_all k (stored_fields (i + 1) (drop (i + 1) ws))
stored_step i d ws j k lt e =
    ap (λ z. judge_all j (stored_fields i z)) (drop_more ws i d lt)
    ∙ ap (λ z. judge_all z (stored_fields (i + 1) (drop (i + 1) ws))) (sym e)

pub stored_end : (i : ℕ) (ws : List ℕ) → length ws ≤ i → stored_fields i (drop i ws) ≡ []
stored_end i ws le = ap (λ z. stored_fields i z) (drop_of_length-le ws le)

-- ---- parts

pub cpus_step : (h : SaveHead) (cs : List SavedCpu) (i : ℕ) (d : SavedCpu) (j k : Judge) → i < length cs → k ≡ judge_all j (cpu_fields h (take i cs) (get_or cs i d))
    → judge_all j (cpus_fields h (take i cs) (drop i cs)) ≡ judge_all k (cpus_fields h (take (i + 1) cs) (drop (i + 1) cs))
cpus_step h cs i d j k lt e =
    let rest : List SavedCpu = drop (i + 1) cs in
    let c : SavedCpu = get_or cs i d in
    ap (λ z. judge_all j (cpus_fields h (take i cs) z)) (drop_more cs i d lt)
    ∙ judge_append j (cpu_fields h (take i cs) c) (cpus_fields h (take i cs ++ c ∷ []) rest)
    ∙ ap (λ z. judge_all z (cpus_fields h (take i cs ++ c ∷ []) rest)) (sym e)
    ∙ ap (λ z. judge_all k (cpus_fields h z rest)) (sym (take_more cs i d lt))

pub cpus_end : (h : SaveHead) (cs : List SavedCpu) (i : ℕ) → length cs ≤ i → cpus_fields h (take i cs) (drop i cs) ≡ []
cpus_end h cs i le = ap (λ z. cpus_fields h (take i cs) z) (drop_of_length-le cs le)

pub cores_step : (h : SaveHead) (cs : List SavedCpu) (xs : List SavedCore) (i : ℕ) (d : SavedCore) (j k : Judge) → i < length xs → k ≡ judge_all j (core_fields h cs i (get_or xs i d))
    → judge_all j (cores_fields h cs i (drop i xs)) ≡ judge_all k (cores_fields h cs (i + 1) (drop (i + 1) xs))
cores_step h cs xs i d j k lt e =
    let rest : List SavedCore = drop (i + 1) xs in
    ap (λ z. judge_all j (cores_fields h cs i z)) (drop_more xs i d lt)
    ∙ judge_append j (core_fields h cs i (get_or xs i d)) (cores_fields h cs (i + 1) rest)
    ∙ ap (λ z. judge_all z (cores_fields h cs (i + 1) rest)) (sym e)

pub cores_end : (h : SaveHead) (cs : List SavedCpu) (xs : List SavedCore) (i : ℕ) → length xs ≤ i → cores_fields h cs i (drop i xs) ≡ []
cores_end h cs xs i le = ap (λ z. cores_fields h cs i z) (drop_of_length-le xs le)

-- ---- keys

pub keys_step : (i d : ℕ) (ks : List ℕ) (j k : Judge) → i < length ks → k ≡ judge_all j (key_fields (get_or ks i d ∷ []))
    → judge_all j (key_fields (drop i ks)) ≡ judge_all k (key_fields (drop (i + 1) ks))
keys_step i d ks j k lt e =
    ap (λ z. judge_all j (key_fields z)) (drop_more ks i d lt)
    ∙ ap (λ z. judge_all z (key_fields (drop (i + 1) ks))) (sym e)

pub keys_end : (i : ℕ) (ks : List ℕ) → length ks ≤ i → key_fields (drop i ks) ≡ []
keys_end i ks le = ap key_fields (drop_of_length-le ks le)
