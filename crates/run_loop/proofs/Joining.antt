-- Turns after turns: what two lists of them tell, one behind the other.
use Rattle.std.proofs.Common.{◌≡◌, ℕ, List, [], ◌∷◌, ◌++◌, take, drop, refl, sym, ap, ◌∙◌, subst, append_assoc}
use Rattle.std.proofs.lemmas.List.{take-append-drop}
use Rattle.run_model.specs.declared.faults.Strike.{Strike}
use Rattle.run_model.specs.declared.logs.Config.{Config}
use Rattle.run_model.specs.declared.outputs.Counts.{Counts}
use Rattle.run_model.specs.declared.schedules.RunKind.{RunKind}
use Rattle.run_model.specs.Cores.{Cores, Choice, make, outlines, cores_after}
use Rattle.run_model.specs.Counts.{commits_by, commits_after, count_turn, count_turns}
use Rattle.run_model.specs.Fate.{Sound}
use Rattle.run_model.specs.Runs.{Model, Told, entries, tells, turned, run_tells, run_after}
use Rattle.run_model.specs.Texts.{turn_pieces, turns_pieces}
use Rattle.run_laws.proofs.Sound.{sound_before}
use Rattle.run_loop.specs.Engines.{EngineView}
use Rattle.run_loop.specs.Making.{hands_by, state_by}
use Rattle.silicon.specs.Tape.{Tape, tell, tells as tells_tape}
use Rattle.silicon.specs.declared.handed.Handed.{Handed}

pub outlines_append : (c : Config) (s : Cores) (xs ys : List Choice)
    → outlines c s (xs ++ ys) ≡ outlines c s xs ++ outlines c (cores_after c s xs) ys
outlines_append c s [] ys = refl
outlines_append c s (x ∷ xs) ys =
    ap (λ z. (make c s x.kind x.met).outline ∷ z)
    (outlines_append c (make c s x.kind x.met).after xs ys)

pub cores_append : (c : Config) (s : Cores) (xs ys : List Choice)
    → cores_after c s (xs ++ ys) ≡ cores_after c (cores_after c s xs) ys
cores_append c s [] ys = refl
cores_append c s (x ∷ xs) ys = cores_append c (make c s x.kind x.met).after xs ys

pub after_append : (ls : List Strike) (c : Config) (x : Model) (ks js : List RunKind)
    → run_after ls c x (ks ++ js) ≡ run_after ls c (run_after ls c x ks) js
after_append ls c x [] js = refl
after_append ls c x (k ∷ ks) js = after_append ls c (turned ls c x k) ks js

pub tells_append : (ls : List Strike) (c : Config) (x : Model) (ks js : List RunKind)
    → run_tells ls c x (ks ++ js)
    ≡ run_tells ls c x ks ++ run_tells ls c (run_after ls c x ks) js
tells_append ls c x [] js = refl
tells_append ls c x (k ∷ ks) js =
    ap (λ z. tells ls c x k ∷ z) (tells_append ls c (turned ls c x k) ks js)

pub hands_append : (v : EngineView) (x : Model) (ks js : List RunKind)
    → hands_by v x (ks ++ js) ≡ hands_by v x ks ++ hands_by v (state_by v x ks) js
hands_append v x [] js = refl
hands_append v x (k ∷ ks) js =
    let y : Model = turned v.lines v.config x k in
    ap (λ z. v.hands x k ++ z) (hands_append v y ks js)
    ∙ sym (append_assoc (v.hands x k) (hands_by v y ks) (hands_by v (state_by v y ks) js))

pub tape_append : (t : Tape) (xs ys : List Handed)
    → tells_tape t (xs ++ ys) ≡ tells_tape (tells_tape t xs) ys
tape_append t [] ys = refl
tape_append t (x ∷ xs) ys = tape_append (tell t x) xs ys

pub entries_append : (ts us : List Told) → entries (ts ++ us) ≡ entries ts ++ entries us
entries_append [] us = refl
entries_append (t ∷ ts) us =
    ap (λ z. t.entries ++ z) (entries_append ts us)
    ∙ sym (append_assoc t.entries (entries ts) (entries us))

pub pieces_append : (n : ℕ) (ts us : List Told)
    → turns_pieces n (ts ++ us) ≡ turns_pieces n ts ++ turns_pieces (commits_after n ts) us
pieces_append n [] us = refl
pieces_append n (t ∷ ts) us =
    ap (λ z. turn_pieces n t ++ z) (pieces_append (commits_by t.event n) ts us)
    ∙ sym (append_assoc (turn_pieces n t) (turns_pieces (commits_by t.event n) ts)
    (turns_pieces (commits_after (commits_by t.event n) ts) us))

pub counts_append : (n : Counts) (ts us : List Told)
    → count_turns n (ts ++ us) ≡ count_turns (count_turns n ts) us
counts_append n [] us = refl
counts_append n (t ∷ ts) us = counts_append (count_turn n t) ts us

-- ---- a run that is sound was sound before

pub sound_run : (ls : List Strike) (c : Config) (x : Model) (ks : List RunKind)
    → Sound ls (run_after ls c x ks).fate → Sound ls x.fate
sound_run ls c x [] h = h
sound_run ls c x (k ∷ ks) h = sound_before ls c x k (sound_run ls c (turned ls c x k) ks h)

-- after each of its turns
pub sound_front : (ls : List Strike) (c : Config) (x : Model) (ks : List RunKind) (n : ℕ)
    → Sound ls (run_after ls c x ks).fate → Sound ls (run_after ls c x (take n ks)).fate
sound_front ls c x ks n h =
    let same : run_after ls c x ks ≡ run_after ls c (run_after ls c x (take n ks)) (drop n ks) =
    ap (λ z. run_after ls c x z) (sym (take-append-drop n ks))
    ∙ after_append ls c x (take n ks) (drop n ks) in
    sound_run ls c (run_after ls c x (take n ks)) (drop n ks)
    (subst (λ z. Sound ls z.fate) same h)
