-- One turn more, and what a run makes of it.
use Rattle.std.proofs.Common.{◌≡◌, List, [], ◌∷◌, ◌++◌, Option, Some, None, refl, sym, ap, ◌∙◌, ℕ, append_assoc, append-nil}
use Rattle.std.specs.Prelude.{map}
use Rattle.run_model.specs.declared.faults.Strike.{Strike}
use Rattle.run_model.specs.declared.logs.Entry.{Entry}
use Rattle.esa_model.specs.declared.machine.Event.{Event}
use Rattle.esa_model.specs.declared.machine.Event.TheVariants.{Commit}
use Rattle.run_model.specs.declared.schedules.RunKind.{RunKind}
use Rattle.run_model.specs.declared.logs.Config.{Config}
use Rattle.run_model.specs.declared.outputs.Counts.{Counts}
use Rattle.esa_model.specs.Machine.{Machine}
use Rattle.esa_model.specs.Run.{run}
use Rattle.run_model.specs.Cores.{Cores, make, Choice, outlines, cores_after}
use Rattle.run_model.specs.Runs.{Model, Told, tells_by, fate_at, tells, turned, run_tells, run_after, choices, outline_of, events_of, order}
use Rattle.run_model.specs.Counts.{commits_by, commits_after, count_turn, count_turns}
use Rattle.run_model.specs.Texts.{turn_pieces, turns_pieces}

pub run_after_more : (ls : List Strike) (c : Config) (x : Model) (ks : List RunKind) (k : RunKind)
    → run_after ls c x (ks ++ k ∷ []) ≡ turned ls c (run_after ls c x ks) k
run_after_more ls c x [] k = refl
run_after_more ls c x (j ∷ ks) k = run_after_more ls c (turned ls c x j) ks k

pub run_tells_more : (ls : List Strike) (c : Config) (x : Model) (ks : List RunKind) (k : RunKind)
    → run_tells ls c x (ks ++ k ∷ []) ≡ run_tells ls c x ks ++ tells ls c (run_after ls c x ks) k
    ∷ []
run_tells_more ls c x [] k = refl
run_tells_more ls c x (j ∷ ks) k =
    ap (λ z. tells ls c x j ∷ z) (run_tells_more ls c (turned ls c x j) ks k)

pub outlines_more : (c : Config) (s : Cores) (xs : List Choice) (x : Choice)
    → outlines c s (xs ++ x ∷ []) ≡ outlines c s xs
    ++ (make c (cores_after c s xs) x.kind x.met).outline ∷ []
outlines_more c s [] x = refl
outlines_more c s (y ∷ xs) x =
    ap (λ z. (make c s y.kind y.met).outline ∷ z)
    (outlines_more c (make c s y.kind y.met).after xs x)

pub cores_after_more : (c : Config) (s : Cores) (xs : List Choice) (x : Choice)
    → cores_after c s (xs ++ x ∷ []) ≡ (make c (cores_after c s xs) x.kind x.met).after
cores_after_more c s [] x = refl
cores_after_more c s (y ∷ xs) x = cores_after_more c (make c s y.kind y.met).after xs x

pub count_turns_more : (n : Counts) (ts : List Told) (t : Told)
    → count_turns n (ts ++ t ∷ []) ≡ count_turn (count_turns n ts) t
count_turns_more n [] t = refl
count_turns_more n (u ∷ ts) t = count_turns_more (count_turn n u) ts t

-- what one turn more writes
pub turns_pieces_more : (n : ℕ) (ts : List Told) (t : Told)
    → turns_pieces n (ts ++ t ∷ []) ≡ turns_pieces n ts ++ turn_pieces (commits_after n ts) t
turns_pieces_more n [] t = append-nil (turn_pieces n t)
turns_pieces_more n (u ∷ ts) t =
    ap (λ z. turn_pieces n u ++ z) (turns_pieces_more (commits_by u.event n) ts t)
    ∙ sym (append_assoc (turn_pieces n u) (turns_pieces (commits_by u.event n) ts)
    (turn_pieces (commits_after (commits_by u.event n) ts) t))

-- what a run of the model tells is what its modes and retries make of what it meets
pub told_outline : (m : Machine) (es : List Entry) (e : Option Event)
    → outline_of (tells_by m es e) ≡ record { entries = es; event = e }
told_outline m es None = refl
told_outline m es (Some (Commit i)) = refl
told_outline m es (Some _) = refl

pub run_outlines : (ls : List Strike) (c : Config) (x : Model) (ks : List RunKind)
    → map outline_of (run_tells ls c x ks) ≡ outlines c x.fate.cores (choices ls c x ks)
unfolding tells turned
run_outlines ls c x [] = refl
run_outlines ls c x (k ∷ ks) =
    ap (λ z. z ∷ map outline_of (run_tells ls c (turned ls c x k) ks))
    (told_outline x.machine (fate_at ls c x k).outline.entries
    (fate_at ls c x k).outline.event)
    ∙ ap (λ z. (fate_at ls c x k).outline ∷ z)
    (run_outlines ls c (turned ls c x k) ks)

pub run_cores : (ls : List Strike) (c : Config) (x : Model) (ks : List RunKind)
    → (run_after ls c x ks).fate.cores ≡ cores_after c x.fate.cores (choices ls c x ks)
unfolding turned
run_cores ls c x [] = refl
run_cores ls c x (k ∷ ks) = run_cores ls c (turned ls c x k) ks

-- the machine of a run is that of its events
order_more : (m : Machine) (o : Option Event) (es : List Event)
    → run m (events_of o ++ es) ≡ run (run m (events_of o)) es
order_more m None es = refl
order_more m (Some e) es = refl

pub run_machine : (ls : List Strike) (c : Config) (x : Model) (ks : List RunKind)
    → (run_after ls c x ks).machine ≡ run x.machine (order (run_tells ls c x ks))
unfolding tells turned
run_machine ls c x [] = refl
run_machine ls c x (k ∷ ks) = run_machine ls c (turned ls c x k) ks
    ∙ sym (order_more x.machine (fate_at ls c x k).outline.event
    (order (run_tells ls c (turned ls c x k) ks)))
    ∙ ap (λ o. run x.machine (events_of o ++ order (run_tells ls c (turned ls c x k) ks)))
    (sym (ap (λ o. o.event)
    (told_outline x.machine (fate_at ls c x k).outline.entries
    (fate_at ls c x k).outline.event)))
