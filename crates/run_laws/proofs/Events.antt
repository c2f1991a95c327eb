-- What a run writes besides its log is what the machine without faults writes over its events.
use Rattle.std.proofs.Common.{◌≡◌, ℕ, false, List, [], ◌∷◌, ◌++◌, Option, Some, None, refl, sym, ap, ◌∙◌, subst}
use Rattle.esa_model.specs.declared.machine.Event.{Event}
use Rattle.esa_model.specs.Machine.{Machine}
use Rattle.esa_model.specs.Run.{run, step}
use Rattle.run_model.specs.declared.faults.Strike.{Strike}
use Rattle.run_model.specs.declared.logs.Config.{Config}
use Rattle.run_model.specs.declared.logs.Entry.{Entry}
use Rattle.run_model.specs.declared.outputs.Place.{Place}
use Rattle.run_model.specs.declared.outputs.Place.TheVariants.{Log}
use Rattle.run_model.specs.declared.schedules.RunKind.{RunKind}
use Rattle.run_model.specs.Counts.{commits_by}
use Rattle.run_model.specs.Pieces.{same_place, text}
use Rattle.run_model.specs.Runs.{Model, Told, events_of, fate_at, order, run_tells, tells, tells_by, turned}
use Rattle.run_model.specs.Texts.{commit_pieces, turns_pieces}
use Rattle.run_laws.specs.EventRuns.{events_tell}
use Rattle.run_laws.proofs.Same.{told_event, told_is, told_pieces, none_pieces, turn_text, turned_machine}

-- the texts of one place agree, from this machine on
abbrev pub WritesAlike : Place → ℕ → Machine → List Told → Type 0
WritesAlike p n m ts =
    text p (turns_pieces n ts) ≡ text p (turns_pieces n (events_tell m (order ts)))

-- of one turn and those behind it, by its event
alike_by : (p : Place) (n : ℕ) (m : Machine) (es : List Entry) (o : Option Event) (t : Told)
    (ts : List Told) → same_place p Log ≡ false → t ≡ tells_by m es o
    → ((k : ℕ) → WritesAlike p k (run m (events_of o)) ts) → WritesAlike p n m (t ∷ ts)
alike_by p n m es None t ts h is ih =
    let event : t.event ≡ None = ap (λ (z : Told). z.event) is ∙ told_event m es None in
    let none : commit_pieces n t t.event ≡ [] =
    ap (λ (z : Told). commit_pieces n z z.event) is ∙ none_pieces n m es None refl in
    turn_text p n t (turns_pieces (commits_by t.event n) ts) h
    ∙ ap (λ z. text p z ++ text p (turns_pieces (commits_by t.event n) ts)) none
    ∙ ap (λ o. text p (turns_pieces (commits_by o n) ts)) event
    ∙ ih n
    ∙ sym (ap (λ o. text p (turns_pieces n (events_tell m (events_of o ++ order ts)))) event)
alike_by p n m es (Some e) t ts h is ih =
    let u : Told = tells_by m [] (Some e) in
    let event : t.event ≡ Some e = ap (λ (z : Told). z.event) is ∙ told_event m es (Some e) in
    let same : u.event ≡ Some e = told_event m [] (Some e) in
    let pieces : commit_pieces n t t.event ≡ commit_pieces n u u.event =
    ap (λ (z : Told). commit_pieces n z z.event) is ∙ told_pieces n m es [] (Some e) in
    let rest : List Told = events_tell (step m e) (order ts) in
    turn_text p n t (turns_pieces (commits_by t.event n) ts) h
    ∙ ap (λ z. text p z ++ text p (turns_pieces (commits_by t.event n) ts)) pieces
    ∙ ap (λ o. text p (commit_pieces n u u.event) ++ text p (turns_pieces (commits_by o n) ts)) event
    ∙ ap (λ z. text p (commit_pieces n u u.event) ++ z) (ih (commits_by (Some e) n))
    ∙ ap (λ o. text p (commit_pieces n u u.event) ++ text p (turns_pieces (commits_by o n) rest))
    (sym same)
    ∙ sym (turn_text p n u (turns_pieces (commits_by u.event n) rest) h)
    ∙ sym (ap (λ o. text p (turns_pieces n (events_tell m (events_of o ++ order ts)))) event)

pub writes_alike : (p : Place) (ls : List Strike) (c : Config) (n : ℕ) (x : Model)
    (ks : List RunKind) → same_place p Log ≡ false
    → WritesAlike p n x.machine (run_tells ls c x ks)
writes_alike p ls c n x [] h = refl
writes_alike p ls c n x (k ∷ ks) h =
    alike_by p n x.machine (fate_at ls c x k).outline.entries (fate_at ls c x k).outline.event
    (tells ls c x k) (run_tells ls c (turned ls c x k) ks) h (told_is ls c x k)
    (λ j. subst (λ m. WritesAlike p j m (run_tells ls c (turned ls c x k) ks))
    (turned_machine ls c x k) (writes_alike p ls c j (turned ls c x k) ks h))
