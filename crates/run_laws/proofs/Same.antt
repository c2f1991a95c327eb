-- Where no CPU stops, trace and console are those of the run without strikes.
use Rattle.std.proofs.Common.{◌≡◌, ◌⊎◌, ℕ, Bool, true, false, List, [], ◌∷◌, ◌++◌, Option, Some, None, refl, sym, ap, ◌∙◌, if◌then◌else◌, inl, inr, append_assoc}
use Rattle.std.specs.Prelude.{◌||◌}
use Rattle.std.specs.List.{list_any}
use Rattle.std.proofs.lemmas.Bool.{true≢false}
use Rattle.run_model.specs.declared.faults.Strike.{Strike}
use Rattle.run_model.specs.declared.schedules.RunKind.{RunKind}
use Rattle.run_model.specs.declared.schedules.RunKind.TheVariants as kind
use Rattle.run_model.specs.declared.outputs.Place.{Place}
use Rattle.run_model.specs.declared.outputs.Place.TheVariants.{Log, Trace, Out}
use Rattle.run_model.specs.declared.logs.Entry.{Entry}
use Rattle.esa_model.specs.declared.machine.Event.{Event}
use Rattle.esa_model.specs.declared.machine.Event.TheVariants as event
use Rattle.run_model.specs.declared.logs.Config.{Config}
use Rattle.esa_model.specs.Machine.{Machine}
use Rattle.esa_model.specs.Run.{run}
use Rattle.run_model.specs.Cores.{is_fenced}
use Rattle.run_model.specs.Runs.{Model, Told, tells_by, fate_at, events_of, tells, turned, run_tells, entries, first_model}
use Rattle.run_model.specs.Pieces.{Piece, text, same_place}
use Rattle.run_model.specs.LogLines.{entry_line}
use Rattle.run_model.specs.Counts.{commits_by}
use Rattle.run_model.specs.Texts.{entry_pieces, commit_pieces, turn_pieces, turns_pieces}
use Rattle.run_model.specs.Faultless.{with_turn, busy}
use Rattle.run_model.specs.Sorts.{is_stop_entry}
use Rattle.run_laws.proofs.Clean.{is_stop_event}
use Rattle.run_laws.proofs.Alike.{Alike, is_return, Both, return_event, both}

-- ---- texts
pub text_append : (p : Place) (xs ys : List Piece) → text p (xs ++ ys) ≡ text p xs ++ text p ys
text_append p [] ys = refl
text_append p (x ∷ xs) ys =
    ap (λ z. (if same_place p x.place then x.bytes else []) ++ z) (text_append p xs ys)
    ∙ sym (append_assoc (if same_place p x.place then x.bytes else []) (text p xs)
    (text p ys))

pub entries_none : (p : Place) (es : List Entry) → same_place p Log ≡ false
    → text p (entry_pieces es) ≡ []
entries_none p [] h = refl
entries_none p (e ∷ es) h =
    ap (λ b. (if b then entry_line e else []) ++ text p (entry_pieces es)) h ∙ entries_none p es h

-- what one turn writes besides its entries
pub turn_text : (p : Place) (n : ℕ) (t : Told) (rest : List Piece) → same_place p Log ≡ false
    → text p (turn_pieces n t ++ rest) ≡ text p (commit_pieces n t t.event) ++ text p rest
unfolding turn_pieces
turn_text p n t rest h =
    text_append p (turn_pieces n t) rest
    ∙ ap (λ z. z ++ text p rest)
    (text_append p (entry_pieces t.entries) (commit_pieces n t t.event)
    ∙ ap (λ z. z ++ text p (commit_pieces n t t.event)) (entries_none p t.entries h))

pub told_event : (m : Machine) (es : List Entry) (e : Option Event) → (tells_by m es e).event ≡ e
told_event m es None = refl
told_event m es (Some (event.Commit i)) = refl
told_event m es (Some _) = refl

pub told_pieces : (n : ℕ) (m : Machine) (es fs : List Entry) (e : Option Event)
    → commit_pieces n (tells_by m es e) (tells_by m es e).event
    ≡ commit_pieces n (tells_by m fs e) (tells_by m fs e).event
told_pieces n m es fs None = refl
told_pieces n m es fs (Some (event.Commit i)) = refl
told_pieces n m es fs (Some _) = refl

pub none_pieces : (n : ℕ) (m : Machine) (es : List Entry) (e : Option Event) → e ≡ None
    → commit_pieces n (tells_by m es e) (tells_by m es e).event ≡ []
none_pieces n m es None h = refl
none_pieces n m es (Some v) h = absurd (cc h)

-- the texts of one place agree
abbrev pub SameText : Place → List Strike → Config → ℕ → Model → Model → List RunKind
    → List RunKind → Type 0
SameText p ls c n x y ks js =
    text p (turns_pieces n (run_tells ls c x ks)) ≡ text p (turns_pieces n (run_tells [] c y js))

any_l : (a b : Bool) → (a || b) ≡ false → a ≡ false
any_l true b e = e
any_l false b e = refl

any_r : (a b : Bool) → (a || b) ≡ false → b ≡ false
any_r true b e = absurd (true≢false e)
any_r false b e = e

any_append : (xs ys : List Entry)
    → list_any is_stop_entry (xs ++ ys) ≡ (list_any is_stop_entry xs || list_any is_stop_entry ys)
any_append [] ys = refl
any_append (x ∷ xs) ys =
    any_append_by (is_stop_entry x) (list_any is_stop_entry (xs ++ ys))
    (list_any is_stop_entry xs) (list_any is_stop_entry ys) (any_append xs ys)
  where
    any_append_by : (a b c d : Bool) → b ≡ (c || d) → (a || b) ≡ ((a || c) || d)
    any_append_by true b c d e = refl
    any_append_by false b c d e = e

pub turned_machine : (ls : List Strike) (c : Config) (x : Model) (k : RunKind)
    → (turned ls c x k).machine ≡ run x.machine (events_of (fate_at ls c x k).outline.event)
unfolding turned
turned_machine ls c x k = refl

pub told_is : (ls : List Strike) (c : Config) (x : Model) (k : RunKind)
    → tells ls c x k
    ≡ tells_by x.machine (fate_at ls c x k).outline.entries (fate_at ls c x k).outline.event
unfolding tells
told_is ls c x k = refl

-- a turn without an event is left out
skipped : (p : Place) (ls : List Strike) (c : Config) (n : ℕ) (x y : Model) (k : RunKind)
    (ks : List RunKind) → same_place p Log ≡ false → (fate_at ls c x k).outline.event ≡ None
    → SameText p ls c n (turned ls c x k) y ks (busy ls c (turned ls c x k) ks)
    → SameText p ls c n x y (k ∷ ks) (busy ls c x (k ∷ ks))
skipped p ls c n x y k ks h e ih =
    let t = tells_by x.machine (fate_at ls c x k).outline.entries
    (fate_at ls c x k).outline.event in
    let event : (tells ls c x k).event ≡ None = ap (λ (z : Told). z.event) (told_is ls c x k)
    ∙ told_event x.machine (fate_at ls c x k).outline.entries (fate_at ls c x k).outline.event
    ∙ e in
    let left : text p (turns_pieces n (run_tells ls c x (k ∷ ks)))
    ≡ text p (commit_pieces n (tells ls c x k) (tells ls c x k).event)
    ++ text p
    (turns_pieces (commits_by (tells ls c x k).event n)
    (run_tells ls c (turned ls c x k) ks)) =
    turn_text p n (tells ls c x k)
    (turns_pieces (commits_by (tells ls c x k).event n)
    (run_tells ls c (turned ls c x k) ks)) h in
    let none : commit_pieces n (tells ls c x k) (tells ls c x k).event ≡ [] =
    ap (λ (z : Told). commit_pieces n z z.event) (told_is ls c x k)
    ∙ none_pieces n x.machine (fate_at ls c x k).outline.entries
    (fate_at ls c x k).outline.event e in
    let same : busy ls c (turned ls c x k) ks ≡ busy ls c x (k ∷ ks) =
    ap (λ o. with_turn k o (busy ls c (turned ls c x k) ks)) (sym e) in
    left ∙ ap
    (λ z. text p z
    ++ text p
    (turns_pieces (commits_by (tells ls c x k).event n)
    (run_tells ls c (turned ls c x k) ks))) none
    ∙ ap (λ o.
    text p (turns_pieces (commits_by o n) (run_tells ls c (turned ls c x k) ks)))
    event ∙ ih ∙ ap (λ js. text p (turns_pieces n (run_tells [] c y js))) same

-- a turn with one is made in both
made : (p : Place) (ls : List Strike) (c : Config) (n : ℕ) (x y : Model) (k : RunKind)
    (ks : List RunKind) (v : Event) → same_place p Log ≡ false → x.machine ≡ y.machine
    → (fate_at ls c x k).outline.event ≡ Some v
    → (fate_at [] c y k).outline.event ≡ (fate_at ls c x k).outline.event
    → SameText p ls c (commits_by (Some v) n) (turned ls c x k) (turned [] c y k) ks
    (busy ls c (turned ls c x k) ks) → SameText p ls c n x y (k ∷ ks) (busy ls c x (k ∷ ks))
made p ls c n x y k ks v h machine e f ih =
    let js : List RunKind = busy ls c (turned ls c x k) ks in
    let ev : (tells ls c x k).event ≡ Some v = ap (λ (z : Told). z.event) (told_is ls c x k)
    ∙ told_event x.machine (fate_at ls c x k).outline.entries (fate_at ls c x k).outline.event
    ∙ e in
    let ew : (tells [] c y k).event ≡ Some v = ap (λ (z : Told). z.event) (told_is [] c y k)
    ∙ told_event y.machine (fate_at [] c y k).outline.entries (fate_at [] c y k).outline.event
    ∙ f ∙ e in
    let left =
    turn_text p n (tells ls c x k)
    (turns_pieces (commits_by (tells ls c x k).event n)
    (run_tells ls c (turned ls c x k) ks)) h in
    let right =
    turn_text p n (tells [] c y k)
    (turns_pieces (commits_by (tells [] c y k).event n)
    (run_tells [] c (turned [] c y k) js)) h in
    let pieces : commit_pieces n (tells ls c x k) (tells ls c x k).event
    ≡ commit_pieces n (tells [] c y k) (tells [] c y k).event =
    ap (λ (z : Told). commit_pieces n z z.event) (told_is ls c x k)
    ∙ told_pieces n x.machine (fate_at ls c x k).outline.entries
    (fate_at [] c y k).outline.entries (fate_at ls c x k).outline.event
    ∙ ap (λ o.
    commit_pieces n (tells_by x.machine (fate_at [] c y k).outline.entries o)
    (tells_by x.machine (fate_at [] c y k).outline.entries o).event) (sym f)
    ∙ ap (λ z.
    commit_pieces n
    (tells_by z (fate_at [] c y k).outline.entries (fate_at [] c y k).outline.event)
    (tells_by z (fate_at [] c y k).outline.entries
    (fate_at [] c y k).outline.event).event) machine
    ∙ sym (ap (λ (z : Told). commit_pieces n z z.event) (told_is [] c y k)) in
    let rest : text p
    (turns_pieces (commits_by (tells ls c x k).event n) (run_tells ls c (turned ls c x k) ks))
    ≡ text p
    (turns_pieces (commits_by (tells [] c y k).event n)
    (run_tells [] c (turned [] c y k) js)) =
    ap (λ o. text p (turns_pieces (commits_by o n) (run_tells ls c (turned ls c x k) ks))) ev ∙ ih
    ∙ sym (ap
    (λ o. text p (turns_pieces (commits_by o n) (run_tells [] c (turned [] c y k) js))) ew) in
    let same : k ∷ js ≡ busy ls c x (k ∷ ks) =
    ap (λ o. with_turn k o (busy ls c (turned ls c x k) ks)) (sym e) in
    left ∙ ap
    (λ z. text p z
    ++ text p
    (turns_pieces (commits_by (tells ls c x k).event n)
    (run_tells ls c (turned ls c x k) ks))) pieces
    ∙ ap (λ z. text p (commit_pieces n (tells [] c y k) (tells [] c y k).event)
    ++ z) rest ∙ sym right
    ∙ ap (λ z. text p (turns_pieces n (run_tells [] c y z))) same

not_return : (ls : List Strike) (c : Config) (x : Model) (k : RunKind) (v : Event)
    → (fate_at ls c x k).outline.event ≡ Some v → is_return k ≡ false
not_return ls c x (kind.Turns i) v e = refl
not_return ls c x (kind.Key i) v e = refl
not_return ls c x (kind.Return k) v e =
    absurd (cc (e, return_event x.fate.cores k.0 (is_fenced c x.fate.cores k.0)))

same_by : (p : Place) (ls : List Strike) (c : Config) (n : ℕ) (x y : Model) (k : RunKind)
    (ks : List RunKind) → same_place p Log ≡ false → Alike x y → Both ls c x y k
    → is_stop_event (fate_at ls c x k).outline.event ≡ false
    → ((m : ℕ) (z : Model) → Alike (turned ls c x k) z
    → SameText p ls c m (turned ls c x k) z ks (busy ls c (turned ls c x k) ks))
    → (o : Option Event) → (fate_at ls c x k).outline.event ≡ o
    → SameText p ls c n x y (k ∷ ks) (busy ls c x (k ∷ ks))
same_by p ls c n x y k ks h a b go_on ih None e =
    skipped p ls c n x y k ks h e
    (ih n y (record {
      machine = turned_machine ls c x k
          ∙ ap (λ o. run x.machine (events_of o)) e ∙ a.machine;
      alive = b.alive go_on;
      clean = a.clean;
    }))
same_by p ls c n x y k ks h a b go_on ih (Some v) e =
    let f : (fate_at [] c y k).outline.event ≡ (fate_at ls c x k).outline.event =
    elim b.event [
      | inl g ↦ absurd (cc (e, g))
      | inr g ↦
          elim g [ inl u ↦ absurd (true≢false (sym u ∙ go_on)) | inr u ↦ u ]
    ] in
    made p ls c n x y k ks v h a.machine e f
    (ih (commits_by (Some v) n) (turned [] c y k) (record {
      machine = turned_machine ls c x k ∙ ap (λ o. run x.machine (events_of o)) (sym f)
          ∙ ap (λ z. run z (events_of (fate_at [] c y k).outline.event)) a.machine
          ∙ sym (turned_machine [] c y k);
      alive = b.alive go_on;
      clean = b.clean (not_return ls c x k v e);
    }))

bool_cases : (b : Bool) → (b ≡ true) ⊎ (b ≡ false)
bool_cases true = inl refl
bool_cases false = inr refl

told_entries : (m : Machine) (es : List Entry) (e : Option Event) → (tells_by m es e).entries ≡ es
told_entries m es None = refl
told_entries m es (Some (event.Commit i)) = refl
told_entries m es (Some _) = refl

pub same_text : (p : Place) (ls : List Strike) (c : Config) (n : ℕ) (x y : Model)
    (ks : List RunKind) → same_place p Log ≡ false → Alike x y
    → list_any is_stop_entry (entries (run_tells ls c x ks)) ≡ false
    → SameText p ls c n x y ks (busy ls c x ks)
same_text p ls c n x y [] h a quiet = refl
same_text p ls c n x y (k ∷ ks) h a quiet =
    let b = both ls c x y k a in
    let split :
    (list_any is_stop_entry (tells ls c x k).entries
    || list_any is_stop_entry (entries (run_tells ls c (turned ls c x k) ks))) ≡ false =
    sym (any_append (tells ls c x k).entries
    (entries (run_tells ls c (turned ls c x k) ks))) ∙ quiet in
    let here : list_any is_stop_entry (fate_at ls c x k).outline.entries ≡ false =
    sym (ap (list_any is_stop_entry) (ap (λ (z : Told). z.entries) (told_is ls c x k)
    ∙ told_entries x.machine (fate_at ls c x k).outline.entries
    (fate_at ls c x k).outline.event))
    ∙ any_l (list_any is_stop_entry (tells ls c x k).entries) _ split in
    let go_on : is_stop_event (fate_at ls c x k).outline.event ≡ false =
    elim (bool_cases (is_stop_event (fate_at ls c x k).outline.event)) [
      | inl e ↦
          absurd (true≢false (sym (b.stops e) ∙ here))
      | inr e ↦ e
    ] in
    same_by p ls c n x y k ks h a b go_on
    (λ m z al.
    same_text p ls c m (turned ls c x k) z ks h al
    (any_r (list_any is_stop_entry (tells ls c x k).entries) _ split))
    (fate_at ls c x k).outline.event refl

pub alike_first : (c : Config) (m : Machine) → Alike (first_model c m) (first_model c m)
alike_first c m =
    record {
      machine = refl;
      alive = λ i. refl;
      clean = record { modes = λ i. refl; none = λ k w. refl };
    }

pub same_trace : (ls : List Strike) (c : Config) (m : Machine) (ks : List RunKind)
    → list_any is_stop_entry (entries (run_tells ls c (first_model c m) ks)) ≡ false
    → SameText Trace ls c 0 (first_model c m) (first_model c m) ks
    (busy ls c (first_model c m) ks)
same_trace ls c m ks quiet =
    same_text Trace ls c 0 (first_model c m) (first_model c m) ks refl (alike_first c m) quiet

pub same_console : (ls : List Strike) (c : Config) (m : Machine) (ks : List RunKind)
    → list_any is_stop_entry (entries (run_tells ls c (first_model c m) ks)) ≡ false
    → SameText Out ls c 0 (first_model c m) (first_model c m) ks (busy ls c (first_model c m) ks)
same_console ls c m ks quiet =
    same_text Out ls c 0 (first_model c m) (first_model c m) ks refl (alike_first c m) quiet
