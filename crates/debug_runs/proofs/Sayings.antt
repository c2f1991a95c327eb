-- What the definitions' session says to lines: to one, and to lines behind lines.
use Rattle.std.proofs.Common.{◌≡◌, ℕ, ◌+◌, true, false, List, [], ◌∷◌, ◌++◌, take, drop, refl, sym, ap, ◌∙◌, subst, arith, append_assoc, Option, Some, None, true≢false}
use Rattle.std.proofs.Math.Seq.{take-add}
use Rattle.std.proofs.lemmas.List.{drop-drop}
use Rattle.g5_debugger.specs.Sessions.{after_line, next_kinds, turns_of_line}
use Rattle.program_model.specs.Debugger.{question, unknown}
use Rattle.program_model.specs.Session.{Said, Session, answered, said_by, says, session_from, with_turns}
use Rattle.program_model.specs.declared.questions.Question.{Question}
use Rattle.program_model.specs.declared.questions.Question.TheVariants.{Turns, Psw, General, Control, Prefix, Memory, Key, Cpu, Console, Quit}
use Rattle.run_loop.proofs.Joining.{after_append, counts_append, sound_run, tells_append}
use Rattle.run_model.specs.Counts.{count_turns}
use Rattle.run_model.specs.Fate.{Sound}
use Rattle.run_model.specs.Pieces.{Piece, piece}
use Rattle.run_model.specs.Runs.{Model, Told, run_after, run_tells}
use Rattle.run_model.specs.declared.faults.Strike.{Strike}
use Rattle.run_model.specs.declared.logs.Config.{Config}
use Rattle.run_model.specs.declared.outputs.Counts.{Counts}
use Rattle.run_model.specs.declared.outputs.Place.TheVariants.{Out}
use Rattle.run_model.specs.declared.schedules.RunKind.{RunKind}
use Rattle.debug_runs.specs.CommandLines.{before_quit, ends, turns_in}

-- ---- one line

-- its answer, after its turns
abbrev pub line_text : Option Question → Session → List ℕ
line_text None d = unknown
line_text (Some q) d = answered d q

pub said_one : (ls : List Strike) (c : Config) (d : Session) (q : Option Question)
    (more : Session → Said) → ends q ≡ false
    → said_by ls c d q more
    ≡ says (line_text q (after_line ls c q d)) (more (after_line ls c q d))
said_one ls c d None more e = refl
said_one ls c d (Some Quit) more e = absurd (true≢false e)
said_one ls c d (Some _) more e = refl

-- the question of a line that ends the session
pub is_quit : (q : Option Question) → ends q ≡ true → q ≡ Some Quit
is_quit None e = absurd (true≢false (sym e))
is_quit (Some Quit) e = refl
is_quit (Some _) e = absurd (true≢false (sym e))

-- ---- turns

abbrev session_with : Model → List RunKind → Counts → Session
session_with x left made = record { model = x; left = left; made = made }

same_session : (x y : Model) (k l : List RunKind) (a b : Counts) → x ≡ y → k ≡ l → a ≡ b
    → session_with x k a ≡ session_with y l b
same_session x y k l a b e f g =
    ap (λ z. session_with z k a) e ∙ ap (λ z. session_with y z a) f
    ∙ ap (λ z. session_with y l z) g

pub line_turns : (ls : List Strike) (c : Config) (q : Option Question) (d : Session)
    → after_line ls c q d ≡ with_turns ls c (turns_of_line q) d
unfolding with_turns
line_turns ls c None d = refl
line_turns ls c (Some (Turns n)) d = refl
line_turns ls c (Some (Psw k)) d = refl
line_turns ls c (Some (General k)) d = refl
line_turns ls c (Some (Control k)) d = refl
line_turns ls c (Some (Prefix k)) d = refl
line_turns ls c (Some (Memory a n)) d = refl
line_turns ls c (Some (Key a)) d = refl
line_turns ls c (Some (Cpu k)) d = refl
line_turns ls c (Some Console) d = refl
line_turns ls c (Some Quit) d = refl

pub line_model : (ls : List Strike) (c : Config) (q : Option Question) (d : Session)
    → (after_line ls c q d).model ≡ run_after ls c d.model (next_kinds q d)
unfolding with_turns
line_model ls c q d = ap (λ (s : Session). s.model) (line_turns ls c q d)

-- turns after turns are as many as both
pub turns_then : (ls : List Strike) (c : Config) (n m : ℕ) (d : Session)
    → with_turns ls c m (with_turns ls c n d) ≡ with_turns ls c (n + m) d
unfolding with_turns
turns_then ls c n m d =
    let first : List RunKind = take n d.left in
    let rest : List RunKind = drop n d.left in
    let x : Model = run_after ls c d.model first in
    let parts : take (n + m) d.left ≡ first ++ take m rest = take-add n m d.left in
    same_session (run_after ls c x (take m rest)) (run_after ls c d.model (take (n + m) d.left))
    (drop m rest) (drop (n + m) d.left)
    (count_turns (count_turns d.made (run_tells ls c d.model first))
    (run_tells ls c x (take m rest)))
    (count_turns d.made (run_tells ls c d.model (take (n + m) d.left)))
    (sym (ap (λ ks. run_after ls c d.model ks) parts
    ∙ after_append ls c d.model first (take m rest)))
    (drop-drop m n d.left)
    (sym (ap (λ ks. count_turns d.made (run_tells ls c d.model ks)) parts
    ∙ ap (count_turns d.made) (tells_append ls c d.model first (take m rest))
    ∙ counts_append d.made (run_tells ls c d.model first) (run_tells ls c x (take m rest))))

-- ---- lines, none of which ends the session

abbrev pub NoQuit : ℕ → List (List ℕ) → Type 0
NoQuit cpus [] = Unit {0}
NoQuit cpus (line ∷ more) = (ends (question cpus line) ≡ false) × NoQuit cpus more

abbrev pub joined : Said → Said → Said
joined a b = record { pieces = a.pieces ++ b.pieces; after = b.after }

pub said_append : (ls : List Strike) (c : Config) (d : Session) (xs ys : List (List ℕ))
    → NoQuit c.cpus xs
    → session_from ls c d (xs ++ ys)
    ≡ joined (session_from ls c d xs) (session_from ls c (session_from ls c d xs).after ys)
said_append ls c d [] ys h = refl
said_append ls c d (x ∷ xs) ys h =
    let q : Option Question = question c.cpus x in
    let e : Session = after_line ls c q d in
    said_one ls c d q (λ t. session_from ls c t (xs ++ ys)) h.0
    ∙ ap (λ s. says (line_text q e) s) (said_append ls c e xs ys h.1)
    ∙ ap (λ s. joined s (session_from ls c s.after ys))
    (sym (said_one ls c d q (λ t. session_from ls c t xs) h.0))

-- the session after them has made the turns that they ask for
pub after_turns : (ls : List Strike) (c : Config) (d : Session) (xs : List (List ℕ))
    → NoQuit c.cpus xs
    → (session_from ls c d xs).after ≡ with_turns ls c (turns_in c.cpus xs) d
after_turns ls c d [] h = line_turns ls c None d
after_turns ls c d (x ∷ xs) h =
    let q : Option Question = question c.cpus x in
    let e : Session = after_line ls c q d in
    ap (λ (s : Said). s.after) (said_one ls c d q (λ t. session_from ls c t xs) h.0)
    ∙ after_turns ls c e xs h.1
    ∙ ap (λ s. with_turns ls c (turns_in c.cpus xs) s) (line_turns ls c q d)
    ∙ turns_then ls c (turns_of_line q) (turns_in c.cpus xs) d

pub after_model : (ls : List Strike) (c : Config) (d : Session) (xs : List (List ℕ))
    → NoQuit c.cpus xs
    → (session_from ls c d xs).after.model
    ≡ run_after ls c d.model (take (turns_in c.cpus xs) d.left)
unfolding with_turns
after_model ls c d xs h = ap (λ (s : Session). s.model) (after_turns ls c d xs h)

-- what was sound after them was sound before
pub sound_lines : (ls : List Strike) (c : Config) (d : Session) (xs : List (List ℕ))
    → NoQuit c.cpus xs → Sound ls (session_from ls c d xs).after.model.fate
    → Sound ls d.model.fate
sound_lines ls c d xs h sound =
    sound_run ls c d.model (take (turns_in c.cpus xs) d.left)
    (subst (λ x. Sound ls x.fate) (after_model ls c d xs h) sound)

pub sound_append : (ls : List Strike) (c : Config) (d : Session) (xs ys : List (List ℕ))
    → NoQuit c.cpus xs → NoQuit c.cpus ys
    → Sound ls (session_from ls c d (xs ++ ys)).after.model.fate
    → Sound ls (session_from ls c d xs).after.model.fate
sound_append ls c d xs ys h k sound =
    sound_lines ls c (session_from ls c d xs).after ys k
    (subst (λ (s : Said). Sound ls s.after.model.fate) (said_append ls c d xs ys h) sound)

-- one more of them
pub said_more : (ls : List Strike) (c : Config) (d : Session) (xs : List (List ℕ)) (x : List ℕ)
    → NoQuit c.cpus xs → ends (question c.cpus x) ≡ false
    → session_from ls c d (xs ++ x ∷ [])
    ≡ joined (session_from ls c d xs)
    (says (line_text (question c.cpus x)
    (after_line ls c (question c.cpus x) (session_from ls c d xs).after))
    (record {
      pieces = [];
      after = after_line ls c (question c.cpus x) (session_from ls c d xs).after;
    }))
said_more ls c d xs x h e =
    said_append ls c d xs (x ∷ []) h
    ∙ ap (λ s. joined (session_from ls c d xs) s)
    (said_one ls c (session_from ls c d xs).after (question c.cpus x)
    (λ t. session_from ls c t []) e)
