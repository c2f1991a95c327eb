-- The lines before the first that ends the session.
use Rattle.std.proofs.Common.{◌≡◌, ℕ, Bool, true, false, List, [], ◌∷◌, ◌++◌, take, refl, sym, ap, ◌∙◌, subst, Option, Some, ◌⊎◌, inl, inr}
use Rattle.std.specs.Prelude.{if◌then◌else◌}
use Rattle.program_model.specs.Debugger.{question}
use Rattle.program_model.specs.Session.{Said, Session, said_by, says, session_from}
use Rattle.program_model.specs.declared.questions.Question.{Question}
use Rattle.program_model.specs.declared.questions.Question.TheVariants.{Quit}
use Rattle.run_model.specs.declared.faults.Strike.{Strike}
use Rattle.run_model.specs.declared.logs.Config.{Config}
use Rattle.g5_debugger.specs.Sessions.{after_line}
use Rattle.debug_runs.specs.CommandLines.{before_quit, ends}
use Rattle.debug_runs.proofs.Sayings.{NoQuit, is_quit, line_text, said_one}

-- ---- one line

before_as : (cpus : ℕ) (x : List ℕ) (xs : List (List ℕ)) (b : Bool)
    → ends (question cpus x) ≡ b
    → before_quit cpus (x ∷ xs) ≡ (if b then [] else x ∷ before_quit cpus xs)
before_as cpus x xs b e = ap (λ t. if t then [] else x ∷ before_quit cpus xs) e

pub before_goes : (cpus : ℕ) (x : List ℕ) (xs : List (List ℕ))
    → ends (question cpus x) ≡ false → before_quit cpus (x ∷ xs) ≡ x ∷ before_quit cpus xs
before_goes cpus x xs e = before_as cpus x xs false e

pub before_ends : (cpus : ℕ) (x : List ℕ) (xs : List (List ℕ))
    → ends (question cpus x) ≡ true → before_quit cpus (x ∷ xs) ≡ []
before_ends cpus x xs e = before_as cpus x xs true e

cases_of : (b : Bool) → (b ≡ true) ⊎ (b ≡ false)
cases_of true = inl refl
cases_of false = inr refl

-- ---- none of them ends it

pub none_before : (cpus : ℕ) (xs : List (List ℕ)) → NoQuit cpus (before_quit cpus xs)
none_before cpus [] = tt
none_before cpus (x ∷ xs) = elim (cases_of (ends (question cpus x))) [
  | inl quits ↦ subst (NoQuit cpus) (sym (before_ends cpus x xs quits)) tt
  | inr goes ↦
      subst (NoQuit cpus) (sym (before_goes cpus x xs goes)) (goes, none_before cpus xs)
]

pub none_front : (cpus : ℕ) (xs ys : List (List ℕ)) → NoQuit cpus (xs ++ ys) → NoQuit cpus xs
none_front cpus [] ys h = tt
none_front cpus (x ∷ xs) ys h = (h.0, none_front cpus xs ys h.1)

pub none_behind : (cpus : ℕ) (xs ys : List (List ℕ)) → NoQuit cpus (xs ++ ys) → NoQuit cpus ys
none_behind cpus [] ys h = h
none_behind cpus (x ∷ xs) ys h = none_behind cpus xs ys h.1

-- ---- what the definitions' session says to them is all that it says

said_quit : (ls : List Strike) (c : Config) (d : Session) (q : Option Question)
    (more : Session → Said) → q ≡ Some Quit
    → record { pieces = []; after = d } ≡ said_by ls c d q more
said_quit ls c d q more e =
    subst (λ p. record { pieces = []; after = d } ≡ said_by ls c d p more) (sym e) refl

pub said_before : (ls : List Strike) (c : Config) (d : Session) (xs : List (List ℕ))
    → session_from ls c d (before_quit c.cpus xs) ≡ session_from ls c d xs
said_before ls c d [] = refl
said_before ls c d (x ∷ xs) =
    let q : Option Question = question c.cpus x in
    let e : Session = after_line ls c q d in
    let before : List (List ℕ) = before_quit c.cpus xs in
    elim (cases_of (ends q)) [
      | inl quits ↦
          ap (λ ys. session_from ls c d ys) (before_ends c.cpus x xs quits)
          ∙ said_quit ls c d q (λ t. session_from ls c t xs) (is_quit q quits)
      | inr goes ↦
          ap (λ ys. session_from ls c d ys) (before_goes c.cpus x xs goes)
          ∙ said_one ls c d q (λ t. session_from ls c t before) goes
          ∙ ap (λ s. says (line_text q e) s) (said_before ls c e xs)
          ∙ sym (said_one ls c d q (λ t. session_from ls c t xs) goes)
    ]
