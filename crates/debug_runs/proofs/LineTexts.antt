-- The text of an answer, by what its line asks.
use Rattle.std.proofs.Common.{◌≡◌, ◌≢◌, ℕ, true, false, List, refl, sym, ap, ◌∙◌, subst, Option, Some, None, ◌⊎◌, inl, inr}
use Rattle.g5_debugger.specs.Sessions.{AnswersLine, IsAnswer, IsText}
use Rattle.g5_debugger.specs.declared.session.Answer.{Answer}
use Rattle.g5_debugger.specs.declared.session.Answer.TheVariants.{Text, Unknown, Quit}
use Rattle.g5_debugger.specs.declared.session.Session.{Session}
use Rattle.program_model.specs.Debugger.{unknown}
use Rattle.program_model.specs.Session.{Session as ModelSession, answered}
use Rattle.program_model.specs.declared.questions.Question.{Question}
use Rattle.program_model.specs.declared.questions.Question.TheVariants.{Quit as AskedToQuit}
use Rattle.run_loop.specs.Engines.{EngineView}
use Rattle.debug_runs.specs.CommandLines.{ends, text_of}
use Rattle.debug_runs.proofs.Sayings.{line_text}

-- a question is `quit`, or it does not end the session
record GoesOn (q : Question) : Type 0 where
  other : q ≢ AskedToQuit
  goes : ends (Some q) ≡ false

quit_or : (q : Question) → (q ≡ AskedToQuit) ⊎ GoesOn q
quit_or AskedToQuit = inl refl
quit_or _ = inr (record { other = λ e. absurd (cc e); goes = refl })

no_text : (a : Answer) (P : List ℕ → Type 0) → IsText a P → text_of a ≡ None → ⊥
no_text (Text t) P h e = absurd (cc e)
no_text Unknown P h e = h
no_text Quit P h e = h

quit_text : (a : Answer) (t : List ℕ) → a ≡ Quit → text_of a ≡ Some t → ⊥
quit_text a t e f =
    let none : None ≡ Some t = subst (λ b. text_of b ≡ Some t) e f in absurd (cc none)

-- an answer without a text is to `quit`
pub ends_it : (q : Option Question) (s : Session) (v : EngineView) (a : Answer)
    → AnswersLine q s v a → text_of a ≡ None → ends q ≡ true
ends_it None s v a h e =
    let some : Some unknown ≡ None = subst (λ b. text_of b ≡ None) h e in absurd (cc some)
ends_it (Some q) s v a h e = elim (quit_or q) [
  | inl quits ↦ ap (λ p. ends (Some p)) quits
  | inr on ↦ absurd (no_text a _ (h.text on.other) e)
]

-- an answer with a text is to another line
pub goes_on : (q : Option Question) (s : Session) (v : EngineView) (a : Answer) (t : List ℕ)
    → AnswersLine q s v a → text_of a ≡ Some t → ends q ≡ false
goes_on None s v a t h e = refl
goes_on (Some q) s v a t h e = elim (quit_or q) [
  | inl quits ↦ absurd (quit_text a t (h.quit quits) e)
  | inr on ↦ on.goes
]

text_as : (a : Answer) (t u : List ℕ) → IsText a (λ x. x ≡ u) → text_of a ≡ Some t → t ≡ u
text_as (Text x) t u h e = let same : x.items ≡ t = cc e in sym same ∙ h
text_as Unknown t u h e = absurd h
text_as Quit t u h e = absurd h

-- and it is that of the definitions
pub is_line_text : (q : Option Question) (d : ModelSession) (a : Answer) (t : List ℕ)
    → IsAnswer q d a → text_of a ≡ Some t → t ≡ line_text q d
is_line_text None d a t h e =
    let same : Some unknown ≡ Some t = subst (λ b. text_of b ≡ Some t) h e in cc same
is_line_text (Some q) d a t h e = elim (quit_or q) [
  | inl quits ↦ absurd (quit_text a t (h.0 quits) e)
  | inr on ↦ text_as a t (answered d q) (h.1 on.other) e
]
