-- The rules that every run keeps.
use Rattle.std.proofs.Common.{◌≡◌, ◌≤◌, List, [], ◌∷◌, ◌++◌, refl, sym, ap, ◌∙◌, append_assoc}
use Rattle.std.specs.Prelude.{map}
use Rattle.run_model.specs.declared.logs.Config.{Config}
use Rattle.run_model.specs.declared.schedules.RunKind.{RunKind}
use Rattle.run_model.specs.Cores.{Choice, Cores, Outline, first_cores, make, outlines}
use Rattle.run_model.specs.Runs.{Told, outline_of}
use Rattle.run_laws.specs.Rules.{ByTable, KeepsRules}
use Rattle.run_laws.proofs.Tellings.{lawful_told, no_spare_told, retries_told}

-- turns in front tell what the first of the choices make
pub record FrontTells (c : Config) (s : Cores) (before : List Told) : Type 0 where
  pub front : List Choice
  pub tells : map outline_of before ≡ outlines c s front

first_of : (o p : Outline) (os ps : List Outline) → (o ∷ os) ≡ (p ∷ ps) → o ≡ p
first_of o p os ps e = cc

rest_of : (o p : Outline) (os ps : List Outline) → (o ∷ os) ≡ (p ∷ ps) → os ≡ ps
rest_of o p os ps e = cc

front_tells : (c : Config) (s : Cores) (xs : List Choice) (before after : List Told)
    → map outline_of (before ++ after) ≡ outlines c s xs → FrontTells c s before
front_tells c s xs [] after e = record { front = []; tells = refl }
front_tells c s [] (t ∷ ts) after e = absurd (cc e)
front_tells c s (x ∷ xs) (t ∷ ts) after e =
    let more = front_tells c (make c s x.kind x.met).after xs ts after
    (rest_of (outline_of t) (make c s x.kind x.met).outline (map outline_of (ts ++ after))
    (outlines c (make c s x.kind x.met).after xs) e) in
    record {
      front = x ∷ more.front;
      tells = ap (λ o. o ∷ map outline_of ts)
          (first_of (outline_of t) (make c s x.kind x.met).outline
          (map outline_of (ts ++ after)) (outlines c (make c s x.kind x.met).after xs) e)
          ∙ ap (λ os. (make c s x.kind x.met).outline ∷ os) more.tells;
    }

pub keeps_rules : (c : Config) (kinds : List RunKind) (told : List Told) → c.cpus ≤ 8
    → ByTable c kinds told → KeepsRules c told
keeps_rules c kinds told few by = record {
  lawful = lawful_told c by.choices told few by.valid by.tells;
  retries = λ before after i is.
      let front = front_tells c (first_cores c) by.choices before after
      (ap (map outline_of) (sym is) ∙ by.tells) in
      retries_told c front.front before i front.tells;
  no_spare = λ before t after i k is h.
      let split : told ≡ (before ++ t ∷ []) ++ after =
      is ∙ sym (append_assoc before (t ∷ []) after) in
      let front = front_tells c (first_cores c) by.choices (before ++ t ∷ []) after
      (ap (map outline_of) (sym split) ∙ by.tells) in
      no_spare_told c front.front before t i k front.tells h;
}
