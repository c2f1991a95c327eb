-- The seven points that an entry meets, in terms of the entries before it, which are given latest
-- first; and the first point that fails. Source: choice of this project.
use Rattle.std.specs.Prelude.{ℕ, ◌+◌, Bool, if◌then◌else◌, List, [], ◌∷◌, Option, Some, None, Result, Ok, Err}
use Rattle.run_model.specs.Lawful.{turn_ok, core_ok, retry_ok, fenced_ok, spared_ok, stop_ok, returned_ok}
use Rattle.run_model.specs.declared.logs.Config.{Config}
use Rattle.run_model.specs.declared.logs.Entry.{Entry}
use Rattle.program_model.specs.declared.refusals.AuditRefusal.{AuditRefusal}
use Rattle.program_model.specs.declared.refusals.AuditRefusal.TheVariants.{Turn, Core, Retry, Fenced, Spared, Stop, Returned}

-- whether each of them is met
pub record Points : Type 0 where
  pub turn : Bool
  pub core : Bool
  pub retry : Bool
  pub fenced : Bool
  pub spared : Bool
  pub stop : Bool
  pub returned : Bool

abbrev pub points : Config → ℕ → List Entry → Entry → Points
points c last past e = record {
  turn = turn_ok last past e;
  core = core_ok c past e;
  retry = retry_ok c past e.cpu.0 e.what;
  fenced = fenced_ok c past e.turn e.cpu.0 e.what;
  spared = spared_ok c past e.turn e.what;
  stop = stop_ok past e.turn e.what;
  returned = returned_ok past e.core.0 e.what;
}

-- the first that fails, of the entry on the line of this number
abbrev pub first_of : ℕ → Bool → Bool → Bool → Bool → Bool → Bool → Bool → Option AuditRefusal
first_of n turn core retry fenced spared stop returned =
    if turn then (if core then (if retry then (if fenced then (if spared then (if stop then
    (if returned then None
    else Some (Returned n))
    else Some (Stop n))
    else Some (Spared n))
    else Some (Fenced n))
    else Some (Retry n))
    else Some (Core n))
    else Some (Turn n)

abbrev pub first_failed : ℕ → Points → Option AuditRefusal
first_failed n p = first_of n p.turn p.core p.retry p.fenced p.spared p.stop p.returned

abbrev pub or_else : Option AuditRefusal → Option AuditRefusal → Option AuditRefusal
or_else None behind = behind
or_else (Some refusal) behind = Some refusal

-- the refusal of the first of these entries that fails a point; they stand from that line on
abbrev pub first_refusal : Config → ℕ → ℕ → List Entry → List Entry → Option AuditRefusal
first_refusal c last n past [] = None
first_refusal c last n past (e ∷ es) =
    or_else (first_failed n (points c last past e)) (first_refusal c last (n + 1) (e ∷ past) es)

abbrev pub unless : {A : Type 0} → Option AuditRefusal → A → Result A AuditRefusal
unless None value = Ok value
unless (Some refusal) value = Err refusal
