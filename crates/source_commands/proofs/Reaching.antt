-- Parts that are read one after another.
use Rattle.std.proofs.Common.{◌≡◌, ℕ, ◌+◌, ◌-◌, ◌<◌, ◌≤◌, List, [], ◌∷◌, ◌++◌, length, map, take, get_or, Option, Some, true, refl, sym, ◌∙◌, ap, subst, arith, append-nil}
use Rattle.std.specs.List.{concat}
use Rattle.std.proofs.lemmas.List.{length-append, map-append, map_more}
use Rattle.std.proofs.lemmas.List.Folds.{concat-append}
use Rattle.g5_outside.specs.Calls.{file_named}
use Rattle.g5_outside.specs.Views.{ShelfView}
use Rattle.g5_reading.specs.Inputs.{FindsNone, FindsTooMuch, OnlyReads}
use Rattle.g5_reading.proofs.ReadLoop.{only_more, only_same}
use Rattle.program_model.specs.Given.{Text}
use Rattle.program_model.specs.declared.inputs.Input.{Input}
use Rattle.program_model.specs.declared.inputs.Input.TheVariants.{Part}
use Rattle.program_model.specs.declared.status.Status.{Status}
use Rattle.program_model.specs.declared.status.Status.TheVariants.{Done, CheckStopped, Usage, NoFile, ReadFault, WriteFault, DeckRefused, ScheduleRefused, ScriptRefused, TooLarge, NoMemory, LogRefused, SourceRefused, LinkRefused, SaveRefused, AuditNo}
use Rattle.source_commands.specs.Parts.{AddsPart, AreParts, IsReached, IsUnread, IsUnreadPart, most_bytes}

-- the parts before j were read
pub record ReadSoFar (names : List Text) (j : ℕ) (a b : ShelfView) (bytes : List ℕ) :
    Type 0 where
  pub only : OnlyReads a b
  pub read : AreParts (take j names) a bytes
  pub found : 1 ≤ j → b.found ≡ true

pub none_read : (names : List Text) (a : ShelfView) (bytes : List ℕ) → bytes ≡ []
    → ReadSoFar names 0 a a bytes
none_read names a bytes is = record {
  only = only_same a;
  read = record {
    parts = [];
    are = λ t. refl;
    joined = is;
    bound = subst (λ xs. length xs ≤ most_bytes) (sym is) (omega arith);
  };
  found = λ h. absurd (omega (arith, h));
}

-- ---- a part more

-- files are as they were before others were read
same_file : (name : Text) (a b : ShelfView) → OnlyReads a b → a.told ≡ true
    → file_named name a.files ≡ file_named name b.files
same_file name a b o t = ap (λ fs. file_named name fs) (sym (o.files t))

joined_more : (parts : List (List ℕ)) (part bytes all : List ℕ) → bytes ≡ concat parts
    → all ≡ bytes ++ part → all ≡ concat (parts ++ part ∷ [])
joined_more parts part bytes all e is =
    is ∙ ap (λ xs. xs ++ part) e ∙ ap (λ ys. concat parts ++ ys) (sym (append-nil part))
    ∙ sym (concat-append parts (part ∷ []))

bound_more : (part bytes all : List ℕ) → length bytes ≤ most_bytes
    → length part ≤ most_bytes - length bytes → all ≡ bytes ++ part → length all ≤ most_bytes
bound_more part bytes all h k is =
    let e : length all ≡ length bytes + length part = ap length is ∙ length-append bytes part in
    omega (arith, h, k, e)

pub more_parts : (names : List Text) (j : ℕ) (name : Text) (a b c : ShelfView)
    (bytes all : List ℕ) → j < length names → get_or names j [] ≡ name
    → ReadSoFar names j a b bytes → OnlyReads b c → AddsPart name b bytes all → c.found ≡ true
    → ReadSoFar names (j + 1) a c all
more_parts names j name a b c bytes all lt at so o p found =
    let r = so.read in
    record {
      only = only_more a b c so.only o;
      read = record {
        parts = r.parts ++ p.part ∷ [];
        are = λ t.
            let f : Text → Option (List ℕ) = λ n. file_named n a.files in
            let one = same_file name a b so.only t ∙ p.read.is (so.only.told ∙ t) in
            map_more f names j [] lt ∙ ap (λ n. map f (take j names) ++ f n ∷ []) at
            ∙ ap (λ x. map f (take j names) ++ x ∷ []) one
            ∙ ap (λ xs. xs ++ Some p.part ∷ []) (r.are t)
            ∙ sym (map-append Some r.parts (p.part ∷ []));
        joined = joined_more r.parts p.part bytes all r.joined p.joined;
        bound = bound_more p.part bytes all r.bound p.read.bound p.joined;
      };
      found = λ h. found;
    }

-- ---- a part that is not read

abbrev reached : (names : List Text) (j : ℕ) (a b : ShelfView) (bytes : List ℕ) (at : Input)
    → j < length names → ReadSoFar names j a b bytes → at ≡ Part j → IsReached names a at
reached names j a b bytes at lt so is = record {
  j = j;
  is = is;
  inside = lt;
  bytes = bytes;
  before = so.read;
}

none_found : (name : Text) (a b c : ShelfView) → OnlyReads a b → FindsNone name b c
    → FindsNone name a c
none_found name a b c o h = record {
  found = h.found;
  missing = λ t. same_file name a b o t ∙ h.missing (o.told ∙ t);
}

too_much_found : (name : Text) (most : ℕ) (a b c : ShelfView) → OnlyReads a b
    → FindsTooMuch name most b c → FindsTooMuch name most a c
too_much_found name most a b c o h = record {
  found = h.found;
  above = λ t.
      let q = h.above (o.told ∙ t) in
      (q.0, same_file name a b o t ∙ q.1, q.2);
}

pub part_unread : (names : List Text) (j : ℕ) (name : Text) (a b c : ShelfView)
    (bytes : List ℕ) (status : Status) → j < length names → get_or names j [] ≡ name
    → ReadSoFar names j a b bytes
    → IsUnreadPart j name (most_bytes - length bytes) b c status → IsUnread names a c status
part_unread names j name a b c bytes (NoFile at) lt is so h = record {
  reached = reached names j a b bytes at lt so h.0;
  finds = none_found (get_or names j []) a b c so.only
      (subst (λ n. FindsNone n b c) (sym is) h.1);
}
part_unread names j name a b c bytes ReadFault lt is so h = omega (arith, so.only.reads, h)
part_unread names j name a b c bytes (TooLarge at) lt is so h = record {
  reached = reached names j a b bytes at lt so h.0;
  finds = too_much_found (get_or names j []) (most_bytes - length bytes) a b c so.only
      (subst (λ n. FindsTooMuch n (most_bytes - length bytes) b c) (sym is) h.1);
}
part_unread names j name a b c bytes NoMemory lt is so h = tt
part_unread names j name a b c bytes Done lt is so h = absurd h
part_unread names j name a b c bytes CheckStopped lt is so h = absurd h
part_unread names j name a b c bytes Usage lt is so h = absurd h
part_unread names j name a b c bytes WriteFault lt is so h = absurd h
part_unread names j name a b c bytes (DeckRefused r) lt is so h = absurd h
part_unread names j name a b c bytes (ScheduleRefused r) lt is so h = absurd h
part_unread names j name a b c bytes (ScriptRefused r) lt is so h = absurd h
part_unread names j name a b c bytes (LogRefused r) lt is so h = absurd h
part_unread names j name a b c bytes (SourceRefused r) lt is so h = absurd h
part_unread names j name a b c bytes (LinkRefused r) lt is so h = absurd h
part_unread names j name a b c bytes (SaveRefused r) lt is so h = absurd h
part_unread names j name a b c bytes (AuditNo r) lt is so h = absurd h
