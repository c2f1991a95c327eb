-- Parts that are told, and within their limit together.
use Rattle.std.proofs.Common.{◌≡◌, ℕ, zero, suc, ◌+◌, ◌-◌, ◌<◌, ◌≤◌, List, [], ◌∷◌, ◌++◌, length, map, take, get_or, Option, Some, None, Err, Ok, true, refl, sym, ◌∙◌, ap, arith}
use Rattle.std.specs.List.{concat}
use Rattle.std.proofs.lemmas.List.{length-append}
use Rattle.g5_outside.specs.Calls.{file_named}
use Rattle.g5_outside.specs.Causes.{Rose}
use Rattle.g5_outside.specs.Views.{ShelfView}
use Rattle.link_model.specs.Link.{link_of}
use Rattle.program_model.specs.Given.{Text}
use Rattle.program_model.specs.declared.inputs.Input.{Input}
use Rattle.program_model.specs.declared.refusals.LinkRefusal.{LinkRefusal}
use Rattle.program_model.specs.declared.status.Status.{Status}
use Rattle.program_model.specs.declared.status.Status.TheVariants.{Done, CheckStopped, Usage, NoFile, ReadFault, WriteFault, DeckRefused, ScheduleRefused, ScriptRefused, TooLarge, NoMemory, LogRefused, SourceRefused, LinkRefused, SaveRefused, AuditNo}
use Rattle.source_commands.specs.Links.{RefusesParts}
use Rattle.source_commands.specs.Parts.{AreParts, IsAbsent, IsPastLimit, IsUnread, most_bytes}
use Rattle.g5_run.specs.Complete.{IsLinkable}

-- ---- names and the bytes that they have

head_is : (x y : Option (List ℕ)) (xs ys : List (Option (List ℕ))) → x ∷ xs ≡ y ∷ ys → x ≡ y
head_is x y xs ys e = cc

tail_is : (x y : Option (List ℕ)) (xs ys : List (Option (List ℕ))) → x ∷ xs ≡ y ∷ ys → xs ≡ ys
tail_is x y xs ys e = cc

same_bytes : (x y : List ℕ) (f : Option (List ℕ)) → f ≡ Some x → f ≡ Some y → x ≡ y
same_bytes x y f e k = let both : Some x ≡ Some y = sym e ∙ k in cc

-- each name has bytes
none_absent : (f : Text → Option (List ℕ)) (names : List Text) (parts : List (List ℕ)) (j : ℕ)
    → map f names ≡ map Some parts → j < length names → f (get_or names j []) ≡ None → ⊥
none_absent f [] parts j e lt none = absurd (omega (arith, lt))
none_absent f (n ∷ ns) [] j e lt none = absurd cc
none_absent f (n ∷ ns) (p ∷ ps) zero e lt none =
    let both : Some p ≡ None =
    sym (head_is (f n) (Some p) (map f ns) (map Some ps) e) ∙ none in absurd cc
none_absent f (n ∷ ns) (p ∷ ps) (suc j) e lt none =
    none_absent f ns ps j (tail_is (f n) (Some p) (map f ns) (map Some ps) e)
    (omega (arith, lt)) none

-- those of the names before one, and of this one, are no more than all
no_more : (f : Text → Option (List ℕ)) (names : List Text) (parts before : List (List ℕ)) (j : ℕ)
    (x : List ℕ) → map f names ≡ map Some parts → map f (take j names) ≡ map Some before
    → j < length names → f (get_or names j []) ≡ Some x
    → length (concat before) + length x ≤ length (concat parts)
no_more f [] parts before j x e b lt is = absurd (omega (arith, lt))
no_more f (n ∷ ns) [] before j x e b lt is = absurd cc
no_more f (n ∷ ns) (p ∷ ps) [] zero x e b lt is =
    let same : length x ≡ length p = ap length (same_bytes x p (f n) is
    (head_is (f n) (Some p) (map f ns) (map Some ps) e)) in
    let all : length (p ++ concat ps) ≡ length p + length (concat ps) =
    length-append p (concat ps) in
    omega (arith, same, all)
no_more f (n ∷ ns) (p ∷ ps) (b ∷ bs) zero x e k lt is = absurd cc
no_more f (n ∷ ns) (p ∷ ps) [] (suc j) x e k lt is = absurd cc
no_more f (n ∷ ns) (p ∷ ps) (b ∷ bs) (suc j) x e k lt is =
    let same : length b ≡ length p = ap length (same_bytes b p (f n)
    (head_is (f n) (Some b) (map f (take j ns)) (map Some bs) k)
    (head_is (f n) (Some p) (map f ns) (map Some ps) e)) in
    let all : length (p ++ concat ps) ≡ length p + length (concat ps) =
    length-append p (concat ps) in
    let front : length (b ++ concat bs) ≡ length b + length (concat bs) =
    length-append b (concat bs) in
    let rest : length (concat bs) + length x ≤ length (concat ps) =
    no_more f ns ps bs j x (tail_is (f n) (Some p) (map f ns) (map Some ps) e)
    (tail_is (f n) (Some b) (map f (take j ns)) (map Some bs) k) (omega (arith, lt)) is in
    omega (arith, same, all, front, rest)

same_lists : (xs ys : List (List ℕ)) → map Some xs ≡ map Some ys → xs ≡ ys
same_lists [] [] e = refl
same_lists [] (y ∷ ys) e = absurd cc
same_lists (x ∷ xs) [] e = absurd cc
same_lists (x ∷ xs) (y ∷ ys) e =
    let first : x ≡ y = same_bytes x y (Some x) refl
    (head_is (Some x) (Some y) (map Some xs) (map Some ys) e) in
    let rest : xs ≡ ys =
    same_lists xs ys (tail_is (Some x) (Some y) (map Some xs) (map Some ys) e) in
    ap (λ z. z ∷ xs) first ∙ ap (λ zs. y ∷ zs) rest

-- ---- parts that are told

same_parts : (names : List Text) (s : ShelfView) (x y : List ℕ) → s.told ≡ true
    → AreParts names s x → AreParts names s y → x ≡ y
same_parts names s x y t h k =
    let parts : h.parts ≡ k.parts = same_lists h.parts k.parts (sym (h.are t) ∙ k.are t) in
    h.joined ∙ ap concat parts ∙ sym k.joined

pub parts_linked : (names : List Text) (a b : ShelfView) (r : LinkRefusal) → IsLinkable names a
    → RefusesParts names a b r → ⊥
parts_linked names a b r ok h =
    let same = same_parts names a ok.parts h.parts ok.told ok.read h.read in
    let clash : Ok ok.deck ≡ Err r = sym ok.links ∙ ap link_of same ∙ h.refused in
    absurd cc

none_missing : (names : List Text) (a b : ShelfView) (at : Input) → IsLinkable names a
    → IsAbsent names a b at → ⊥
none_missing names a b at ok h =
    none_absent (λ n. file_named n a.files) names ok.read.parts h.reached.j (ok.read.are ok.told)
    h.reached.inside (h.finds.missing ok.told)

none_past : (names : List Text) (a b : ShelfView) (at : Input) → IsLinkable names a
    → IsPastLimit names a b at → ⊥
none_past names a b at ok h =
    let r = h.reached in
    let above = h.finds.above ok.told in
    let all : length ok.parts ≡ length (concat ok.read.parts) = ap length ok.read.joined in
    let front : length r.bytes ≡ length (concat r.before.parts) = ap length r.before.joined in
    let fits : length (concat r.before.parts) + length above.0 ≤ length (concat ok.read.parts) =
    no_more (λ n. file_named n a.files) names ok.read.parts r.before.parts r.j above.0
    (ok.read.are ok.told) (r.before.are ok.told) r.inside above.1 in
    let bound : length ok.parts ≤ most_bytes = ok.read.bound in
    let past : most_bytes - length r.bytes < length above.0 = above.2 in
    absurd (omega (arith, all, front, fits, bound, past))

-- where no call fails, they are read, or there is no memory
pub parts_read : (names : List Text) (a b : ShelfView) (status : Status) → IsLinkable names a
    → ¬ Rose a.read_faults b.read_faults → IsUnread names a b status → status ≡ NoMemory
parts_read names a b Done ok reads h = absurd h
parts_read names a b CheckStopped ok reads h = absurd h
parts_read names a b Usage ok reads h = absurd h
parts_read names a b (NoFile at) ok reads h = absurd (none_missing names a b at ok h)
parts_read names a b ReadFault ok reads h = absurd (reads h)
parts_read names a b WriteFault ok reads h = absurd h
parts_read names a b (DeckRefused r) ok reads h = absurd h
parts_read names a b (ScheduleRefused r) ok reads h = absurd h
parts_read names a b (ScriptRefused r) ok reads h = absurd h
parts_read names a b (TooLarge at) ok reads h = absurd (none_past names a b at ok h)
parts_read names a b NoMemory ok reads h = refl
parts_read names a b (LogRefused r) ok reads h = absurd h
parts_read names a b (SourceRefused r) ok reads h = absurd h
parts_read names a b (LinkRefused r) ok reads h = absurd h
parts_read names a b (SaveRefused r) ok reads h = absurd h
parts_read names a b (AuditNo r) ok reads h = absurd h
