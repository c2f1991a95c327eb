-- What stands before each line, and what a search over lines finds from one state and from another.
use Rattle.std.proofs.Common.{◌≡◌, ℕ, ◌+◌, ◌<◌, ◌≤◌, Bool, true, false, cond, ltb, ◌||◌, List, [], ◌∷◌, length, Option, Some, None, refl, sym, ◌∙◌, ap, arith}
use Rattle.std.proofs.lemmas.Bool.Decides.{nat_tests}
use Rattle.std.specs.List.{find}
use Rattle.asm_model.specs.declared.statements.Operation.{Operation}
use Rattle.asm_model.specs.declared.statements.Operation.TheVariants.{Section, Bytes, Word, Address, External, Space, AlignWord, AlignDouble, Using, End, Instruction}
use Rattle.asm_model.specs.declared.statements.Line.{Line}
use Rattle.asm_model.specs.declared.statements.Line.TheVariants.{Broken, Unknown, Said}
use Rattle.asm_model.specs.declared.statements.Statement.{Statement}
use Rattle.asm_model.specs.declared.statements.Source.{Source}
use Rattle.asm_model.specs.declared.program.Defined.{Defined}
use Rattle.asm_places.specs.declared.spots.Spot.{Spot}
use Rattle.asm_model.specs.Places.{State, Standing, size, alignment, raised, done, standing_at, with_name, past, after, standings}
use Rattle.asm_model.specs.Refused.{is_too_big}
use Rattle.asm_places.specs.Found.{number_of}
use Rattle.asm_places.specs.Spots.{spot_of, at, IsLow, with_named, of_externals, said}

-- ---- one statement, without names

pub standing_is : (p q : Spot) (o : Operation) (n : ℕ) → q ≡ spot_of (done (at p) o) → n ≡ raised (alignment o) q.offset
    → record { ended = q.ended; section = q.section; offset = n; total = q.total; base = q.base } ≡ spot_of (standing_at (at p) o)
standing_is p q o n e f =
    ap (λ (m : ℕ). record { ended = q.ended; section = q.section; offset = m; total = q.total; base = q.base }) f
    ∙ ap (λ (r : Spot). record { ended = r.ended; section = r.section; offset = raised (alignment o) r.offset; total = r.total; base = r.base }) e

-- a name changes nothing but names
pub named_spot : (m : Option ℕ) (n : ℕ) (s : State) → spot_of (past n (with_name m s)) ≡ spot_of (past n s)
named_spot None n s = refl
named_spot (Some m) n s = refl

pub after_said : (p : Spot) (t : Statement) (there next : Spot) → there ≡ spot_of (standing_at (at p) t.operation) → next ≡ spot_of (past (size t.operation) (at there)) → next ≡ spot_of (after (at p) (Said t))
after_said p t there next e f =
    f ∙ (ap (λ (q : Spot). spot_of (past (size t.operation) (at q))) e ∙ sym (named_spot t.name (size t.operation) (standing_at (at p) t.operation)))

done_spot : (s : State) (o : Operation) → spot_of (done s o) ≡ spot_of (done (at (spot_of s)) o)
done_spot s Section = refl
done_spot s (Bytes b) = refl
done_spot s (Word n) = refl
done_spot s (Address m n) = refl
done_spot s (External m) = refl
done_spot s (Space n) = refl
done_spot s AlignWord = refl
done_spot s AlignDouble = refl
done_spot s (Using m r) = refl
done_spot s (End m) = refl
done_spot s (Instruction g) = refl

pub standing_spot : (s : State) (o : Operation) → spot_of (standing_at s o) ≡ spot_of (standing_at (at (spot_of s)) o)
standing_spot s o = ap (λ (r : Spot). record { ended = r.ended; section = r.section; offset = raised (alignment o) r.offset; total = r.total; base = r.base }) (done_spot s o)

past_spot : (n : ℕ) (s t : State) → spot_of s ≡ spot_of t → spot_of (past n s) ≡ spot_of (past n t)
past_spot n s t e = ap (λ (r : Spot). record { ended = r.ended; section = r.section; offset = r.offset + n; total = r.total; base = r.base }) e

-- what is past a line depends on what stands before it without names
pub after_spot : (s : State) (l : Line) → spot_of (after s l) ≡ spot_of (after (at (spot_of s)) l)
after_spot s Broken = refl
after_spot s Unknown = refl
after_spot s (Said t) =
    named_spot t.name (size t.operation) (standing_at s t.operation)
    ∙ (past_spot (size t.operation) (standing_at s t.operation) (standing_at (at (spot_of s)) t.operation) (standing_spot s t.operation)
    ∙ sym (named_spot t.name (size t.operation) (standing_at (at (spot_of s)) t.operation)))

pub after_same : (s t : State) (l : Line) → spot_of s ≡ spot_of t → spot_of (after s l) ≡ spot_of (after t l)
after_same s t l e = after_spot s l ∙ (ap (λ (p : Spot). spot_of (after (at p) l)) e ∙ sym (after_spot t l))

-- ---- one statement, with names

abbrev state_of : Spot → List Defined → List ℕ → State
state_of p names ms = record {
  ended = p.ended;
  section = p.section;
  offset = p.offset;
  total = p.total;
  base = p.base;
  names = names;
  externals = ms;
}

named_state : (m : Option ℕ) (n : ℕ) (t : State) → state_of (spot_of (past n t)) (with_named t.names m (spot_of t)) t.externals ≡ past n (with_name m t)
named_state None n t = refl
named_state (Some m) n t = refl

done_state : (s : State) (o : Operation) → state_of (spot_of (done (at (spot_of s)) o)) s.names (done (of_externals s.externals) o).externals ≡ done s o
done_state s Section = refl
done_state s (Bytes b) = refl
done_state s (Word n) = refl
done_state s (Address m n) = refl
done_state s (External m) = refl
done_state s (Space n) = refl
done_state s AlignWord = refl
done_state s AlignDouble = refl
done_state s (Using m r) = refl
done_state s (End m) = refl
done_state s (Instruction g) = refl

standing_state : (s : State) (o : Operation) → state_of (spot_of (standing_at (at (spot_of s)) o)) s.names (done (of_externals s.externals) o).externals ≡ standing_at s o
standing_state s o = ap (λ (t : State). record { ended = t.ended; section = t.section; offset = raised (alignment o) t.offset; total = t.total; base = t.base; names = t.names; externals = t.externals }) (done_state s o)

pub whole_after : (s : State) (t : Statement) (there next : Spot) (names : List Defined) (ms : List ℕ)
    → there ≡ spot_of (standing_at (at (spot_of s)) t.operation)
    → next ≡ spot_of (past (size t.operation) (at there))
    → names ≡ with_named s.names t.name there
    → ms ≡ (done (of_externals s.externals) t.operation).externals
    → state_of next names ms ≡ after s (said t)
whole_after s t there next names ms e f g h =
    let u : State = state_of there s.names ms in
    let v : u ≡ standing_at s t.operation =
    ap (λ (p : Spot). state_of p s.names ms) e
    ∙ (ap (λ (xs : List ℕ). state_of (spot_of (standing_at (at (spot_of s)) t.operation)) s.names xs) h ∙ standing_state s t.operation) in
    ap (λ (p : Spot). state_of p names ms) f
    ∙ (ap (λ (ds : List Defined). state_of (spot_of (past (size t.operation) (at there))) ds ms) g
    ∙ (named_state t.name (size t.operation) u ∙ ap (λ (w : State). past (size t.operation) (with_name t.name w)) v))

-- ---- what is not too big

neither : (b c : Bool) → (b || c) ≡ false → (b ≡ false) × (c ≡ false)
neither true c h = absurd (grind (arith, nat_tests))
neither false c h = (refl, h)

not_below : (a b : ℕ) → ltb a b ≡ false → b ≤ a
not_below a b h = grind (arith, nat_tests)

pub low_of : (s : State) → is_too_big s ≡ false → IsLow (spot_of s)
low_of s h =
    let a = neither (ltb 1048576 s.offset) _ h in
    let b = neither (ltb 16777216 (s.total + s.offset)) (ltb 65535 (s.section + length s.externals)) a.1 in
    let c = not_below 1048576 s.offset a.0 in
    let d = not_below 16777216 (s.total + s.offset) b.0 in
    let e = not_below 65535 (s.section + length s.externals) b.1 in
    record { section = omega (arith, e); offset = c; total = omega (arith, d) }

done_total : (s : State) (o : Operation) → (done s o).total ≤ s.total + s.offset
done_total s Section = omega arith
done_total s (Bytes b) = omega arith
done_total s (Word n) = omega arith
done_total s (Address m n) = omega arith
done_total s (External m) = omega arith
done_total s (Space n) = omega arith
done_total s AlignWord = omega arith
done_total s AlignDouble = omega arith
done_total s (Using m r) = omega arith
done_total s (End m) = omega arith
done_total s (Instruction g) = omega arith

pub total_low : (s : State) (l : Line) → is_too_big s ≡ false → (after s l).total < 4294967296
total_low s Broken h = let a = (low_of s h).total in omega (arith, a)
total_low s Unknown h = let a = (low_of s h).total in omega (arith, a)
total_low s (Said t) h =
    let a = (low_of s h).total in
    let b = (low_of s h).offset in
    let c = done_total s t.operation in
    let d : (after s (Said t)).total ≡ (done s t.operation).total = ap (λ (p : Spot). p.total) (named_spot t.name (size t.operation) (standing_at s t.operation)) in
    omega (arith, a, b, c, d)

-- ---- searches

alike_step : (b c : Bool) (x y : Standing) (o p : Option Standing) → b ≡ c → x.number ≡ y.number → number_of o ≡ number_of p → number_of (cond b (Some x) o) ≡ number_of (cond c (Some y) p)
alike_step true true x y o p e n h = ap Some n
alike_step true false x y o p e n h = absurd (grind (arith, nat_tests))
alike_step false true x y o p e n h = absurd (grind (arith, nat_tests))
alike_step false false x y o p e n h = h

abbrev pub stands : Source → State → Standing
stands x s = record { number = x.number; line = x.line; before = s }

-- a search that looks at what two states have in common finds the same line from both
pub found_alike : (R : State → State → Type 0) (p : Standing → Bool)
    → ((s t : State) (x : Source) → R s t → p (stands x s) ≡ p (stands x t))
    → ((s t : State) (l : Line) → R s t → R (after s l) (after t l))
    → (s t : State) (xs : List Source) → R s t → number_of (find p (standings s xs)) ≡ number_of (find p (standings t xs))
found_alike R p same next s t [] r = refl
found_alike R p same next s t (x ∷ xs) r =
    alike_step (p (stands x s)) (p (stands x t)) (stands x s) (stands x t) (find p (standings (after s x.line) xs)) (find p (standings (after t x.line) xs))
    (same s t x r) refl (found_alike R p same next (after s x.line) (after t x.line) xs (next s t x.line r))

here_step : (b : Bool) (x : Standing) (o : Option Standing) → b ≡ true → Some x.number ≡ number_of (cond b (Some x) o)
here_step true x o e = refl
here_step false x o e = absurd (grind (arith, nat_tests))

on_step : (b : Bool) (x : Standing) (o : Option Standing) → b ≡ false → number_of o ≡ number_of (cond b (Some x) o)
on_step true x o e = absurd (grind (arith, nat_tests))
on_step false x o e = refl

pub found_here : (p : Standing → Bool) (s : State) (x : Source) (xs : List Source) → p (stands x s) ≡ true → Some x.number ≡ number_of (find p (standings s (x ∷ xs)))
found_here p s x xs e = here_step (p (stands x s)) (stands x s) (find p (standings (after s x.line) xs)) e

pub found_on : (p : Standing → Bool) (s : State) (x : Source) (xs : List Source) → p (stands x s) ≡ false → number_of (find p (standings (after s x.line) xs)) ≡ number_of (find p (standings s (x ∷ xs)))
found_on p s x xs e = on_step (p (stands x s)) (stands x s) (find p (standings (after s x.line) xs)) e
