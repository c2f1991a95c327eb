use Rattle.std.proofs.Common.{arith, refl, ◌∙◌, ◌≡◌}
use Rattle.g5_outside.specs.MemoryFiles.{bytes_at}
use Rattle.g5_outside.proofs.Places.{left_past, bytes_at_get}
use Rattle.g5_outside.proofs.Moves.{end_of_moved}
use Rattle.g5_outside.proofs.memory_shelf.MemoryShelfShelf.read.Goals as goal

pub returns-then-self-len-clause-content : goal.returns-then-self-len-clause-content
returns-then-self-len-clause-content c = let none = left_past c.args.self.now.files.items c.args.self.now.at_file c.args.self.now.at_byte (omega arith) in λ told. record {
  files = refl;
  created = record { names = λ n. refl; texts = λ n. refl };
  bytes = refl;
  end = λ zero. none;
}

pub returns-then-self-len-clause-count : goal.returns-then-self-len-clause-count
returns-then-self-len-clause-count c =
    let none = left_past c.args.self.now.files.items c.args.self.now.at_file c.args.self.now.at_byte (omega arith) in
    rw none (omega arith)

pub returns-clause-content : goal.returns-clause-content
returns-clause-content c =
    let e : bytes_at c.args.self.now.files.items c.args.self.now.at_file ≡ c.deref.result.now = bytes_at_get c.args.self.now.files.items c.args.self.now.at_file c.index.result.now (omega arith) ∙ cc in
    λ told. record {
      files = refl;
      created = record { names = λ n. refl; texts = λ n. refl };
      bytes = rw e c.read_from-count.ensures.moved;
      end = λ zero. rw e (end_of_moved c.deref.result.now c.read_from-count.new.into c.args.self.now.at_byte c.read_from-count.result c.next_fails.new.self.step c.read_from-count.ensures.count zero (omega arith) c.next_fails.new.self.in_range);
    }

pub returns-clause-count : goal.returns-clause-count
returns-clause-count c =
    let e : bytes_at c.args.self.now.files.items c.args.self.now.at_file ≡ c.deref.result.now = bytes_at_get c.args.self.now.files.items c.args.self.now.at_file c.index.result.now (omega arith) ∙ cc in
    rw e (omega (arith, c.read_from-count.ensures.count, c.next_fails.ensures.step))
