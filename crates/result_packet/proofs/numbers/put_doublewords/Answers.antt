use Rattle.std.proofs.Common.{◌∙◌, ◌<◌, ◌^◌, arith}
use Rattle.std.proofs.lemmas.List.Elements.{All-nil, All-more}
use Rattle.result_packet.proofs.Put.{put_nothing, put_next}
use Rattle.result_packet.proofs.numbers.put_doublewords.Goals as goal

pub loop-k-init : goal.loop-k-init
loop-k-init c = record { bytes = put_nothing c.args.at c.args.out.now; fit = All-nil (λ v. v < 2 ^ 64) }

pub loop-k-preserved : goal.loop-k-preserved
loop-k-preserved c = record {
  bytes = c.put64.ensures.bytes
      ∙ put_next 8 c.args.at c.loop-k.k c.args.values.now c.args.out.now c.loop-k.out (omega arith) c.requires c.loop-k.invariant.bytes;
  fit = All-more (λ v. v < 2 ^ 64) c.args.values.now c.loop-k.k 0 (omega arith) c.loop-k.invariant.fit c.put64.ensures.fits;
}
