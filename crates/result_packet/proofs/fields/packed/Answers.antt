-- Each number that is written has the width of its place.
use Rattle.std.proofs.Common.{subst}
use Rattle.result_packet.specs.Fine.{IsFine}
use Rattle.result_packet.proofs.fields.packed.Goals as goal

pub returns-clause-fine : goal.returns-clause-fine
returns-clause-fine c = subst IsFine c.f.view_is (record {
  w0 = c.write_psw.ensures.left;
  w1 = c.write_psw.ensures.right;
  general = c.write_words.ensures.fit;
  generals = c.write_words.ensures.len;
  control = c.write_words-2.ensures.fit;
  controls = c.write_words-2.ensures.len;
  prefix = c.write32.ensures.fits;
  kind = c.write8.ensures.fits;
  old0 = c.write_psw-2.ensures.left;
  old1 = c.write_psw-2.ensures.right;
  identification = c.write32-2.ensures.fits;
  request = c.write8-2.ensures.fits;
  sender = c.write8-3.ensures.fits;
  order_to = c.write8-4.ensures.fits;
  order = c.write8-5.ensures.fits;
  block = c.write16.ensures.fits;
  key = c.write8-6.ensures.fits;
  console = c.write8-7.ensures.fits;
  count = c.write16-2.ensures.fits;
  first_len = c.write16-3.ensures.fits;
  first_at = c.write32-3.ensures.fits;
  second_len = c.write16-4.ensures.fits;
  second_at = c.write32-4.ensures.fits;
  block_count = c.write8-8.ensures.fits;
  blocks = c.write_blocks.ensures.fit;
  eight = c.write_blocks.ensures.len;
  clocks = c.write_clocks.ensures.fit;
  four = c.write_clocks.ensures.len;
  tail = c.write_tail.ensures.len;
})
