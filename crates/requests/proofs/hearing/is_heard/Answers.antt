use Rattle.requests.proofs.Laws.{not-heard, crc-there, heard-by-crc}
use Rattle.requests.proofs.hearing.is_heard.Goals as goal

pub returns-then-not-ours-fits : goal.returns-then-not-ours-fits
returns-then-not-ours-fits c =
    not-heard _ _ _ _ _ _ c.byte_at-s.ensures.0 c.byte_at-n.ensures.0 c.byte_at-c.ensures.0 c.length_fits-fits.ensures c.if-not-ours-fits.true

pub crc_fits-requires : goal.crc_fits-requires
crc_fits-requires c =
    crc-there _ c.args.f.now _ _ _ _ c.byte_at-s.ensures.0 c.byte_at-n.ensures.0 c.byte_at-c.ensures.0 c.length_fits-fits.ensures c.if-not-ours-fits.false

pub returns : goal.returns
returns c =
    heard-by-crc _ _ _ _ _ _ c.byte_at-s.ensures.0 c.byte_at-n.ensures.0 c.byte_at-c.ensures.0 c.length_fits-fits.ensures c.if-not-ours-fits.false _ c.crc_fits.ensures
