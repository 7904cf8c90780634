-- `headers::parts::cbpy_plainly` meets its contract: the lent table is Annex B's. Assumes nothing.
use Rattle.fields.proofs.TableLaws.{cbpy_code_lem}
use Rattle.headers.proofs.parts.cbpy_plainly.Goals as goal

pub returns : goal.returns
returns c = cbpy_code_lem c.args.«data».now c.args.c.bit_pos _ c.cbpy_codes-codes.ensures c.cbpy_lens-lens.ensures c.read_code.ensures.code_read
