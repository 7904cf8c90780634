-- `headers::parts::mcbpc_plainly` meets its contract: the lent table is Annex B's. Assumes nothing.
use Rattle.fields.proofs.TableLaws.{mcbpc_code_lem}
use Rattle.headers.proofs.parts.mcbpc_plainly.Goals as goal

pub returns : goal.returns
returns c = mcbpc_code_lem c.args.«data».now c.args.c.bit_pos _ c.mcbpc_codes-codes.ensures c.mcbpc_lens-lens.ensures c.read_code.ensures.code_read
