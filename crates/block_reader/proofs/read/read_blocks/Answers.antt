-- `block_reader::read::read_blocks` meets its contract: six rows beside, kept where all six blocks were read. Assumes nothing.
use Rattle.std.proofs.Common.{ap, length, refl, ◌∙◌}
use Rattle.bits.proofs.CursorLaws.{counted, in_data_yes, not-counted}
use Rattle.numbers.proofs.Parts.{err_by}
use Rattle.texture.specs.Outcomes.{list_outcome}
use Rattle.block_reader.proofs.OutcomeLaws.{blocks_due_lem}
use Rattle.block_reader.proofs.RowLaws.{blocks_out, blocks_read, blocks_refused}
use Rattle.block_reader.proofs.read.read_blocks.Goals as goal

pub read_rows-requires : goal.read_rows-requires
read_rows-requires c =
    let a = c.args in
    let p = in_data_yes (length a.«data».now) a.c.bit_pos (counted a.«data».now a.c.bit_pos _ _ c.remaining_bits.ensures.value c.in-Ok.is) in
    ((p.1, p.0), refl)

pub returns-in_default-clause-value : goal.returns-in_default-clause-value
returns-in_default-clause-value c =
    let a = c.args in
    (blocks_out a.«data».now a.c.bit_pos a.pattern a.use_intra_dc_vlc a.reversible_vlc a.rows.now (not-counted a.«data».now a.c.bit_pos _ _ c.remaining_bits.ensures.value c.in_default.is)).0

pub returns-in_default-clause-rows : goal.returns-in_default-clause-rows
returns-in_default-clause-rows c =
    let a = c.args in
    (blocks_out a.«data».now a.c.bit_pos a.pattern a.use_intra_dc_vlc a.reversible_vlc a.rows.now (not-counted a.«data».now a.c.bit_pos _ _ c.remaining_bits.ensures.value c.in_default.is)).1

pub returns-in_default-clause-outcome : goal.returns-in_default-clause-outcome
returns-in_default-clause-outcome c =
    let a = c.args in
    ap list_outcome (returns-in_default-clause-value c) ∙ blocks_due_lem a.«data».now a.c.bit_pos a.pattern a.use_intra_dc_vlc a.reversible_vlc

pub returns-in_err-next-clause-value : goal.returns-in_err-next-clause-value
returns-in_err-next-clause-value c =
    let a = c.args in
    let h = counted a.«data».now a.c.bit_pos _ _ c.remaining_bits.ensures.value c.in-Ok.is in
    err_by c.from_residual.ensures
    ∙ (blocks_refused a.«data».now a.c.bit_pos a.pattern a.use_intra_dc_vlc a.reversible_vlc h c.read_rows.result _ a.rows.now c.read_rows.ensures c.in_err-next.was).0

pub returns-in_err-next-clause-rows : goal.returns-in_err-next-clause-rows
returns-in_err-next-clause-rows c =
    let a = c.args in
    let h = counted a.«data».now a.c.bit_pos _ _ c.remaining_bits.ensures.value c.in-Ok.is in
    (blocks_refused a.«data».now a.c.bit_pos a.pattern a.use_intra_dc_vlc a.reversible_vlc h c.read_rows.result _ a.rows.now c.read_rows.ensures c.in_err-next.was).1

pub returns-in_err-next-clause-outcome : goal.returns-in_err-next-clause-outcome
returns-in_err-next-clause-outcome c =
    let a = c.args in
    ap list_outcome (returns-in_err-next-clause-value c) ∙ blocks_due_lem a.«data».now a.c.bit_pos a.pattern a.use_intra_dc_vlc a.reversible_vlc

pub returns-clause-value : goal.returns-clause-value
returns-clause-value c =
    let a = c.args in
    let h = counted a.«data».now a.c.bit_pos _ _ c.remaining_bits.ensures.value c.in-Ok.is in
    (blocks_read a.«data».now a.c.bit_pos a.pattern a.use_intra_dc_vlc a.reversible_vlc h c.read_rows.result _ a.rows.now c.read_rows.ensures c.in_ok-next.was).0

pub returns-clause-rows : goal.returns-clause-rows
returns-clause-rows c =
    let a = c.args in
    let h = counted a.«data».now a.c.bit_pos _ _ c.remaining_bits.ensures.value c.in-Ok.is in
    (blocks_read a.«data».now a.c.bit_pos a.pattern a.use_intra_dc_vlc a.reversible_vlc h c.read_rows.result _ a.rows.now c.read_rows.ensures c.in_ok-next.was).1

pub returns-clause-outcome : goal.returns-clause-outcome
returns-clause-outcome c =
    let a = c.args in
    ap list_outcome (returns-clause-value c) ∙ blocks_due_lem a.«data».now a.c.bit_pos a.pattern a.use_intra_dc_vlc a.reversible_vlc
