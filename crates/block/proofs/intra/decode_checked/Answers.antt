-- `block::intra::decode_checked` meets its contract: the sentence that was read, its levels, values and samples. Assumes nothing.
use Rattle.std.proofs.Common.{List, ap, length, rules, sym, ℤ, ◌≡◌, ◌∙◌}
use Rattle.std.specs.Prelude.{Err, Ok, Result}
use Rattle.numbers.proofs.Parts.{err_by}
use Rattle.bits.proofs.CursorLaws.{in_data_by}
use Rattle.coefficients.specs.Level.{places_fine}
use Rattle.fields.specs.Reader.{Res, no}
use Rattle.sentences.specs.Macroblock.{Parts}
use Rattle.sentences.specs.MacroblockReader.{read_block}
use Rattle.bits.specs.Bits.{bits_from}
use Rattle.block_reader.proofs.ReadingLaws.{answer-inside}
use Rattle.block_reader.proofs.SentenceLaws.{Sentence, none, sentence}
use Rattle.fields.specs.declared.error.TextureParseError.{TextureParseError}
use Rattle.assembly.proofs.ContextLaws.{quantiser-fine}
use Rattle.assembly.specs.Values.{samples_of}
use Rattle.assembly.specs.declared.error.BlockAssemblyError.{BlockAssemblyError}
use Rattle.block.proofs.AnswerLaws.{sentence_fine}
use Rattle.block.proofs.HandedLaws.{all_places, given-same, numbers_fine}
use Rattle.block.proofs.RebuildLaws.{Given, handed_over}
use Rattle.block.specs.Decoded.{decoded_by, levels_told, samples_told, told}
use Rattle.block.specs.Rebuilt.{dc_here, levels_here, values_here}
use Rattle.block.proofs.intra.decode_checked.Goals as goal
use Rattle.block.proofs.intra.decode_checked.Goals.{After-read_block-one, After-rebuild_up_to-rebuilt}

-- the sentence that was read
read : (c : After-rebuild_up_to-rebuilt) → let a = c.args in
    Sentence a.«data».now a.c.bit_pos a.component a.coded a.dc_coded a.reversible c.read_block-one.result.qfs c.in_ok-next.next c.in_ok-next.spellings
read c =
    let a = c.args in
    let d = a.«data».now in
    let at = a.c.bit_pos in
    let parts = c.read_block-one.ensures.value ∙ answer-inside d at a.component a.coded a.dc_coded a.reversible (in_data_by (length d) at c.requires.0.1 c.requires.0.0) in
    sentence d at a.component a.coded a.dc_coded a.reversible c.read_block-one.result parts c.in_ok-next.was

-- or that there is none
refused : (c : After-read_block-one) {e : TextureParseError} → c.read_block-one.result.answer ≡ Err e → let a = c.args in
    read_block a.dc_coded a.reversible (a.component, a.coded) (bits_from a.«data».now a.c.bit_pos) ≡ no e
refused c k =
    let a = c.args in
    let d = a.«data».now in
    let at = a.c.bit_pos in
    let parts = c.read_block-one.ensures.value ∙ answer-inside d at a.component a.coded a.dc_coded a.reversible (in_data_by (length d) at c.requires.0.1 c.requires.0.0) in
    none d at a.component a.coded a.dc_coded a.reversible c.read_block-one.result parts k

-- nothing of it is refused, and it is rebuilt by all its predictors
whole : (c : After-rebuild_up_to-rebuilt) → let a = c.args in let r = c.rebuild_up_to-rebuilt in
    Given a.component a.ctx a.predictors a.w c.read_block-one.result.qfs (Ok tt) r.result r.new.spatial a.spatial.now r.new.qf a.qf.now
whole c =
    let a = c.args in
    let x = a.ctx in
    let long : length c.read_block-one.result.qfs ≡ 64 = search rules in
    let is = c.needed.ensures in
    let fine = numbers_fine x a.predictors c.requires.2 _ is (quantiser-fine x a.w c.requires.1) in
    let e = c.rebuild_up_to-rebuilt.ensures in
    given-same x a.predictors c.requires.2 _ is a.component a.w _ long _ _ a.spatial.now _ a.qf.now
    (handed_over a.component x _ a.w _ _ _ _ _ _ fine (ap places_fine (all_places _ long) ∙ sentence_fine (read c)) (e.value, (e.samples, e.levels)))

pub returns-in_err-next-clause-value : goal.returns-in_err-next-clause-value
returns-in_err-next-clause-value c =
    let a = c.args in
    let d = a.«data».now in
    err_by c.from_residual.ensures
    ∙ sym (ap (told d a.component a.dc_coded a.ctx a.predictors a.w) (refused (goal.at.returns-in_err-next-clause-value c).After-read_block-one c.in_err-next.was))

pub returns-in_err-next-clause-samples : goal.returns-in_err-next-clause-samples
returns-in_err-next-clause-samples c =
    let a = c.args in
    let d = a.«data».now in
    sym (ap (λ (y : Res Parts). samples_told d a.component a.dc_coded a.ctx a.predictors a.w y a.spatial.now) (refused (goal.at.returns-in_err-next-clause-samples c).After-read_block-one c.in_err-next.was))

pub returns-in_err-next-clause-levels : goal.returns-in_err-next-clause-levels
returns-in_err-next-clause-levels c =
    let a = c.args in
    let d = a.«data».now in
    sym (ap (λ (y : Res Parts). levels_told d a.component a.dc_coded a.ctx a.predictors a.w y a.qf.now) (refused (goal.at.returns-in_err-next-clause-levels c).After-read_block-one c.in_err-next.was))

pub returns-clause-value : goal.returns-clause-value
returns-clause-value c =
    let k = (goal.at.returns-clause-value c).After-rebuild_up_to-rebuilt in
    let a = c.args in
    let n = read k in
    c.decoded.ensures ∙ ap (λ (y : Result ℤ BlockAssemblyError). decoded_by y c.in_ok-next.next c.in_ok-next.spellings) (whole k).0
    ∙ (λ i. Ok (record { dc = dc_here a.component a.ctx a.predictors a.w (n.qfs-is i); next = n.place i; spellings = n.counts_are i }))
    ∙ sym (ap (told a.«data».now a.component a.dc_coded a.ctx a.predictors a.w) n.read)

pub returns-clause-samples : goal.returns-clause-samples
returns-clause-samples c =
    let k = (goal.at.returns-clause-samples c).After-rebuild_up_to-rebuilt in
    let a = c.args in
    let n = read k in
    (whole k).1.0 ∙ ap (λ (q : List ℤ). samples_of a.ctx (values_here a.component a.ctx a.predictors a.w q)) n.qfs-is
    ∙ sym (ap (λ (y : Res Parts). samples_told a.«data».now a.component a.dc_coded a.ctx a.predictors a.w y a.spatial.now) n.read)

pub returns-clause-levels : goal.returns-clause-levels
returns-clause-levels c =
    let k = (goal.at.returns-clause-levels c).After-rebuild_up_to-rebuilt in
    let a = c.args in
    let n = read k in
    (whole k).1.1 ∙ ap (levels_here a.component a.ctx a.predictors a.w) n.qfs-is
    ∙ sym (ap (λ (y : Res Parts). levels_told a.«data».now a.component a.dc_coded a.ctx a.predictors a.w y a.qf.now) n.read)
