-- `picture::call::decode_macroblock` meets its contract, demand 3 included. Assumes nothing.
use mathlib.Core.Path.{subst⁻¹}
use Rattle.std.proofs.Common.{◌∙◌, sym}
use Rattle.std.specs.Prelude.{Result}
use Rattle.numbers.proofs.Parts.{err_by}
use Rattle.assembly.specs.declared.error.BlockAssemblyError.{BlockAssemblyError}
use Rattle.picture_state.proofs.StateLaws.{checked_ready, checked_refused}
use Rattle.picture.proofs.CallLaws.{refused}
use Rattle.picture.specs.Answered.{Answered}
use Rattle.picture.specs.Call.{Input, context_here, given, state_here}
use Rattle.picture.specs.declared.call.PictureDecoded.{PictureDecoded}
use Rattle.picture.proofs.call.decode_macroblock.Goals as goal
use Rattle.picture.proofs.call.decode_macroblock.Goals.{Start}

-- what the call brings
abbrev brought : Start → Input
brought s = let a = s.args in given a.«data».now a.c.bit_pos a.header a.m a.quant_matrix a.samples.now

pub returns-in_err-due : goal.returns-in_err-due
returns-in_err-due c =
    let a = c.args in
    let x = brought (goal.at.returns-in_err-due c).Start in
    subst⁻¹ (λ (r : Result PictureDecoded BlockAssemblyError). Answered a.p x a.store.now r a.samples.now a.store.now) (err_by c.from_residual.ensures)
    (refused a.p x a.store.now (checked_refused a.p (context_here a.p x) (state_here a.p x a.store.now) (sym c.check_state.ensures.value ∙ c.in_err-due.was)))

pub decode_due-requires : goal.decode_due-requires
decode_due-requires c =
    let a = c.args in
    let x = brought (goal.at.decode_due-requires c).Start in
    checked_ready a.p (context_here a.p x) (state_here a.p x a.store.now) (sym c.check_state.ensures.value ∙ c.in_ok-due.was)
