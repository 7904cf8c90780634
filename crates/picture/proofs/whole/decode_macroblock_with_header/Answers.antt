-- `picture::whole::decode_macroblock_with_header` meets its contract, demand 3 included. Assumes nothing.
use mathlib.Core.Path.{subst⁻¹}
use Rattle.std.proofs.Common.{◌≡◌, ◌∙◌, sym}
use Rattle.std.specs.Prelude.{Ok, Result}
use Rattle.numbers.proofs.Parts.{err_by}
use Rattle.bits.specs.Bits.{bits_from}
use Rattle.assembly.specs.declared.error.BlockAssemblyError.{BlockAssemblyError}
use Rattle.headers.specs.Answer.{header_told}
use Rattle.headers.specs.HeaderReader.{read_header}
use Rattle.picture_state.proofs.StateLaws.{checked_ready, checked_refused}
use Rattle.picture_state.specs.Picture.{context_of}
use Rattle.picture_state.specs.State.{due_of}
use Rattle.picture.proofs.BehindLaws.{bare-refused, header_asked, header_refused}
use Rattle.picture.specs.Whole.{Bare, bare, state_bare}
use Rattle.picture.specs.WholeAnswered.{WholeAnswered}
use Rattle.picture.specs.declared.whole.PictureWholeDecoded.{PictureWholeDecoded}
use Rattle.picture.proofs.whole.decode_macroblock_with_header.Goals as goal
use Rattle.picture.proofs.whole.decode_macroblock_with_header.Goals.{After-parse_macroblock_header, Start}

-- what the call brings
abbrev brought : Start → Bare
brought s = let a = s.args in bare a.«data».now a.c.bit_pos a.m a.quant_matrix a.samples.now

abbrev there : After-parse_macroblock_header → Bare
there r = let a = r.args in bare a.«data».now a.c.bit_pos a.m a.quant_matrix a.samples.now

-- the state is fine, and the macroblock that is due is known
ready : (r : After-parse_macroblock_header) → let a = r.args in (state_bare a.p (there r) a.store.now ≡ Ok tt) × (r.in_ok-due.due ≡ due_of a.p (context_of a.p a.m))
ready r =
    let a = r.args in
    checked_ready a.p (context_of a.p a.m) (state_bare a.p (there r) a.store.now) (sym r.check_before_header.ensures.value ∙ r.in_ok-due.was)

-- so the header is what the bits say
read : (r : After-parse_macroblock_header) → let a = r.args in let d = a.«data».now in
    r.parse_macroblock_header.result ≡ header_told d a.m.quantiser_scale (read_header (bits_from d a.c.bit_pos))
read r = r.parse_macroblock_header.ensures.value ∙ header_asked r.args.p (there r) r.args.store.now (ready r).0

pub returns-in_err-due : goal.returns-in_err-due
returns-in_err-due c =
    let a = c.args in
    let x = brought (goal.at.returns-in_err-due c).Start in
    subst⁻¹ (λ (r : Result PictureWholeDecoded BlockAssemblyError). WholeAnswered a.p x a.store.now r a.samples.now a.store.now) (err_by c.from_residual.ensures)
    (bare-refused a.p x a.store.now (checked_refused a.p (context_of a.p a.m) (state_bare a.p x a.store.now) (sym c.check_before_header.ensures.value ∙ c.in_err-due.was)))

pub returns-in_err-fields : goal.returns-in_err-fields
returns-in_err-fields c =
    let r = (goal.at.returns-in_err-fields c).After-parse_macroblock_header in
    let a = c.args in
    subst⁻¹ (λ (t : Result PictureWholeDecoded BlockAssemblyError). WholeAnswered a.p (there r) a.store.now t a.samples.now a.store.now) (err_by c.from_residual-in_err-fields.ensures)
    (header_refused a.p (there r) a.store.now (ready r).0 _ (read r) c.in_err-fields.was)

pub decode_after-requires : goal.decode_after-requires
decode_after-requires c =
    let r = (goal.at.decode_after-requires c).After-parse_macroblock_header in
    ((ready r).0, (ready r).1, sym c.in_ok-fields.was ∙ read r)
