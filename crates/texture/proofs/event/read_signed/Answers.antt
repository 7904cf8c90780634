-- `texture::event::read_signed` meets its contract: a code, then the sign. Assumes nothing.
use Rattle.std.proofs.Common.{arith, sym, ◌∙◌}
use Rattle.bits.specs.Bits.{bits_from}
use Rattle.codes.specs.Tcoef.{vlc_codes, vlc_lens}
use Rattle.events.proofs.ChainLaws.{handed, passed, refused, sign-says}
use Rattle.events.proofs.RowLaws.{plain-columns, plain_row}
use Rattle.events.specs.EventReader.{signed}
use Rattle.fields.proofs.ChainLaws.{code-says, number_in, number_is}
use Rattle.fields.proofs.ReadLaws.{code-sound}
use Rattle.fields.proofs.TableLaws.{vlc_code}
use Rattle.fields.specs.Inside.{SaysNumber}
use Rattle.fields.specs.Reader.{code}
use Rattle.fields.specs.declared.error.TextureParseError.TheVariants.{InvalidTcoef}
use Rattle.texture.proofs.event.read_signed.Goals as goal
use Rattle.texture.proofs.event.read_signed.Goals.{After-read_code}

-- the code that is read first
said : (k : After-read_code) → SaysNumber k.args.«data».now k.read_code.result (code vlc_codes vlc_lens 13 102 InvalidTcoef (bits_from k.args.«data».now k.args.c.bit_pos))
said k =
    let d = k.args.«data».now in
    code-says d k.args.c k.requires.0 _ vlc_codes vlc_lens 13 102 InvalidTcoef (vlc_code d k.args.c.bit_pos _ 102 (omega arith) k.requires.1.0 k.requires.1.1 k.read_code.ensures.code_read)

pub returns-in_err-row : goal.returns-in_err-row
unfolding signed
returns-in_err-row c =
    let d = c.args.«data».now in
    handed d c.args.table _ c.from_residual.ensures (refused d c.args.table _ _ _ (said (goal.at.returns-in_err-row c).After-read_code) c.in_err-row.was)

pub returns : goal.returns
unfolding signed
returns c =
    let a = c.args in
    let d = a.«data».now in
    let s = said (goal.at.returns c).After-read_code in
    let q = c.in_ok-row.was in
    let i = (code-sound vlc_codes vlc_lens 13 102 InvalidTcoef _ (number_is d _ _ s q)).0 in
    passed d a.table _ _ _ s q
    (sign-says d _ (number_in d _ _ s q, c.requires.0.1) _ a.table a.form _ (plain_row a.form _ c.requires.2 i) a.events.now (c.requires.1.2 ∙ sym (plain-columns a.form a.table c.requires.2)) c.read_sign.ensures.value)
